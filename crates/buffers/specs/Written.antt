-- What a function that writes bytes at a place of a buffer promises. Assumes nothing.
use Rattle.std.specs.Prelude.{◌≡◌, List, ℕ, ◌+◌, length}
use Rattle.buffers.specs.Over.{over}

-- the bytes are written over the buffer from this place on, as far as they fit, and the next place is the one after them
pub record Written (before : List ℕ) (at : ℕ) (bytes after : List ℕ) (next : ℕ) : Type 0 where
  pub ends : next ≡ at + length bytes
  pub holds : after ≡ over before at bytes
