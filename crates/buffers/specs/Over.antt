-- Bytes written over a buffer from a place on; what does not fit is left out. Assumes nothing.
use Rattle.std.specs.Prelude.{List, [], ◌∷◌, ℕ, zero, suc, ◌/◌, ◌%◌}

unfoldable pub over : List ℕ → ℕ → List ℕ → List ℕ
over [] at bytes = []
over (x ∷ xs) zero [] = x ∷ xs
over (x ∷ xs) zero (b ∷ bytes) = b ∷ over xs zero bytes
over (x ∷ xs) (suc at) bytes = x ∷ over xs at bytes

-- a number as four bytes and as two, the highest first
unfoldable pub word : ℕ → List ℕ
word v = (v / 256 / 256 / 256 % 256) ∷ (v / 256 / 256 % 256) ∷ (v / 256 % 256) ∷ (v % 256) ∷ []

unfoldable pub half : ℕ → List ℕ
half v = (v / 256 % 256) ∷ (v % 256) ∷ []
