-- What the walk asks of a model's index, and the bytes of each part of its fair copy. Assumes nothing.
use Rattle.std.specs.Prelude.{List, map, ℕ, ◌+◌, ◌≤◌, ◌<◌, length}
use Rattle.formats.specs.Joint.{count_up}
use Rattle.models.specs.Index.{entry, version_in, component_place, mode_place, unsafe_place, component_from, GoodIndex}
use Rattle.writing.specs.Changed.{changed_component}
use Rattle.writing.specs.Writing.{write_component}
use Rattle.fair_models.specs.FairCopy.{fair_condition}

-- a good index of a short sheet, of which each number that is written as a byte is one
pub record Copyable (model index : List ℕ) : Type 0 where
  pub good : GoodIndex model index
  pub short : length model ≤ 32768
  pub starts : (k j : ℕ) → k < entry index 1 → j < entry index (component_place k + 1) → entry index (mode_place (component_place k) j) < 256
  pub asked : (u k : ℕ) → u < entry index 2 → k < entry index 1 → entry index (unsafe_place u + k) < 256

-- numbers of an index, one after the other
abbrev pub entries : List ℕ → ℕ → ℕ → List ℕ
entries index from count = map (λ k. entry index (from + k)) (count_up 0 count)

-- a component of the copy, by its number
abbrev pub component_bytes : List ℕ → List ℕ → ℕ → List ℕ
component_bytes model index k =
    write_component (version_in index) (changed_component fair_condition (component_from model (version_in index) (entry index 0) index (component_place k)))
