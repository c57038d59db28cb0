-- What the contracts on locations and joint switches name besides the definitions of 01: a component by its number, the numbers of an
-- array of four that stand for components, and four switch numbers. Assumes nothing.
use Rattle.std.specs.Prelude.{◌≡◌, false, List, ℕ, ◌+◌, ◌<◌, eqb, get_or, take}
use Rattle.formats.specs.Model.{Component, Unsafe}
use Rattle.formats.specs.Joint.{stays}
use Rattle.models.specs.Index.{entry, version_in, component_place, component_from, unsafe_place, unsafe_from}

-- the k-th component of an index
unfoldable pub component_at : List ℕ → List ℕ → ℕ → Component
component_at s index k = component_from s (version_in index) (entry index 0) index (component_place k)

-- the u-th unsafe condition of an index
abbrev pub condition_at : List ℕ → List ℕ → ℕ → Unsafe
condition_at s index u = unsafe_from s (version_in index) (entry index 0) (entry index 1) index (unsafe_place u)

-- an array has four numbers: the first of them, one per component
unfoldable pub per_component : List ℕ → List ℕ → List ℕ
per_component index numbers = take (entry index 1) numbers

-- each present mode is one of its component's
pub record KnownModes (index modes : List ℕ) : Type 0 where
  pub known : (k : ℕ) → k < entry index 1 → get_or modes k 0 < entry index (component_place k + 1)

-- each component's number is that of one of its switches, or says that the component stays
pub record KnownSwitches (index switches : List ℕ) : Type 0 where
  pub known : (k : ℕ) → k < entry index 1 → eqb (get_or switches k 0) stays ≡ false → get_or switches k 0 < entry index (component_place k + 2)
