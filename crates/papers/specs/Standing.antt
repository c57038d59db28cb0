-- Where a paper stands: the modes of a location, as an array of four has them. Assumes nothing.
use Rattle.std.specs.Prelude.{◌≡◌, List, ℕ, ◌+◌, ◌<◌, get_or}
use Rattle.formats.specs.Locations.{location_count, modes_at}
use Rattle.models.specs.Index.{version_in, entry, component_place, mode_place, components_from, GoodSpan}
use Rattle.models.specs.Counts.{per_component}
pub use Rattle.models.specs.Counts.{KnownModes}

-- each mode's condition, kept so many numbers into the mode's place, lies within the sheet
pub record GoodModes (model index modes : List ℕ) (offset : ℕ) : Type 0 where
  pub spans : (k : ℕ) → k < entry index 1 → GoodSpan model (version_in index) (entry index 0) index (mode_place (component_place k) (get_or modes k 0) + offset)
  pub small : (k : ℕ) → k < entry index 1 → get_or modes k 0 < 8

-- a location with its modes, as an array of four has them
pub record Stands (model index : List ℕ) (location : ℕ) (modes : List ℕ) : Type 0 where
  pub below : location < location_count (components_from model index)
  pub known : KnownModes index modes
  pub here : per_component index modes ≡ modes_at (components_from model index) location
