-- What an index keeps beside what the sheet says: how many locations and joint switches there are, and how many joint switches each event
-- has. Assumes nothing.
use Rattle.std.specs.Prelude.{◌≡◌, List, ℕ, ◌+◌, ◌<◌, length}
use Rattle.formats.specs.Locations.{location_count}
use Rattle.formats.specs.Joint.{joints}
use Rattle.formats.specs.JointTotals.{event_total}
use Rattle.models.specs.Index.{entry, joints_at, locations_at, first_total, components_from}

pub record Counted (s index : List ℕ) : Type 0 where
  pub located : entry index locations_at ≡ location_count (components_from s index)
  pub joined : entry index joints_at ≡ length (joints (components_from s index))
  pub events : (e : ℕ) → e < 16 → entry index (first_total + e) ≡ event_total (components_from s index) e
