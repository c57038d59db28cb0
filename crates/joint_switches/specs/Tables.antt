-- Tables with a part for each component: what is counted in them, and the modes that have places there. Assumes nothing.
use Rattle.std.specs.Prelude.{◌≡◌, List, ℕ, ◌≤◌, ◌<◌, get_or}
use Rattle.models.specs.Index.{entry}

-- from a place on nothing is counted
pub record Blank (from : ℕ) (tally : List ℕ) : Type 0 where
  pub blank : (p : ℕ) → from ≤ p → get_or tally p 0 ≡ 0

-- the components' modes are within the table
pub record SmallModes (index modes : List ℕ) : Type 0 where
  pub small : (k : ℕ) → k < entry index 1 → get_or modes k 0 < 8
