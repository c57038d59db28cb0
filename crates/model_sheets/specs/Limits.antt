-- What is kept of a model that is within the limits: its counts, in the index. Assumes nothing.
use Rattle.std.specs.Prelude.{Result, Ok, ◌≡◌, List, ℕ, ◌+◌, ◌≤◌, ◌<◌, get_or}
use Rattle.fields.specs.declared.Refusal.{Refusal}
use Rattle.models.specs.Index.{entry, joints_at, locations_at, first_total, index_length, Kept, SameSheet}
use Rattle.joint_switches.specs.Counted.{Counted}

-- counts that a number of an index can hold
pub record Small (totals : List ℕ) (joints locations : ℕ) : Type 0 where
  pub events : (e : ℕ) → e < 16 → get_or totals e 0 ≤ 4096
  pub joined : joints ≤ 4096
  pub located : locations ≤ 64

-- they stand in it
pub record Standing (totals : List ℕ) (joints locations : ℕ) (index : List ℕ) : Type 0 where
  pub events : (e : ℕ) → e < 16 → entry index (first_total + e) ≡ get_or totals e 0
  pub joined : entry index joints_at ≡ joints
  pub located : entry index locations_at ≡ locations

-- nothing else has changed
pub record OnlyCounts (before after : List ℕ) : Type 0 where
  pub same : SameSheet before after
  pub kept : Kept 0 index_length before after

-- after an acceptance they stand for the model
abbrev pub CountedAfter : List ℕ → List ℕ → Result ℕ Refusal → Type 0
CountedAfter s index r = (end : ℕ) → r ≡ Ok end → Counted s index
