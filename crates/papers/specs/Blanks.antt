-- Which variables keep their value in a step (01, Runs; 02, order 6), by the numbers of an index. Assumes nothing.
use Rattle.std.specs.Prelude.{Bool, true, false, ◌&&◌, ◌||◌, List, ℕ, ◌+◌, ◌*◌, ◌≤◌, ◌<◌, eqb, get_or}
use Rattle.formats.specs.Versions.{keeps_blanks}
use Rattle.formats.specs.Joint.{stays}
use Rattle.models.specs.Index.{entry, version_in, owner_place, component_place, mode_place, switch_place, flow_at, jump_at, span_rows}
use Rattle.models.specs.Counts.{KnownModes, KnownSwitches}
use Rattle.rules.specs.Runs.{unmentioned}

-- a variable's owner
abbrev pub owner_in : List ℕ → ℕ → ℕ
owner_in index v = entry index (owner_place v)

-- every variable has one of up to four components as its owner
pub record Owned (index : List ℕ) : Type 0 where
  pub most : entry index 0 ≤ 8
  pub owners : (v : ℕ) → v < entry index 0 → owner_in index v < 4

-- in a flow, where blanks are kept: no flow row of its owner's mode mentions it
unfoldable pub still_at : List ℕ → List ℕ → List ℕ → ℕ → Bool
still_at model index modes v =
    keeps_blanks (version_in index)
    && unmentioned v (span_rows model (version_in index) (entry index 0) index (mode_place (component_place (owner_in index v)) (get_or modes (owner_in index v) 0) + flow_at))

-- in a jump by these switches: its owner stays
unfoldable pub stays_at : List ℕ → List ℕ → ℕ → Bool
stays_at index switches v = eqb (get_or switches (owner_in index v) 0) stays

-- where blanks are kept: no row of this switch of its owner mentions its value after
unfoldable pub lands_at : List ℕ → List ℕ → ℕ → ℕ → ℕ → Bool
lands_at model index owner i v =
    keeps_blanks (version_in index)
    && unmentioned (entry index 0 + v) (span_rows model (version_in index) (2 * entry index 0) index (switch_place (component_place owner) i + jump_at))

-- either of these
unfoldable pub rests_at : List ℕ → List ℕ → List ℕ → ℕ → Bool
rests_at model index switches v =
    stays_at index switches v
    || lands_at model index (owner_in index v) (get_or switches (owner_in index v) 0) v

-- in a flow in these modes, or in a jump by these switches: the numbers are known, and the variable keeps its value
unfoldable pub KnownIn : Bool → List ℕ → List ℕ → Type 0
KnownIn true index modes = KnownModes index modes
KnownIn false index switches = KnownSwitches index switches

unfoldable pub keeps_at : List ℕ → List ℕ → Bool → List ℕ → ℕ → Bool
keeps_at model index true modes v = still_at model index modes v
keeps_at model index false switches v = rests_at model index switches v
