-- What the contracts of marking name besides the definitions of 01: a state as the code holds it, by the modes of its location and by its
-- values in a lent slice, and their sizes; and the tests of a state, one component, unsafe condition or variable at a time. A slice has the
-- values before in its first numbers, one to a variable, those after in as many from there on, then room for their change.
-- Assumes nothing.
use Rattle.std.specs.Prelude.{Bool, not, ◌&&◌, ◌||◌, List, ◌++◌, ◌≡◌, ℕ, ◌+◌, ◌*◌, ◌^◌, ◌≤◌, ◌<◌, eqb, ℤ, nat_abs, length, get_or, take, drop}
use Rattle.std.proofs.Math.Seq.{paste}
use Rattle.farkas.specs.Rows.{item}
use Rattle.farkas.specs.Farkas.{same_z}
use Rattle.formats.specs.Joint.{stays, modes_after}
use Rattle.formats.specs.Locations.{location_of}
use Rattle.formats.specs.RunSheet.{Step}
use Rattle.models.specs.Index.{version_in, entry, component_place, mode_place, switch_place, unsafe_place, span_rows, unsafe_from, components_from, GoodIndex}
use Rattle.models.specs.Counts.{per_component, KnownSwitches}
use Rattle.second_sheets.specs.declared.Switches.{Switches}
use Rattle.second_sheets.specs.declared.Step as coded
use Rattle.second_sheets.specs.declared.Step.TheVariants as step
use Rattle.second_sheets.specs.RunAnswers.{switches_in, step_of}
use Rattle.rules.specs.Runs.{State, condition_holds, difference, modes_fit}
use Rattle.papers.specs.Standing.{KnownModes}

-- the first numbers of a slice, one per variable
unfoldable pub per_variable : List ℕ → List ℤ → List ℤ
per_variable index values = take (entry index 0) values

unfoldable pub state_of : List ℕ → ℕ → List ℤ → State
state_of index location values = record { location = location; values = per_variable index values }

-- the state in the location that has these modes
abbrev pub state_in : List ℕ → List ℕ → List ℕ → List ℤ → State
state_in model index modes values = state_of index (location_of (components_from model index) (per_component index modes)) values

-- the values after
abbrev pub values_after : List ℕ → List ℤ → List ℤ
values_after index state = per_variable index (drop (entry index 0) state)

-- a model that was read, with its index, and modes of one of its locations
pub record Located (model index modes : List ℕ) : Type 0 where
  pub good : GoodIndex model index
  pub short : length model ≤ 32768
  pub known : KnownModes index modes

-- "n s32 p, −2^27..2^27": so many values
pub record SmallValues (count : ℕ) (values : List ℤ) : Type 0 where
  pub long : count ≤ length values
  pub small : (i : ℕ) → i < count → nat_abs (item values i) ≤ 2 ^ 27

-- values before and after, and room for their change
pub record SmallState (index : List ℕ) (state : List ℤ) : Type 0 where
  pub values : SmallValues (2 * entry index 0) state
  pub room : 3 * entry index 0 ≤ length state

-- a point at which a row of so many coefficients, each of at most 32 bits, is summed in 64 bits
pub record SmallPoint (count : ℕ) (point : List ℤ) : Type 0 where
  pub few : count ≤ 16
  pub long : count ≤ length point
  pub small : (i : ℕ) → i < count → nat_abs (item point i) * count ≤ 2 ^ 31

-- n changes, behind n values before and as many after
abbrev pub with_changes : ℕ → List ℤ → List ℤ
with_changes n state = paste state (2 * n) (difference (take n (drop n state)) (take n state)) n

-- n values after, in the place of those before
abbrev pub moved_on : ℕ → List ℤ → List ℤ
moved_on n state = paste state 0 (drop n state) n

-- What the tests of a state ask of the k-th component, unsafe condition or variable, by the numbers of an index.
-- The rows of its mode at an offset hold
unfoldable pub mode_holds : List ℕ → List ℕ → List ℕ → ℕ → ℕ → List ℤ → ℕ → Bool
mode_holds s index modes offset q point k =
    condition_holds q (take (entry index 0) point) (span_rows s (version_in index) (entry index 0) index (mode_place (component_place k) (get_or modes k 0) + offset))

-- the modes and the rows of the unsafe condition fit
unfoldable pub unsafe_at : List ℕ → List ℕ → List ℕ → ℕ → List ℤ → ℕ → Bool
unsafe_at s index modes q point u =
    modes_fit (unsafe_from s (version_in index) (entry index 0) (entry index 1) index (unsafe_place u)).modes (per_component index modes)
    && condition_holds q (take (entry index 0) point) (unsafe_from s (version_in index) (entry index 0) (entry index 1) index (unsafe_place u)).rows

-- it stays, or the rows of its switch hold at the values before and after
unfoldable pub move_holds : List ℕ → List ℕ → ℕ → List ℤ → ℕ → ℕ → Bool
move_holds s index q point k i =
    eqb i stays
    || condition_holds q (take (2 * entry index 0) point) (span_rows s (version_in index) (2 * entry index 0) index (switch_place (component_place k) i + 3))

-- the same of its number among four
unfoldable pub move_at : List ℕ → List ℕ → List ℕ → ℕ → List ℤ → ℕ → Bool
move_at s index switches q point k = move_holds s index q point k (get_or switches k 0)

-- of n variables, this one's value is the same after as before
unfoldable pub same_at : ℕ → List ℤ → ℕ → Bool
same_at n state v = same_z (item state (n + v)) (item state v)

-- and that, where a test says that it is kept
unfoldable pub kept_at : (ℕ → Bool) → ℕ → List ℤ → ℕ → Bool
kept_at test n state v = not (test v) || same_at n state v

-- a step that was read has a time below 2^24, or an event that is a label and switches of the components
pub record KnownStep (index : List ℕ) (by : coded.Step) : Type 0 where
  pub time : (δ : ℕ) → by ≡ step.Flow δ → δ < 2 ^ 24
  pub event : (e : ℕ) (w : Switches) → by ≡ step.Jump e w → e ≤ 15
  pub switches : (e : ℕ) (w : Switches) → by ≡ step.Jump e w → KnownSwitches index (switches_in w)

-- a step that was read, with its new values
abbrev pub step_with : List ℕ → coded.Step → List ℤ → Step
step_with index by state = step_of (entry index 1) by (values_after index state)

-- the modes after a joint switch, in an array of four: past the components they are as they were
unfoldable pub modes_by : List ℕ → List ℕ → List ℕ → List ℕ → List ℕ
modes_by model index modes switches =
    modes_after (components_from model index) (per_component index modes) (per_component index switches) ++ drop (entry index 1) modes

-- the modes after a step: a flow keeps them
unfoldable pub modes_next : List ℕ → List ℕ → List ℕ → coded.Step → List ℕ
modes_next model index modes (step.Flow δ) = modes
modes_next model index modes (step.Jump e w) = modes_by model index modes (switches_in w)
