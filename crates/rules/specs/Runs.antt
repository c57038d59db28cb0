-- Runs of a model (01, Runs; blanks, 02, order 6): states, steps, the runs that a model allows, the states that a run visits, and unsafe
-- states. Each rule is a test that computes; a run's rules are the tests passed. Assumes nothing.
use Rattle.std.specs.Prelude.{Bool, true, false, not, ◌&&◌, ◌||◌, List, [], ◌∷◌, ◌++◌, ℕ, ◌+◌, ◌≤◌, T, ltb, eqb, ℤ, pos, ◌-ℤ◌, length, get_or}
use Rattle.farkas.specs.Lists.{every, some}
use Rattle.farkas.specs.Rows.{item, row_holds}
use Rattle.farkas.specs.Farkas.{same_z}
use Rattle.formats.specs.Versions.{keeps_blanks}
use Rattle.formats.specs.Rows.{Condition}
use Rattle.formats.specs.Model.{Mode, Switch, Component, Model}
use Rattle.formats.specs.Locations.{location_count, modes_at, location_of, no_mode, mode_of}
use Rattle.formats.specs.Joint.{stays, switch_of, is_joint, modes_after, those, count_up}
use Rattle.formats.specs.RunSheet.{Step, flow, jump}

-- "a state is whole numbers p over a whole q of at least 1, and one q serves a run"; a state stands in a location
pub record State : Type 0 where
  pub location : ℕ
  pub values : List ℤ

-- "A row on values holds as a·p ≤ b·q"; "no rows means true"
unfoldable pub condition_holds : ℕ → List ℤ → Condition → Bool
condition_holds q p rows = every (λ r. row_holds q p r.row) rows

-- the present modes, one per component
unfoldable pub present : List Component → List ℕ → List Mode
present [] modes = []
present (c ∷ components) [] = []
present (c ∷ components) (mode ∷ modes) = mode_of c mode ∷ present components modes

unfoldable pub modes_in : Model → ℕ → List Mode
modes_in m location = present m.components (modes_at m.components location)

-- "A state is admissible when every component's invariant holds"; a state has a value for each variable
unfoldable pub admissible : Model → ℕ → State → Bool
admissible m q s =
    eqb (length s.values) m.variables
    && every (λ mode. condition_holds q s.values mode.invariant) (modes_in m s.location)

-- "A run begins admissible, in start modes, with the initial rows true"
unfoldable pub start_allowed : Model → ℕ → State → Bool
start_allowed m q s =
    ltb s.location (location_count m.components)
    && (admissible m q s
    && (every (λ mode. eqb mode.start 1) (modes_in m s.location)
    && every (λ mode. condition_holds q s.values mode.initial) (modes_in m s.location)))

-- p' − p
unfoldable pub difference : List ℤ → List ℤ → List ℤ
difference [] ys = []
difference (x ∷ xs) [] = []
difference (x ∷ xs) (y ∷ ys) = (x -ℤ y) ∷ difference xs ys

unfoldable pub same_values : List ℤ → List ℤ → Bool
same_values [] [] = true
same_values [] (y ∷ ys) = false
same_values (x ∷ xs) [] = false
same_values (x ∷ xs) (y ∷ ys) = same_z x y && same_values xs ys

-- "Flow: p to p' in time δ/q, δ ≥ 0. Each flow row holds as a·(p'−p) ≤ b·δ"
unfoldable pub rates_hold : Model → State → ℕ → List ℤ → Bool
rates_hold m s δ next =
    every (λ mode. condition_holds δ (difference next s.values) mode.flow) (modes_in m s.location)

-- "if δ = 0 then p' = p"
unfoldable pub still_at_zero : State → ℕ → List ℤ → Bool
still_at_zero s δ next = not (eqb δ 0) || same_values next s.values

-- Blanks (02, order 6). No row of a condition has a coefficient other than 0 at this unknown
unfoldable pub unmentioned : ℕ → Condition → Bool
unmentioned i rows = every (λ r. same_z (item r.row.coefficients i) (pos 0)) rows

-- "each variable's owner"
unfoldable pub owner_of : Model → ℕ → ℕ
owner_of m v = get_or m.owners v 0

-- the variables that pass a test, ascending
unfoldable pub variables_that : Model → (ℕ → Bool) → List ℕ
variables_that m test = those test (count_up 0 m.variables)

-- these variables keep their value
unfoldable pub kept : List ℕ → List ℤ → List ℤ → Bool
kept variables next p = every (λ v. same_z (item next v) (item p v)) variables

-- "a variable with zero coefficients in all flow rows of its owner's present mode keeps its value in a flow": these rows, whether the variable
-- is a blank, all blanks, and that they keep their value
abbrev pub owners_flow : Model → ℕ → ℕ → Condition
owners_flow m location v = (get_or (modes_in m location) (owner_of m v) no_mode).flow

unfoldable pub blank_in_flow : Model → ℕ → ℕ → Bool
blank_in_flow m location v = keeps_blanks m.version && unmentioned v (owners_flow m location v)

unfoldable pub still_variables : Model → ℕ → List ℕ
still_variables m location = variables_that m (blank_in_flow m location)

unfoldable pub blanks_kept : Model → State → List ℤ → Bool
blanks_kept m s next = kept (still_variables m s.location) next s.values

unfoldable pub flow_rule : Model → State → ℕ → List ℤ → Bool
flow_rule m s δ next = rates_hold m s δ next && (blanks_kept m s next && still_at_zero s δ next)

-- the switches by which the moving components move
unfoldable pub movers : List Component → List ℕ → List Switch
movers [] switches = []
movers (c ∷ components) [] = []
movers (c ∷ components) (i ∷ switches) =
    elim (eqb i stays) [ true ↦ movers components switches | false ↦ switch_of c i ∷ movers components switches ]

-- "Variables owned by staying components"
unfoldable pub owner_stays : Model → List ℕ → ℕ → Bool
owner_stays m switches v = eqb (get_or switches (owner_of m v) stays) stays

-- "One with zero after-coefficients in all rows of its moving owner's switch keeps it in a jump" (02, order 6): these rows, of which an owner
-- that stays has none in a model that reads well, and whether the variable is a blank
abbrev pub no_component : Component
no_component = record { alphabet = 0; modes = []; switches = [] }

unfoldable pub owners_jump : Model → List ℕ → ℕ → Condition
owners_jump m switches v = (switch_of (get_or m.components (owner_of m v) no_component) (get_or switches (owner_of m v) stays)).jump

unfoldable pub blank_in_jump : Model → List ℕ → ℕ → Bool
blank_in_jump m switches v = keeps_blanks m.version && unmentioned (m.variables + v) (owners_jump m switches v)

-- "these variables join the staying ones in ascending order"
unfoldable pub staying_variables : Model → List ℕ → List ℕ
staying_variables m switches = variables_that m (λ v. owner_stays m switches v || blank_in_jump m switches v)

-- "Variables owned by staying components keep their value; an unmentioned variable of a moving one is free": so in version 1;
-- from version 2 on a blank keeps its value too
unfoldable pub staying_kept : Model → State → List ℕ → List ℤ → Bool
staying_kept m s switches next = kept (staying_variables m switches) next s.values

-- "Jump: a joint switch whose rows hold as a·(p, p') ≤ b·q"; "a jump's joint switch has the present location as its source"
unfoldable pub jump_rows : Model → ℕ → State → List ℕ → List ℤ → Bool
jump_rows m q s switches next =
    every (λ w. condition_holds q (s.values ++ next) w.jump) (movers m.components switches)

unfoldable pub jump_rule : Model → ℕ → State → ℕ → List ℕ → List ℤ → Bool
jump_rule m q s event switches next =
    is_joint m.components (modes_at m.components s.location) event switches
    && (jump_rows m q s switches next && staying_kept m s switches next)

-- "A flow keeps the location"; of a joint switch "its target is the next location"
unfoldable pub after : Model → State → Step → State
after m s (flow δ next) = record { location = s.location; values = next }
after m s (jump event switches next) =
    record {
      location = location_of m.components (modes_after m.components (modes_at m.components s.location) switches);
      values = next;
    }

unfoldable pub rule_met : Model → ℕ → State → Step → Bool
rule_met m q s (flow δ next) = flow_rule m s δ next
rule_met m q s (jump event switches next) = jump_rule m q s event switches next

-- "A step is allowed if it leads to an admissible state and meets its rule"
unfoldable pub step_allowed : Model → ℕ → State → Step → Bool
step_allowed m q s t = admissible m q (after m s t) && rule_met m q s t

-- "The first step starts there, each later one from the location and state that the step before led to"
unfoldable pub steps_allowed : Model → ℕ → State → List Step → Bool
steps_allowed m q s [] = true
steps_allowed m q s (t ∷ steps) = step_allowed m q s t && steps_allowed m q (after m s t) steps

-- "A run has a q, a first location and p, and a list of steps, empty or of any length .. A model allows exactly these runs"
pub record Run (m : Model) : Type 0 where
  pub q : ℕ
  pub first : State
  pub steps : List Step
  pub whole : 1 ≤ q
  pub starts : T (start_allowed m q first)
  pub allowed : T (steps_allowed m q first steps)

-- the states that the steps visit: the first, and the one after each step
unfoldable pub visited : Model → State → List Step → List State
visited m s [] = s ∷ []
visited m s (t ∷ steps) = s ∷ visited m (after m s t) steps

-- the state where they end
unfoldable pub end_of : Model → State → List Step → State
end_of m s [] = s
end_of m s (t ∷ steps) = end_of m (after m s t) steps

-- "a mode or 255 for any", one byte per component: lists of unequal length do not fit
unfoldable pub modes_fit : List ℕ → List ℕ → Bool
modes_fit [] [] = true
modes_fit [] (mode ∷ modes) = false
modes_fit (u ∷ asked) [] = false
modes_fit (u ∷ asked) (mode ∷ modes) = (eqb u 255 || eqb u mode) && modes_fit asked modes

-- "A state is unsafe when the modes and rows of some unsafe condition fit"
unfoldable pub is_unsafe : Model → ℕ → State → Bool
is_unsafe m q s =
    some
    (λ u. modes_fit u.modes (modes_at m.components s.location) && condition_holds q s.values u.rows)
    m.unsafe
