-- Where all obligations of a model and its regions are shown, no run of the model visits an unsafe state. One induction over the run's
-- list of steps: each state visited lies in a location, is admissible, and lies inside the location's region. Assumes nothing.
use mathlib.Core.Path.{◌≡◌, sym, ◌∙◌, subst}
use mathlib.Core.Bool.{Bool, true, false, ◌&&◌, ◌||◌}
use mathlib.Core.List.{List, [], ◌∷◌, ◌++◌, append-nil}
use Prim.Native.Nat.{ℕ, ◌≤◌, ◌<◌}
use native.Mathlib.Omega.{arith}
use lib.Dec.{T, ltb, eqb, ltb→lt, eqb→eq}
use lib.IntN.{ℤ, pos}
use lib.ListN.{length}
use Rattle.farkas.specs.Lists.{every, some, All, none, more}
use Rattle.farkas.specs.Rows.{item, row_holds}
use Rattle.farkas.proofs.All.{all-at}
use Rattle.formats.specs.Rows.{Condition}
use Rattle.formats.specs.Model.{Model}
use Rattle.formats.specs.Locations.{location_count, modes_at}
use Rattle.formats.specs.Joint.{is_joint, joint_from}
use Rattle.formats.specs.RunSheet.{Step, flow, jump}
use Rattle.formats.proofs.Gives.{and_left, and_right}
use Rattle.formats.proofs.WellFormed.{Wide, WellFormed}
use Rattle.formats.proofs.Locations.{HaveModes, modes-at, location-of}
use Rattle.formats.proofs.Joint.{joint-listed, joint-known, modes-after}
use Rattle.rules.specs.Runs.{State, condition_holds, modes_in, admissible, start_allowed, rates_hold, still_at_zero, variables_that, kept, blank_in_flow, still_variables, blanks_kept, flow_rule, movers, owner_stays, blank_in_jump, staying_variables, staying_kept, jump_rows, jump_rule, after, rule_met, step_allowed, steps_allowed, visited, modes_fit, is_unsafe}
use Rattle.rules.specs.Obligations.{on_x, zero_only, region_of, obligations}
use Rattle.rules.proofs.Points.{from_next}
use Rattle.rules.proofs.Shown.{Shown, shown-goal, shown-clear, at-start, at-flow, at-unsafe, at-jump}
use Rattle.rules.proofs.Blanks.{kept-means, variables-below}
use Rattle.rules.proofs.Hypotheses.{all_both, all_so, modes-good, hold-rows, start-hypotheses, unsafe-hypotheses, flow-hypotheses, jump-hypotheses}

-- regions with rows as wide as there are variables
abbrev pub Regions : Model → List Condition → Type 0
Regions m regions = All (λ region. (length region ≤ 16) × Wide m.variables region) regions

-- a state that the obligations keep
pub record Inside (m : Model) (regions : List Condition) (q : ℕ) (s : State) : Type 0 where
  pub located : s.location < location_count m.components
  pub admitted : T (admissible m q s)
  pub region : T (condition_holds q s.values (region_of regions s.location))

module _ (m : Model) (q : ℕ) (s : State) (t : T (admissible m q s)) where
  pub state-sized : length s.values ≡ m.variables
  unfolding admissible
  state-sized = eqb→eq (length s.values) m.variables (and_left (eqb (length s.values) m.variables) _ t)

  pub state-invariants : T (every (λ mode. condition_holds q s.values mode.invariant) (modes_in m s.location))
  unfolding admissible
  state-invariants =
      and_right (eqb (length s.values) m.variables) (every (λ mode. condition_holds q s.values mode.invariant) (modes_in m s.location)) t

none-step : (b c : Bool) → (T b → ⊥) → (T c → ⊥) → T (b || c) → ⊥
none-step true c h k t = h tt
none-step false c h k t = k t

none_of : {A : Type 0} (f : A → Bool) (xs : List A) → All (λ a. T (f a) → ⊥) xs → T (some f xs) → ⊥
unfolding some
none_of f [] h t = t
none_of f (a ∷ xs) (more x h) t = none-step (f a) (some f xs) x (none_of f xs h) t

module _ (m : Model) (good : WellFormed m) (regions : List Condition) (wide : Regions m regions) (shown : All Shown (obligations m regions)) (q : ℕ) (positive : 1 ≤ q) where
  wide_at : (location : ℕ) → Wide m.variables (region_of regions location)
  unfolding region_of
  wide_at location = (all-at [] (omega arith, none) wide location).1

  -- the start
  pub start-inside : (s : State) → T (start_allowed m q s) → Inside m regions q s
  unfolding start_allowed on_x
  start-inside s t =
      let l = ltb s.location (location_count m.components) in
      let a = admissible m q s in
      let b = every (λ mode. eqb mode.start 1) (modes_in m s.location) in
      let i = every (λ mode. condition_holds q s.values mode.initial) (modes_in m s.location) in
      let located = ltb→lt s.location (location_count m.components) (and_left l (a && (b && i)) t) in
      let admitted = and_left a (b && i) (and_right l (a && (b && i)) t) in
      let starts = and_left b i (and_right a (b && i) (and_right l (a && (b && i)) t)) in
      let initials = and_right b i (and_right a (b && i) (and_right l (a && (b && i)) t)) in
      let hold = start-hypotheses m.variables q (modes_in m s.location) (modes-good m good s.location) s.values (state-sized m q s admitted) (state-invariants m q s admitted) [] initials in
      record {
        located = located;
        admitted = admitted;
        region =
            hold-rows q s.values (region_of regions s.location)
            (all_so
            (λ r w. subst (λ z. T (row_holds q z r.row)) (append-nil s.values) (shown-goal w q positive (s.values ++ []) hold))
            (at-start m regions shown s.location located starts));
      }

  -- variables that keep their value
  keep : (test : ℕ → Bool) (next p : List ℤ) → T (kept (variables_that m test) next p) → All (λ v. (v < m.variables) × (item next v ≡ item p v)) (variables_that m test)
  keep test next p t = all_both (variables-below m test) ((kept-means (variables_that m test) next p).0 t)

  -- a flow
  pub flow-inside : (s : State) (δ : ℕ) (next : List ℤ) → Inside m regions q s → T (admissible m q (after m s (flow δ next))) → T (flow_rule m s δ next) → Inside m regions q (after m s (flow δ next))
  unfolding after flow_rule rates_hold blanks_kept still_variables
  flow-inside s δ next inside admitted rule =
      let n = m.variables in
      let modes = modes_in m s.location in
      let blanks = blanks_kept m s next in
      let zero = still_at_zero s δ next in
      let rates = and_left (rates_hold m s δ next) (blanks && zero) rule in
      let still = keep (blank_in_flow m s.location) next s.values (and_left blanks zero (and_right (rates_hold m s δ next) (blanks && zero) rule)) in
      let sized = state-sized m q s inside.admitted in
      let next-sized = state-sized m q (after m s (flow δ next)) admitted in
      let hold = flow-hypotheses n q modes (modes-good m good s.location) s.values sized (state-invariants m q s inside.admitted) (region_of regions s.location) (wide_at s.location) inside.region δ next (still_variables m s.location) next-sized (state-invariants m q (after m s (flow δ next)) admitted) rates still in
      record {
        located = inside.located;
        admitted = admitted;
        region =
            hold-rows q next (region_of regions s.location)
            (all_so
            (λ r w. from_next n q s.values next (pos δ ∷ []) r.row sized (w.0 ∙ sym next-sized) (shown-goal w.1 q positive (s.values ++ (next ++ (pos δ ∷ []))) hold))
            (all_both (wide_at s.location) (at-flow m regions shown s.location inside.located)));
      }

  -- a jump
  have-modes : HaveModes m.components
  have-modes = all_so (λ c g. g.least) good.components

  target-located : (s : State) (event : ℕ) (switches : List ℕ) (next : List ℤ) → s.location < location_count m.components → T (is_joint m.components (modes_at m.components s.location) event switches) → (after m s (jump event switches next)).location < location_count m.components
  unfolding after
  target-located s event switches next l t =
      location-of
      (modes-after m.variables good.components (modes-at have-modes s.location l) (joint-known m.components (modes_at m.components s.location) event switches t))

  pub jump-inside : (s : State) (event : ℕ) (switches : List ℕ) (next : List ℤ) → Inside m regions q s → T (admissible m q (after m s (jump event switches next))) → T (jump_rule m q s event switches next) → Inside m regions q (after m s (jump event switches next))
  unfolding after jump_rule jump_rows joint_from staying_kept staying_variables
  jump-inside s event switches next inside admitted rule =
      let n = m.variables in
      let modes = modes_in m s.location in
      let target = (after m s (jump event switches next)).location in
      let joint = is_joint m.components (modes_at m.components s.location) event switches in
      let rows = jump_rows m q s switches next in
      let stays = staying_kept m s switches next in
      let is-joint = and_left joint (rows && stays) rule in
      let jumps = and_left rows stays (and_right joint (rows && stays) rule) in
      let stay = keep (λ v. owner_stays m switches v || blank_in_jump m switches v) next s.values (and_right rows stays (and_right joint (rows && stays) rule)) in
      let sized = state-sized m q s inside.admitted in
      let next-sized = state-sized m q (after m s (jump event switches next)) admitted in
      let hold = jump-hypotheses n q modes (modes-good m good s.location) s.values sized (state-invariants m q s inside.admitted) (region_of regions s.location) (wide_at s.location) inside.region next (modes_in m target) (movers m.components switches) (staying_variables m switches) next-sized (modes-good m good target) (state-invariants m q (after m s (jump event switches next)) admitted) jumps stay in
      record {
        located = target-located s event switches next inside.located is-joint;
        admitted = admitted;
        region =
            hold-rows q next (region_of regions target)
            (all_so
            (λ r w. from_next n q s.values next [] r.row sized (w.0 ∙ sym next-sized) (shown-goal w.1 q positive (s.values ++ (next ++ [])) hold))
            (all_both (wide_at target) (at-jump m regions shown (joint-listed n m.components s.location event switches good.components inside.located is-joint))));
      }

  -- a step
  pub step-inside : (s : State) (t : Step) → Inside m regions q s → T (step_allowed m q s t) → Inside m regions q (after m s t)
  unfolding step_allowed rule_met
  step-inside s (flow δ next) inside allowed =
      let a = admissible m q (after m s (flow δ next)) in
      let b = flow_rule m s δ next in
      flow-inside s δ next inside (and_left a b allowed) (and_right a b allowed)
  step-inside s (jump event switches next) inside allowed =
      let a = admissible m q (after m s (jump event switches next)) in
      let b = jump_rule m q s event switches next in
      jump-inside s event switches next inside (and_left a b allowed) (and_right a b allowed)

  -- inside, no state is unsafe
  pub inside-safe : (s : State) → Inside m regions q s → T (is_unsafe m q s) → ⊥
  unfolding is_unsafe zero_only
  inside-safe s inside t =
      none_of
      (λ u. modes_fit u.modes (modes_at m.components s.location) && condition_holds q s.values u.rows)
      m.unsafe
      (all_so
      (λ u w v.
      let fit = modes_fit u.modes (modes_at m.components s.location) in
      let rows = condition_holds q s.values u.rows in
      shown-clear (w.1 (and_left fit rows v)) q positive (s.values ++ [])
      (unsafe-hypotheses m.variables q (modes_in m s.location) (modes-good m good s.location) s.values (state-sized m q s inside.admitted) (state-invariants m q s inside.admitted) (region_of regions s.location) (wide_at s.location) inside.region [] u.rows w.0 (and_right fit rows v))
      tt)
      (all_both good.unsafe (at-unsafe m regions shown s.location inside.located)))
      t

  -- the whole list of steps
  pub steps-safe : (s : State) (steps : List Step) → Inside m regions q s → T (steps_allowed m q s steps) → All (λ v. T (is_unsafe m q v) → ⊥) (visited m s steps)
  unfolding steps_allowed visited
  steps-safe s [] inside t = more (inside-safe s inside) none
  steps-safe s (x ∷ steps) inside t =
      let a = step_allowed m q s x in
      let b = steps_allowed m q (after m s x) steps in
      more (inside-safe s inside) (steps-safe (after m s x) steps (step-inside s x inside (and_left a b t)) (and_right a b t))
