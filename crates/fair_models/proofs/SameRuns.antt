-- A model with its conditions changed allows the same runs and has the same unsafe states, if each changed condition holds where the
-- condition held (`Faithful`): at every q of at least 1, and, as rates are compared with any time, at every number where no row is strict;
-- and if it mentions the same unknowns, so that the same variables are blank (02, order 6). Assumes nothing.
use mathlib.Core.Path.{◌≡◌, refl, sym, ap, ap₂, ◌∙◌, fun_ext}
use mathlib.Core.Bool.{Bool, true, false, ◌&&◌, ◌||◌}
use mathlib.Core.List.{List, [], ◌∷◌, ◌++◌, map}
use Prim.Native.Nat.{ℕ, ◌+◌, ◌≤◌}
use lib.Dec.{ltb, eqb}
use lib.IntN.{ℤ}
use lib.ListN.{length, get_or, get_or-map}
use Rattle.farkas.specs.Lists.{every, some, All, none, more}
use Rattle.formats.specs.Versions.{keeps_blanks}
use Rattle.formats.specs.Rows.{Condition}
use Rattle.formats.specs.Model.{Mode, Switch, Component, Unsafe, Model}
use Rattle.formats.specs.Locations.{modes_at, location_of, no_mode, mode_of}
use Rattle.formats.specs.Joint.{stays, switch_of, is_joint, modes_after}
use Rattle.formats.specs.RunSheet.{Step, flow, jump}
use Rattle.formats.proofs.WellFormed.{Plain, GoodMode, GoodComponent}
use Rattle.writing.specs.Changed.{changed_mode, changed_switch, changed_component, changed_unsafe, changed}
use Rattle.writing.proofs.ChangedJoints.{changed-locations, changed-modes-at, changed-location-of, changed-is-joint, changed-modes-after}
use Rattle.rules.specs.Runs.{State, condition_holds, present, modes_in, admissible, start_allowed, difference, rates_hold, still_at_zero, unmentioned, owner_of, variables_that, kept, blank_in_flow, still_variables, blanks_kept, flow_rule, movers, owner_stays, no_component, owners_jump, blank_in_jump, staying_variables, staying_kept, jump_rows, jump_rule, after, rule_met, step_allowed, steps_allowed, visited, modes_fit, is_unsafe}
use Rattle.rules.proofs.Hypotheses.{good-modes}

-- Tests of mapped lists, and tests that answer alike
pub every_map : {A B : Type 0} (t : B → Bool) (g : A → B) (xs : List A) → every t (map g xs) ≡ every (λ a. t (g a)) xs
unfolding every
every_map t g [] = refl
every_map t g (x ∷ xs) = ap (λ (b : Bool). t (g x) && b) (every_map t g xs)

every-alike : {A : Type 0} {P : A → Type 0} (t u : A → Bool) → ((a : A) → P a → t a ≡ u a) → {xs : List A} → All P xs → every t xs ≡ every u xs
unfolding every
every-alike t u e none = refl
every-alike t u e (more {a = a} p h) = ap₂ (λ (x y : Bool). x && y) (e a p) (every-alike t u e h)

some-map : {A B : Type 0} (t : B → Bool) (g : A → B) (xs : List A) → some t (map g xs) ≡ some (λ a. t (g a)) xs
unfolding some
some-map t g [] = refl
some-map t g (x ∷ xs) = ap (λ (b : Bool). t (g x) || b) (some-map t g xs)

-- A change of conditions that does not change where they hold
pub record Faithful (f : Condition → Condition) : Type 0 where
  pub holds : (q : ℕ) (p : List ℤ) (rows : Condition) → 1 ≤ q → condition_holds q p (f rows) ≡ condition_holds q p rows
  pub rates : (δ : ℕ) (p : List ℤ) (rows : Condition) → Plain rows → condition_holds δ p (f rows) ≡ condition_holds δ p rows
  pub blank : (i : ℕ) (rows : Condition) → unmentioned i (f rows) ≡ unmentioned i rows
  pub none : f [] ≡ []

-- A mode and a switch by number: what stands for a missing one has no rows
module _ (f : Condition → Condition) (faith : Faithful f) where
  no_mode_lem : changed_mode f no_mode ≡ no_mode
  unfolding changed_mode
  no_mode_lem = λ j. record { start = 0; initial = faith.none j; invariant = faith.none j; flow = faith.none j }

  mode-at : (modes : List Mode) (i : ℕ) → get_or (map (changed_mode f) modes) i no_mode ≡ changed_mode f (get_or modes i no_mode)
  mode-at modes i = ap (get_or (map (changed_mode f) modes) i) (sym no_mode_lem) ∙ get_or-map (changed_mode f) modes i no_mode

  mode-changed : (c : Component) (i : ℕ) → mode_of (changed_component f c) i ≡ changed_mode f (mode_of c i)
  unfolding mode_of changed_component
  mode-changed c i = mode-at c.modes i

  switch-changed : (c : Component) (i : ℕ) → switch_of (changed_component f c) i ≡ changed_switch f (switch_of c i)
  unfolding switch_of changed_component changed_switch
  switch-changed c i = ap (get_or (map (changed_switch f) c.switches) i) (sym empty) ∙ get_or-map (changed_switch f) c.switches i nothing
    where
      nothing : Switch
      nothing = record { source = 0; target = 0; label = 0; jump = [] }

      empty : changed_switch f nothing ≡ nothing
      empty = λ j. record { source = 0; target = 0; label = 0; jump = faith.none j }

  -- the present modes, and the switches that move
  present-changed : (components : List Component) (modes : List ℕ) → present (map (changed_component f) components) modes ≡ map (changed_mode f) (present components modes)
  unfolding present
  present-changed [] modes = refl
  present-changed (c ∷ components) [] = refl
  present-changed (c ∷ components) (mode ∷ modes) =
      ap₂ (λ (x : Mode) (xs : List Mode). x ∷ xs) (mode-changed c mode) (present-changed components modes)

  movers-changed : (components : List Component) (switches : List ℕ) → movers (map (changed_component f) components) switches ≡ map (changed_switch f) (movers components switches)
  unfolding movers
  movers-changed [] switches = refl
  movers-changed (c ∷ components) [] = refl
  movers-changed (c ∷ components) (i ∷ switches) = go (eqb i stays) (movers-changed components switches)
    where
      go :
          (b : Bool) → movers (map (changed_component f) components) switches ≡ map (changed_switch f) (movers components switches)
          → elim b as (λ u. List Switch) [ true ↦ movers (map (changed_component f) components) switches | false ↦ switch_of (changed_component f c) i ∷ movers (map (changed_component f) components) switches ]
          ≡ map (changed_switch f) (elim b as (λ u. List Switch) [ true ↦ movers components switches | false ↦ switch_of c i ∷ movers components switches ])
      go true e = e
      go false e = ap₂ (λ (x : Switch) (xs : List Switch). x ∷ xs) (switch-changed c i) e

-- What is asked of the present modes, of the moving switches and of the unsafe conditions
module _ (f : Condition → Condition) (faith : Faithful f) (m : Model) (good : All (GoodComponent m.variables) m.components) where
  modes-changed : (location : ℕ) → modes_in (changed f m) location ≡ map (changed_mode f) (modes_in m location)
  unfolding modes_in changed
  modes-changed location =
      ap (present (map (changed_component f) m.components)) (changed-modes-at f m.components location)
      ∙ present-changed f faith m.components (modes_at m.components location)

  every-mode :
      (t : Mode → Bool) → ((mode : Mode) → GoodMode m.variables mode → t (changed_mode f mode) ≡ t mode)
      → (location : ℕ) → every t (modes_in (changed f m) location) ≡ every t (modes_in m location)
  unfolding modes_in
  every-mode t e location =
      ap (every t) (modes-changed location)
      ∙ every_map t (changed_mode f) (modes_in m location)
      ∙ every-alike (λ mode. t (changed_mode f mode)) t e (good-modes m.variables m.components (modes_at m.components location) good)

  same-admissible : (q : ℕ) → 1 ≤ q → (s : State) → admissible (changed f m) q s ≡ admissible m q s
  unfolding admissible changed changed_mode
  same-admissible q l s =
      ap (λ (b : Bool). eqb (length s.values) m.variables && b)
      (every-mode (λ mode. condition_holds q s.values mode.invariant) (λ mode g. faith.holds q s.values mode.invariant l) s.location)

  pub same_start : (q : ℕ) → 1 ≤ q → (s : State) → start_allowed (changed f m) q s ≡ start_allowed m q s
  unfolding start_allowed changed changed_mode
  same_start q l s =
      ap₂ (λ (a b : Bool). a && b)
      (ap (ltb s.location) (changed-locations f m.components))
      (ap₂ (λ (a b : Bool). a && b)
      (same-admissible q l s)
      (ap₂ (λ (a b : Bool). a && b)
      (every-mode (λ mode. eqb mode.start 1) (λ mode g. refl) s.location)
      (every-mode (λ mode. condition_holds q s.values mode.initial) (λ mode g. faith.holds q s.values mode.initial l) s.location)))

  -- a flow: rates are compared with any time, 0 too, and are not strict
  pub same-still : (location : ℕ) → still_variables (changed f m) location ≡ still_variables m location
  unfolding still_variables variables_that owner_of blank_in_flow changed changed_mode
  same-still location =
      ap (variables_that m)
      (fun_ext
      (λ v.
      ap (λ (rows : Condition). keeps_blanks m.version && unmentioned v rows)
      (ap (λ (modes : List Mode). (get_or modes (owner_of m v) no_mode).flow) (modes-changed location)
      ∙ ap (λ (mode : Mode). mode.flow) (mode-at f faith (modes_in m location) (owner_of m v)))
      ∙ ap (λ (b : Bool). keeps_blanks m.version && b) (faith.blank v (get_or (modes_in m location) (owner_of m v) no_mode).flow)))

  same_flow : (s : State) (δ : ℕ) (next : List ℤ) → flow_rule (changed f m) s δ next ≡ flow_rule m s δ next
  unfolding flow_rule rates_hold blanks_kept changed_mode
  same_flow s δ next =
      ap₂ (λ (a b : Bool). a && (b && still_at_zero s δ next))
      (every-mode (λ mode. condition_holds δ (difference next s.values) mode.flow) (λ mode g. faith.rates δ (difference next s.values) mode.flow g.rates) s.location)
      (ap (λ (variables : List ℕ). kept variables next s.values) (same-still s.location))

  -- a jump
  same-jump-rows : (q : ℕ) → 1 ≤ q → (s : State) (switches : List ℕ) (next : List ℤ) → jump_rows (changed f m) q s switches next ≡ jump_rows m q s switches next
  unfolding jump_rows changed changed_switch
  same-jump-rows q l s switches next =
      let t : Switch → Bool = λ w. condition_holds q (s.values ++ next) w.jump in
      ap (every t) (movers-changed f faith m.components switches)
      ∙ every_map t (changed_switch f) (movers m.components switches)
      ∙ ap (λ (u : Switch → Bool). every u (movers m.components switches)) (fun_ext (λ w. faith.holds q (s.values ++ next) w.jump l))

  pub same-staying : (switches : List ℕ) → staying_variables (changed f m) switches ≡ staying_variables m switches
  unfolding staying_variables variables_that owner_of owner_stays owners_jump blank_in_jump changed changed_component changed_switch
  same-staying switches =
      ap (variables_that m)
      (fun_ext
      (λ v.
      ap (λ (rows : Condition). owner_stays m switches v || (keeps_blanks m.version && unmentioned (m.variables + v) rows))
      (ap (λ (c : Component). (switch_of c (get_or switches (owner_of m v) stays)).jump) (get_or-map (changed_component f) m.components (owner_of m v) no_component)
      ∙ ap (λ (w : Switch). w.jump) (switch-changed f faith (get_or m.components (owner_of m v) no_component) (get_or switches (owner_of m v) stays)))
      ∙ ap (λ (b : Bool). owner_stays m switches v || (keeps_blanks m.version && b)) (faith.blank (m.variables + v) (owners_jump m switches v))))

  same-joint : (location event : ℕ) (switches : List ℕ) → is_joint (changed f m).components (modes_at (changed f m).components location) event switches ≡ is_joint m.components (modes_at m.components location) event switches
  unfolding changed
  same-joint location event switches =
      changed-is-joint f m.components (modes_at (map (changed_component f) m.components) location) event switches
      ∙ ap (λ (modes : List ℕ). is_joint m.components modes event switches) (changed-modes-at f m.components location)

  same-rule : (q : ℕ) → 1 ≤ q → (s : State) (t : Step) → rule_met (changed f m) q s t ≡ rule_met m q s t
  unfolding rule_met jump_rule staying_kept
  same-rule q l s (flow δ next) = same_flow s δ next
  same-rule q l s (jump event switches next) =
      ap₂ (λ (a b : Bool). a && b)
      (same-joint s.location event switches)
      (ap₂ (λ (a b : Bool). a && b)
      (same-jump-rows q l s switches next)
      (ap (λ (variables : List ℕ). kept variables next s.values) (same-staying switches)))

  -- the state after a step
  pub same_after : (s : State) (t : Step) → after (changed f m) s t ≡ after m s t
  unfolding after changed
  same_after s (flow δ next) = refl
  same_after s (jump event switches next) =
      ap (λ (location : ℕ). record { location = location; values = next })
      (changed-location-of f m.components (modes_after (map (changed_component f) m.components) (modes_at (map (changed_component f) m.components) s.location) switches)
      ∙ ap (location_of m.components)
      (changed-modes-after f m.components (modes_at (map (changed_component f) m.components) s.location) switches
      ∙ ap (λ (modes : List ℕ). modes_after m.components modes switches) (changed-modes-at f m.components s.location)))

  pub same_step : (q : ℕ) → 1 ≤ q → (s : State) (t : Step) → step_allowed (changed f m) q s t ≡ step_allowed m q s t
  unfolding step_allowed
  same_step q l s t =
      ap₂ (λ (a b : Bool). a && b)
      (same-admissible q l (after (changed f m) s t) ∙ ap (admissible m q) (same_after s t))
      (same-rule q l s t)

  -- all steps, and the states that they visit
  pub same-steps : (q : ℕ) → 1 ≤ q → (s : State) (steps : List Step) → steps_allowed (changed f m) q s steps ≡ steps_allowed m q s steps
  unfolding steps_allowed
  same-steps q l s [] = refl
  same-steps q l s (t ∷ steps) =
      ap₂ (λ (a b : Bool). a && b)
      (same_step q l s t)
      (same-steps q l (after (changed f m) s t) steps ∙ ap (λ (x : State). steps_allowed m q x steps) (same_after s t))

  pub same-visited : (s : State) (steps : List Step) → visited (changed f m) s steps ≡ visited m s steps
  unfolding visited
  same-visited s [] = refl
  same-visited s (t ∷ steps) =
      ap (λ (states : List State). s ∷ states)
      (same-visited (after (changed f m) s t) steps ∙ ap (λ (x : State). visited m x steps) (same_after s t))

  -- unsafe states
  pub same-unsafe : (q : ℕ) → 1 ≤ q → (s : State) → is_unsafe (changed f m) q s ≡ is_unsafe m q s
  unfolding is_unsafe changed changed_unsafe
  same-unsafe q l s =
      some-map
      (λ u. modes_fit u.modes (modes_at (map (changed_component f) m.components) s.location) && condition_holds q s.values u.rows)
      (changed_unsafe f) m.unsafe
      ∙ ap (λ (t : Unsafe → Bool). some t m.unsafe)
      (fun_ext
      (λ u.
      ap₂ (λ (modes : List ℕ) (b : Bool). modes_fit u.modes modes && b)
      (changed-modes-at f m.components s.location)
      (faith.holds q s.values u.rows l)))
