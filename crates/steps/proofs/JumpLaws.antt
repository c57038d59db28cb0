-- Joint switches by an index: a component's part, loops over the components, and the modes that a step leads to. Assumes nothing.
use mathlib.Core.Path.{◌≡◌, refl, sym, ap, ap₂, ◌∙◌, subst}
use mathlib.Core.Bool.{Bool, true, false, cond, not, ◌&&◌}
use mathlib.Core.List.{List, [], ◌∷◌, ◌++◌}
use Prim.Native.Nat.{ℕ, zero, suc, ◌+◌, ◌≤◌, ◌<◌}
use native.Mathlib.Nat.{zero-add}
use native.Mathlib.Numerals.{add-one}
use native.Mathlib.Omega.{arith}
use lib.Count.{ones}
use lib.Dec.{eqb, T}
use lib.IntN.{ℤ}
use lib.ListN.{length, get_or, take, drop, set}
use lib.Seq.{paste, paste-zero, paste-suc, length-take-le, take-length, get_or-take}
use borrow.Author.Tests.{lt-ltb, le-ltb, eq-eqb, ne_eqb}
use Rattle.second_sheets.specs.declared.Switches.{Switches}
use Rattle.second_sheets.specs.declared.Step as coded
use Rattle.second_sheets.specs.declared.Step.TheVariants as step
use Rattle.formats.specs.Model.{Component, Model, has_event, Switch}
use Rattle.formats.specs.Locations.{modes_at, location_of}
use Rattle.formats.specs.Joint.{stays, switch_of, leaves, moves, scope_mask, mover_count, part_in, members_move, all_stay, one_moves, is_joint, modes_after}
use Rattle.models.specs.Index.{entry, components_from, model_from, GoodIndex}
use Rattle.models.specs.Counts.{component_at, per_component, KnownSwitches}
use Rattle.formats.specs.RunSheet.{Step}
use Rattle.second_sheets.specs.RunAnswers.{switches_in, step_of}
use Rattle.formats.proofs.Locations.{Modes, location-of, modes-of}
use Rattle.formats.proofs.Joint.{modes-after}
use Rattle.models.proofs.GoodIndexLaws.{components-length, component-at, components-drop, components-end, good-components}
use Rattle.joint_switches.proofs.JointLoops.{components_on, numbers_on, per-component-length, per-component-drop}
use Rattle.rules.specs.Runs.{State, admissible, jump_rows, staying_kept, jump_rule, after, rule_met, step_allowed, movers}
use Rattle.papers.specs.Standing.{KnownModes, Stands}
use Rattle.steps.specs.Held.{state_of, state_in, values_after, KnownStep, step_with, modes_by, modes_next}
use Rattle.papers.proofs.StandingLaws.{have-modes, stands_at_lem}
use Rattle.steps.proofs.StandLaws.{numbers-end, known-all, modes-all, stands-in}
use Rattle.rules.proofs.ListFacts.{first-fails, first_passes}
use Rattle.rules.proofs.Movers.{moved-together}
use Rattle.farkas.specs.Lists.{every, All, none, more}
use Rattle.std.specs.List.{count_by}
use Rattle.std.proofs.lemmas.List.Sums.{sum_by-cons}
use Rattle.formats.specs.Joint.{count_up}
use Rattle.steps.proofs.ValueLoops.{each-step}
use Rattle.formats.proofs.WellFormed.{GoodComponent}

-- a component's part
pub moves-past : (c : Component) (mode e i : ℕ) → length c.switches ≤ i → moves c mode e i ≡ false
unfolding moves
moves-past c mode e i h = rw (le-ltb i (length c.switches) h) refl

pub moves-within : (c : Component) (mode e i : ℕ) → i < length c.switches → moves c mode e i ≡ leaves mode e (switch_of c i)
unfolding moves
moves-within c mode e i h = rw (lt-ltb i (length c.switches) h) refl

pub part-moves : (c : Component) (mode e i : ℕ) → true ≡ has_event c.alphabet e → part_in c mode e i ≡ moves c mode e i
unfolding part_in
part-moves c mode e i p = ap (λ b. cond b (moves c mode e i) (eqb i stays)) (sym p)

pub part_stays : (c : Component) (mode e i : ℕ) → false ≡ has_event c.alphabet e → part_in c mode e i ≡ eqb i stays
unfolding part_in
part_stays c mode e i p = ap (λ b. cond b (moves c mode e i) (eqb i stays)) (sym p)

-- what the tests make of the components from one on
abbrev pub members_on : List ℕ → List ℕ → List ℕ → ℕ → List ℕ → ℕ → Bool
members_on s index modes e switches k = members_move (components_on s index k) (numbers_on index modes k) e (numbers_on index switches k)

abbrev pub stay_on : List ℕ → List ℕ → List ℕ → ℕ → Bool
stay_on s index switches k = all_stay (components_on s index k) (numbers_on index switches k)

abbrev pub one_on : List ℕ → List ℕ → List ℕ → List ℕ → ℕ → Bool
one_on s index modes switches k = one_moves (components_on s index k) (numbers_on index modes k) (numbers_on index switches k)

module _ (s index switches : List ℕ) (wide : entry index 1 ≤ length switches) where
  stay-next : (k : ℕ) → k < entry index 1 → stay_on s index switches k ≡ (eqb (get_or switches k 0) stays && stay_on s index switches (k + 1))
  unfolding all_stay
  stay-next k h = rw (components-drop s index k h, per-component-drop index switches wide k h) refl

  stay-last : stay_on s index switches (entry index 1) ≡ true
  unfolding all_stay
  stay-last = rw (components-end s index, numbers-end index switches wide) refl

  pub stay-each : (k left : ℕ) → k + left ≡ entry index 1 → every (λ i. eqb (get_or switches i 0) stays) (count_up k left) ≡ stay_on s index switches k
  stay-each = each-step (λ i. eqb (get_or switches i 0) stays) (λ i. stay_on s index switches i) (entry index 1) stay-last stay-next

  module _ (modes : List ℕ) (long : entry index 1 ≤ length modes) where
    part-next : (e k : ℕ) → k < entry index 1 → members_on s index modes e switches k ≡ (part_in (component_at s index k) (get_or modes k 0) e (get_or switches k 0) && members_on s index modes e switches (k + 1))
    unfolding members_move
    part-next e k h = rw (components-drop s index k h, per-component-drop index modes long k h, per-component-drop index switches wide k h) refl

    part-last : (e : ℕ) → members_on s index modes e switches (entry index 1) ≡ true
    unfolding members_move
    part-last e = rw (components-end s index, numbers-end index modes long, numbers-end index switches wide) refl

    pub members-each : (e : ℕ) → every (λ i. part_in (component_at s index i) (get_or modes i 0) e (get_or switches i 0)) (count_up 0 (entry index 1)) ≡ members_on s index modes e switches 0
    members-each e =
        each-step (λ i. part_in (component_at s index i) (get_or modes i 0) e (get_or switches i 0)) (λ i. members_on s index modes e switches i) (entry index 1) (part-last e) (part-next e) 0 (entry index 1) (omega arith)

    one-next : (k : ℕ) → k < entry index 1 → one_on s index modes switches k ≡ cond (eqb (get_or switches k 0) stays) (one_on s index modes switches (k + 1)) (moves (component_at s index k) (get_or modes k 0) 0 (get_or switches k 0) && stay_on s index switches (k + 1))
    unfolding one_moves
    one-next k h = rw (components-drop s index k h, per-component-drop index modes long k h, per-component-drop index switches wide k h) refl

    pub one-goes-on : (whole : Bool) (k : ℕ) → k < entry index 1 → get_or switches k 0 ≡ stays → one_on s index modes switches k ≡ whole → one_on s index modes switches (k + 1) ≡ whole
    one-goes-on whole k h p w =
        let later = one_on s index modes switches (k + 1) in
        let now = moves (component_at s index k) (get_or modes k 0) 0 (get_or switches k 0) && stay_on s index switches (k + 1) in
        sym (one-next k h ∙ ap (λ b. cond b later now) (eq-eqb (get_or switches k 0) stays p)) ∙ w

    one-here : (k : ℕ) → k < entry index 1 → (get_or switches k 0 ≡ stays → ⊥) → one_on s index modes switches k ≡ (moves (component_at s index k) (get_or modes k 0) 0 (get_or switches k 0) && stay_on s index switches (k + 1))
    one-here k h p =
        let later = one_on s index modes switches (k + 1) in
        let now = moves (component_at s index k) (get_or modes k 0) 0 (get_or switches k 0) && stay_on s index switches (k + 1) in
        one-next k h ∙ ap (λ b. cond b later now) (ne_eqb (get_or switches k 0) stays p)

    pub one-stops : (whole : Bool) (k : ℕ) → k < entry index 1 → (get_or switches k 0 ≡ stays → ⊥) → false ≡ moves (component_at s index k) (get_or modes k 0) 0 (get_or switches k 0) → one_on s index modes switches k ≡ whole → false ≡ whole
    one-stops whole k h p q w =
        sym (one-here k h p ∙ ap (λ b. b && stay_on s index switches (k + 1)) (sym q)) ∙ w

    pub one_then : (whole : Bool) (k : ℕ) → k < entry index 1 → (get_or switches k 0 ≡ stays → ⊥) → true ≡ moves (component_at s index k) (get_or modes k 0) 0 (get_or switches k 0) → one_on s index modes switches k ≡ whole → stay_on s index switches (k + 1) ≡ whole
    one_then whole k h p q w =
        sym (one-here k h p ∙ ap (λ b. b && stay_on s index switches (k + 1)) (sym q)) ∙ w

    pub one-ends : (whole : Bool) (k : ℕ) → k ≡ entry index 1 → one_on s index modes switches k ≡ whole → false ≡ whole
    unfolding one_moves
    one-ends whole k h w =
        let last : one_on s index modes switches (entry index 1) ≡ false = rw (components-end s index) refl in
        sym (ap (λ (i : ℕ). one_on s index modes switches i) h ∙ last) ∙ w

-- the test, by cases: event 0, an empty scope, and any other
module _ (components : List Component) (modes switches : List ℕ) where
  pub joint-one : (e : ℕ) → e ≡ 0 → is_joint components modes e switches ≡ one_moves components modes switches
  unfolding is_joint
  joint-one e h = rw h refl

  pub joint-none : (e mask : ℕ) → (e ≡ 0 → ⊥) → mask ≡ scope_mask components e → ones mask ≡ 0 → is_joint components modes e switches ≡ false
  unfolding is_joint mover_count
  joint-none zero mask h p q = absurd (h refl)
  joint-none (suc e) mask h p q =
      ap (λ b. not b && members_move components modes (suc e) switches) (eq-eqb (ones (scope_mask components (suc e))) 0 (sym (ap ones p) ∙ q))

  pub joint-members : (e mask : ℕ) → (e ≡ 0 → ⊥) → mask ≡ scope_mask components e → (ones mask ≡ 0 → ⊥) → is_joint components modes e switches ≡ members_move components modes e switches
  unfolding is_joint mover_count
  joint-members zero mask h p q = absurd (h refl)
  joint-members (suc e) mask h p q =
      ap (λ b. not b && members_move components modes (suc e) switches) (ne_eqb (ones (scope_mask components (suc e))) 0 (λ r. q (ap ones p ∙ r)))

-- "As many components move together as the scope mask has ones": as many movers, or no joint switch
is-not : (b : Bool) → (b ≡ true → ⊥) → false ≡ b
is-not true f = absurd (f refl)
is-not false f = refl

few-switches : {n : ℕ} {components : List Component} → All (GoodComponent n) components → All (λ c. length c.switches ≤ 32) components
few-switches none = none
few-switches (more g rest) = more g.few (few-switches rest)

pub joint-many : {model index : List ℕ} → GoodIndex model index → (modes switches : List ℕ) (e mask : ℕ) → (e ≡ 0 → ⊥) → mask ≡ scope_mask (components_from model index) e → (length (movers (components_from model index) switches) ≡ ones mask → ⊥) → false ≡ is_joint (components_from model index) modes e switches
unfolding mover_count
joint-many g modes switches zero mask h p f = absurd (h refl)
joint-many {model} {index} g modes switches (suc e) mask h p f =
    is-not (is_joint (components_from model index) modes (suc e) switches)
    (λ q. f (moved-together e (components_from model index) modes switches (few-switches (good-components g)) (subst T (sym q) tt) ∙ ap ones (sym p)))

-- the components that move are those whose number is not the one of staying
movers-counted : (components : List Component) (numbers : List ℕ) → length components ≡ length numbers → count_by (λ i. not (eqb i stays)) numbers ≡ length (movers components numbers)
unfolding movers
movers-counted [] [] e = refl
movers-counted [] (i ∷ rest) e = absurd (omega arith)
movers-counted (c ∷ components) [] e = absurd (omega arith)
movers-counted (c ∷ components) (i ∷ rest) e = sum_by-cons (λ j. cond (not (eqb j stays)) 1 0) i rest ∙ go (eqb i stays) (movers-counted components rest (omega arith))
  where
    go : (b : Bool) → count_by (λ j. not (eqb j stays)) rest ≡ length (movers components rest) → cond (not b) 1 0 + count_by (λ j. not (eqb j stays)) rest ≡ length {A = Switch} (elim b as (λ _. List Switch) [ true ↦ movers components rest | false ↦ switch_of c i ∷ movers components rest ])
    go true later = omega (arith, later)
    go false later = omega (arith, later)

pub movers-told : (s index switches : List ℕ) → entry index 1 ≤ length switches → count_by (λ i. not (eqb i stays)) (per_component index switches) ≡ length (movers (components_from s index) (per_component index switches))
movers-told s index switches wide =
    movers-counted (components_from s index) (per_component index switches) (components-length s index ∙ sym (per-component-length index switches wide))

-- The modes after a jump, component by component
after-length : (components : List Component) (modes switches : List ℕ) → length modes ≡ length components → length switches ≡ length components → length (modes_after components modes switches) ≡ length components
unfolding modes_after
after-length [] modes switches h k = refl
after-length (c ∷ components) [] switches h k = absurd (omega arith)
after-length (c ∷ components) (mode ∷ modes) [] h k = absurd (omega arith)
after-length (c ∷ components) (mode ∷ modes) (i ∷ switches) h k = ap suc (after-length components modes switches (omega arith) (omega arith))

after-item : (components : List Component) (modes switches : List ℕ) (k : ℕ) (d : Component) → k < length components → k < length modes → k < length switches → get_or (modes_after components modes switches) k 0 ≡ cond (eqb (get_or switches k 0) stays) (get_or modes k 0) (switch_of (get_or components k d) (get_or switches k 0)).target
unfolding modes_after
after-item [] modes switches k d h l m = absurd (omega arith)
after-item (c ∷ components) [] switches k d h l m = absurd (omega arith)
after-item (c ∷ components) (mode ∷ modes) [] k d h l m = absurd (omega arith)
after-item (c ∷ components) (mode ∷ modes) (i ∷ switches) zero d h l m = refl
after-item (c ∷ components) (mode ∷ modes) (i ∷ switches) (suc k) d h l m = after-item components modes switches k d (omega arith) (omega arith) (omega arith)

-- they are put one after the other in the place of those before: so many of them
abbrev landed : List ℕ → List ℕ → List ℕ → List ℕ → List ℕ
landed model index modes switches = modes_after (components_from model index) (per_component index modes) (per_component index switches)

abbrev pub Landed : List ℕ → List ℕ → List ℕ → List ℕ → ℕ → List ℕ
Landed model index modes switches k = paste modes 0 (modes_after (components_from model index) (per_component index modes) (per_component index switches)) k

module _ (model index modes switches : List ℕ) (long : entry index 1 ≤ length modes) (wide : entry index 1 ≤ length switches) where
  landed-length : length (landed model index modes switches) ≡ entry index 1
  landed-length =
      let all = components-length model index in
      after-length (components_from model index) (per_component index modes) (per_component index switches) (per-component-length index modes long ∙ sym all) (per-component-length index switches wide ∙ sym all) ∙ all

  landed_at : (k v : ℕ) → k < entry index 1 → v ≡ cond (eqb (get_or switches k 0) stays) (get_or modes k 0) (switch_of (component_at model index k) (get_or switches k 0)).target → v ≡ get_or (landed model index modes switches) k 0
  unfolding per_component
  landed_at k v h e =
      let c = entry index 1 in
      let components = components_from model index in
      let d = component_at model index k in
      let of : Component → ℕ → ℕ → ℕ = λ x mode i. cond (eqb i stays) mode (switch_of x i).target in
      e
      ∙ ap (λ (x : Component). of x (get_or modes k 0) (get_or switches k 0)) (sym (component-at model index k d h))
      ∙ ap₂ (λ (mode i : ℕ). of (get_or components k d) mode i) (sym (get_or-take c modes k 0 h)) (sym (get_or-take c switches k 0 h))
      ∙ sym (after-item components (take c modes) (take c switches) k d (omega (arith, components-length model index)) (omega (arith, length-take-le c modes long)) (omega (arith, length-take-le c switches wide)))

  -- before the first: the modes as they are
  pub landed_none : modes ≡ Landed model index modes switches 0
  landed_none = paste-zero modes 0 (landed model index modes switches)

  pub landed-more : (k v : ℕ) → k < entry index 1 → v ≡ cond (eqb (get_or switches k 0) stays) (get_or modes k 0) (switch_of (component_at model index k) (get_or switches k 0)).target → set (Landed model index modes switches k) k v ≡ Landed model index modes switches (k + 1)
  landed-more k v h e =
      ap (set (Landed model index modes switches k) k) (landed_at k v h e)
      ∙ ap (λ (i : ℕ). set (Landed model index modes switches k) i (get_or (landed model index modes switches) k 0)) (sym (zero-add k))
      ∙ paste-suc modes 0 (landed model index modes switches) k 0 (omega arith) (omega (arith, landed-length))
      ∙ ap (Landed model index modes switches) (sym (add-one k))

  pub landed-all : (k : ℕ) → k ≡ entry index 1 → Landed model index modes switches k ≡ modes_by model index modes switches
  unfolding modes_by
  landed-all k e =
      ap (Landed model index modes switches) e
      ∙ ap (λ xs. xs ++ drop (0 + entry index 1) modes) (ap (λ (i : ℕ). take i (landed model index modes switches)) (sym landed-length) ∙ take-length (landed model index modes switches))
      ∙ ap (λ (i : ℕ). (landed model index modes switches) ++ drop i modes) (zero-add (entry index 1))

-- Known modes lead to known modes, by known switches
module _ {model index : List ℕ} (g : GoodIndex model index) (modes : List ℕ) (known : KnownModes index modes) (long : entry index 1 ≤ length modes) where
  module _ (switches : List ℕ) (wide : entry index 1 ≤ length switches) (moved : KnownSwitches index switches) where
    abbrev target : ℕ
    target = location_of (components_from model index) (modes_after (components_from model index) (per_component index modes) (per_component index switches))

    jump-modes : Modes (components_from model index) (modes_after (components_from model index) (per_component index modes) (per_component index switches))
    jump-modes = modes-after (entry index 0) (good-components g) (modes-all model index modes long known) (known-all model index switches wide moved)

    jump-stands : Stands model index target (modes_by model index modes switches)
    unfolding modes_by
    jump-stands =
        stands_at_lem model index target (modes_by model index modes switches) (drop (entry index 1) modes) g (location-of jump-modes)
        (ap (λ ms. ms ++ drop (entry index 1) modes) (sym (modes-of (have-modes (good-components g)) jump-modes)))

    jump-lands : location_of (components_from model index) (per_component index (modes_by model index modes switches)) ≡ target
    jump-lands = ap (location_of (components_from model index)) (jump-stands.here ∙ modes-of (have-modes (good-components g)) jump-modes)

  taken : (w : Switches) → per_component index (switches_in w) ≡ take (entry index 1) (switches_in w)
  unfolding per_component
  taken w = refl

  four : (w : Switches) → entry index 1 ≤ length (switches_in w)
  unfolding switches_in
  four w = omega (arith, g.few)

  pub next_known : (by : coded.Step) → KnownStep index by → KnownModes index (modes_next model index modes by)
  unfolding modes_next
  next_known (step.Flow δ) k = known
  next_known (step.Jump e w) k = (jump-stands (switches_in w) (four w) (k.switches e w refl)).known

  -- the state that a step leads to
  pub step-leads : (by : coded.Step) → KnownStep index by → (state : List ℤ) → state_in model index (modes_next model index modes by) (drop (entry index 0) state) ≡ after (model_from model index) (state_in model index modes state) (step_with index by state)
  unfolding modes_next state_of after step_of model_from
  step-leads (step.Flow δ) k state = refl
  step-leads (step.Jump e w) k state =
      let components = components_from model index in
      let from : List ℕ → List ℕ → ℕ = λ ms is. location_of components (modes_after components ms is) in
      ap (λ (l : ℕ). record { location = l; values = values_after index state })
      (jump-lands (switches_in w) (four w) (k.switches e w refl) ∙ ap₂ from (stands-in modes g known long).here (taken w))

-- the rule of a jump, by the first of its parts that fails
module _ {model index : List ℕ} (location : ℕ) (modes : List ℕ) (stands : Stands model index location modes) (switches : List ℕ) (q e : ℕ) (state : List ℤ) where
  joint-at : is_joint (components_from model index) (per_component index modes) e (per_component index switches) ≡ is_joint (components_from model index) (modes_at (components_from model index) location) e (per_component index switches)
  joint-at = ap (λ ms. is_joint (components_from model index) ms e (per_component index switches)) stands.here

  pub rule-joint : false ≡ is_joint (components_from model index) (per_component index modes) e (per_component index switches) → false ≡ jump_rule (model_from model index) q (state_of index location state) e (per_component index switches) (values_after index state)
  unfolding jump_rule state_of model_from
  rule-joint p = first-fails _ _ (p ∙ joint-at)

  module _ (joint : true ≡ is_joint (components_from model index) (per_component index modes) e (per_component index switches)) where
    pub rule-rows : false ≡ jump_rows (model_from model index) q (state_of index location state) (per_component index switches) (values_after index state) → false ≡ jump_rule (model_from model index) q (state_of index location state) e (per_component index switches) (values_after index state)
    unfolding jump_rule state_of model_from
    rule-rows p = first_passes _ _ (joint ∙ joint-at) (first-fails _ _ p)

    pub rule-kept : (r : Bool) → true ≡ jump_rows (model_from model index) q (state_of index location state) (per_component index switches) (values_after index state) → r ≡ staying_kept (model_from model index) (state_of index location state) (per_component index switches) (values_after index state) → r ≡ jump_rule (model_from model index) q (state_of index location state) e (per_component index switches) (values_after index state)
    unfolding jump_rule state_of model_from
    rule-kept r p k = first_passes _ _ (joint ∙ joint-at) (first_passes _ _ p k)

-- a step, by the state that it leads to and its rule
module _ (m : Model) (q : ℕ) (s : State) (t : Step) (next : State) (leads : next ≡ after m s t) where
  pub step-inadmissible : false ≡ admissible m q next → false ≡ step_allowed m q s t
  unfolding step_allowed
  step-inadmissible p = first-fails _ _ (p ∙ ap (admissible m q) leads)

  pub step-by-rule : (r : Bool) → true ≡ admissible m q next → r ≡ rule_met m q s t → r ≡ step_allowed m q s t
  unfolding step_allowed
  step-by-rule r p k = first_passes _ _ (p ∙ ap (admissible m q) leads) k
