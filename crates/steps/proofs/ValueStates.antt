-- The tests of a state by the definitions of runs are those by the numbers of an index: over components, unsafe conditions and variables.
-- Assumes nothing.
use mathlib.Core.Path.{◌≡◌, refl, sym, ap, ap₂, ◌∙◌}
use mathlib.Core.Bool.{Bool, true, false, not, ◌&&◌, ◌||◌}
use mathlib.Core.List.{List, [], ◌∷◌, ◌++◌}
use Prim.Native.Nat.{ℕ, zero, suc, ◌+◌, ◌*◌, ◌≤◌, ◌<◌}
use native.Mathlib.Numerals.{add-one}
use native.Mathlib.Omega.{arith}
use borrow.Author.Tests.{lt-ltb, eq-eqb}
use lib.Dec.{ltb, eqb}
use lib.IntN.{ℤ, pos}
use lib.ListN.{length, get_or, take, drop, length-drop}
use lib.Seq.{length-take-le, drop-cons, take-add, get_or-take, get_or-drop}
use Rattle.farkas.specs.Lists.{every, some}
use Rattle.farkas.specs.Rows.{item}
use Rattle.farkas.specs.Farkas.{same_z}
use Rattle.formats.specs.Model.{Mode, Switch, Component, Unsafe, Model}
use Rattle.formats.specs.Locations.{location_count, modes_at, mode_of}
use Rattle.formats.specs.Joint.{stays, switch_of, those, count_up}
use Rattle.models.specs.Index.{entry, component_place, mode_place, switch_place, unsafe_place, span_rows, mode_from, switch_from, unsafe_from, components_from, model_from, GoodIndex}
use Rattle.models.specs.Counts.{component_at, per_component, KnownSwitches}
use Rattle.models.proofs.GoodIndexLaws.{components-drop, components-end, switch-at}
use Rattle.joint_switches.proofs.JointLoops.{components_on, numbers_on, per-component-drop}
use Rattle.rules.specs.Runs as runs
use Rattle.rules.specs.Runs.{condition_holds, present, movers, difference, same_values, modes_fit, unmentioned}
use Rattle.papers.specs.Standing.{Stands}
use Rattle.steps.specs.Held.{per_variable, state_of, values_after, with_changes, mode_holds, unsafe_at, move_holds, move_at, same_at, kept_at}
use Rattle.rules.proofs.ListFacts.{every-those}
use Rattle.formats.specs.Versions.{keeps_blanks}
use Rattle.papers.specs.Blanks.{owner_in, still_at, stays_at, rests_at}
use Rattle.papers.proofs.BlankLaws.{plain-rests, still-told, rests-told}
use Rattle.papers.proofs.StandingLaws.{mode-at}
use Rattle.steps.proofs.ValueLoops.{each-agree, each-true, some-agree, some-map}
use Rattle.steps.proofs.ValueLaws.{second-fails}
use Rattle.steps.proofs.SliceLaws.{changes-apart, changes-taken}

-- the same values after as before
alike_from : (xs ys : List ℤ) (n k : ℕ) → k + n ≤ length xs → k + n ≤ length ys → same_values (take n (drop k xs)) (take n (drop k ys)) ≡ every (λ i. same_z (item xs i) (item ys i)) (count_up k n)
unfolding same_values every count_up item
alike_from xs ys zero k h l = refl
alike_from xs ys (suc n) k h l =
    ap (λ zs. same_values (take (suc n) zs) (take (suc n) (drop k ys))) (drop-cons xs k (pos 0) (omega arith))
    ∙ ap (λ zs. same_values (take (suc n) (get_or xs k (pos 0) ∷ drop (suc k) xs)) (take (suc n) zs)) (drop-cons ys k (pos 0) (omega arith))
    ∙ ap (λ b. same_z (get_or xs k (pos 0)) (get_or ys k (pos 0)) && b) (alike_from xs ys n (suc k) (omega arith) (omega arith))

same-all : (n : ℕ) (state : List ℤ) → 2 * n ≤ length state → same_values (take n (drop n state)) (take n state) ≡ every (same_at n state) (count_up 0 n)
unfolding same_at item
same-all n state long =
    alike_from (drop n state) state n 0 (omega (arith, length-drop n state)) (omega arith)
    ∙ each-agree _ (same_at n state) n (λ i h. ap (λ x. same_z x (get_or state i (pos 0))) (get_or-drop n state i (pos 0)))

-- the changes behind the values leave them the same or not
pub changes-same : (n : ℕ) (state : List ℤ) → 3 * n ≤ length state → every (same_at n (with_changes n state)) (count_up 0 n) ≡ every (same_at n state) (count_up 0 n)
unfolding same_at item
changes-same n state room =
    each-agree (same_at n (with_changes n state)) (same_at n state) n
    (λ i h. ap₂ same_z (changes-apart n state room n (n + i) (omega arith) (omega arith)) (changes-apart n state room n i (omega arith) (omega arith)))

-- variables keep their values: those that pass a test, by another test that says the same of each
kept-told : (n : ℕ) (state : List ℤ) (test told : ℕ → Bool) → ((v : ℕ) → v < n → test v ≡ told v) → every (kept_at told n state) (count_up 0 n) ≡ every (λ v. same_z (item (take n (drop n state)) v) (item (take n state) v)) (those test (count_up 0 n))
unfolding kept_at same_at item
kept-told n state test told e =
    sym
    (every-those (λ v. same_z (item (take n (drop n state)) v) (item (take n state) v)) test (count_up 0 n)
    ∙ each-agree _ (kept_at told n state) n
    (λ v h.
    ap (λ (b : Bool). not b || same_z (get_or (take n (drop n state)) v (pos 0)) (get_or (take n state) v (pos 0))) (e v h)
    ∙ ap (λ x. not (told v) || same_z x (get_or (take n state) v (pos 0))) (get_or-take n (drop n state) v (pos 0) h ∙ get_or-drop n state v (pos 0))
    ∙ ap (λ x. not (told v) || same_z (get_or state (n + v) (pos 0)) x) (get_or-take n state v (pos 0) h)))

-- the changes behind the values leave them kept or not
pub changes-kept : (n : ℕ) (state : List ℤ) (test : ℕ → Bool) → 3 * n ≤ length state → every (kept_at test n (with_changes n state)) (count_up 0 n) ≡ every (kept_at test n state) (count_up 0 n)
unfolding kept_at same_at item
changes-kept n state test room =
    each-agree (kept_at test n (with_changes n state)) (kept_at test n state) n
    (λ i h. ap (λ (b : Bool). not (test i) || b) (ap₂ same_z (changes-apart n state room n (n + i) (omega arith) (omega arith)) (changes-apart n state room n i (omega arith) (omega arith))))

-- where no blank is kept, nothing is asked
pub nothing-still : (s index modes : List ℕ) (n : ℕ) (state : List ℤ) → keeps_blanks (entry index 11) ≡ false → true ≡ every (kept_at (still_at s index modes) n state) (count_up 0 n)
unfolding kept_at still_at
nothing-still s index modes n state e =
    each-true (kept_at (still_at s index modes) n state) (count_up 0 n)
    (λ v. ap (λ (b : Bool). not (b && unmentioned v (span_rows s (entry index 11) (entry index 0) index (mode_place (component_place (owner_in index v)) (get_or modes (owner_in index v) 0) + 5))) || same_at n state v) e)

-- and of a jump only those are asked whose owners stay
pub owned-all : (s index switches : List ℕ) (n : ℕ) (state : List ℤ) → keeps_blanks (entry index 11) ≡ false → every (kept_at (stays_at index switches) n state) (count_up 0 n) ≡ every (kept_at (rests_at s index switches) n state) (count_up 0 n)
unfolding kept_at
owned-all s index switches n state e =
    each-agree (kept_at (stays_at index switches) n state) (kept_at (rests_at s index switches) n state) n
    (λ v h. ap (λ (b : Bool). not b || same_at n state v) (plain-rests s index switches v e))

-- values before and after are the first numbers, one to a variable and then as many
both-taken : (n : ℕ) (state : List ℤ) → take (2 * n) state ≡ take n state ++ take n (drop n state)
both-taken n state = ap (λ (k : ℕ). take k state) (twice n) ∙ take-add n n state
  where
    twice : (n : ℕ) → 2 * n ≡ n + n
    twice n = omega arith

-- a test of all components, each with its number
module _ (s index numbers : List ℕ) (long : entry index 1 ≤ length numbers) (f : List Component → List ℕ → Bool) (g : Component → ℕ → Bool) (last : (ms : List ℕ) → f [] ms ≡ true) (next : (c : Component) (cs : List Component) (m : ℕ) (ms : List ℕ) → f (c ∷ cs) (m ∷ ms) ≡ (g c m && f cs ms)) where
  over-from : (n k : ℕ) → k + n ≡ entry index 1 → f (components_on s index k) (numbers_on index numbers k) ≡ every (λ i. g (component_at s index i) (get_or numbers i 0)) (count_up k n)
  unfolding every count_up
  over-from zero k e =
      ap (λ cs. f cs (numbers_on index numbers k)) (ap (λ (i : ℕ). components_on s index i) (here k e) ∙ components-end s index) ∙ last (numbers_on index numbers k)
    where
      here : (k : ℕ) → k + zero ≡ entry index 1 → k ≡ entry index 1
      here k e = omega arith
  over-from (suc n) k e =
      ap (λ cs. f cs (numbers_on index numbers k)) (components-drop s index k (omega arith))
      ∙ ap (λ ms. f (component_at s index k ∷ components_on s index (k + 1)) ms) (per-component-drop index numbers long k (omega arith))
      ∙ next (component_at s index k) (components_on s index (k + 1)) (get_or numbers k 0) (numbers_on index numbers (k + 1))
      ∙ ap (λ b. g (component_at s index k) (get_or numbers k 0) && b)
      (over-from n (k + 1) (omega arith) ∙ ap (λ (i : ℕ). every (λ i. g (component_at s index i) (get_or numbers i 0)) (count_up i n)) (add-one k))

  over-all : f (components_from s index) (per_component index numbers) ≡ every (λ i. g (component_at s index i) (get_or numbers i 0)) (count_up 0 (entry index 1))
  over-all = over-from (entry index 1) 0 (omega arith)

-- the present modes
module _ {s index : List ℕ} (g : GoodIndex s index) (location : ℕ) (modes : List ℕ) (stands : Stands s index location modes) (long : entry index 1 ≤ length modes) where
  -- a test of the present modes
  present-is : (k : ℕ) → k < entry index 1 → mode_of (component_at s index k) (get_or modes k 0) ≡ mode_from s (entry index 11) (entry index 0) index (mode_place (component_place k) (get_or modes k 0))
  present-is k h = mode-at s index k (get_or modes k 0) (stands.known.known k h)

  over-modes : (f : Mode → Bool) → every f (runs.modes_in (model_from s index) location) ≡ every (λ k. f (mode_from s (entry index 11) (entry index 0) index (mode_place (component_place k) (get_or modes k 0)))) (count_up 0 (entry index 1))
  unfolding model_from runs.modes_in every present
  over-modes f =
      ap (λ ms. every f (present (components_from s index) ms)) (sym stands.here)
      ∙ over-all s index modes long (λ cs ms. every f (present cs ms)) (λ c m. f (mode_of c m)) last next
      ∙ each-agree _ _ (entry index 1) (λ k h. ap f (present-is k h))
    where
      last : (ms : List ℕ) → every f (present [] ms) ≡ true
      last ms = refl

      next : (c : Component) (cs : List Component) (m : ℕ) (ms : List ℕ) → every f (present (c ∷ cs) (m ∷ ms)) ≡ (f (mode_of c m) && every f (present cs ms))
      next c cs m ms = refl

  starts : Bool
  starts = every (λ mode. eqb mode.start 1) (present (components_from s index) (per_component index modes))

  starts-told : starts ≡ every (λ mode. eqb mode.start 1) (runs.modes_in (model_from s index) location)
  unfolding starts model_from runs.modes_in
  starts-told = ap (λ ms. every (λ mode. eqb mode.start 1) (present (components_from s index) ms)) stands.here

  module _ (q : ℕ) (values point : List ℤ) (taken : take (entry index 0) point ≡ values) where
    rows_at : ℕ → List ℤ → ℕ → Bool
    rows_at offset xs k = condition_holds q xs (span_rows s (entry index 11) (entry index 0) index (mode_place (component_place k) (get_or modes k 0) + offset))

    held_at : (offset : ℕ) → every (rows_at offset values) (count_up 0 (entry index 1)) ≡ every (mode_holds s index modes offset q point) (count_up 0 (entry index 1))
    unfolding rows_at mode_holds
    held_at offset = ap (λ xs. every (rows_at offset xs) (count_up 0 (entry index 1))) (sym taken)

    initials-told : every (λ mode. condition_holds q values mode.initial) (runs.modes_in (model_from s index) location) ≡ every (mode_holds s index modes 1 q point) (count_up 0 (entry index 1))
    unfolding rows_at mode_from
    initials-told = over-modes (λ mode. condition_holds q values mode.initial) ∙ held_at 1

    invariants-told : every (λ mode. condition_holds q values mode.invariant) (runs.modes_in (model_from s index) location) ≡ every (mode_holds s index modes 3 q point) (count_up 0 (entry index 1))
    unfolding rows_at mode_from
    invariants-told = over-modes (λ mode. condition_holds q values mode.invariant) ∙ held_at 3

    flows-told : every (λ mode. condition_holds q values mode.flow) (runs.modes_in (model_from s index) location) ≡ every (mode_holds s index modes 5 q point) (count_up 0 (entry index 1))
    unfolding rows_at mode_from
    flows-told = over-modes (λ mode. condition_holds q values mode.flow) ∙ held_at 5

  -- an admissible state, and one where a run may begin
  module _ (q : ℕ) (values : List ℤ) (wide : entry index 0 ≤ length values) where
    pub admissible-told : every (mode_holds s index modes 3 q values) (count_up 0 (entry index 1)) ≡ runs.admissible (model_from s index) q (state_of index location values)
    unfolding runs.admissible state_of per_variable model_from
    admissible-told =
        let all = every (λ mode. condition_holds q (take (entry index 0) values) mode.invariant) (runs.modes_in (model_from s index) location) in
        let as_many : length (take (entry index 0) values) ≡ entry index 0 = length-take-le (entry index 0) values wide in
        sym (invariants-told q (take (entry index 0) values) values refl) ∙ ap (λ b. b && all) (sym (eq-eqb _ _ as_many))

    begun : Bool → Bool → Bool → Bool
    begun a b c = ltb location (location_count (components_from s index)) && (a && (b && c))

    start_is : begun (runs.admissible (model_from s index) q (state_of index location values)) starts (every (mode_holds s index modes 1 q values) (count_up 0 (entry index 1))) ≡ runs.start_allowed (model_from s index) q (state_of index location values)
    unfolding begun runs.start_allowed state_of per_variable model_from
    start_is =
        let a = runs.admissible (model_from s index) q (state_of index location values) in
        ap (λ b. begun a b (every (mode_holds s index modes 1 q values) (count_up 0 (entry index 1)))) starts-told
        ∙ ap (begun a (every (λ mode. eqb mode.start 1) (runs.modes_in (model_from s index) location))) (sym (initials-told q (take (entry index 0) values) values refl))

    pub start-told : (a b c : Bool) → a ≡ runs.admissible (model_from s index) q (state_of index location values) → b ≡ every (λ mode. eqb mode.start 1) (present (components_from s index) (per_component index modes)) → c ≡ every (mode_holds s index modes 1 q values) (count_up 0 (entry index 1)) → (a && (b && c)) ≡ runs.start_allowed (model_from s index) q (state_of index location values)
    unfolding begun starts
    start-told a b c p r t =
        ap (λ x. x && (a && (b && c))) (sym (lt-ltb location (location_count (components_from s index)) stands.below))
        ∙ ap (λ x. begun x b c) p
        ∙ ap (λ x. begun (runs.admissible (model_from s index) q (state_of index location values)) x c) r
        ∙ ap (begun (runs.admissible (model_from s index) q (state_of index location values)) starts) t
        ∙ start_is

    -- an unsafe state
    unsafe-is : (u : ℕ) → (modes_fit (unsafe_from s (entry index 11) (entry index 0) (entry index 1) index (unsafe_place u)).modes (modes_at (components_from s index) location) && condition_holds q (take (entry index 0) values) (unsafe_from s (entry index 11) (entry index 0) (entry index 1) index (unsafe_place u)).rows) ≡ unsafe_at s index modes q values u
    unfolding unsafe_at
    unsafe-is u =
        let asked = unsafe_from s (entry index 11) (entry index 0) (entry index 1) index (unsafe_place u) in
        ap (λ ms. modes_fit asked.modes ms && condition_holds q (take (entry index 0) values) asked.rows) (sym stands.here)

    pub unsafe-told : some (unsafe_at s index modes q values) (count_up 0 (entry index 2)) ≡ runs.is_unsafe (model_from s index) q (state_of index location values)
    unfolding runs.is_unsafe state_of per_variable model_from
    unsafe-told =
        let f : Unsafe → Bool = λ u. modes_fit u.modes (modes_at (components_from s index) location) && condition_holds q (take (entry index 0) values) u.rows in
        let at : ℕ → Unsafe = λ u. unsafe_from s (entry index 11) (entry index 0) (entry index 1) index (unsafe_place u) in
        sym (some-map f at (count_up 0 (entry index 2)) ∙ some-agree (λ u. f (at u)) (unsafe_at s index modes q values) (entry index 2) (λ u h. unsafe-is u))

  -- the rule of a flow
  module _ (δ : ℕ) (state : List ℤ) (room : 3 * entry index 0 ≤ length state) where
    blanks-told : every (kept_at (still_at s index modes) (entry index 0) state) (count_up 0 (entry index 0)) ≡ runs.blanks_kept (model_from s index) (state_of index location state) (values_after index state)
    unfolding runs.blanks_kept runs.still_variables runs.variables_that runs.kept state_of per_variable model_from
    blanks-told = kept-told (entry index 0) state _ (still_at s index modes) (λ v h. still-told g v h location modes stands long)

    pub flow-told : (a k b : Bool) → a ≡ every (mode_holds s index modes 5 δ (drop (2 * entry index 0) (with_changes (entry index 0) state))) (count_up 0 (entry index 1)) → k ≡ every (kept_at (still_at s index modes) (entry index 0) state) (count_up 0 (entry index 0)) → b ≡ every (same_at (entry index 0) state) (count_up 0 (entry index 0)) → (a && (k && (not (eqb δ 0) || b))) ≡ runs.flow_rule (model_from s index) (state_of index location state) δ (values_after index state)
    unfolding runs.flow_rule runs.rates_hold runs.still_at_zero state_of per_variable
    flow-told a k b p t r =
        let n = entry index 0 in
        let change = difference (take n (drop n state)) (take n state) in
        let rates = every (λ mode. condition_holds δ change mode.flow) (runs.modes_in (model_from s index) location) in
        let a-is : a ≡ rates = p ∙ sym (flows-told δ change (drop (2 * n) (with_changes n state)) (changes-taken n state room)) in
        let b-is : b ≡ same_values (take n (drop n state)) (take n state) = r ∙ sym (same-all n state (omega arith)) in
        ap (λ x. x && (k && (not (eqb δ 0) || b))) a-is ∙ ap (λ x. rates && (x && (not (eqb δ 0) || b))) (t ∙ blanks-told) ∙ ap (λ x. rates && (runs.blanks_kept (model_from s index) (state_of index location state) (values_after index state) && (not (eqb δ 0) || x))) b-is

-- the rows of a jump
picked : (c : Component) (cs : List Component) (i : ℕ) (is : List ℕ) (f : Switch → Bool) → every f (movers (c ∷ cs) (i ∷ is)) ≡ ((eqb i stays || f (switch_of c i)) && every f (movers cs is))
unfolding movers every
picked c cs i is f = go (eqb i stays)
  where
    go : (b : Bool) → every f (elim b [ true ↦ movers cs is | false ↦ switch_of c i ∷ movers cs is ]) ≡ ((b || f (switch_of c i)) && every f (movers cs is))
    go true = refl
    go false = refl

either_same : (a b c : Bool) → (a ≡ false → b ≡ c) → (a || b) ≡ (a || c)
either_same true b c h = refl
either_same false b c h = h refl

module _ {s index switches : List ℕ} (g : GoodIndex s index) (known : KnownSwitches index switches) (long : entry index 1 ≤ length switches) (location q : ℕ) (state : List ℤ) where
  pub jump-told : every (move_at s index switches q state) (count_up 0 (entry index 1)) ≡ runs.jump_rows (model_from s index) q (state_of index location state) (per_component index switches) (values_after index state)
  unfolding runs.jump_rows state_of per_variable model_from switch_from move_at move_holds every movers
  jump-told =
      let both = take (entry index 0) state ++ take (entry index 0) (drop (entry index 0) state) in
      let f : Switch → Bool = λ w. condition_holds q both w.jump in
      sym
      (over-all s index switches long (λ cs is. every f (movers cs is)) (λ c i. eqb i stays || f (switch_of c i)) (λ is. refl) (λ c cs i is. picked c cs i is f)
      ∙ each-agree (λ k. eqb (get_or switches k 0) stays || f (switch_of (component_at s index k) (get_or switches k 0))) (move_at s index switches q state) (entry index 1) (λ k h. move-is k h))
    where
      jump-is : (k : ℕ) → get_or switches k 0 < entry index (component_place k + 2) → (switch_of (component_at s index k) (get_or switches k 0)).jump ≡ span_rows s (entry index 11) (2 * entry index 0) index (switch_place (component_place k) (get_or switches k 0) + 3)
      jump-is k l = ap (λ w. w.jump) (switch-at s index k (get_or switches k 0) l)

      move-is : (k : ℕ) → k < entry index 1 → (eqb (get_or switches k 0) stays || condition_holds q (take (entry index 0) state ++ take (entry index 0) (drop (entry index 0) state)) (switch_of (component_at s index k) (get_or switches k 0)).jump) ≡ move_at s index switches q state k
      move-is k h =
          either_same (eqb (get_or switches k 0) stays) _ _
          (λ f. ap (condition_holds q (take (entry index 0) state ++ take (entry index 0) (drop (entry index 0) state))) (jump-is k (known.known k h f))
          ∙ ap (λ xs. condition_holds q xs (span_rows s (entry index 11) (2 * entry index 0) index (switch_place (component_place k) (get_or switches k 0) + 3))) (sym (both-taken (entry index 0) state)))

-- the variables of staying components, and those that no row of their owner's switch mentions
module _ {s index : List ℕ} (g : GoodIndex s index) (switches : List ℕ) (moves : KnownSwitches index switches) (long : entry index 1 ≤ length switches) (location : ℕ) (state : List ℤ) where
  pub staying-told : every (kept_at (rests_at s index switches) (entry index 0) state) (count_up 0 (entry index 0)) ≡ runs.staying_kept (model_from s index) (state_of index location state) (per_component index switches) (values_after index state)
  unfolding runs.staying_kept runs.staying_variables runs.variables_that runs.kept state_of per_variable model_from
  staying-told = kept-told (entry index 0) state _ (rests_at s index switches) (λ v h. rests-told g v h switches moves long)

-- a run does not begin in a state that is not admissible
pub start-refused : (m : Model) (q : ℕ) (state : runs.State) (a : Bool) → a ≡ runs.admissible m q state → a ≡ false → false ≡ runs.start_allowed m q state
unfolding runs.start_allowed
start-refused m q state a p e =
    second-fails (ltb state.location (location_count m.components)) (runs.admissible m q state)
    (every (λ mode. eqb mode.start 1) (runs.modes_in m state.location) && every (λ mode. condition_holds q state.values mode.initial) (runs.modes_in m state.location))
    (sym p ∙ e)
