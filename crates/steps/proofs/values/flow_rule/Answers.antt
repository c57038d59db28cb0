-- The rates are the rows of the present modes at offset 5, at the changes of the values. Assumes nothing.
use mathlib.Core.Path.{◌≡◌, refl, sym, ap, ap₂, ◌∙◌, subst}
use mathlib.Core.Bool.{Bool, true, not, ◌&&◌, ◌||◌, true≢false}
use mathlib.Core.List.{List}
use Prim.Native.Nat.{ℕ, ◌*◌, ◌-◌, ◌≤◌}
use native.Mathlib.Omega.{arith}
use borrow.Author.Rules.{rules}
use borrow.Author.Tests.{eq-eqb, ne_eqb}
use lib.Dec.{eqb}
use lib.IntN.{ℤ}
use lib.ListN.{length, take, drop}
use Rattle.farkas.specs.Lists.{every}
use Rattle.formats.specs.Joint.{count_up}
use Rattle.models.specs.Index.{model_from, entry}
use Rattle.rules.specs.Runs as runs
use Rattle.steps.specs.Held.{SmallPoint, state_in, values_after, with_changes, mode_holds, same_at, kept_at}
use Rattle.steps.proofs.ValueLaws.{flow-fails, flow-drifts, flow-lasts, flow-stands}
use Rattle.papers.specs.Blanks.{still_at}
use Rattle.steps.proofs.SliceLaws.{part-rest, changes-small}
use Rattle.steps.proofs.StandLaws.{stands-in}
use Rattle.steps.proofs.ValueStates.{changes-same, changes-kept, flow-told}
use Rattle.steps.proofs.values.flow_rule.Goals.{After-changes_into, After-modes_hold, Then-still_kept, Start, then-modes_hold, else-modes_hold}
use Rattle.steps.proofs.values.flow_rule.Goals as goal

modes-length : (c : Start) → length c.args.modes ≡ 4
modes-length c = search rules

-- the slice with the changes, by the index's number of variables
changed : (c : After-changes_into) → c.changes_into.new.state ≡ with_changes (entry c.args.index.now 0) c.args.state.now
changed c = c.changes_into.ensures ∙ ap (λ (k : ℕ). with_changes k c.args.state.now) c.number_at-n.ensures

-- the point that is tested is the part from the changes on
point-is : (c : After-changes_into) → take (length c.changes_into.new.state - 2 * c.number_at-n.result) (drop (2 * c.number_at-n.result) c.changes_into.new.state) ≡ drop (2 * entry c.args.index.now 0) (with_changes (entry c.args.index.now 0) c.args.state.now)
point-is c =
    part-rest (2 * c.number_at-n.result) c.changes_into.new.state
    ∙ ap₂ (λ (k : ℕ) (xs : List ℤ). drop (2 * k) xs) c.number_at-n.ensures (changed c)

pub modes_hold-requires-clause-small_point : goal.modes_hold-requires-clause-small_point
modes_hold-requires-clause-small_point c =
    let a = c.args in
    let n = entry a.index.now 0 in
    (subst (SmallPoint n) (sym (point-is (goal.at.modes_hold-requires-clause-small_point c).After-changes_into)) (changes-small n a.state.now c.requires.small_state.room c.requires.small_state.values c.requires.located.0.good.most), c.requires.located.1)

-- what is asked of the values: that blanks are kept, and that all stand still
abbrev blanks : Start → Bool
blanks s =
    let n = entry s.args.index.now 0 in
    every (kept_at (still_at s.args.model.now s.args.index.now s.args.modes) n s.args.state.now) (count_up 0 n)

abbrev still : Start → Bool
still s =
    let n = entry s.args.index.now 0 in
    every (same_at n s.args.state.now) (count_up 0 n)

-- the rule by its three tests
rule-is : (c : After-modes_hold) (k b : Bool) → k ≡ blanks (goal.at.After-modes_hold c).Start → b ≡ still (goal.at.After-modes_hold c).Start → (c.modes_hold.result && (k && (not (eqb c.args.time 0) || b))) ≡ runs.flow_rule (model_from c.args.model.now c.args.index.now) (state_in c.args.model.now c.args.index.now c.args.modes c.args.state.now) c.args.time (values_after c.args.index.now c.args.state.now)
rule-is c k b t p =
    let a = c.args in
    let w = c.requires.located.0 in
    let model = a.model.now in
    let index = a.index.now in
    let long : entry index 1 ≤ length a.modes = omega (arith, modes-length (goal.at.After-modes_hold c).Start, w.good.few) in
    let rates = c.modes_hold.ensures ∙ ap (λ (xs : List ℤ). every (mode_holds model index a.modes 5 a.time xs) (count_up 0 (entry index 1))) (point-is (goal.at.After-modes_hold c).After-changes_into) in
    flow-told w.good _ a.modes (stands-in a.modes w.good w.known long) long a.time a.state.now c.requires.small_state.room c.modes_hold.result k b rates t p

-- the test of blanks, on the values without their changes
blanks-are : (c : After-changes_into) (r : Bool) → r ≡ every (kept_at (still_at c.args.model.now c.args.index.now c.args.modes) (entry c.args.index.now 0) c.changes_into.new.state) (count_up 0 (entry c.args.index.now 0)) → r ≡ blanks (goal.at.After-changes_into c).Start
blanks-are c r e =
    let a = c.args in
    let n = entry a.index.now 0 in
    let test = still_at a.model.now a.index.now a.modes in
    e ∙ ap (λ (xs : List ℤ). every (kept_at test n xs) (count_up 0 n)) (changed c) ∙ changes-kept n a.state.now test c.requires.small_state.room

-- the first two tests, where both passed
passed : (c : Then-still_kept) → (c.modes_hold.result ≡ true) × (blanks (goal.at.Then-still_kept c).Start ≡ true)
passed c =
    elim c.if-modes_hold.branch [
      | then-modes_hold w ↦ (w.if-modes_hold.true, sym (blanks-are (goal.at.Then-still_kept c).After-changes_into w.still_kept.result w.still_kept.ensures) ∙ sym w.value-is ∙ c.if-still_kept.true)
      | else-modes_hold w ↦ absurd (true≢false (sym c.if-still_kept.true ∙ w.value-is ∙ w.if-modes_hold.false))
    ]

pub returns-then-time-ne0-clause-value : goal.returns-then-time-ne0-clause-value
returns-then-time-ne0-clause-value c =
    let start = (goal.at.returns-then-time-ne0-clause-value c).Start in
    let p = passed (goal.at.returns-then-time-ne0-clause-value c).Then-still_kept in
    let moves = ne_eqb c.args.time 0 c.if-time-ne0.true in
    ap not moves ∙ flow-lasts c.modes_hold.result (blanks start) (eqb c.args.time 0) (still start) p.0 p.1 moves
    ∙ rule-is (goal.at.returns-then-time-ne0-clause-value c).After-modes_hold (blanks start) (still start) refl refl

pub returns-else-time-ne0-clause-value : goal.returns-else-time-ne0-clause-value
returns-else-time-ne0-clause-value c =
    let start = (goal.at.returns-else-time-ne0-clause-value c).Start in
    let p = passed (goal.at.returns-else-time-ne0-clause-value c).Then-still_kept in
    let n = entry c.args.index.now 0 in
    let state = c.args.state.now in
    let same = c.same_values in
    let told : same.result ≡ still start =
    same.ensures
    ∙ ap₂ (λ (k : ℕ) (xs : List ℤ). every (same_at k xs) (count_up 0 k)) c.number_at-n.ensures (changed (goal.at.returns-else-time-ne0-clause-value c).After-changes_into)
    ∙ changes-same n state c.requires.small_state.room in
    flow-stands c.modes_hold.result (blanks start) (eqb c.args.time 0) same.result p.0 p.1 (eq-eqb _ _ c.if-time-ne0.false)
    ∙ rule-is (goal.at.returns-else-time-ne0-clause-value c).After-modes_hold (blanks start) same.result refl told

pub returns-else-still_kept-clause-value : goal.returns-else-still_kept-clause-value
returns-else-still_kept-clause-value c =
    let start = (goal.at.returns-else-still_kept-clause-value c).Start in
    let after = (goal.at.returns-else-still_kept-clause-value c).After-modes_hold in
    let lost = c.if-still_kept.false in
    lost
    ∙ elim c.if-modes_hold.branch [
      | then-modes_hold w ↦ flow-drifts c.modes_hold.result (blanks start) (eqb c.args.time 0) (still start) w.if-modes_hold.true (sym (blanks-are (goal.at.returns-else-still_kept-clause-value c).After-changes_into w.still_kept.result w.still_kept.ensures) ∙ sym w.value-is ∙ lost)
      | else-modes_hold w ↦ flow-fails c.modes_hold.result (blanks start) (eqb c.args.time 0) (still start) w.if-modes_hold.false
    ]
    ∙ rule-is after (blanks start) (still start) refl refl
