-- The sums are those of the first i entries, turn by turn: at i = 0 they are 0, and one turn adds one entry. Assumes nothing.
use Rattle.std.proofs.Common.{rules, Err, ◌≡◌, sym, ap, ◌∙◌, subst}
use mathlib.Core.Bool.{false}
use mathlib.Core.List.{List}
use Prim.Native.Nat.{ℕ, ◌+◌, ◌<◌}
use native.Mathlib.Omega.{arith}
use lib.IntN.{ℤ, pos}
use lib.ListN.{length, length-replicate}
use Rattle.farkas.specs.Sizes.{Bytes}
use Rattle.sums.specs.declared.Reached.{Reached}
use Rattle.std.specs.Prelude.{Result}
use Rattle.fields.specs.declared.Refusal.{Refusal}
use Rattle.sums.specs.Summing.{SoFar, SummedAfter}
use Rattle.sums.proofs.EntryLaws.{so-far-none, so-far-room, refused-on}
use Rattle.sums.proofs.proofs.sum_entries.Goals.{After-sums-1, Start}
use Rattle.sums.proofs.proofs.sum_entries.Goals as goal

-- the sums at first
width : (s : Start) → length s.args.sums.now ≡ s.args.group.width
width s = ap length s.requires.in_bounds.1.1.zeros ∙ length-replicate s.args.group.width (pos 0)

pub loop-i-init : goal.loop-i-init
loop-i-init c =
    let a = c.args in
    let begin : Reached = record { place = a.at; least = 0; segment = 1; bound = pos 0; strict = false } in (
      omega arith,
      (
        width (goal.at.loop-i-init c).Start,
        (
          subst (SoFar a.model.now a.second.now a.n a.table.now a.group a.at 0 begin) (sym c.requires.in_bounds.1.1.zeros) (so-far-none a.at 1),
          record { first = omega arith; most = λ h. h; before = omega (arith, c.requires.in_bounds.1.0.stacked.first) },
        ),
      ),
    )

pub add_entry-requires : goal.add_entry-requires
add_entry-requires c =
    let a = c.args in
    let l = c.loop-i in
    let model : Bytes a.model.now = λ i. omega (arith, c.shared_slice_known-1.given i) in
    let second : Bytes a.second.now = λ i. omega (arith, c.shared_slice_known-2-1.given i) in
    let few : l._i < 128 = omega (arith, c.requires.model_len_bound.1.1.1, c.loop-i-test.true) in
    let room = so-far-room l.invariant.1.1.0 model second few in record { model_len_bound = (c.requires.model_len_bound.0, (c.requires.model_len_bound.1.0, c.requires.model_len_bound.1.1.0)); in_bounds = (c.requires.in_bounds.0, (c.requires.in_bounds.1.0, l.invariant.1.0)); sought_from = (l.invariant.1.1.1, room) }

-- what is known after so many entries, and after a turn
abbrev Known : Start → ℕ → List ℤ → Result Reached Refusal → Type 0
Known s i sums r =
    SummedAfter s.args.model.now s.args.second.now s.args.n s.args.table.now s.args.group s.args.at i sums r

after_turn : (c : After-sums-1) → Known (goal.at.After-sums-1 c).Start (c.loop-i._i + 1) c.add_entry.new.sums c.add_entry.result
after_turn c = c.add_entry.ensures c.args.at c.loop-i._i c.loop-i.invariant.1.1.0

pub returns-in_err-reached : goal.returns-in_err-reached
unfolding SummedAfter
returns-in_err-reached c =
    let l = c.loop-i in
    let first = subst (Known (goal.at.returns-in_err-reached c).Start (l._i + 1) c.add_entry.new.sums) c.in_err-reached.was (after_turn (goal.at.returns-in_err-reached c).After-sums-1) in
    let same : c.from_residual.result ≡ Err c.in_err-reached.field-0.0 = search rules in
    subst (Known (goal.at.returns-in_err-reached c).Start c.args.count c.add_entry.new.sums) (sym same) (refused-on c.args.group.hypotheses (l._i + 1) c.args.second.now c.args.at _ _ c.args.count (omega (arith, c.loop-i-test.true)) first)

pub loop-i-preserved : goal.loop-i-preserved
unfolding SummedAfter
loop-i-preserved c =
    let l = c.loop-i in
    let k = c.add_entry in
    let next = subst (Known (goal.at.loop-i-preserved c).Start (l._i + 1) k.new.sums) c.in_ok-reached.was (after_turn (goal.at.loop-i-preserved c).After-sums-1) in
    (omega (arith, c.loop-i-test.true), (k.auto.sums ∙ l.invariant.1.0, next))

pub shape_of-sums : goal.shape_of-sums
shape_of-sums c = c.loop-i.invariant.1.0 ∙ sym (width (goal.at.shape_of-sums c).Start)

pub returns : goal.returns
unfolding SummedAfter
returns c =
    let a = c.args in
    let l = c.loop-i in
    let all : l._i ≡ a.count = omega (arith, l.invariant.0, c.loop-i-test.false) in
    (subst (λ (k : ℕ). SoFar a.model.now a.second.now a.n a.table.now a.group a.at k l.reached l.sums) all l.invariant.1.1.0, l.invariant.1.1.1)
