-- The sums agree at each number that the loop has passed, and those are 0 again; where it stops they differ. Assumes nothing.
use mathlib.Core.Path.{◌≡◌, refl, sym, ap, ◌∙◌}
use mathlib.Core.List.{List}
use Prim.Native.Nat.{ℕ, ◌+◌, ◌*◌}
use native.Mathlib.Omega.{arith}
use borrow.Author.Rules.{rules}
use borrow.Author.Count.{below_none, below_more}
use lib.IntN.{ℤ, pos, ◌*ℤ◌}
use lib.ListN.{get_or, set}
use mir.Syntax.{w64}
use mir.Val.{of_z}
use Rattle.farkas.proofs.Bits.{same_bits, times}
use Rattle.farkas.specs.Words.{signed_at}
use Rattle.farkas.specs.Sums.{cleared}
use Rattle.farkas.proofs.SumTest.{cleared-none, cleared-read, cleared-store, goal-agrees, goal-differs}
use Rattle.farkas.proofs.take_goal.Goals.{After-multiply_add, At-loop-i}
use Rattle.farkas.proofs.take_goal.Goals as goal

-- in a turn, what stands there is as it was
as_it_was : (c : At-loop-i) → get_or c.loop-i.sums (c.args.from + c.loop-i.i) (pos 0) ≡ get_or c.args.sums.now (c.args.from + c.loop-i.i) (pos 0)
as_it_was c =
    let a = c.args in
    ap (λ (ys : List ℤ). get_or ys (a.from + c.loop-i.i) (pos 0)) c.loop-i.invariant.0 ∙ cleared-read a.from c.loop-i.i a.sums.now (a.from + c.loop-i.i) refl

-- what is computed in a turn is k times the goal's number
computed : (c : After-multiply_add) → c.multiply_add.result ≡ pos c.args.k *ℤ signed_at c.args.words.now (c.args.at + 4 * c.loop-i.i)
computed c =
    let g = c.signed_word.result in
    c.multiply_add.ensures ∙ times c.args.k c.from-by.result g c.from-by.ensures c.ranges.k (record { sfits = c.signed_word.type_inv }) ∙ ap (λ (z : ℤ). pos c.args.k *ℤ z) c.signed_word.ensures.value

pub loop-i-preserved : goal.loop-i-preserved
loop-i-preserved c =
    let a = c.args in
    let i = c.loop-i.i in
    let x = get_or c.loop-i.sums (a.from + i) (pos 0) in
    let r = c.multiply_add.result in
    let e = same_bits x r (search rules) (record { sfits = c.multiply_add.type_inv }) c.if-sums-from.false in (
      ap (λ (ys : List ℤ). set ys (a.from + i) (pos 0)) c.loop-i.invariant.0 ∙ cleared-store a.from i a.sums.now (a.from + i) refl (omega arith),
      below_more _ i c.loop-i.invariant.1 (sym (as_it_was (goal.at.loop-i-preserved c).At-loop-i) ∙ e ∙ computed (goal.at.loop-i-preserved c).After-multiply_add),
    )

pub loop-i-init : goal.loop-i-init
loop-i-init c = (cleared-none c.args.from c.args.sums.now, below_none _)

pub returns-then-sums-from-clause-value : goal.returns-then-sums-from-clause-value
returns-then-sums-from-clause-value c =
    let a = c.args in
    let at = goal.at.returns-then-sums-from-clause-value c in
    sym
    (goal-differs a.k a.sums.now a.from a.words.now a.at a.count (omega arith) c.loop-i.i (omega arith)
    (λ e. c.if-sums-from.true (ap (of_z w64) (as_it_was at.At-loop-i ∙ e ∙ sym (computed at.After-multiply_add)))))

pub returns : goal.returns
returns c =
    let a = c.args in
    let l = c.loop-i in
    let whole : l.i ≡ a.count = omega arith in record { value = sym (goal-agrees a.k a.sums.now a.from a.words.now a.at a.count (omega arith) (λ j h. l.invariant.1 j (omega arith))); sums_after = λ e. l.invariant.0 ∙ ap (λ (n : ℕ). cleared a.from n a.sums.now) whole }
