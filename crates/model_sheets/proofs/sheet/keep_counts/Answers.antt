-- The totals of the events so far stand in the index; then the two counts of all. Assumes nothing.
use mathlib.Core.Path.{refl, ◌∙◌}
use Prim.Native.Nat.{◌+◌, ◌≤◌}
use native.Mathlib.Omega.{arith}
use lib.ListN.{length, get_or, length-set}
use Rattle.model_sheets.proofs.LimitLaws.{keeping-starts, keeping-goes-on, counts-stand, only-counts}
use Rattle.model_sheets.proofs.sheet.keep_counts.Goals as goal

pub loop-e-init : goal.loop-e-init
loop-e-init c = (omega arith, refl, keeping-starts c.args.totals c.args.index.now)

pub offset_bounds-totals-e : goal.offset_bounds-totals-e
offset_bounds-totals-e c = omega (arith, c.loop-e-test.true)

pub bounds-totals-e : goal.bounds-totals-e
bounds-totals-e c = omega (arith, c.loop-e-test.true)

pub overflow_cast-index : goal.overflow_cast-index
overflow_cast-index c = omega (arith, c.requires.1.events c.loop-e.e c.loop-e-test.true)

pub overflow_add-index : goal.overflow_add-index
overflow_add-index c = omega (arith, c.loop-e-test.true)

pub offset_bounds-index-e : goal.offset_bounds-index-e
offset_bounds-index-e c = omega (arith, c.loop-e-test.true)

pub bounds-index-e : goal.bounds-index-e
bounds-index-e c = omega (arith, c.loop-e-test.true, c.loop-e.invariant.1, c.requires.0)

pub loop-e-preserved : goal.loop-e-preserved
loop-e-preserved c =
    let l = c.loop-e in
    let a = c.args in
    let long : 1004 ≤ length l.index = omega (arith, l.invariant.1, c.requires.0) in (
      omega (arith, c.loop-e-test.true),
      length-set l.index (988 + l.e) (get_or a.totals l.e 0) ∙ l.invariant.1,
      keeping-goes-on a.totals l.e a.index.now l.index c.loop-e-test.true long l.invariant.2,
    )

pub overflow_cast-index-2 : goal.overflow_cast-index-2
overflow_cast-index-2 c = omega (arith, c.requires.1.joined)

pub bounds-index-14 : goal.bounds-index-14
bounds-index-14 c = omega (arith, c.loop-e.invariant.1, c.requires.0)

pub overflow_cast-index-3 : goal.overflow_cast-index-3
overflow_cast-index-3 c = omega (arith, c.requires.1.located)

pub bounds-index-15 : goal.bounds-index-15
bounds-index-15 c = simp length-set (omega (arith, c.loop-e.invariant.1, c.requires.0))

pub shape_of-index : goal.shape_of-index
shape_of-index c = simp length-set c.loop-e.invariant.1

pub returns : goal.returns
returns c =
    let l = c.loop-e in
    let a = c.args in
    let long : 1004 ≤ length l.index = omega (arith, l.invariant.1, c.requires.0) in record { standing = counts-stand a.totals a.joints a.locations l.e a.index.now l.index c.loop-e-test.false long l.invariant.2; only_counts = only-counts a.totals a.joints a.locations l.e a.index.now l.index c.loop-e-test.false long l.invariant.2 }
