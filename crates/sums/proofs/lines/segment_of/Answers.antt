-- The hypothesis does not come before the segment, and comes before the end of the last. Assumes nothing.
use mathlib.Core.Path.{◌≡◌, refl, ap, ◌∙◌}
use Prim.Native.Nat.{ℕ, ◌+◌, ◌*◌, ◌-◌, ◌≤◌, ◌<◌}
use native.Mathlib.Omega.{arith}
use Rattle.models.specs.Index.{entry}
use Rattle.hypotheses.specs.Tables.{end_of}
use Rattle.sums.proofs.LineLaws.{not_last, segment-here, segment-later}
use Rattle.sums.proofs.lines.segment_of.Goals.{After-loop-g, In-loop-g}
use Rattle.sums.proofs.lines.segment_of.Goals as goal

pub loop-g-init : goal.loop-g-init
loop-g-init c = (c.requires.le_from.0, (omega arith, (c.requires.le_from.1.0, (c.requires.from_bound.0, refl))))

pub overflow_mul-g : goal.overflow_mul-g
overflow_mul-g c = omega (arith, c.requires.le_from.1.1.0)

pub offset_bounds-table-g : goal.offset_bounds-table-g
offset_bounds-table-g c = omega (arith, c.requires.le_from.1.1.0)

pub bounds-table-g : goal.bounds-table-g
bounds-table-g c = omega (arith, c.loop-g.invariant.1.1.0, c.requires.le_from.1.1.0, c.requires.le_from.1.1.1)

pub overflow_cast-table : goal.overflow_cast-table
overflow_cast-table c = omega (arith, c.shared_slice_known-1.given (4 * c.loop-g.g))

-- the test, by the end of the segment
reached : (c : In-loop-g) → end_of c.args.table.now c.loop-g.g ≤ c.args.h
unfolding entry
reached c = omega (arith, c.loop-g-test.true)

past : (c : After-loop-g) → c.args.h < end_of c.args.table.now c.loop-g.g
unfolding entry
past c = omega (arith, c.loop-g-test.false)

more : (c : In-loop-g) → c.loop-g.g < c.args.segments
more c =
    let a = c.args in
    let l = c.loop-g in
    not_last a.table.now l.g a.segments a.h l.invariant.1.1.0 (reached c) c.requires.from_bound.1

pub overflow_add-g : goal.overflow_add-g
overflow_add-g c = omega (arith, more c, c.requires.le_from.1.1.0)

pub loop-g-smaller : goal.loop-g-smaller
loop-g-smaller c = omega (arith, more c)

pub loop-g-preserved : goal.loop-g-preserved
loop-g-preserved c =
    let a = c.args in
    let l = c.loop-g in
    let same : end_of a.table.now (l.g + 1 - 1) ≡ end_of a.table.now l.g = ap (end_of a.table.now) (less l.g) in
    let later = segment-later a.table.now a.h l.g a.segments (more c) (reached c) in
    (omega arith, (omega arith, (omega (arith, more c), (omega (arith, same, reached c), later ∙ l.invariant.1.1.1.1))))
  where
    less : (g : ℕ) → g + 1 - 1 ≡ g
    less g = omega arith

pub returns : goal.returns
returns c =
    let l = c.loop-g in
    let a = c.args in (
      (segment-here a.table.now a.h l.g (a.segments - l.g) (past c) ∙ l.invariant.1.1.1.1, l.invariant.1.0),
      record { least = l.invariant.0; most = l.invariant.1.1.0; from = l.invariant.1.1.1.0; below = past c },
    )
