use mathlib.Core.Path.{◌≡◌}
use Prim.Native.Nat.{◌-◌, ◌≤◌}
use Rattle.hypotheses.specs.Tables.{end_of}
use Rattle.sums.specs.Summing.{segment_for}
use Rattle.sums.proofs.lines.segment_of.Given as goal

abbrev pub invariant-loop-g : goal.invariant-loop-g
invariant-loop-g l =
    (1 ≤ l.g) × ((l.from ≤ l.g) × ((l.g ≤ l.segments) × ((end_of l.table (l.g - 1) ≤ l.h) × (segment_for l.table l.h l.g (l.segments - l.g) ≡ segment_for l.table l.h l.from (l.segments - l.from)))))

abbrev pub decreases-loop-g : goal.decreases-loop-g
decreases-loop-g l = l.segments - l.g
