use mathlib.Core.Path.{◌≡◌}
use Prim.Native.Nat.{◌≤◌}
use lib.ListN.{length}
use Rattle.sums.specs.Summing.{SoFar, SoughtFrom}
use Rattle.sums.proofs.proofs.sum_entries.Given as goal

abbrev pub invariant-loop-i : goal.invariant-loop-i
invariant-loop-i l =
    (l._i ≤ l.count)
    × ((length l.sums ≡ l.group.width)
    × (SoFar l.model l.second l.n l.table l.group l.at l._i l.reached l.sums
    × SoughtFrom l.table l.group l.reached))
