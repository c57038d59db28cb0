use mathlib.Core.Path.{◌≡◌}
use Prim.Native.Nat.{◌+◌}
use lib.ListN.{length}
use Rattle.scores.proofs.CountGoals.{fitting_on}
use Rattle.scores.proofs.counting.fitting_count.Given as goal

abbrev pub invariant-loop-u : goal.invariant-loop-u
invariant-loop-u l = l.count + length (fitting_on l.model l.index l.modes l.u) ≡ length (fitting_on l.model l.index l.modes 0)
