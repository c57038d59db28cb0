use Rattle.fair_conditions.proofs.CommonLaws.{Alike}
use Rattle.fair_conditions.proofs.divisors.common.Given as goal

abbrev pub invariant-loop-y : goal.invariant-loop-y
invariant-loop-y l = Alike l.a l.b l.x l.y

abbrev pub decreases-loop-y : goal.decreases-loop-y
decreases-loop-y l = l.y
