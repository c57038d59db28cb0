use Rattle.fair_conditions.proofs.KeptLaws.{Kept}
use Rattle.fair_conditions.proofs.divisors.keep_divided.Given as goal

abbrev pub invariant-loop-i : goal.invariant-loop-i
invariant-loop-i l = Kept l.s l.at l.count l.divisor l.base l.initial.kept l.kept l.i
