use Rattle.fair_conditions.proofs.PutLaws.{NumbersPut}
use Rattle.fair_conditions.proofs.conditions.put_numbers.Given as goal

abbrev pub invariant-loop-i : goal.invariant-loop-i
invariant-loop-i l = NumbersPut l.initial.out l.at l.kept l.base l.count l.out l.next l.i
