use Rattle.fair_conditions.proofs.PutLaws.{RowsPut}
use Rattle.fair_conditions.proofs.conditions.put_rows.Given as goal

abbrev pub invariant-loop-i : goal.invariant-loop-i
invariant-loop-i l = RowsPut l.initial.out l.at l.kept l.sorted l.count l.version l.n l.out l.next l.i
