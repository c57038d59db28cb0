use Rattle.fair_conditions.proofs.GatherLaws.{Gathered}
use Rattle.fair_conditions.proofs.conditions.gather.Given as goal

abbrev pub invariant-loop-j : goal.invariant-loop-j
invariant-loop-j l = Gathered l.s l.place l.version l.n l.rows l.initial.kept l.initial.sorted l.kept l.sorted l.count l.j
