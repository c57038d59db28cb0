use Rattle.hypotheses.proofs.TableLaws.{Pushing}
use Rattle.hypotheses.proofs.ModeLines.{modes_on}
use Rattle.hypotheses.proofs.tables.push_modes.Given as goal

abbrev pub invariant-loop-k : goal.invariant-loop-k
invariant-loop-k l = Pushing (λ (u : Unit {0}). modes_on l.form l.offset l.index l.modes) l.initial.table l.at l.k l.table l.to
