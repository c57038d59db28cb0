use Rattle.hypotheses.proofs.TableLaws.{Pushing}
use Rattle.hypotheses.proofs.ModeLines.{switches_on}
use Rattle.hypotheses.proofs.tables.push_switches.Given as goal

abbrev pub invariant-loop-k : goal.invariant-loop-k
invariant-loop-k l = Pushing (λ (u : Unit {0}). switches_on l.index l.switches) l.initial.table l.at l.k l.table l.to
