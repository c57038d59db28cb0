use mathlib.Core.Path.{◌≡◌}
use Rattle.steps.proofs.JumpLaws.{Landed}
use Rattle.steps.proofs.jumps.modes_by.Given as goal

abbrev pub invariant-loop-k : goal.invariant-loop-k
invariant-loop-k l = l.after ≡ Landed l.model l.index l.modes l.switches l.k
