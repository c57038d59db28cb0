use mathlib.Core.Path.{◌≡◌}
use Rattle.joint_switches.proofs.JointLoops.{components_on, numbers_on}
use Rattle.formats.specs.JointTotals.{silent_into}
use Rattle.joint_switches.proofs.into.silent_into.Given as goal

abbrev pub invariant-loop-k : goal.invariant-loop-k
invariant-loop-k l = l.count ≡ silent_into (components_on l.s l.index l.k) (numbers_on l.index l.modes l.k)
