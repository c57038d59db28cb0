use mathlib.Core.Path.{◌≡◌}
use Rattle.formats.specs.Joint.{scope_mask}
use Rattle.joint_switches.proofs.JointLoops.{components_on}
use Rattle.joint_switches.proofs.joints.scope_mask.Given as goal

abbrev pub invariant-loop-k : goal.invariant-loop-k
invariant-loop-k l = l.mask ≡ scope_mask (components_on l.s l.index l.k) l.e
