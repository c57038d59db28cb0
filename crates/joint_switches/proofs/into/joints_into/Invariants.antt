use mathlib.Core.Path.{◌≡◌}
use Rattle.formats.specs.Joint.{count_up}
use Rattle.formats.specs.JointTotals.{sum_over, event_into}
use Rattle.models.specs.Index.{components_from}
use Rattle.models.specs.Counts.{per_component}
use Rattle.joint_switches.proofs.into.joints_into.Given as goal

abbrev pub invariant-loop-e : goal.invariant-loop-e
invariant-loop-e l = l.count ≡ sum_over (event_into (components_from l.s l.index) (per_component l.index l.modes)) (count_up 0 l.e)
