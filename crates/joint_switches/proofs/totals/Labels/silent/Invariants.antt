use mathlib.Core.Path.{◌≡◌}
use Rattle.formats.specs.Locations.{location_count}
use Rattle.joint_switches.proofs.JointLoops.{components_on}
use Rattle.formats.specs.JointTotals.{silent_total}
use Rattle.joint_switches.proofs.totals.Labels.silent.Given as goal

abbrev pub invariant-loop-k : goal.invariant-loop-k
invariant-loop-k l = (l.count ≡ silent_total (components_on l.self.s.now l.self.index.now l.k)) × (l.unit ≡ location_count (components_on l.self.s.now l.self.index.now l.k))
