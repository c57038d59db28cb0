use mathlib.Core.Path.{◌≡◌}
use Rattle.formats.specs.Locations.{location_count}
use Rattle.joint_switches.proofs.JointLoops.{components_on}
use Rattle.joint_switches.proofs.SilentLaws.{Passed}
use Rattle.joint_switches.proofs.slots.list_silent.Given as goal

abbrev pub invariant-loop-k : goal.invariant-loop-k
invariant-loop-k l =
    (l.unit ≡ location_count (components_on l.s l.index l.k)) × Passed l.s l.index l.modes l.k l.at l.ways
