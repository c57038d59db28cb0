use mathlib.Core.Path.{◌≡◌}
use Prim.Native.Nat.{◌<◌}
use lib.ListN.{length}
use Rattle.formats.specs.Locations.{location_count}
use Rattle.joint_switches.proofs.JointLoops.{components_on, together_on}
use Rattle.joint_switches.proofs.SlotLaws.{PartsFrom}
use Rattle.joint_switches.proofs.slots.list_together.Given as goal

abbrev pub invariant-loop-k : goal.invariant-loop-k
invariant-loop-k l =
    (length l.counts ≡ 4) × (l.unit ≡ location_count (components_on l.s l.index l.k)) × (0 < l.count) × (l.count ≡ length (together_on l.s l.index l.modes l.e l.k)) × PartsFrom l.s l.index l.modes l.e l.counts l.ways l.k
