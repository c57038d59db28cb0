use mathlib.Core.Path.{◌≡◌}
use mathlib.Core.List.{◌++◌}
use Prim.Native.Nat.{◌/◌}
use lib.ListN.{replicate}
use Rattle.formats.specs.Locations.{location_count}
use Rattle.joint_switches.proofs.JointLoops.{components_on, modes_on}
use Rattle.joint_switches.proofs.joints.modes_at.Given as goal

abbrev pub invariant-loop-k : goal.invariant-loop-k
invariant-loop-k l = (l.left ≡ l.location / location_count (components_on l.s l.index l.k)) × (l.modes ≡ replicate l.k 0 ++ modes_on l.s l.index l.location l.k)
