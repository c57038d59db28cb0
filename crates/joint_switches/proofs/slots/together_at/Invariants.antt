use mathlib.Core.Path.{◌≡◌}
use Prim.Native.Nat.{◌+◌, ◌*◌, ◌≤◌}
use lib.ListN.{length}
use Rattle.models.specs.Index.{entry}
use Rattle.joint_switches.proofs.DigitLaws.{Taking}
use Rattle.joint_switches.proofs.slots.together_at.Given as goal

abbrev pub invariant-loop-k : goal.invariant-loop-k
invariant-loop-k l =
    (l.target + 65535 * l.k ≤ 262140) × (length l.switches ≡ 4) × Taking l.counts l.ways (entry l.index 1) l.x l.k l.left l.switches l.target
