use Prim.Native.Nat.{◌+◌, ◌*◌}
use Rattle.models.specs.Index.{Kept}
use Rattle.joint_switches.proofs.NumberedLaws.{Counting}
use Rattle.joint_switches.proofs.numbered.count_part.Given as goal

abbrev pub invariant-loop-i : goal.invariant-loop-i
invariant-loop-i l = Counting l.by.width l.by.step l.s l.index l.k l.i l.table × Kept (l.by.width * l.k) (l.by.width * l.k + l.by.width) l.initial.table l.table
