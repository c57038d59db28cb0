use Prim.Native.Nat.{◌-◌, ◌≤◌}
use Rattle.joint_lists.proofs.BatchLaws.{Filling}
use Rattle.joint_lists.proofs.records.fill.Given as goal

abbrev pub invariant-loop-x : goal.invariant-loop-x
invariant-loop-x l =
    Filling l.model l.index l.from.slot l.from.x l.from.count l.initial.words l.words l.x l.count × (l.x - l.slot.count ≤ l.from.x - l.slot.count)
