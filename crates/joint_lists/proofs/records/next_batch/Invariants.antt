use Prim.Native.Nat.{◌+◌, ◌-◌}
use Rattle.joint_lists.proofs.BatchLaws.{Batching}
use Rattle.joint_lists.proofs.records.next_batch.Given as goal

abbrev pub invariant-loop-place : goal.invariant-loop-place
invariant-loop-place l = Batching l.model l.index l.fn.at.slot l.fn.at.x l.words l.place.slot l.place.x l.place.count

abbrev pub decreases-loop-place : goal.decreases-loop-place
decreases-loop-place l = (l.slots - l.place.slot) + (64 - l.place.count)
