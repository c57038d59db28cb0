-- Slot after slot is packed, until the words are full or the slots are passed. Assumes nothing.
use native.Mathlib.Omega.{arith}
use Rattle.models.specs.Index.{entry}
use Rattle.joint_lists.proofs.BatchLaws.{batching-starts, batching-over}
use Rattle.joint_lists.proofs.records.next_batch.Goals as goal

pub loop-place-init : goal.loop-place-init
loop-place-init c =
    let a = c.args in
    batching-starts a.model.now a.index a.at.slot a.at.x _ (omega arith)

pub fill_slot-place-requires-clause-slot_bound : goal.fill_slot-place-requires-clause-slot_bound
unfolding entry
fill_slot-place-requires-clause-slot_bound c = omega (arith, c.requires.counted.located)

pub returns-after-loop-place : goal.returns-after-loop-place
unfolding entry
returns-after-loop-place c =
    let a = c.args in
    let l = c.loop-place in
    batching-over a.model.now a.index a.at.slot a.at.x l.words l.place.slot l.place.x l.place.count l.invariant (omega (arith, c.requires.counted.located))
