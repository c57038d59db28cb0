-- Each turn packs the record that stands first in what is left of the slot; a slot that is passed leaves the next one. Assumes nothing.
use mathlib.Core.Path.{◌≡◌, ap, ◌∙◌}
use Prim.Native.Nat.{ℕ, ◌+◌, ◌-◌}
use mathlib.Core.List.{◌++◌}
use native.Mathlib.Omega.{arith}
use Rattle.joint_lists.specs.Batches.{record_by, records_in}
use Rattle.joint_lists.specs.Records.{records_from}
use Rattle.joint_lists.proofs.RecordLaws.{records-here}
use Rattle.joint_lists.proofs.BatchLaws.{filling-goes-on, filling-passes}
use Rattle.joint_lists.proofs.records.fill.Goals as goal

pub loop-x-preserved : goal.loop-x-preserved
loop-x-preserved c =
    let a = c.args in
    let l = c.loop-x in
    let inside = c.loop-x-test.true in
    let tells = c.requires.tells in
    let model = a.model.now in
    let index = a.index.now in
    let told = c.packed.ensures ∙ ap (record_by a.from.slot) c.landing_at.ensures ∙ tells.records l.x inside in
    (filling-goes-on model index a.from.slot a.from.x a.from.count a.words.now l.words l.x l.count l.invariant.0 c.packed.result c.if-count-ge64.false (records-here model index a.from.slot l.x _ c.requires.slot_bound.0 (omega (arith, inside, tells.counted)) told), omega arith)

pub returns-clause-result_after : goal.returns-clause-result_after
returns-clause-result_after c =
    let a = c.args in
    let l = c.loop-x in
    let left : c.saturating_sub.result ≡ l.x - a.slot.count = omega (arith, c.saturating_sub.ensures, l.invariant.0.first, l.invariant.1) in
    ap (λ (x : ℕ). records_in l.words l.count ++ records_from a.model.now a.index.now (a.from.slot + 1) x) left
    ∙ filling-passes a.model.now a.index.now a.from.slot a.from.x a.from.count a.words.now l.words l.x l.count l.invariant.0 a.slot.count c.requires.slot_bound.0 c.requires.tells.counted c.loop-x-test.false
