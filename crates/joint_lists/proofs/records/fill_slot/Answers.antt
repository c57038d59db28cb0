-- A slot of an event that has no joint switch at all is passed; any other is listed, and its table tells its records. Assumes nothing.
use mathlib.Core.Path.{◌≡◌, sym, ap, ◌∙◌}
use mathlib.Core.List.{List, ◌++◌}
use Prim.Native.Nat.{◌/◌, ◌%◌}
use native.Mathlib.Omega.{arith}
use Rattle.formats.specs.JointTotals.{event_total}
use Rattle.models.specs.Index.{entry, components_from}
use Rattle.joint_switches.proofs.JointLoops.{per-component-modes}
use Rattle.rules.specs.declared.Joint.{Joint}
use Rattle.joint_lists.specs.Batches.{records_in}
use Rattle.joint_lists.proofs.RecordLaws.{records-none}
use Rattle.joint_lists.proofs.BatchLaws.{slot-tells}
use Rattle.joint_lists.proofs.records.fill_slot.Goals as goal

pub returns-then-index-e-eq0-clause-result_after : goal.returns-then-index-e-eq0-clause-result_after
unfolding entry
returns-then-index-e-eq0-clause-result_after c =
    let a = c.args in
    let p = c.requires in
    let none : event_total (components_from a.model.now a.index.now) (a.from.slot % 16) ≡ 0 = sym (p.accepted.counted.events (a.from.slot % 16) (omega arith)) ∙ c.if-index-e-eq0.true in
    ap (λ (rs : List Joint). records_in a.words.now a.from.count ++ rs) (records-none p.accepted.good a.from.slot a.from.x p.slot_bound none)

pub list_slot-slot-requires-clause-location_bound : goal.list_slot-slot-requires-clause-location_bound
list_slot-slot-requires-clause-location_bound c =
    let a = c.args in
    (omega arith, per-component-modes a.model.now a.index.now (a.from.slot / 16) c.modes_at-modes.result _ c.modes_at-modes.ensures)

pub fill-requires-clause-tells : goal.fill-requires-clause-tells
fill-requires-clause-tells c =
    let a = c.args in
    let p = c.requires in
    let modes = per-component-modes a.model.now a.index.now (a.from.slot / 16) c.modes_at-modes.result _ c.modes_at-modes.ensures in
    slot-tells p.accepted.good p.accepted.few a.from.slot p.slot_bound c.modes_at-modes.result modes c.list_slot-slot.result c.list_slot-slot.new.ways c.list_slot-slot.ensures
