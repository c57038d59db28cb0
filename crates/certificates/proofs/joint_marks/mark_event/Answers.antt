-- Nothing where the event has no joint switch at all, else its list. Assumes nothing.
use mathlib.Core.Path.{◌≡◌, sym, ap, ◌∙◌, subst}
use Prim.Native.Nat.{ℕ}
use native.Mathlib.Omega.{arith}
use Rattle.models.specs.Index.{entry, components_from, model_from}
use Rattle.models.proofs.IndexLaws.{kept-none}
use Rattle.papers.specs.Paper.{regions_of}
use Rattle.formats.specs.Joint.{joints_of}
use Rattle.formats.specs.JointTotals.{event_total}
use Rattle.hypotheses.specs.Listing.{joint_tasks_for}
use Rattle.certificates.specs.Passed.{marked_from}
use Rattle.certificates.proofs.JointMarks.{marked-none, joint-none}
use Rattle.joint_switches.specs.Slots.{Listed}
use borrow.Author.Rules.{rules}
use Rattle.certificates.proofs.joint_marks.mark_event.Goals as goal

pub returns-then-paper-e-eq0-clause-value : goal.returns-then-paper-e-eq0-clause-value
unfolding entry
returns-then-paper-e-eq0-clause-value c =
    let a = c.args in
    let model = a.paper.model.now in
    let index = a.paper.index.now in
    let second = a.paper.second.now in
    let regions = a.paper.regions.now in
    let none : event_total (components_from model index) a.e ≡ 0 = omega (arith, c.args.paper.good.counted.events a.e (omega (arith, c.requires.stands.1)), c.if-paper-e-eq0.true) in
    marked-none second a.from.marking (joint-none c.args.paper.good.good (model_from model index) (regions_of model index second regions) a.from.location a.e c.requires.stands.0.below none)

pub returns-then-paper-e-eq0-clause-fresh : goal.returns-then-paper-e-eq0-clause-fresh
returns-then-paper-e-eq0-clause-fresh c = c.requires.ready.fresh

pub returns-then-paper-e-eq0-clause-kept : goal.returns-then-paper-e-eq0-clause-kept
returns-then-paper-e-eq0-clause-kept c = kept-none _ 96 c.args.table.now

pub list_slot-slot-requires : goal.list_slot-slot-requires
list_slot-slot-requires c = record { good_index = (c.args.paper.good.good, c.args.paper.good.counted); index_bound = (c.args.paper.good.few, c.requires.stands.1); location_bound = (c.requires.stands.0.below, c.requires.stands.0.here); in_bounds = search rules }

pub mark_switches-requires : goal.mark_switches-requires
mark_switches-requires c =
    let k = c.list_slot-slot in
    let same = k.ensures.event in record { stands = (c.requires.stands.0, (subst (λ (e : ℕ). Listed c.args.paper.model.now c.args.paper.index.now c.args.from.modes e k.new.ways k.result) (sym same) k.ensures, omega (arith, same, c.requires.stands.1))); ready = c.requires.ready }

pub returns-clause-value : goal.returns-clause-value
returns-clause-value c =
    let a = c.args in
    let model = a.paper.model.now in
    let index = a.paper.index.now in
    c.mark_switches.ensures.value
    ∙ ap (λ (e : ℕ). marked_from (joint_tasks_for model index a.paper.second.now a.paper.regions.now (joints_of (components_from model index) a.from.location e)) a.paper.second.now a.from.marking) c.list_slot-slot.ensures.event
