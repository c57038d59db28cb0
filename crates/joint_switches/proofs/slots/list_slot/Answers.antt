-- By cases: no joint switch at all, event 0, or an event with a scope. Assumes nothing.
use mathlib.Core.Path.{◌≡◌, sym, ◌∙◌, subst}
use Prim.Native.Nat.{ℕ}
use native.Mathlib.Omega.{arith}
use lib.ListN.{replicate}
use Rattle.formats.specs.Joint.{switches_of}
use Rattle.formats.specs.JointTotals.{event_total}
use Rattle.models.specs.Index.{entry, components_from}
use Rattle.models.specs.Counts.{per_component}
use Rattle.joint_switches.specs.Slots.{ListedAs, silent_in}
use Rattle.formats.proofs.JointCounts.{switches-silent}
use Rattle.joint_switches.proofs.TableLaws.{known-present}
use Rattle.joint_switches.proofs.SlotLaws.{listed-none, event-empty, event-together}
use Rattle.joint_switches.proofs.slots.list_slot.Goals as goal

pub returns-then-index-e-eq0 : goal.returns-then-index-e-eq0
unfolding entry
returns-then-index-e-eq0 c =
    let a = c.args in
    let p = c.requires in
    let components = components_from a.s.now a.index.now in
    let none : event_total components a.e ≡ 0 = omega (arith, p.good_index.1.events a.e (omega (arith, p.index_bound.1)), c.if-index-e-eq0.true) in
    listed-none p.good_index.0 (switches_of components (per_component a.index.now a.modes) a.e) a.modes a.e (replicate 4 0) a.ways.now p.in_bounds (event-empty p.good_index.0 a.location a.modes a.e p.location_bound.0 p.location_bound.1 none)

pub returns-then-e-eq0 : goal.returns-then-e-eq0
returns-then-e-eq0 c =
    let a = c.args in
    let s = a.s.now in
    let index = a.index.now in
    let ways = c.list_silent.new.ways in
    let slot = c.list_silent.result in
    let zero = c.if-e-eq0.true in
    subst (λ list. ListedAs list s index a.modes a.e ways slot) (sym (switches-silent (components_from s index) (per_component index a.modes) a.e zero))
    (subst (λ (n : ℕ). ListedAs (silent_in s index a.modes) s index a.modes n ways slot) (sym zero) c.list_silent.ensures)

pub list_together-requires : goal.list_together-requires
list_together-requires c =
    let a = c.args in
    let p = c.requires in record { good_index = (p.good_index.0, known-present a.location a.modes p.good_index.0 p.location_bound.0 p.location_bound.1); index_bound = (p.index_bound.0, (omega (arith, c.if-e-eq0.false), p.index_bound.1)); in_bounds = p.in_bounds }

pub returns : goal.returns
unfolding entry
returns c =
    let a = c.args in
    let p = c.requires in
    let s = a.s.now in
    let index = a.index.now in
    let some : event_total (components_from s index) a.e ≡ 0 → ⊥ = λ z. c.if-index-e-eq0.false (p.good_index.1.events a.e (omega (arith, p.index_bound.1)) ∙ z) in
    subst (λ list. ListedAs list s index a.modes a.e c.list_together.new.ways c.list_together.result) (sym (event-together (components_from s index) (per_component index a.modes) a.e c.if-e-eq0.false some))
    c.list_together.ensures
