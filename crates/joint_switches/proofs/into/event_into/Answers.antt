-- By cases: the index says that the event has no joint switch, or that it has some. Assumes nothing.
use mathlib.Core.Path.{◌≡◌, sym, ◌∙◌}
use native.Mathlib.Omega.{arith}
use Rattle.formats.specs.JointTotals.{event_total}
use Rattle.models.specs.Index.{entry, components_from}
use Rattle.models.specs.Counts.{per_component}
use Rattle.formats.proofs.JointProduct.{countable}
use Rattle.formats.proofs.JointsInto.{into-none}
use Rattle.models.proofs.GoodIndexLaws.{good-components}
use Rattle.joint_switches.proofs.IntoLaws.{event-some}
use Rattle.joint_switches.proofs.into.event_into.Goals as goal

pub returns-then-index-e-eq0 : goal.returns-then-index-e-eq0
unfolding entry
returns-then-index-e-eq0 c =
    let a = c.args in
    let p = c.requires in
    let none : event_total (components_from a.s.now a.index.now) a.e ≡ 0 = omega (arith, p.counted.0.events a.e (omega arith), c.if-index-e-eq0.true) in
    sym (into-none (countable (good-components p.good_index.0)) (per_component a.index.now a.modes) a.e (λ h. omega (arith, h, p.le_e.0)) none)

pub returns : goal.returns
unfolding entry
returns c =
    let a = c.args in
    let p = c.requires in
    c.together_into.ensures
    ∙ event-some (components_from a.s.now a.index.now) (per_component a.index.now a.modes) a.e p.le_e.0
    (λ h. omega (arith, p.counted.0.events a.e (omega arith), h, c.if-index-e-eq0.false))
