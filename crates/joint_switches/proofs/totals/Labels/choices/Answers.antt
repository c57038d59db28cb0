-- By cases: in the scope or not. Assumes nothing.
use Rattle.models.specs.Counts.{component_at}
use Rattle.joint_switches.proofs.TotalLaws.{choices-member, choices-other}
use Rattle.joint_switches.proofs.totals.Labels.choices.Goals as goal

pub returns-then-in_scope : goal.returns-then-in_scope
returns-then-in_scope c =
    let a = c.args in
    rw (choices-member (component_at a.self.now.s.now a.self.now.index.now a.k) a.e c.in_scope.ensures c.if-in_scope.true) c.labelled.ensures

pub returns-else-in_scope : goal.returns-else-in_scope
returns-else-in_scope c =
    let a = c.args in
    rw (choices-other (component_at a.self.now.s.now a.self.now.index.now a.k) a.e c.in_scope.ensures c.if-in_scope.false) c.mode_count.ensures
