-- By cases: in the scope or not. Assumes nothing.
use mathlib.Core.Path.{sym}
use Rattle.models.specs.Counts.{component_at}
use Rattle.joint_switches.proofs.IntoLaws.{arrivals-member, arrivals-other}
use Rattle.joint_switches.proofs.into.arrivals_of.Goals as goal

pub returns-then-in_scope : goal.returns-then-in_scope
returns-then-in_scope c =
    let a = c.args in
    rw (arrivals-member (component_at a.s.now a.index.now a.k) a.mode a.e c.in_scope.ensures c.if-in_scope.true) c.entering_of.ensures

pub returns-else-in_scope : goal.returns-else-in_scope
returns-else-in_scope c =
    let a = c.args in
    sym (arrivals-other (component_at a.s.now a.index.now a.k) a.mode a.e c.in_scope.ensures c.if-in_scope.false)
