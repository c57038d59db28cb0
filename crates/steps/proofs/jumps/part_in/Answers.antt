-- By cases: a member of the scope, and any other component. Assumes nothing.
use mathlib.Core.Path.{sym, ◌∙◌}
use Rattle.formats.specs.Joint.{stays}
use Rattle.models.specs.Counts.{component_at}
use Rattle.steps.proofs.JumpLaws.{part-moves, part_stays}
use Rattle.steps.proofs.jumps.part_in.Goals as goal

pub returns-then-in_scope : goal.returns-then-in_scope
returns-then-in_scope c =
    let a = c.args in
    let w = component_at a.model.now a.index.now a.k in
    c.moves_by.ensures ∙ sym (part-moves w a.mode a.e a.i (sym c.if-in_scope.true ∙ c.in_scope.ensures))

pub returns-else-in_scope : goal.returns-else-in_scope
unfolding stays
returns-else-in_scope c =
    let a = c.args in
    let w = component_at a.model.now a.index.now a.k in
    sym (part_stays w a.mode a.e a.i (sym c.if-in_scope.false ∙ c.in_scope.ensures))
