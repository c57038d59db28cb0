-- By the kind of the step: a flow keeps the modes, a jump leads to those of its switches. Assumes nothing.
use mathlib.Core.Path.{sym, ap, ◌∙◌}
use Rattle.second_sheets.specs.RunAnswers.{switches_in}
use Rattle.steps.specs.Held.{modes_next}
use Rattle.steps.proofs.jumps.modes_after.Goals as goal

pub modes_by-requires : goal.modes_by-requires
unfolding switches_in
modes_by-requires c =
    let p = c.requires in
    (p.0, p.1.switches c.in-Jump.field-0 c.in-Jump.w c.in-Jump.is)

pub returns-in-Flow : goal.returns-in-Flow
unfolding modes_next
returns-in-Flow c =
    let a = c.args in
    ap (modes_next a.model.now a.index.now a.modes) (sym c.in-Flow.is)

pub returns-in-Jump : goal.returns-in-Jump
unfolding modes_next switches_in
returns-in-Jump c =
    let a = c.args in
    c.modes_by.ensures ∙ ap (modes_next a.model.now a.index.now a.modes) (sym c.in-Jump.is)
