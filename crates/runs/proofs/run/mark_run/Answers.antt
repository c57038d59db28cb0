-- The paper is opened, then the run sheet's body is marked, with a slice of 24 numbers for its states. Assumes nothing.
use mathlib.Core.Path.{◌∙◌}
use Rattle.runs.proofs.RunCode.{run-refused, run-open}
use Rattle.runs.proofs.run.mark_run.Goals as goal

pub returns-in-Ok : goal.returns-in-Ok
returns-in-Ok c =
    let a = c.args in
    c.mark_body.ensures ∙ run-open a.limits a.model.now a.second.now c.in-Ok.ensures.open

pub returns-in-Err : goal.returns-in-Err
returns-in-Err c =
    let a = c.args in
    run-refused a.limits a.model.now a.second.now c.in-Err.answer c.in-Err.ensures.value c.in-Err.ensures.refused
