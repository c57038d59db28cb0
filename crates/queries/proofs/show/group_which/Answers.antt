-- By the number of the group. Assumes nothing.
use mathlib.Core.Path.{◌∙◌}
use native.Mathlib.Omega.{arith}
use Rattle.queries.proofs.ShowLaws.{group-unsafe, group-rows}
use Rattle.queries.proofs.show.group_which.Goals as goal

pub returns-in-0 : goal.returns-in-0
returns-in-0 c =
    let a = c.args in
    c.told.ensures ∙ group-rows a.size a.location a.g a.line (omega (arith, c.in-0.is))

pub returns-in_default : goal.returns-in_default
returns-in_default c =
    let a = c.args in
    c.told-in_default.ensures ∙ group-unsafe a.size a.location a.g a.line (omega (arith, c.in_default))
