-- Both comparisons. Assumes nothing.
use mathlib.Core.Path.{sym, ap, ◌∙◌}
use mathlib.Core.Bool.{◌&&◌}
use borrow.Author.Tests.{le-leb, lt-leb}
use lib.Dec.{leb}
use Rattle.formats.specs.ModelSheet.{limit_fits}
use Rattle.model_sheets.proofs.limits.limit_fits.Goals as goal

pub returns-then-limit-ge1 : goal.returns-then-limit-ge1
unfolding limit_fits
returns-then-limit-ge1 c =
    let a = c.args in
    sym (ap (λ b. b && leb a.limit a.exam) (le-leb 1 a.limit c.if-limit-ge1.true))

pub returns-else-limit-ge1 : goal.returns-else-limit-ge1
unfolding limit_fits
returns-else-limit-ge1 c =
    let a = c.args in
    let e = lt-leb 1 a.limit c.if-limit-ge1.false in
    e ∙ sym (ap (λ b. b && leb a.limit a.exam) e)
