-- By the form: whose row it is, if it is one. Assumes nothing.
use mathlib.Core.Path.{ap, ◌∙◌}
use native.Mathlib.Omega.{arith}
use Rattle.formats.specs.Versions.{strict_at}
use Rattle.sums.proofs.RowLaws.{mark-second, mark-model, mark-jump, mark-none}
use Rattle.sums.proofs.lines.line_strict.Goals as goal

pub row_place-requires : goal.row_place-requires
row_place-requires c = (omega (arith, c.requires.0), c.requires.1)

pub returns-then-line-eq1 : goal.returns-then-line-eq1
returns-then-line-eq1 c =
    let a = c.args in
    c.is_strict.ensures
    ∙ ap (strict_at a.version a.second.now) c.row_place.ensures
    ∙ mark-second a.model.now a.second.now a.version a.n a.line.form a.line.place a.line.row c.if-line-eq1.true

pub row_place-requires-then-line-lt5 : goal.row_place-requires-then-line-lt5
row_place-requires-then-line-lt5 c = (omega (arith, c.requires.0), c.requires.1)

pub returns-then-line-lt5 : goal.returns-then-line-lt5
returns-then-line-lt5 c =
    let a = c.args in
    c.is_strict-then-line-lt5.ensures
    ∙ ap (strict_at a.version a.model.now) c.row_place-then-line-lt5.ensures
    ∙ mark-model a.model.now a.second.now a.version a.n a.line.form a.line.place a.line.row c.if-line-lt5.true c.if-line-eq1.false

pub row_place-requires-then-line-eq7 : goal.row_place-requires-then-line-eq7
row_place-requires-then-line-eq7 c = (omega (arith, c.requires.0), c.requires.1)

pub returns-then-line-eq7 : goal.returns-then-line-eq7
returns-then-line-eq7 c =
    let a = c.args in
    c.is_strict-then-line-eq7.ensures
    ∙ ap (strict_at a.version a.model.now) c.row_place-then-line-eq7.ensures
    ∙ mark-jump a.model.now a.second.now a.version a.n a.line.form a.line.place a.line.row c.if-line-eq7.true

pub returns : goal.returns
returns c =
    let a = c.args in
    mark-none a.model.now a.second.now a.version a.n a.line.form a.line.place a.line.row (omega (arith, c.if-line-lt5.false)) c.if-line-eq7.false
