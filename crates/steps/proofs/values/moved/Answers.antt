-- The value first, then what keeps it. Assumes nothing.
use Rattle.papers.specs.Blanks.{keeps_at}
use Rattle.steps.proofs.ValueLaws.{kept_same, kept-changed}
use Rattle.steps.proofs.values.moved.Goals as goal

pub returns-then-same_value : goal.returns-then-same_value
returns-then-same_value c =
    let a = c.args in
    kept_same (keeps_at a.model.now a.index.now a.flow a.numbers) a.n a.state.now a.v c.same_value.result c.same_value.ensures c.if-same_value.true

pub returns : goal.returns
returns c =
    let a = c.args in
    kept-changed (keeps_at a.model.now a.index.now a.flow a.numbers) a.n a.state.now a.v c.same_value.result c.keeps.result c.same_value.ensures c.if-same_value.false c.keeps.ensures
