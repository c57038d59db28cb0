-- The number is there. Assumes nothing.
use Rattle.models.specs.Index.{entry}
use Rattle.hypotheses.proofs.tables.lines.Goals as goal

pub returns : goal.returns
unfolding entry
returns c = c.from.ensures
