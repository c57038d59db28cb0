-- The number that an index keeps. Assumes nothing.
use Rattle.models.specs.Index.{entry}
use Rattle.papers.proofs.opening.number_at.Goals as goal

pub returns : goal.returns
unfolding entry
returns c = c.from.ensures
