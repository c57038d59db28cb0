-- The number that the index keeps. Assumes nothing.
use Rattle.models.specs.Index.{entry}
use Rattle.papers.proofs.opening.version_of.Goals as goal

pub returns : goal.returns
unfolding entry
returns c = c.from.ensures
