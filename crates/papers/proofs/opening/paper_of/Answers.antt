-- The halves that the index keeps. Assumes nothing.
use Rattle.models.specs.Index.{entry}
use Rattle.papers.proofs.opening.paper_of.Goals as goal

pub returns : goal.returns
unfolding entry
returns c = c.joined.ensures
