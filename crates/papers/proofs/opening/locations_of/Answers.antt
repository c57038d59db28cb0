-- The index has the count. Assumes nothing.
use mathlib.Core.Path.{◌∙◌}
use Rattle.models.specs.Index.{entry}
use Rattle.papers.proofs.opening.locations_of.Goals as goal

pub returns : goal.returns
unfolding entry
returns c = c.from.ensures ∙ c.requires.counted.located
