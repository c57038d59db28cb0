-- The places of the index. Assumes nothing.
use mathlib.Core.Path.{refl}
use Rattle.models.specs.Index.{component_place, mode_place}
use Rattle.papers.proofs.standing.mode_place.Goals as goal

pub returns : goal.returns
unfolding component_place mode_place
returns c = refl
