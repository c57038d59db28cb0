-- The place of the index where a mode is kept. Assumes nothing.
use mathlib.Core.Path.{refl}
use native.Mathlib.Omega.{arith}
use Rattle.models.specs.Index.{entry, component_place, mode_place}
use Rattle.papers.proofs.standing.is_start.Goals as goal

pub bounds-index-k : goal.bounds-index-k
bounds-index-k c = omega (arith, c.requires.0, c.requires.1)

pub returns : goal.returns
unfolding entry component_place mode_place
returns c = refl
