-- One comparison. Assumes nothing.
use mathlib.Core.Path.{refl}
use Rattle.formats.specs.Versions.{has_paper}
use Rattle.fields.proofs.versions.has_paper.Goals as goal

pub returns : goal.returns
unfolding has_paper
returns c = refl
