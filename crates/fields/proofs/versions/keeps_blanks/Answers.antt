-- One comparison. Assumes nothing.
use mathlib.Core.Path.{refl}
use Rattle.formats.specs.Versions.{keeps_blanks}
use Rattle.fields.proofs.versions.keeps_blanks.Goals as goal

pub returns : goal.returns
unfolding keeps_blanks
returns c = refl
