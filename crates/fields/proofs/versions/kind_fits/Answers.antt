-- One comparison. Assumes nothing.
use mathlib.Core.Path.{refl}
use Rattle.formats.specs.Versions.{kind_fits}
use Rattle.fields.proofs.versions.kind_fits.Goals as goal

pub returns : goal.returns
unfolding kind_fits
returns c = refl
