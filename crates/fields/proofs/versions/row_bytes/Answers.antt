-- A word for each coefficient, and one for the bound. Assumes nothing.
use mathlib.Core.Path.{refl}
use Rattle.formats.specs.Versions.{row_bytes}
use Rattle.fields.proofs.versions.row_bytes.Goals as goal

pub returns : goal.returns
unfolding row_bytes
returns c = refl
