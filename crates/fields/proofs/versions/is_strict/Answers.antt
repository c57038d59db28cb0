-- No row is strict. Assumes nothing.
use mathlib.Core.Path.{refl}
use Rattle.formats.specs.Versions.{strict_at}
use Rattle.fields.proofs.versions.is_strict.Goals as goal

pub returns : goal.returns
unfolding strict_at
returns c = refl
