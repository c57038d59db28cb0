-- A shift to the right halves as often. Assumes nothing.
use mathlib.Core.Path.{refl}
use Rattle.formats.specs.Model.{has_event}
use Rattle.models.proofs.model.has_event.Goals as goal

pub returns : goal.returns
unfolding has_event
returns c = refl
