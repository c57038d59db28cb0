-- The two constants. Assumes nothing.
use mathlib.Core.Path.{refl}
use Rattle.formats.specs.ModelSheet.{exam_limits, limit_fits, limits_fit}
use Rattle.model_sheets.proofs.limits.exam_limits.Goals as goal

pub returns : goal.returns
unfolding exam_limits limit_fits limits_fit
returns c = record { value = refl; t = tt }
