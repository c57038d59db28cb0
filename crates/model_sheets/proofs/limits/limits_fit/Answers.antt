-- Each limit on its own. Assumes nothing.
use mathlib.Core.Path.{sym, ap, ◌∙◌}
use mathlib.Core.Bool.{◌&&◌}
use Rattle.formats.specs.ModelSheet.{exam_limits, limit_fits, limits_fit}
use Rattle.model_sheets.proofs.limits.limits_fit.Goals as goal

pub returns-then-limit_fits : goal.returns-then-limit_fits
unfolding limits_fit exam_limits
returns-then-limit_fits c =
    let limits = c.args.limits in
    c.limit_fits-then-limit_fits.ensures
    ∙ sym (ap (λ b. b && limit_fits limits.joints 4096) (sym c.limit_fits.ensures ∙ c.if-limit_fits.true))

pub returns-else-limit_fits : goal.returns-else-limit_fits
unfolding limits_fit exam_limits
returns-else-limit_fits c =
    let limits = c.args.limits in
    c.if-limit_fits.false ∙ sym (ap (λ b. b && limit_fits limits.joints 4096) (sym c.limit_fits.ensures ∙ c.if-limit_fits.false))
