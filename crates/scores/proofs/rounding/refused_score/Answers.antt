-- By cases: nothing to do, or the score with its cap. Assumes nothing.
use mathlib.Core.Path.{◌∙◌}
use Rattle.scores.proofs.ScoreLaws.{score-none, score-capped}
use Rattle.scores.proofs.rounding.refused_score.Goals as goal

pub returns-then-total-eq0 : goal.returns-then-total-eq0
returns-then-total-eq0 c = score-none c.args.done c.args.total c.if-total-eq0.true

pub returns : goal.returns
returns c =
    c.min.ensures ∙ score-capped c.args.done c.args.total c.nearest.result c.if-total-eq0.false c.nearest.ensures
