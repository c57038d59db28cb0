-- By cases: less than half is past the quotient, half, or more. Assumes nothing.
use mathlib.Core.Path.{sym, ◌∙◌}
use Rattle.std.proofs.lemmas.Cmp.{ranked}
use Rattle.std.specs.declared.cmp.Ordering.TheVariants.{Less, Equal, Greater}
use Rattle.scores.proofs.ScoreLaws.{nearest-below, nearest-above, nearest-half}
use Rattle.scores.proofs.rounding.nearest.Goals as goal

pub returns-in-Less : goal.returns-in-Less
returns-in-Less c =
    nearest-below c.args.part c.args.whole c.requires (ranked _ _ Less (sym c.in-Less.is ∙ c.cmp.ensures))

pub returns-in-Equal : goal.returns-in-Equal
returns-in-Equal c =
    nearest-half c.args.part c.args.whole c.requires (ranked _ _ Equal (sym c.in-Equal.is ∙ c.cmp.ensures))

pub returns-in-Greater : goal.returns-in-Greater
returns-in-Greater c =
    nearest-above c.args.part c.args.whole c.requires (ranked _ _ Greater (sym c.in-Greater.is ∙ c.cmp.ensures))
