-- No byte is left, or the first that is. Assumes nothing.
use mathlib.Core.Path.{sym}
use Rattle.fields.specs.Answers.{got_as}
use Rattle.fields.proofs.HeaderLaws.{finished-right, finished-left}
use Rattle.fields.proofs.header.finished.Goals as goal

pub returns-then-s-at : goal.returns-then-s-at
unfolding got_as
returns-then-s-at c = sym (finished-right c.args.s.now c.args.at c.if-s-at.true)

pub returns-else-s-at : goal.returns-else-s-at
unfolding got_as
returns-else-s-at c = sym (finished-left c.args.s.now c.args.at c.if-s-at.false)
