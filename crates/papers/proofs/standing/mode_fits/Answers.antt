-- By cases. Assumes nothing.
use mathlib.Core.Path.{sym, ap}
use mathlib.Core.Bool.{Bool, ◌||◌}
use borrow.Author.Tests.{eq-eqb, ne_eqb}
use lib.Dec.{eqb}
use Rattle.papers.proofs.standing.mode_fits.Goals as goal

pub returns-then-asked-eq255 : goal.returns-then-asked-eq255
returns-then-asked-eq255 c = sym (ap (λ (b : Bool). b || eqb c.args.asked c.args.mode) (eq-eqb _ _ c.if-asked-eq255.true))

pub returns : goal.returns
returns c = sym (ap (λ (b : Bool). b || eqb c.args.asked c.args.mode) (ne_eqb _ _ c.if-asked-eq255.false))
