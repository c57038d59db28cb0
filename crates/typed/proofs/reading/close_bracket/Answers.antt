-- A closing bracket stands after the blanks, or it is refused there. Assumes nothing.
use mathlib.Core.Path.{sym, ◌∙◌}
use native.Mathlib.Omega.{arith}
use Rattle.typed.specs.declared.signs.Sign.TheVariants.{Close}
use Rattle.typed.proofs.PlaceLaws.{stands, inside}
use Rattle.typed.proofs.LeafLaws.{bracket-closed, bracket-open}
use Rattle.typed.proofs.reading.close_bracket.Goals as goal

pub returns-in_default : goal.returns-in_default
returns-in_default c = sym (bracket-open c.args.text.now c.args.inner.now c.skip-place.result c.sign_at.result c.skip-place.ensures c.sign_at.ensures c.in_default.not-Close)

pub overflow_add-result : goal.overflow_add-result
unfolding stands
overflow_add-result c = let there = inside c.args.text.now c.skip-place.result Close (sym c.sign_at.ensures ∙ c.in-Close.is) tt in omega arith

pub returns : goal.returns
returns c = sym (bracket-closed c.args.text.now c.args.inner.now c.skip-place.result c.sign_at.result c.skip-place.ensures c.sign_at.ensures c.in-Close.is)
