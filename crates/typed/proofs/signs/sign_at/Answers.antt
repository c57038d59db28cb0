-- In the text its sign; past the end there is a 0 for the definition, which is none. Assumes nothing.
use mathlib.Core.Path.{ap, ◌∙◌}
use native.Mathlib.Omega.{arith}
use Rattle.typed.specs.Signs.{sign_of, sign_at}
use Rattle.typed.proofs.signs.sign_at.Goals as goal

pub returns-in-Some : goal.returns-in-Some
unfolding sign_at
returns-in-Some c = c.sign_of.ensures ∙ ap sign_of (c.in-Some.ensures.lookup.4 (omega arith) 0)

pub returns-in-None : goal.returns-in-None
unfolding sign_at sign_of
returns-in-None c = ap sign_of (c.in-None.ensures.lookup.4 (omega arith) 0)
