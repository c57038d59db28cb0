-- A quotient has the sign of its number. Assumes nothing.
use native.Mathlib.Omega.{arith}
use Rattle.fair_conditions.proofs.NumberLaws.{raised-low, raised-high}
use Rattle.fair_conditions.proofs.divisors.raised_quotient.Goals as goal

pub returns-then-code-lt-SIGN_BIT : goal.returns-then-code-lt-SIGN_BIT
returns-then-code-lt-SIGN_BIT c = raised-low c.args.code c.args.divisor (omega arith)

pub returns : goal.returns
returns c = raised-high c.args.code c.args.divisor (omega arith) (omega arith)
