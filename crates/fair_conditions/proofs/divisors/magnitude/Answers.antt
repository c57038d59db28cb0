-- Below 2^31 the number itself, from there on 2^32 less it. Assumes nothing.
use native.Mathlib.Omega.{arith}
use Rattle.fair_conditions.proofs.NumberLaws.{size_low, size-high}
use Rattle.fair_conditions.proofs.divisors.magnitude.Goals as goal

pub returns-then-code-lt-SIGN_BIT : goal.returns-then-code-lt-SIGN_BIT
returns-then-code-lt-SIGN_BIT c = size_low c.args.code (omega arith)

pub returns : goal.returns
returns c = size-high c.args.code (omega arith) (omega arith)
