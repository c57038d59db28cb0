-- A raised number lowered again, as two's complement. Assumes nothing.
use native.Mathlib.Omega.{arith}
use Rattle.fair_conditions.proofs.NumberLaws.{coded-low, coded-high}
use Rattle.fair_conditions.proofs.divisors.coded.Goals as goal

pub returns-then-raised-lt-SIGN_BIT : goal.returns-then-raised-lt-SIGN_BIT
returns-then-raised-lt-SIGN_BIT c = coded-low c.args.raised (omega arith)

pub returns : goal.returns
returns c = coded-high c.args.raised (omega arith)
