use Prim.Native.Nat.{◌+◌, ◌*◌, ◌-◌}
use Rattle.farkas.specs.Words.{numbers_at}
use Rattle.fair_conditions.specs.Held.{CommonOf}
use Rattle.fair_conditions.proofs.divisors.common_of.Given as goal

abbrev pub invariant-loop-i : goal.invariant-loop-i
invariant-loop-i l = CommonOf (numbers_at l.s (l.at + 4 * l.i) (l.count - l.i)) l.divisor
