use mathlib.Core.Path.{◌≡◌}
use Rattle.farkas.specs.Words.{numbers_at}
use Rattle.farkas.specs.Sums.{plus_from}
use Rattle.farkas.proofs.add_numbers.Given as goal

abbrev pub invariant-loop-i : goal.invariant-loop-i
invariant-loop-i l = (l.sums ≡ plus_from l.to l.m l.initial.sums (numbers_at l.words l.at l.i))
