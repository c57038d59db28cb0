use mathlib.Core.Path.{◌≡◌}
use Prim.Native.Nat.{ℕ, ◌+◌, ◌*◌, ◌<◌}
use lib.IntN.{pos, ◌*ℤ◌}
use lib.ListN.{get_or}
use Rattle.farkas.specs.Words.{signed_at}
use Rattle.farkas.specs.Sums.{cleared}
use Rattle.farkas.proofs.take_goal.Given as goal

abbrev pub invariant-loop-i : goal.invariant-loop-i
invariant-loop-i l =
    (l.sums ≡ cleared l.from l.i l.initial.sums) × ((j : ℕ) → j < l.i → get_or l.initial.sums (l.from + j) (pos 0) ≡ pos l.k *ℤ signed_at l.words (l.at + 4 * j))
