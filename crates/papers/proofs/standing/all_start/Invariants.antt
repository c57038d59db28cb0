use mathlib.Core.Path.{◌≡◌}
use Prim.Native.Nat.{◌≤◌}
use Rattle.models.specs.Index.{entry}
use Rattle.papers.proofs.StandingLaws.{starts_on}
use Rattle.papers.proofs.standing.all_start.Given as goal

abbrev pub invariant-loop-k : goal.invariant-loop-k
invariant-loop-k l = (l.k ≤ entry l.index 1) × (starts_on l.model l.index l.modes l.k ≡ starts_on l.model l.index l.modes 0)
