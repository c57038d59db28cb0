use mathlib.Core.Path.{◌≡◌}
use mathlib.Core.List.{[], ◌∷◌}
use Prim.Native.Nat.{◌+◌}
use Rattle.models.specs.Index.{entry}
use Rattle.fair_copies.proofs.EachPut.{EachPut}
use Rattle.fair_copies.proofs.parts.put_entries.Given as goal

abbrev pub invariant-loop-i : goal.invariant-loop-i
invariant-loop-i l = EachPut (λ k. entry l.index (l.from + k) ∷ []) 1 l.initial.out l.at l.count l.out l.next l.i × (l.next ≡ l.at + l.i)
