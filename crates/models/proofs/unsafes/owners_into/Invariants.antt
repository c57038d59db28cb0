use mathlib.Core.Path.{◌≡◌}
use Prim.Native.Nat.{◌≤◌}
use lib.ListN.{length}
use Rattle.formats.specs.Reading.{u8, below, many}
use Rattle.models.specs.Index.{entry, owner_place, Kept}
use Rattle.fields.proofs.ReadLoop.{Reading}
use Rattle.models.proofs.unsafes.owners_into.Given as goal

abbrev pub invariant-loop-v : goal.invariant-loop-v
invariant-loop-v l =
    (l.v ≤ l.n) × ((length l.index ≡ length l.initial.index) × (Reading (below l.c u8) l.n l.s (many l.n (below l.c u8) l.s l.at) (λ i. entry l.index (owner_place i)) l.v l.place × Kept 3 11 l.initial.index l.index))
