use Prim.Native.Nat.{ℕ, ◌≤◌, ◌<◌}
use lib.ListN.{get_or, take}
use Rattle.fair_conditions.specs.Held.{kept_row, slip}
use Rattle.fair_conditions.proofs.SortLaws.{Through}
use Rattle.fair_conditions.proofs.sorting.insert.Given as goal

abbrev pub invariant-loop-i : goal.invariant-loop-i
invariant-loop-i l =
    (l.carried < 8)
    × (((j : ℕ) → l.i ≤ j → j < l.count → get_or l.sorted j 0 < 8) × Through (kept_row l.kept l.n) (slip (kept_row l.kept l.n) l.k (take l.count l.initial.sorted)) l.sorted l.count l.i l.carried)
