use mathlib.Core.Path.{◌≡◌}
use Prim.Native.Nat.{◌*◌, ◌^◌, ◌≤◌}
use lib.IntN.{nat_abs}
use Rattle.farkas.specs.Rows.{dot}
use Rattle.fields.specs.Places.{numbers_at}
use Rattle.steps.proofs.rows.row_holds.Given as goal

abbrev pub invariant-loop-i : goal.invariant-loop-i
invariant-loop-i l =
    (l.sum ≡ dot (numbers_at l.s l.at l.i) l.point) × (nat_abs l.sum * l.count ≤ l.i * 2 ^ 62)
