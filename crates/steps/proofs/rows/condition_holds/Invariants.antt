use mathlib.Core.Path.{◌≡◌}
use Prim.Native.Nat.{◌+◌, ◌*◌, ◌-◌}
use lib.ListN.{take}
use Rattle.farkas.specs.Lists.{every}
use Rattle.farkas.specs.Rows.{row_holds}
use Rattle.fields.specs.Places.{row_at}
use Rattle.formats.specs.Joint.{count_up}
use Rattle.formats.specs.Versions.{row_bytes}
use Rattle.steps.proofs.rows.condition_holds.Given as goal

abbrev pub invariant-loop-j : goal.invariant-loop-j
invariant-loop-j l =
    every (λ j. row_holds l.q (take l.count l.point) (row_at l.s l.version l.count (l.first + row_bytes l.version l.count * j)).row) (count_up l.j (l.rows - l.j)) ≡ every (λ j. row_holds l.q (take l.count l.point) (row_at l.s l.version l.count (l.first + row_bytes l.version l.count * j)).row) (count_up 0 l.rows)
