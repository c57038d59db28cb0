use mathlib.Core.Path.{◌≡◌}
use Prim.Native.Nat.{◌+◌, ◌*◌, ◌-◌, ◌≤◌}
use Rattle.farkas.specs.Lists.{every}
use Rattle.formats.specs.Versions.{row_bytes}
use Rattle.fields.specs.Places.{rows_from}
use Rattle.models.specs.Index.{entry, span_rows}
use Rattle.papers.proofs.BlankLaws.{zero_at}
use Rattle.papers.proofs.blanks.unmentioned.Given as goal

abbrev pub invariant-loop-j : goal.invariant-loop-j
invariant-loop-j l =
    (l._j ≤ l.rows)
    × ((l.at ≡ entry l.index l.place + row_bytes l.version l.count * l._j)
    × (every (zero_at l.i) (rows_from l.s l.version l.count l.at (l.rows - l._j)) ≡ every (zero_at l.i) (span_rows l.s (entry l.index 11) l.count l.index l.place)))
