-- Beyond the last hypothesis, or by the line of its segment. Assumes nothing.
use Prim.Native.Nat.{◌*◌, ◌+◌, ◌<◌}
use native.Mathlib.Omega.{arith}
use Rattle.models.specs.Index.{entry}
use Rattle.hypotheses.specs.Tables.{end_of}
use Rattle.rules.specs.Roles.{owned}
use Rattle.sums.specs.Summing.{line_in}
use Rattle.queries.specs.Finding.{in_role}
use Rattle.queries.proofs.HeldLaws.{row-there, row-beyond}
use Rattle.queries.proofs.rows.row_in.Goals as goal

pub returns-then-lines-h : goal.returns-then-lines-h
returns-then-lines-h c =
    let a = c.args in
    row-beyond a.model.now a.second.now a.version a.n a.table.now a.segments c.requires.in_bounds.1.0 a.h (omega (arith, c.if-lines-h.true, c.lines.ensures))

pub line_row-row-requires : goal.line_row-row-requires
unfolding line_in entry
line_row-row-requires c =
    let told = c.segment_of-g in
    let line = c.line_at-line in
    let place : line.result.place < 65536 = rw line.ensures (omega (arith, c.type_inv.table (4 * told.result + 2))) in
    let row : line.result.row < 65536 = rw line.ensures (omega (arith, told.ensures.1.below, c.requires.in_bounds.1.0.small told.result told.ensures.1.most, told.ensures.1.most, c.requires.in_bounds.1.1)) in
    (c.requires.n_bound, (place, row))

pub returns : goal.returns
unfolding in_role owned entry
returns c =
    let a = c.args in
    let told = c.segment_of-g in
    let low : a.h < end_of a.table.now a.segments = omega (arith, c.if-lines-h.false, c.lines.ensures) in
    row-there a.model.now a.second.now a.version a.n a.table.now a.segments c.requires.in_bounds.1.0 told.result a.h told.ensures.1 low c.line_at-line.ensures c.line_row-row.ensures
