-- There is room for one entry more, whose row in bytes is within 2 ^ 31. Assumes nothing.
use Rattle.std.proofs.Common.{◌+◌, ◌^◌, arith, w64, to_z}
use mir.Facts.{to_z-of_z}
use Rattle.farkas.specs.Rows.{row_of, onward}
use Rattle.farkas.specs.Words.{row_in}
use Rattle.farkas.specs.Sizes.{Within}
use Rattle.farkas.proofs.Promise.{wider, grown, row_within}
use Rattle.farkas_test.proofs.entries.Goals as goal

pub loop-i-preserved : goal.loop-i-preserved
loop-i-preserved c =
    let a = c.args in
    let l = c.loop-i in
    let small : Within (2 ^ 31) (onward a.row.shift (row_in a.row.words.now 0 a.row.n)) = row_within a.row.words.now 0 a.row.shift a.row.n a.row.bytes in
    let more = grown (a.before + l._i) a.m (row_of l.sums (to_z w64 l.sum-bits)) _ l.invariant (omega arith) small in
    rw (to_z-of_z {w = w64} {z = c.add_row-sum.result} (record { sfits = c.add_row-sum.type_inv }), c.add_row-sum.ensures) (wider (omega arith) more)
