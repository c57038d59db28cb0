-- Nothing is within 0 at first, and there is room for one entry more, whose row in bytes is within 2 ^ 31. Assumes nothing.
use Rattle.std.proofs.Common.{◌^◌, arith, pos}
use Rattle.farkas.specs.Rows.{row_of, on_change}
use Rattle.farkas.specs.Words.{row_in}
use Rattle.farkas.specs.Sizes.{Within}
use Rattle.farkas.proofs.Promise.{grown, rates-within}
use Rattle.farkas_test.proofs.RowSizes.{none_within}
use Rattle.farkas_test.proofs.entries_on_rates.Goals as goal

pub loop-i-init : goal.loop-i-init
loop-i-init c = none_within c.args.sums.now c.requires.sums_value

pub loop-i-preserved : goal.loop-i-preserved
loop-i-preserved c =
    let a = c.args in
    let l = c.loop-i in
    let small : Within (2 ^ 31) (on_change (row_in a.words.now 0 a.n)) = rates-within a.words.now 0 a.n (λ i. omega (arith, c.type_inv.words i)) in
    rw c.add_rates.ensures (grown l._i a.m (row_of l.sums (pos 0)) _ l.invariant (omega arith) small)
