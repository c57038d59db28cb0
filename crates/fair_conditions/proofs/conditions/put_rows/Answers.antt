-- Row by row, what is left is written after what is there. Assumes nothing.
use Prim.Native.Nat.{◌<◌}
use lib.ListN.{get_or}
use Rattle.fair_conditions.proofs.SortLaws.{among-at}
use Rattle.fair_conditions.proofs.PutLaws.{rows-go-on, rows_end}
use native.Mathlib.Omega.{arith}
use Rattle.fair_conditions.proofs.conditions.put_rows.Goals.{After-row_base}
use Rattle.fair_conditions.proofs.conditions.put_rows.Goals as goal

-- the row that is written stands among those that are kept
below : (c : After-row_base) → get_or c.args.sorted.now c.loop-i.i 0 < 8
below c =
    among-at c.args.count c.args.sorted.now c.requires.in_bounds.1.1 c.requires.in_bounds.1.0 c.loop-i.i c.loop-i-test.true

pub put_numbers-next-requires : goal.put_numbers-next-requires
put_numbers-next-requires c =
    (omega (arith, c.requires.at_bound, c.loop-i.invariant.place, c.loop-i.invariant.few), (omega (arith, c.requires.at_bound), omega (arith, c.row_base.ensures, below c, c.requires.at_bound, c.requires.in_bounds.0)))

pub loop-i-preserved : goal.loop-i-preserved
loop-i-preserved c =
    let a = c.args in
    let l = c.loop-i in
    let w = c.put_numbers-next in
    rows-go-on a.out.now a.at a.kept.now a.sorted.now a.count a.version a.n l.out w.new.out l.next w.result l.i c.row_base.result c.loop-i-test.true c.requires.in_bounds.1.0 c.requires.at_bound.1.1 c.row_base.ensures w.ensures.written w.ensures.value l.invariant

pub returns-clause-written : goal.returns-clause-written
returns-clause-written c =
    let a = c.args in
    let l = c.loop-i in
    (rows_end a.out.now a.at a.kept.now a.sorted.now a.count a.version a.n l.out l.next l.i (omega arith) c.requires.in_bounds.1.0 l.invariant).0
