-- Item by item. Assumes nothing.
use Prim.Native.Nat.{◌+◌, ◌*◌}
use Rattle.fair_copies.specs.Items.{item_bytes}
use Rattle.fair_copies.proofs.EachPut.{each-goes-on, each-ends}
use native.Mathlib.Omega.{arith}
use Rattle.fair_copies.proofs.parts.put_items.Goals as goal

pub loop-i-preserved : goal.loop-i-preserved
loop-i-preserved c =
    let a = c.args in
    let l = c.loop-i in
    let w = c.put_item-next in
    each-goes-on (λ j. item_bytes a.model.now a.index.now a.items (a.items.first + a.items.step * j)) 1639 a.out.now a.at a.items.count l.out w.new.out l.next w.result l.i c.loop-i-test.true w.ensures.written w.ensures.upper_bound l.invariant

pub returns-clause-written : goal.returns-clause-written
returns-clause-written c =
    let a = c.args in
    let l = c.loop-i in
    (each-ends (λ j. item_bytes a.model.now a.index.now a.items (a.items.first + a.items.step * j)) 1639 a.out.now a.at a.items.count l.out l.next l.i (omega arith) l.invariant).0
