-- Condition by condition. Assumes nothing.
use Prim.Native.Nat.{◌+◌, ◌*◌}
use Rattle.fair_copies.specs.Items.{span_bytes}
use Rattle.fair_copies.proofs.EachPut.{each-goes-on, each-ends}
use native.Mathlib.Omega.{arith}
use Rattle.fair_copies.proofs.parts.put_spans.Goals as goal

pub loop-i-preserved : goal.loop-i-preserved
loop-i-preserved c =
    let a = c.args in
    let l = c.loop-i in
    let w = c.put_span-next in
    each-goes-on (λ j. span_bytes a.model.now a.index.now a.items.n (a.place + 2 * j)) 545 a.out.now a.at a.items.spans l.out w.new.out l.next w.result l.i c.loop-i-test.true w.ensures.written w.ensures.upper_bound l.invariant

pub returns-clause-written : goal.returns-clause-written
returns-clause-written c =
    let a = c.args in
    let l = c.loop-i in
    (each-ends (λ j. span_bytes a.model.now a.index.now a.items.n (a.place + 2 * j)) 545 a.out.now a.at a.items.spans l.out l.next l.i (omega arith) l.invariant).0
