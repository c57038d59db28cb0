-- Component by component. Assumes nothing.
use mathlib.Core.Path.{subst}
use Prim.Native.Nat.{ℕ}
use Rattle.formats.specs.Joint.{count_up, join_all}
use Rattle.buffers.specs.Written.{Written}
use Rattle.fair_copies.specs.Copyable.{component_bytes}
use Rattle.fair_copies.proofs.EachPut.{each-goes-on, each-ends}
use native.Mathlib.Omega.{arith}
use Rattle.fair_copies.proofs.parts.put_components.Goals as goal

pub loop-k-preserved : goal.loop-k-preserved
loop-k-preserved c =
    let a = c.args in
    let l = c.loop-k in
    let w = c.put_component-next in
    each-goes-on (component_bytes a.model.now a.index.now) 104900 a.out.now a.at c.number_at-count.result l.out w.new.out l.next w.result l.k c.loop-k-test.true w.ensures.written w.ensures.upper_bound l.invariant

pub returns-clause-written : goal.returns-clause-written
returns-clause-written c =
    let a = c.args in
    let l = c.loop-k in
    subst (λ (n : ℕ). Written a.out.now a.at (join_all (component_bytes a.model.now a.index.now) (count_up 0 n)) l.out l.next) c.number_at-count.ensures
    (each-ends (component_bytes a.model.now a.index.now) 104900 a.out.now a.at c.number_at-count.result l.out l.next l.k (omega arith) l.invariant).0
