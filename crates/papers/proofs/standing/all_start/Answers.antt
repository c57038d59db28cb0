-- What is tested of the components from this one on is what is tested of all. Assumes nothing.
use mathlib.Core.Path.{refl, ◌∙◌}
use Prim.Native.Nat.{◌≤◌, ◌<◌}
use native.Mathlib.Omega.{arith}
use lib.ListN.{length}
use Rattle.models.specs.Index.{entry}
use Rattle.papers.proofs.StandingLaws.{start-passes, start-fails, start-ends}
use Rattle.papers.proofs.standing.all_start.Goals as goal

pub overflow_cast-components : goal.overflow_cast-components
unfolding entry
overflow_cast-components c = omega (arith, c.requires.0.few)

pub loop-k-init : goal.loop-k-init
loop-k-init c = (omega arith, refl)

pub bounds-modes-k : goal.bounds-modes-k
unfolding entry
bounds-modes-k c = omega (arith, c.loop-k-test.true, c.requires.0.few)

pub is_start-requires : goal.is_start-requires
unfolding entry
is_start-requires c =
    let p = c.requires in
    let h : c.loop-k.k < entry c.args.index.now 1 = c.loop-k-test.true in
    (omega (arith, h, p.0.few), omega (arith, p.1.known c.loop-k.k h, (p.0.blocks c.loop-k.k h).most))

pub returns-then-not-is_start : goal.returns-then-not-is_start
unfolding entry
returns-then-not-is_start c =
    let a = c.args in
    let p = c.requires in
    let l = c.loop-k in
    let h : l.k < entry a.index.now 1 = c.loop-k-test.true in
    let long : entry a.index.now 1 ≤ length a.modes = omega (arith, p.0.few, c.well_formed.1.1.0.1.0.1) in
    start-fails a.model.now a.index.now a.modes long p.1 l.k h c.is_start.ensures (c.if-not-is_start.true) ∙ l.invariant.1

pub loop-k-preserved : goal.loop-k-preserved
unfolding entry
loop-k-preserved c =
    let a = c.args in
    let p = c.requires in
    let l = c.loop-k in
    let h : l.k < entry a.index.now 1 = c.loop-k-test.true in
    let long : entry a.index.now 1 ≤ length a.modes = omega (arith, p.0.few, c.well_formed.1.1.0.1.0.1) in
    (omega (arith, h), start-passes a.model.now a.index.now a.modes long p.1 l.k h c.is_start.ensures (c.if-not-is_start.false) ∙ l.invariant.1)

pub returns : goal.returns
unfolding entry
returns c =
    let a = c.args in
    let p = c.requires in
    let l = c.loop-k in
    let long : entry a.index.now 1 ≤ length a.modes = omega (arith, p.0.few, c.well_formed.1.1.0.1.0.1) in
    start-ends a.model.now a.index.now a.modes long l.k (omega (arith, l.invariant.0, c.loop-k-test.false)) ∙ l.invariant.1
