-- What is tested of the components from this one on is what is tested of all. Assumes nothing.
use mathlib.Core.Path.{refl, ◌∙◌}
use Prim.Native.Nat.{◌≤◌, ◌<◌}
use native.Mathlib.Omega.{arith}
use lib.ListN.{length}
use Rattle.models.specs.Index.{entry, unsafe_place}
use Rattle.papers.proofs.StandingLaws.{fit-passes, fit-fails, fit-ends, fit-starts}
use Rattle.papers.proofs.standing.modes_fit.Goals as goal

pub overflow_cast-components : goal.overflow_cast-components
unfolding entry
overflow_cast-components c = omega (arith, c.requires.0.few)

pub loop-k-init : goal.loop-k-init
loop-k-init c = refl

pub overflow_mul-u : goal.overflow_mul-u
overflow_mul-u c = omega (arith, c.requires.0.conditions, c.requires.1)

pub overflow_add-u : goal.overflow_add-u
overflow_add-u c = omega (arith, c.requires.0.conditions, c.requires.1)

pub overflow_add-u-in-loop-k : goal.overflow_add-u-in-loop-k
unfolding entry
overflow_add-u-in-loop-k c = omega (arith, c.loop-k-test.true, c.requires.0.few, c.requires.0.conditions, c.requires.1)

pub offset_bounds-index-u : goal.offset_bounds-index-u
unfolding entry
offset_bounds-index-u c = omega (arith, c.loop-k-test.true, c.requires.0.few, c.requires.0.conditions, c.requires.1)

pub bounds-index-u : goal.bounds-index-u
unfolding entry
bounds-index-u c = omega (arith, c.loop-k-test.true, c.requires.0.few, c.requires.0.conditions, c.requires.1)

pub bounds-modes-k : goal.bounds-modes-k
unfolding entry
bounds-modes-k c = omega (arith, c.loop-k-test.true, c.requires.0.few)

pub returns-then-not-mode_fits : goal.returns-then-not-mode_fits
unfolding entry unsafe_place
returns-then-not-mode_fits c =
    let a = c.args in
    let p = c.requires in
    let l = c.loop-k in
    let h : l.k < entry a.index.now 1 = c.loop-k-test.true in
    let long : entry a.index.now 1 ≤ length a.modes = omega (arith, p.0.few, c.well_formed.1.1.1.0.1.0.1) in
    fit-fails a.index.now a.modes long (unsafe_place a.u) l.k h c.mode_fits.ensures (c.if-not-mode_fits.true) ∙ l.invariant ∙ fit-starts a.model.now a.index.now a.modes a.u

pub loop-k-preserved : goal.loop-k-preserved
unfolding entry unsafe_place
loop-k-preserved c =
    let a = c.args in
    let p = c.requires in
    let l = c.loop-k in
    let h : l.k < entry a.index.now 1 = c.loop-k-test.true in
    let long : entry a.index.now 1 ≤ length a.modes = omega (arith, p.0.few, c.well_formed.1.1.1.0.1.0.1) in
    fit-passes a.index.now a.modes long (unsafe_place a.u) l.k h c.mode_fits.ensures (c.if-not-mode_fits.false) ∙ l.invariant

pub returns : goal.returns
unfolding entry
returns c =
    let a = c.args in
    let p = c.requires in
    let l = c.loop-k in
    let long : entry a.index.now 1 ≤ length a.modes = omega (arith, p.0.few, c.well_formed.1.1.1.0.1.0.1) in
    fit-ends a.index.now a.modes long (unsafe_place a.u) l.k c.loop-k-test.false ∙ l.invariant ∙ fit-starts a.model.now a.index.now a.modes a.u
