-- The digits that have been taken off are the modes of the components from here on. Assumes nothing.
use mathlib.Core.Path.{refl, sym}
use Prim.Native.Nat.{◌-◌}
use native.Mathlib.Nat.{mod-lt, div-one}
use native.Mathlib.Omega.{arith}
use Rattle.formats.specs.Locations.{location_count}
use Rattle.models.proofs.GoodIndexLaws.{good-component}
use Rattle.joint_switches.proofs.JointLoops.{quotient-left, components_on, count-starts, count-goes-on, modes-start, modes-go-on, modes-end}
use Rattle.joint_switches.proofs.joints.modes_at.Goals as goal

pub loop-k-init : goal.loop-k-init
loop-k-init c =
    let a = c.args in
    let g = c.requires.good_index in
    let e = c.component_count-k.ensures in
    (rw e (rw (sym (count-starts g)) (sym (div-one a.location))), rw e (modes-start g a.location))

pub nonzero_rem-modes : goal.nonzero_rem-modes
nonzero_rem-modes c =
    omega (arith, (good-component c.requires.good_index (c.loop-k.k - 1) (omega arith)).least)

pub overflow_cast-modes : goal.overflow_cast-modes
overflow_cast-modes c =
    let component = good-component c.requires.good_index (c.loop-k.k - 1) (omega arith) in
    omega (arith, component.most, component.least, mod-lt c.loop-k.left {m = c.mode_count-count.result} (omega (arith, component.least)))

pub nonzero_div-left : goal.nonzero_div-left
nonzero_div-left c =
    omega (arith, (good-component c.requires.good_index (c.loop-k.k - 1) (omega arith)).least)

pub loop-k-preserved : goal.loop-k-preserved
loop-k-preserved c =
    let a = c.args in
    let g = c.requires.good_index in
    let l = c.loop-k in
    let n = c.mode_count-count.result in
    let h = c.loop-k-test.true in
    let same = c.mode_count-count.ensures in (
      quotient-left a.location l.left n (location_count (components_on a.s.now a.index.now l.k)) l.invariant.0 (count-goes-on g l.k n (location_count (components_on a.s.now a.index.now l.k)) h (omega arith) same refl),
      modes-go-on g l.k n a.location l.left l.modes h (omega arith) same l.invariant.0 l.invariant.1,
    )

pub returns : goal.returns
returns c = modes-end c.requires.good_index c.loop-k.k c.args.location c.loop-k.modes c.loop-k-test.false c.requires.location_bound c.loop-k.invariant.1
