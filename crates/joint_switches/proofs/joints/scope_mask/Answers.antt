-- The mask that has been made is that of the components from here on. Assumes nothing.
use Prim.Native.Nat.{◌-◌}
use native.Mathlib.Omega.{arith}
use Rattle.formats.specs.Joint.{bit}
use Rattle.joint_switches.proofs.JointLoops.{mask-starts, mask-goes-on, mask-few}
use Rattle.joint_switches.proofs.joints.scope_mask.Goals as goal

pub loop-k-init : goal.loop-k-init
loop-k-init c = rw c.component_count-k.ensures (mask-starts c.requires.good_index c.args.e)

pub overflow_mul-mask : goal.overflow_mul-mask
overflow_mul-mask c =
    omega (arith, c.loop-k.invariant, mask-few c.requires.good_index c.args.e c.loop-k.k)

pub overflow_add-mask : goal.overflow_add-mask
unfolding bit
overflow_add-mask c =
    let l = c.loop-k in
    let e = c.args.e in
    omega (arith, mask-goes-on c.requires.good_index e l.k c.from.result l.mask c.loop-k-test.true (omega arith) c.in_scope.ensures c.from.ensures l.invariant, mask-few c.requires.good_index e (l.k - 1))

pub loop-k-preserved : goal.loop-k-preserved
unfolding bit
loop-k-preserved c =
    let l = c.loop-k in
    mask-goes-on c.requires.good_index c.args.e l.k c.from.result l.mask c.loop-k-test.true (omega arith) c.in_scope.ensures c.from.ensures l.invariant
