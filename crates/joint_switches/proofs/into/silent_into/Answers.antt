-- What has been counted are those of the components from here on. Assumes nothing.
use Prim.Native.Nat.{◌-◌, ◌≤◌}
use native.Mathlib.Omega.{arith}
use lib.ListN.{length}
use Rattle.models.specs.Index.{entry}
use Rattle.joint_switches.proofs.IntoLaws.{silent-few, silent-starts, silent-goes-on}
use Rattle.joint_switches.proofs.into.silent_into.Goals as goal

pub loop-k-init : goal.loop-k-init
loop-k-init c =
    let a = c.args in
    let long : entry a.index.now 1 ≤ length a.modes = omega (arith, c.requires.good_index.0.few, c.well_formed.1.1.1.0.1.0.1) in
    rw c.component_count-k.ensures (silent-starts c.requires.good_index.0 a.modes long)

pub overflow_add-count : goal.overflow_add-count
overflow_add-count c =
    let a = c.args in
    let long : entry a.index.now 1 ≤ length a.modes = omega (arith, c.requires.good_index.0.few, c.well_formed.1.1.1.0.1.0.1) in
    let l = c.loop-k in
    let turn = silent-goes-on c.requires.good_index.0 a.modes long l.k c.entering_of-count.result l.count c.loop-k-test.true (omega arith) c.entering_of-count.ensures l.invariant in
    omega (arith, turn, silent-few c.requires.good_index.0 a.modes long (l.k - 1))

pub loop-k-preserved : goal.loop-k-preserved
loop-k-preserved c =
    let a = c.args in
    let long : entry a.index.now 1 ≤ length a.modes = omega (arith, c.requires.good_index.0.few, c.well_formed.1.1.1.0.1.0.1) in
    let l = c.loop-k in
    silent-goes-on c.requires.good_index.0 a.modes long l.k c.entering_of-count.result l.count c.loop-k-test.true (omega arith) c.entering_of-count.ensures l.invariant
