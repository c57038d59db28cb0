-- What has been counted are those of the components from here on, and the locations of these. Assumes nothing.
use mathlib.Core.Path.{◌≡◌}
use Prim.Native.Nat.{◌+◌, ◌*◌, ◌-◌}
use native.Mathlib.Omega.{arith}
use Rattle.joint_switches.proofs.JointLoops.{components_on, count-starts, count-goes-on, count-few}
use Rattle.formats.specs.JointTotals.{silent_total}
use Rattle.joint_switches.proofs.TotalLaws.{silent-starts, silent-goes-on, silent-few}
use Rattle.joint_switches.proofs.totals.Labels.silent.Goals.{After-labelled}
use Rattle.joint_switches.proofs.totals.Labels.silent.Goals as goal

pub loop-k-init : goal.loop-k-init
loop-k-init c =
    let g = c.args.self.now.good in
    let e = c.component_count-k.ensures in
    (rw e (silent-starts g), rw e (count-starts g))

-- a turn
next : (c : After-labelled) → c.labelled.result * c.loop-k.unit + c.mode_count-modes.result * c.loop-k.count ≡ silent_total (components_on c.args.self.now.s.now c.args.self.now.index.now (c.loop-k.k - 1))
next c =
    let g = c.args.self.now.good in
    let l = c.loop-k in
    silent-goes-on g l.k c.labelled.result c.mode_count-modes.result l.unit l.count c.loop-k-test.true (omega arith) c.labelled.ensures c.mode_count-modes.ensures l.invariant.1 l.invariant.0

pub overflow_mul-count : goal.overflow_mul-count
overflow_mul-count c = omega (arith, next c, silent-few c.args.self.now.good (c.loop-k.k - 1))

pub overflow_mul-count-in-loop-k : goal.overflow_mul-count-in-loop-k
overflow_mul-count-in-loop-k c = omega (arith, next c, silent-few c.args.self.now.good (c.loop-k.k - 1))

pub overflow_add-count : goal.overflow_add-count
overflow_add-count c = omega (arith, next c, silent-few c.args.self.now.good (c.loop-k.k - 1))

pub overflow_mul-unit : goal.overflow_mul-unit
overflow_mul-unit c =
    let g = c.args.self.now.good in
    let l = c.loop-k in
    omega (arith, count-goes-on g l.k c.mode_count-modes.result l.unit c.loop-k-test.true (omega arith) c.mode_count-modes.ensures l.invariant.1, count-few g (l.k - 1))

pub loop-k-preserved : goal.loop-k-preserved
loop-k-preserved c =
    let g = c.args.self.now.good in
    let l = c.loop-k in
    (next c, count-goes-on g l.k c.mode_count-modes.result l.unit c.loop-k-test.true (omega arith) c.mode_count-modes.ensures l.invariant.1)
