-- What has been counted are those of the events so far. Assumes nothing.
use Prim.Native.Nat.{◌≤◌}
use native.Mathlib.Omega.{arith}
use lib.ListN.{length}
use Rattle.formats.specs.JointTotals.{event_into}
use Rattle.models.specs.Index.{entry, components_from}
use Rattle.models.specs.Counts.{per_component}
use Rattle.formats.proofs.SumLaws.{sum-next, sum-most}
use Rattle.joint_switches.proofs.IntoLaws.{event-starts, event-few, into-counted}
use Rattle.joint_switches.proofs.into.joints_into.Goals as goal

pub loop-e-init : goal.loop-e-init
loop-e-init c =
    let a = c.args in
    event-starts (components_from a.s.now a.index.now) (per_component a.index.now a.modes) c.silent_into-count.result c.silent_into-count.ensures

pub overflow_add-count : goal.overflow_add-count
overflow_add-count c =
    let g = c.requires.good_index.0 in
    let long : entry c.args.index.now 1 ≤ length c.args.modes = omega (arith, g.few, c.well_formed.1.1.1.0.1.0.1) in
    let f = event_into (components_from c.args.s.now c.args.index.now) (per_component c.args.index.now c.args.modes) in
    let l = c.loop-e in
    omega (arith, l.invariant, sum-most f 1048576 (event-few g c.args.modes long) l.e, c.event_into-count.ensures, event-few g c.args.modes long l.e)

pub loop-e-preserved : goal.loop-e-preserved
loop-e-preserved c =
    let a = c.args in
    let l = c.loop-e in
    sum-next (event_into (components_from a.s.now a.index.now) (per_component a.index.now a.modes)) l.e c.event_into-count.result l.count c.event_into-count.ensures l.invariant

pub returns : goal.returns
returns c =
    let a = c.args in
    let l = c.loop-e in
    into-counted (components_from a.s.now a.index.now) (per_component a.index.now a.modes) l.e l.count (omega arith) l.invariant
