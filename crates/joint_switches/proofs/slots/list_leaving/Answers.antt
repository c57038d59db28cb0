-- The switches so far that leave the mode stand in the table, each in a line. Assumes nothing.
use Prim.Native.Nat.{◌≤◌}
use native.Mathlib.Omega.{arith}
use lib.ListN.{length}
use Rattle.models.specs.Counts.{component_at}
use Rattle.models.proofs.GoodIndexLaws.{good-component}
use Rattle.joint_switches.proofs.LineLaws.{listing-starts, listing-goes-on, listing-counted, listing-ways, listing-movers}
use Rattle.joint_switches.proofs.slots.list_leaving.Goals as goal

pub loop-i-init : goal.loop-i-init
loop-i-init c =
    let a = c.args in
    listing-starts a.s.now a.index.now a.part a.from a.ways.now

pub take_switch-at-requires-clause-at_bound : goal.take_switch-at-requires-clause-at_bound
take_switch-at-requires-clause-at_bound c =
    let p = c.requires in
    let few = (good-component p.good_index.0 c.args.part.k p.good_index.1.inside).few in
    (omega (arith, c.loop-i.invariant.next, c.loop-i.invariant.few, few), omega arith)

pub loop-i-preserved : goal.loop-i-preserved
loop-i-preserved c =
    let taken = c.take_switch-at in
    let l = c.loop-i in
    let a = c.args in
    let p = c.requires in
    let few = (good-component p.good_index.0 a.part.k p.good_index.1.inside).few in
    listing-goes-on a.part a.from l.i l.at (omega arith) l.invariant p.from_bound.0 few (omega arith) taken.result taken.new.ways taken.ensures.value taken.ensures.ways_after

pub returns : goal.returns
returns c =
    let a = c.args in
    let l = c.loop-i in
    let end : length (component_at a.s.now a.index.now a.part.k).switches ≤ l.i = omega arith in record { value = listing-counted a.part a.from l.i l.at end l.invariant; ways_at = listing-ways a.part a.from l.i l.at end l.invariant; movers_at = listing-movers a.part a.from l.i l.at end l.invariant; other_lines = l.invariant.kept }
