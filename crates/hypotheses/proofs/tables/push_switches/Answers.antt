-- What was pushed, with the switches from this component on, is the whole. Assumes nothing.
use Prim.Native.Nat.{◌≤◌, ◌<◌}
use native.Mathlib.Omega.{arith}
use lib.ListN.{length}
use Rattle.models.specs.Index.{entry}
use Rattle.hypotheses.proofs.TableLaws.{pushed, as-promised, pushing-on, pushing-end}
use Rattle.hypotheses.proofs.ModeLines.{switches-next, switches-end}
use Rattle.hypotheses.proofs.tables.push_switches.Goals.{In-loop-k, Start}
use Rattle.hypotheses.proofs.tables.push_switches.Goals as goal

-- a component's number is one of the index's
among : (c : In-loop-k) → c.loop-k.k < entry c.args.index.now 1
unfolding entry
among c = omega (arith, c.loop-k-test.true, c.from-k-end.ensures)

-- there is a switch for each component
long : (s : Start) → entry s.args.index.now 1 ≤ length s.args.switches
unfolding entry
long s = omega (arith, s.requires.index_bound.0, s.well_formed.1.0.1.0.1)

pub loop-k-preserved : goal.loop-k-preserved
loop-k-preserved c =
    let k = c.push_switch-to in
    let at = goal.at.loop-k-preserved c in
    pushing-on c.loop-k.invariant (λ u. switches-next _ _ (long at.Start) _ (among at.In-loop-k)) (pushed (k.ensures.result_after, k.ensures.onto))

pub returns : goal.returns
unfolding entry
returns c =
    let end = c.from-k-end.ensures in
    let both = as-promised (pushing-end c.loop-k.invariant tt (switches-end _ _ (long (goal.at.returns c).Start) _ (omega (arith, end, c.loop-k-test.false))) (omega (arith, c.requires.index_bound.0, end, c.loop-k.auto.k-end))) in record { result_after = both.0; onto = both.1 }

pub bounds-switches-k : goal.bounds-switches-k
unfolding entry
bounds-switches-k c = omega (arith, c.loop-k-test.true, c.from-k-end.ensures, c.requires.index_bound.0)

pub push_switch-to-requires : goal.push_switch-to-requires
push_switch-to-requires c =
    let l = c.loop-k in
    let h = among (goal.at.push_switch-to-requires c).In-loop-k in
    let below : l.k < 4 = omega (arith, h, c.requires.index_bound.0) in record { k_bound = (below, c.requires.index_bound.1.each l.k h); in_bounds = (omega (arith, l.auto.table, c.requires.in_bounds.0), (omega (arith, l.invariant.pushed.onto.few, c.requires.in_bounds.1.0, below), l.invariant.pushed.onto.stacked)) }
