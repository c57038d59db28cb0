-- What is left of the location's joint switches begins with those of the event that the search stands at. Assumes nothing.
use native.Mathlib.Omega.{arith}
use Rattle.papers.proofs.StandingLaws.{stands_at_lem}
use Rattle.queries.proofs.FindLaws.{few-here, in-joint, in_rest, in-none}
use Rattle.queries.proofs.find.find_leaving.Goals as goal

pub find_event-requires : goal.find_event-requires
find_event-requires c = record { stands = (let modes = c.modes_at-modes in let h = c.loop-e-test.true in (stands_at_lem c.args.paper.model.now c.args.paper.index.now c.args.location modes.result _ c.args.paper.good.good c.requires.location_bound.0 modes.ensures, (omega (arith, h), few-here _ _ _ 16 _ h c.loop-e.invariant.1 c.requires.location_bound.1))) }

pub loop-e-preserved : goal.loop-e-preserved
loop-e-preserved c =
    let h = c.loop-e-test.true in
    (omega (arith, h), in_rest _ _ _ 16 _ h c.loop-e.invariant.1 c.find_event.ensures c.in_ok-spot.was)

pub returns : goal.returns
returns c = in-none _ _ _ 16 _ c.loop-e-test.false c.loop-e.invariant.1

pub returns-in_err-spot : goal.returns-in_err-spot
returns-in_err-spot c =
    in-joint _ _ _ 16 _ c.loop-e-test.true c.loop-e.invariant.1 c.find_event.ensures c.in_err-spot.was c.from_residual.ensures
