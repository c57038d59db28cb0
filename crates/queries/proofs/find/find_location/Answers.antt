-- The obligation sought is so many on among those from this location on. Assumes nothing.
use native.Mathlib.Omega.{arith}
use Rattle.queries.proofs.FindLaws.{one_on_lem, paper-start}
use Rattle.queries.proofs.find.find_location.Goals as goal

pub loop-at-init : goal.loop-at-init
loop-at-init c = (omega arith, paper-start _ _ _ _ _ c.args.o c.requires.locations_value)

pub loop-at-preserved : goal.loop-at-preserved
loop-at-preserved c =
    let l = c.loop-at in
    let h = c.loop-at-test.true in
    (omega (arith, h), one_on_lem _ _ _ l.at l.left h c.location_goals-goals.ensures c.if-left-goals.false l.invariant.1)
