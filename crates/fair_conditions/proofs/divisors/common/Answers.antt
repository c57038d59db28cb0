-- A turn keeps the common divisors. Assumes nothing.
use Rattle.fair_conditions.proofs.CommonLaws.{alike-goes-on}
use native.Mathlib.Omega.{arith}
use Rattle.fair_conditions.proofs.divisors.common.Goals as goal

pub loop-y-preserved : goal.loop-y-preserved
loop-y-preserved c =
    let l = c.loop-y in
    alike-goes-on _ _ l.x l.y (omega arith) l.invariant
