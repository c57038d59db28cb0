-- The time, then the variables. Assumes nothing.
use native.Mathlib.Omega.{arith}
use Rattle.hypotheses.proofs.TableLaws.{pushed, pushed_then, as-promised}
use Rattle.hypotheses.proofs.groups.push_time.Goals as goal

pub returns : goal.returns
returns c = let both = as-promised (pushed_then {n = 9} (pushed (c.push-time.ensures.result_after, c.push-time.ensures.onto)) (pushed (c.push_still.ensures.result_after, c.push_still.ensures.onto)) (omega arith)) in record { result_after = both.0; onto = both.1 }
