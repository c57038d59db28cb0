-- Region and invariants, invariants on x', flow rows, the time and what follows it. Assumes nothing.
use native.Mathlib.Omega.{arith}
use Rattle.hypotheses.specs.Listing.{flow_lines}
use Rattle.hypotheses.proofs.TableLaws.{pushed, pushed_then, as-promised}
use Rattle.hypotheses.proofs.groups.flow_table.Goals as goal

pub returns : goal.returns
unfolding flow_lines
returns c = let both = as-promised (pushed_then (pushed (c.push_here-here.ensures.result_after, c.push_here-here.ensures.onto)) (pushed_then {j = 13} {n = 17} (pushed (c.push_modes-after.ensures.result_after, c.push_modes-after.ensures.onto)) (pushed_then {n = 13} (pushed (c.push_modes-rates.ensures.result_after, c.push_modes-rates.ensures.onto)) (pushed (c.push_time.ensures.result_after, c.push_time.ensures.onto)) (omega arith)) (omega arith)) (omega arith)) in record { result_after = both.0; onto = both.1 }
