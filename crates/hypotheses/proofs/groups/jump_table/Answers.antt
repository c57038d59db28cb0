-- The target's invariants, the jump rows, the staying variables. Assumes nothing.
use native.Mathlib.Omega.{arith}
use Rattle.models.specs.Counts.{per_component}
use Rattle.hypotheses.specs.Listing.{landing_lines}
use Rattle.hypotheses.proofs.TableLaws.{pushed, pushed_then, as-promised}
use Rattle.hypotheses.proofs.groups.jump_table.Goals as goal

pub returns : goal.returns
unfolding landing_lines per_component
returns c = let both = as-promised (pushed_then {n = 16} (pushed (c.push_modes-after.ensures.result_after, c.push_modes-after.ensures.onto)) (pushed_then {n = 12} (pushed (c.push_switches-moved.ensures.result_after, c.push_switches-moved.ensures.onto)) (pushed (c.push_staying.ensures.result_after, c.push_staying.ensures.onto)) (omega arith)) (omega arith)) in record { result_after = both.0; onto = both.1 }
