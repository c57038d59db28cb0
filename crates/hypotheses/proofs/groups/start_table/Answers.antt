-- The initial rows, then the invariants. Assumes nothing.
use native.Mathlib.Omega.{arith}
use Rattle.hypotheses.specs.Listing.{start_lines}
use Rattle.hypotheses.proofs.TableLaws.{pushed, pushed_then, as-promised}
use Rattle.hypotheses.proofs.groups.start_table.Goals as goal

pub returns : goal.returns
unfolding start_lines
returns c = let both = as-promised (pushed_then (pushed (c.push_modes-at.ensures.result_after, c.push_modes-at.ensures.onto)) (pushed (c.push_modes.ensures.result_after, c.push_modes.ensures.onto)) (omega arith)) in record { result_after = both.0; onto = both.1 }
