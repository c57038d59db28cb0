-- The region, then the invariants. Assumes nothing.
use native.Mathlib.Omega.{arith}
use Rattle.hypotheses.specs.Listing.{here_lines}
use Rattle.hypotheses.proofs.TableLaws.{pushed, pushed_then, as-promised}
use Rattle.hypotheses.proofs.groups.push_here.Goals as goal

pub returns : goal.returns
unfolding here_lines
returns c = let both = as-promised (pushed_then (pushed (c.push_kept-at.ensures.result_after, c.push_kept-at.ensures.onto)) (pushed (c.push_modes.ensures.result_after, c.push_modes.ensures.onto)) (omega arith)) in record { result_after = both.0; onto = both.1 }
