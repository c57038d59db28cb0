-- A table of zeros is blank. Assumes nothing.
use native.Mathlib.Omega.{arith}
use Rattle.joint_switches.proofs.TableLaws.{zeros-blank}
use Rattle.scores.proofs.counting.obligation_count.Goals as goal

pub count_entering-requires-clause-in_bounds : goal.count_entering-requires-clause-in_bounds
count_entering-requires-clause-in_bounds c = (omega arith, zeros-blank 512)
