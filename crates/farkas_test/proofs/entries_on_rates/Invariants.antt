-- After i of the entries no number is larger than i * 2 ^ 55. Assumes nothing.
use Rattle.std.proofs.Common.{◌*◌, ◌^◌, pos}
use Rattle.farkas.specs.Rows.{row_of}
use Rattle.farkas.specs.Sizes.{Within}
use Rattle.farkas_test.proofs.entries_on_rates.Given as goal

abbrev pub invariant-loop-i : goal.invariant-loop-i
invariant-loop-i l = Within (l._i * 2 ^ 55) (row_of l.sums (pos 0))
