-- A sum that was read fits in 64 bits, so it is 0 where its bits are. Assumes nothing.
use Rattle.std.proofs.Common.{rules}
use Rattle.farkas.proofs.SumTest.{zero-bits}
use Rattle.farkas.proofs.fn.all_zero.all.Goals as goal

pub returns : goal.returns
returns c = zero-bits c.args.sum.now (search rules)
