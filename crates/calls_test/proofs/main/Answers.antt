-- The buffer is as long as it was made, and what is read fits it. The level and the type are written out, so that the bytes of the buffer
-- are not counted one by one. Assumes nothing.
use Rattle.std.proofs.Common.{sym, ℕ}
use Rattle.std.proofs.lemmas.List.{length-replicate}
use Rattle.calls_test.proofs.main.Goals as goal

pub slice_bounds-read_full-end : goal.slice_bounds-read_full-end
slice_bounds-read_full-end c = sym (length-replicate {0} {A = ℕ} 262144 0)

pub slice_bounds-all-end : goal.slice_bounds-all-end
slice_bounds-all-end c = c.in_ok-n.ensures.bound.0

pub slice_bounds-calls-end : goal.slice_bounds-calls-end
slice_bounds-calls-end c = c.in_ok-n.ensures.bound.1
