-- So many rows after the first. Assumes nothing.
use mathlib.Core.Path.{ap}
use Prim.Native.Nat.{ℕ, ◌+◌}
use native.Mathlib.Omega.{arith}
use Rattle.certificates.specs.Passed.{goal_place}
use Rattle.certificates.proofs.obligations.goal_place.Goals as goal

pub rows_bytes-requires : goal.rows_bytes-requires
rows_bytes-requires c = (omega (arith, c.requires.0), omega (arith, c.requires.1.0))

pub overflow_add-result : goal.overflow_add-result
overflow_add-result c = omega (arith, c.rows_bytes.ensures, c.requires.1.1)

pub returns : goal.returns
unfolding goal_place
returns c = ap (λ (k : ℕ). c.args.group.from + k) c.rows_bytes.ensures
