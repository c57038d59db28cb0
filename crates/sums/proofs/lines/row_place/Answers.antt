-- So many rows after the first. Assumes nothing.
use mathlib.Core.Path.{ap}
use Prim.Native.Nat.{ℕ, ◌+◌}
use native.Mathlib.Omega.{arith}
use Rattle.formats.proofs.Versions.{rows_fit}
use Rattle.hypotheses.specs.Tables.{row_place}
use Rattle.sums.proofs.lines.row_place.Goals as goal

pub rows_bytes-requires : goal.rows_bytes-requires
rows_bytes-requires c = (c.requires.0, c.requires.1.1)

pub overflow_add-result : goal.overflow_add-result
overflow_add-result c =
    omega (arith, c.requires.1.0, c.rows_bytes.ensures, rows_fit c.args.version c.args.n c.args.line.row 65535 c.requires.0 (omega (arith, c.requires.1.1)))

pub returns : goal.returns
unfolding row_place
returns c = ap (λ (k : ℕ). c.args.line.place + k) c.rows_bytes.ensures
