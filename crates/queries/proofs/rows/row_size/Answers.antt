-- The bytes of a row, which fit. Assumes nothing.
use native.Mathlib.Omega.{arith}
use Rattle.formats.proofs.Versions.{row_fits}
use Rattle.queries.proofs.rows.row_size.Goals as goal

pub overflow_cast-result : goal.overflow_cast-result
overflow_cast-result c =
    omega (arith, c.row_bytes.ensures, row_fits c.args.version c.args.n c.requires)
