-- The place of a row fits. Assumes nothing.
use native.Mathlib.Omega.{arith}
use Rattle.formats.proofs.Versions.{rows_fit}
use Rattle.hypotheses.specs.Tables.{row_place}
use Rattle.queries.proofs.rows.row_at.Goals as goal

pub overflow_cast-result : goal.overflow_cast-result
unfolding row_place
overflow_cast-result c =
    omega (arith, c.requires.1.0, c.row_place.ensures, rows_fit c.args.version c.args.n c.args.line.row 65535 c.requires.0 (omega (arith, c.requires.1.1)))
