-- By the form: a row of the certificate, a jump row, no row of a sheet, or a row of the model. Assumes nothing.
use mathlib.Core.Path.{ap₂, ◌∙◌}
use native.Mathlib.Omega.{arith}
use Rattle.queries.specs.declared.RowFound.TheVariants as row
use Rattle.queries.proofs.HeldLaws.{form-second, form-jump, form-model, form-nowhere}
use Rattle.queries.proofs.rows.line_row.Goals as goal

pub returns-in-1 : goal.returns-in-1
returns-in-1 c = ap₂ row.InSecond c.row_at.ensures c.row_size.ensures ∙ form-second _ _ _ _ _ _ _ c.in-1.is

pub returns-in-7 : goal.returns-in-7
returns-in-7 c = ap₂ row.InModel c.row_at-in-7.ensures c.row_size-in-7.ensures ∙ form-jump _ _ _ _ _ _ _ c.in-7.is

pub returns-in_default : goal.returns-in_default
returns-in_default c = form-nowhere _ _ _ _ _ _ _ (omega arith) (λ e. omega (arith, e, c.in_default))

pub returns-in_default-2 : goal.returns-in_default-2
returns-in_default-2 c =
    ap₂ row.InModel c.row_at-in_default-2.ensures c.row_size-in_default-2.ensures
    ∙ form-model _ _ _ _ _ _ _ (omega arith) (λ e. omega (arith, e, c.in_default))
