-- The tests in the order of the definition. Assumes nothing.
use mathlib.Core.Path.{◌≡◌, sym, ap, ◌∙◌}
use native.Mathlib.Omega.{arith}
use borrow.Author.Rules.{rules}
use lib.IntN.{ℤ}
use mir.Facts.{to_z-of_z}
use mir.Syntax.{w32}
use mir.Val.{SFits}
use Rattle.std.specs.Prelude.{Ok}
use Rattle.typed.specs.declared.forms.Form.{Form}
use Rattle.typed.specs.Typed.{Answered, row_of, text_refused, value_refused, worked_row}
use Rattle.typed.proofs.TypedLaws.{too_few, too_many, too_long, fails, keeps, place-told}
use Rattle.typed.proofs.row.read_row.Goals as goal

-- a form as a row
told : (x : Form) (z : ℤ) → z ≡ x.number → ◌≡◌ {A = Answered} (Ok (record { coefficients = x.coefficients; bound = z })) (row_of x)
told x z e = λ k. Ok (record { coefficients = x.coefficients; bound = e k })

pub returns-then-variables-lt1-clause-value : goal.returns-then-variables-lt1-clause-value
returns-then-variables-lt1-clause-value c = let a = c.args in sym (too_few a.variables a.text.now c.if-variables-lt1.true)

pub returns-then-variables-gt-VARIABLES-clause-value : goal.returns-then-variables-gt-VARIABLES-clause-value
returns-then-variables-gt-VARIABLES-clause-value c =
    let a = c.args in
    sym (too_many a.variables a.text.now c.if-variables-lt1.false c.if-variables-gt-VARIABLES.true)

pub returns-then-text-gt-TEXT_LENGTH-clause-value : goal.returns-then-text-gt-TEXT_LENGTH-clause-value
returns-then-text-gt-TEXT_LENGTH-clause-value c =
    let a = c.args in
    sym (too_long a.variables a.text.now c.if-variables-lt1.false c.if-variables-gt-VARIABLES.false c.if-text-gt-TEXT_LENGTH.true)

pub returns-in_err-scan-clause-value : goal.returns-in_err-scan-clause-value
returns-in_err-scan-clause-value c =
    let a = c.args in
    let e = c.in_err-scan in
    let is : c.from_residual.result ≡ text_refused e.field-0.0.place = grind arith in
    is ∙ sym (fails a.variables a.text.now c.if-variables-lt1.false c.if-variables-gt-VARIABLES.false c.if-text-gt-TEXT_LENGTH.false e.field-0.0.place (sym c.scan.ensures ∙ e.was))

pub returns-in_err-form-clause-value : goal.returns-in_err-form-clause-value
unfolding worked_row
returns-in_err-form-clause-value c =
    let a = c.args in
    let e = c.in_err-form in
    let is : c.from_residual-in_err-form.result ≡ value_refused e.field-0.0.place = grind arith in
    is ∙ sym (ap worked_row e.was) ∙ ap worked_row c.work.ensures ∙ sym (keeps a.variables a.text.now c.if-variables-lt1.false c.if-variables-gt-VARIABLES.false c.if-text-gt-TEXT_LENGTH.false (sym c.scan.ensures ∙ c.in_ok-scan.was))

pub returns-clause-value : goal.returns-clause-value
unfolding worked_row
returns-clause-value c =
    let a = c.args in
    let w = c.in_ok-form.field-0 in
    let fits : SFits w32 w.form.number = search rules in
    told w.form _ (to_z-of_z fits)
    ∙ sym (ap worked_row c.in_ok-form.was) ∙ ap worked_row c.work.ensures ∙ sym (keeps a.variables a.text.now c.if-variables-lt1.false c.if-variables-gt-VARIABLES.false c.if-text-gt-TEXT_LENGTH.false (sym c.scan.ensures ∙ c.in_ok-scan.was))

pub returns-in_err-scan-clause-place : goal.returns-in_err-scan-clause-place
returns-in_err-scan-clause-place c = place-told c.args.variables c.args.text.now c.from_residual.result (returns-in_err-scan-clause-value c)

pub returns-in_err-form-clause-place : goal.returns-in_err-form-clause-place
returns-in_err-form-clause-place c = place-told c.args.variables c.args.text.now c.from_residual-in_err-form.result (returns-in_err-form-clause-value c)
