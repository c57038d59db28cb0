-- The refusal of the field itself, then its value below, above or in the range. Assumes nothing.
use Rattle.std.proofs.Common.{rules, ◌≡◌, Err, ap, sym, ◌∙◌}
use mathlib.Core.Bool.{◌&&◌}
use lib.Dec.{leb}
use Rattle.formats.specs.Reading.{passing}
use Rattle.fields.specs.Answers.{got_field}
use Rattle.fields.proofs.AnswerLaws.{field-value, field-refused}
use Rattle.formats.proofs.FieldLaws.{range-low, range-high, range-in}
use Rattle.fields.proofs.fields.in_range.Goals as goal

pub returns-in_err-value : goal.returns-in_err-value
unfolding got_field passing
returns-in_err-value c =
    let a = c.args in
    let same : c.from_residual.result ≡ Err c.in_err-value.field-0.0 = search rules in
    field-refused same ∙ sym (ap (λ g. passing (λ v. leb a.least v && leb v a.most) 5 a.at g) (field-refused c.in_err-value.was))

pub returns-then-value-least : goal.returns-then-value-least
unfolding got_field
returns-then-value-least c =
    let a = c.args in
    sym (ap (λ g. passing (λ v. leb a.least v && leb v a.most) 5 a.at g) (field-value c.in_ok-value.was) ∙ range-low a.least a.most c.in_ok-value.value a.at c.in_ok-value.next c.if-value-least.true)

pub returns-then-most-value : goal.returns-then-most-value
unfolding got_field
returns-then-most-value c =
    let a = c.args in
    sym (ap (λ g. passing (λ v. leb a.least v && leb v a.most) 5 a.at g) (field-value c.in_ok-value.was) ∙ range-high a.least a.most c.in_ok-value.value a.at c.in_ok-value.next c.if-value-least.false c.if-most-value.true)

pub returns : goal.returns
unfolding got_field
returns c =
    let a = c.args in
    sym (ap (λ g. passing (λ v. leb a.least v && leb v a.most) 5 a.at g) (field-value c.in_ok-value.was) ∙ range-in a.least a.most c.in_ok-value.value a.at c.in_ok-value.next c.if-value-least.false c.if-most-value.false)
