-- The refusal of the field itself, then its value below the count or not. Assumes nothing.
use Rattle.std.proofs.Common.{rules, ◌≡◌, Err, ap, sym, ◌∙◌}
use lib.Dec.{ltb}
use Rattle.formats.specs.Reading.{passing}
use Rattle.fields.specs.Answers.{got_field}
use Rattle.fields.proofs.AnswerLaws.{field-value, field-refused}
use Rattle.formats.proofs.FieldLaws.{below_in, below_out}
use Rattle.fields.proofs.fields.under.Goals as goal

pub returns-in_err-value : goal.returns-in_err-value
unfolding got_field passing
returns-in_err-value c =
    let a = c.args in
    let same : c.from_residual.result ≡ Err c.in_err-value.field-0.0 = search rules in
    field-refused same ∙ sym (ap (λ g. passing (λ v. ltb v a.count) 5 a.at g) (field-refused c.in_err-value.was))

pub returns-then-value-count : goal.returns-then-value-count
unfolding got_field
returns-then-value-count c =
    let a = c.args in
    sym (ap (λ g. passing (λ v. ltb v a.count) 5 a.at g) (field-value c.in_ok-value.was) ∙ below_in a.count c.in_ok-value.value a.at c.in_ok-value.next c.if-value-count.true)

pub returns-else-value-count : goal.returns-else-value-count
unfolding got_field
returns-else-value-count c =
    let a = c.args in
    sym (ap (λ g. passing (λ v. ltb v a.count) 5 a.at g) (field-value c.in_ok-value.was) ∙ below_out a.count c.in_ok-value.value a.at c.in_ok-value.next c.if-value-count.false)
