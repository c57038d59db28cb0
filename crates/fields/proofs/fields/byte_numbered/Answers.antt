-- The byte, then the test: below the count, or 255, or neither. Assumes nothing.
use Rattle.std.proofs.Common.{rules, ◌≡◌, Err, sym, ap, ◌∙◌}
use Rattle.formats.specs.Reading.{passing, must}
use Rattle.fields.specs.Answers.{got_field}
use Rattle.fields.proofs.AnswerLaws.{field-value, field-refused}
use Rattle.formats.proofs.FieldLaws.{numbered, numbered_below, numbered-last, numbered-not}
use Rattle.fields.proofs.fields.byte_numbered.Goals as goal

pub returns-then-value-count : goal.returns-then-value-count
unfolding got_field must
returns-then-value-count c =
    let a = c.args in
    sym (ap (passing (numbered a.count) 5 a.at) (sym c.byte.ensures ∙ field-value c.in_ok-value.was) ∙ numbered_below a.count c.in_ok-value.value a.at c.in_ok-value.next c.if-value-count.true)

pub returns-then-value-eq255 : goal.returns-then-value-eq255
unfolding got_field must
returns-then-value-eq255 c =
    let a = c.args in
    sym (ap (passing (numbered a.count) 5 a.at) (sym c.byte.ensures ∙ field-value c.in_ok-value.was) ∙ numbered-last a.count c.in_ok-value.value a.at c.in_ok-value.next c.if-value-count.false c.if-value-eq255.true)

pub returns-in_err-value : goal.returns-in_err-value
unfolding must passing
returns-in_err-value c =
    let a = c.args in
    let same : c.from_residual.result ≡ Err c.in_err-value.field-0.0 = search rules in
    field-refused same ∙ sym (ap (passing (numbered a.count) 5 a.at) (sym c.byte.ensures ∙ field-refused c.in_err-value.was))

pub returns : goal.returns
unfolding got_field must
returns c =
    let a = c.args in
    sym (ap (passing (numbered a.count) 5 a.at) (sym c.byte.ensures ∙ field-value c.in_ok-value.was) ∙ numbered-not a.count c.in_ok-value.value a.at c.in_ok-value.next c.if-value-count.false c.if-value-eq255.false)
