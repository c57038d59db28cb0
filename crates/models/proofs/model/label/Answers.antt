-- By the byte, then by 0 and by the alphabet. Assumes nothing.
use Rattle.std.proofs.Common.{rules, Err, ◌≡◌, sym, ◌∙◌}
use Rattle.formats.specs.Reading.{got, u8, within}
use Rattle.fields.specs.Answers.{got_field}
use Rattle.fields.specs.Causes.{number_of}
use Rattle.models.proofs.ModelLaws.{label-refused, label-zero, label-event, label-outside}
use Rattle.fields.proofs.AnswerLaws.{field-value, field-refused}
use Rattle.formats.proofs.FieldLaws.{range-read}
use Rattle.models.proofs.model.label.Goals as goal

pub returns-then-value-eq0 : goal.returns-then-value-eq0
unfolding got_field
returns-then-value-eq0 c =
    let a = c.args in
    let s = a.s.now in
    let v = c.in_ok-value.value in
    let next = c.in_ok-value.next in
    let e : within 0 15 u8 s a.at ≡ got v next = sym c.byte_within.ensures ∙ field-value c.in_ok-value.was in
    sym (label-zero a.alphabet s a.at v next e c.if-value-eq0.true)

pub has_event-requires : goal.has_event-requires
has_event-requires c =
    let a = c.args in
    let s = a.s.now in
    let v = c.in_ok-value.value in
    let next = c.in_ok-value.next in
    let e : within 0 15 u8 s a.at ≡ got v next = sym c.byte_within.ensures ∙ field-value c.in_ok-value.was in
    (range-read u8 0 15 s a.at v next e).high

pub returns-then-has_event : goal.returns-then-has_event
unfolding got_field
returns-then-has_event c =
    let a = c.args in
    let s = a.s.now in
    let v = c.in_ok-value.value in
    let next = c.in_ok-value.next in
    let e : within 0 15 u8 s a.at ≡ got v next = sym c.byte_within.ensures ∙ field-value c.in_ok-value.was in
    sym (label-event a.alphabet s a.at v next e c.if-value-eq0.false (sym c.has_event.ensures ∙ c.if-has_event.true))

pub returns-in_err-value : goal.returns-in_err-value
unfolding got_field
returns-in_err-value c =
    let a = c.args in
    let same : c.from_residual.result ≡ Err c.in_err-value.field-0.0 = search rules in
    field-refused same ∙ sym (label-refused a.alphabet a.s.now a.at (number_of c.in_err-value.field-0.0.0) c.in_err-value.field-0.0.1 (sym c.byte_within.ensures ∙ field-refused c.in_err-value.was))

pub returns : goal.returns
unfolding got_field
returns c =
    let a = c.args in
    let s = a.s.now in
    let v = c.in_ok-value.value in
    let next = c.in_ok-value.next in
    let e : within 0 15 u8 s a.at ≡ got v next = sym c.byte_within.ensures ∙ field-value c.in_ok-value.was in
    sym (label-outside a.alphabet s a.at v next e c.if-value-eq0.false (sym c.has_event.ensures ∙ c.if-has_event.false))
