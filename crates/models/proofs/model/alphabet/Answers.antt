-- By the two bytes, then by bit 0. Assumes nothing.
use Rattle.std.proofs.Common.{rules, Err, ◌≡◌, sym, ◌∙◌}
use Rattle.formats.specs.Reading.{got, u16}
use Rattle.fields.specs.Answers.{got_field}
use Rattle.fields.proofs.AnswerLaws.{field-value, field-refused}
use Rattle.fields.specs.Causes.{number_of}
use Rattle.models.proofs.ComponentLaws.{alphabet-refused, alphabet-even, alphabet-odd}
use Rattle.models.proofs.model.alphabet.Goals as goal

pub returns-then-value-eq0 : goal.returns-then-value-eq0
unfolding got_field
returns-then-value-eq0 c =
    let a = c.args in
    let s = a.s.now in
    let v = c.in_ok-value.value in
    let next = c.in_ok-value.next in
    let e : u16 s a.at ≡ got v next = sym c.half.ensures ∙ field-value c.in_ok-value.was in
    sym (alphabet-even s a.at v next e c.if-value-eq0.true)

pub returns-in_err-value : goal.returns-in_err-value
unfolding got_field
returns-in_err-value c =
    let a = c.args in
    let same : c.from_residual.result ≡ Err c.in_err-value.field-0.0 = search rules in
    field-refused same ∙ sym (alphabet-refused a.s.now a.at (number_of c.in_err-value.field-0.0.0) c.in_err-value.field-0.0.1 (sym c.half.ensures ∙ field-refused c.in_err-value.was))

pub returns : goal.returns
unfolding got_field
returns c =
    let a = c.args in
    let s = a.s.now in
    let v = c.in_ok-value.value in
    let next = c.in_ok-value.next in
    let e : u16 s a.at ≡ got v next = sym c.half.ensures ∙ field-value c.in_ok-value.was in
    sym (alphabet-odd s a.at v next e c.if-value-eq0.false)
