-- Three fields in their ranges; the third stands six bytes after the first. Assumes nothing.
use Rattle.std.proofs.Common.{rules, Err, ◌≡◌, sym, ◌∙◌}
use Prim.Native.Nat.{◌-◌, ◌^◌}
use Rattle.formats.specs.Reading.{got, u16, u32, within}
use Rattle.second_sheets.specs.RunAnswers.{opening_as}
use Rattle.fields.proofs.AnswerLaws.{field-value, field-refused}
use Rattle.fields.specs.Causes.{number_of}
use Rattle.second_sheets.proofs.StepLaws.{fields-refused, fields-first, fields-second, fields-third, fields_read}
use Rattle.second_sheets.proofs.run.opening_fields.Goals as goal

pub returns-in_err-q : goal.returns-in_err-q
unfolding opening_as
returns-in_err-q c =
    let a = c.args in
    let s = a.s.now in
    let same : c.from_residual.result ≡ Err c.in_err-q.field-0.0 = search rules in
    fields-refused _ _ same ∙ sym (fields-first s a.at a.locations (number_of c.in_err-q.field-0.0.0) c.in_err-q.field-0.0.1 (sym c.word_within.ensures ∙ field-refused c.in_err-q.was))

pub returns-in_err-steps : goal.returns-in_err-steps
unfolding opening_as
returns-in_err-steps c =
    let a = c.args in
    let s = a.s.now in
    let q = c.in_ok-q.q in
    let second = c.in_ok-q.second in
    let one : within 1 (2 ^ 24 - 1) u32 s a.at ≡ got q second = sym c.word_within.ensures ∙ field-value c.in_ok-q.was in
    let same : c.from_residual-in_err-steps.result ≡ Err c.in_err-steps.field-0.0 = search rules in
    fields-refused _ _ same ∙ sym (fields-second s a.at a.locations q second one (number_of c.in_err-steps.field-0.0.0) c.in_err-steps.field-0.0.1 (sym c.half_within.ensures ∙ field-refused c.in_err-steps.was))

pub returns-in_err-location : goal.returns-in_err-location
unfolding opening_as
returns-in_err-location c =
    let a = c.args in
    let s = a.s.now in
    let q = c.in_ok-q.q in
    let second = c.in_ok-q.second in
    let one : within 1 (2 ^ 24 - 1) u32 s a.at ≡ got q second = sym c.word_within.ensures ∙ field-value c.in_ok-q.was in
    let steps = c.in_ok-steps.steps in
    let third = c.in_ok-steps.third in
    let two : within 0 4095 u16 s second ≡ got steps third = sym c.half_within.ensures ∙ field-value c.in_ok-steps.was in
    let same : c.from_residual-in_err-location.result ≡ Err c.in_err-location.field-0.0 = search rules in
    fields-refused _ _ same ∙ sym (fields-third s a.at a.locations q second one steps third two (number_of c.in_err-location.field-0.0.0) c.in_err-location.field-0.0.1 (sym c.byte_below.ensures ∙ field-refused c.in_err-location.was))

pub returns : goal.returns
unfolding opening_as
returns c =
    let a = c.args in
    let s = a.s.now in
    let q = c.in_ok-q.q in
    let second = c.in_ok-q.second in
    let one : within 1 (2 ^ 24 - 1) u32 s a.at ≡ got q second = sym c.word_within.ensures ∙ field-value c.in_ok-q.was in
    let steps = c.in_ok-steps.steps in
    let third = c.in_ok-steps.third in
    let two : within 0 4095 u16 s second ≡ got steps third = sym c.half_within.ensures ∙ field-value c.in_ok-steps.was in
    sym (fields_read s a.at a.locations q second one steps third two c.in_ok-location.location c.in_ok-location.next (sym c.byte_below.ensures ∙ field-value c.in_ok-location.was))
