-- The hypothesis below the count and not below the least, then the multiplier in its range. Assumes nothing.
use Rattle.std.proofs.Common.{rules, Err, ◌≡◌, refl, sym, ap, ◌∙◌}
use Prim.Native.Nat.{◌-◌, ◌^◌}
use lib.Dec.{leb}
use Rattle.formats.specs.Reading.{got, u8, u32, within, below, passing, must, give}
use Rattle.formats.specs.Certificate.{read_entry}
use Rattle.second_sheets.specs.CertificateAnswers.{got_entry}
use Rattle.fields.proofs.AnswerLaws.{field-value, field-refused}
use Rattle.formats.proofs.Gives.{bind-got}
use Rattle.fields.proofs.Skipping.{bind-refused}
use Rattle.second_sheets.proofs.CertificateLaws.{least-in, least-out}
use Rattle.second_sheets.proofs.certificate.entry.Goals as goal

pub returns-then-hypothesis-least : goal.returns-then-hypothesis-least
unfolding got_entry read_entry must
returns-then-hypothesis-least c =
    let a = c.args in
    let s = a.s.now in
    let hypothesis = c.in_ok-hypothesis.hypothesis in
    let next = c.in_ok-hypothesis.next in
    let e : below a.hypotheses u8 s a.at ≡ got hypothesis next = sym c.byte_below.ensures ∙ field-value c.in_ok-hypothesis.was in
    sym (bind-refused (must (λ v. leb a.least v) 9 (below a.hypotheses u8)) _ s a.at (ap (passing (λ v. leb a.least v) 9 a.at) e ∙ least-out a.least hypothesis a.at next c.if-hypothesis-least.true))

pub returns-in_err-hypothesis : goal.returns-in_err-hypothesis
unfolding got_entry read_entry must passing
returns-in_err-hypothesis c =
    let a = c.args in
    let s = a.s.now in
    let same : c.from_residual.result ≡ Err c.in_err-hypothesis.field-0.0 = search rules in
    ap got_entry same ∙ sym (bind-refused (must (λ v. leb a.least v) 9 (below a.hypotheses u8)) _ s a.at (ap (passing (λ v. leb a.least v) 9 a.at) (sym c.byte_below.ensures ∙ field-refused c.in_err-hypothesis.was)))

pub returns-in_err-multiplier : goal.returns-in_err-multiplier
unfolding got_entry read_entry must
returns-in_err-multiplier c =
    let a = c.args in
    let s = a.s.now in
    let hypothesis = c.in_ok-hypothesis.hypothesis in
    let next = c.in_ok-hypothesis.next in
    let e : below a.hypotheses u8 s a.at ≡ got hypothesis next = sym c.byte_below.ensures ∙ field-value c.in_ok-hypothesis.was in
    let one : must (λ v. leb a.least v) 9 (below a.hypotheses u8) s a.at ≡ got hypothesis next = ap (passing (λ v. leb a.least v) 9 a.at) e ∙ least-in a.least hypothesis a.at next c.if-hypothesis-least.false in
    let same : c.from_residual-in_err-multiplier.result ≡ Err c.in_err-multiplier.field-0.0 = search rules in
    ap got_entry same ∙ sym (bind-got (must (λ v. leb a.least v) 9 (below a.hypotheses u8)) _ s a.at one (bind-refused (within 1 (2 ^ 24 - 1) u32) _ s next (sym c.word_within.ensures ∙ field-refused c.in_err-multiplier.was)))

pub returns : goal.returns
unfolding got_entry read_entry must give
returns c =
    let a = c.args in
    let s = a.s.now in
    let hypothesis = c.in_ok-hypothesis.hypothesis in
    let next = c.in_ok-hypothesis.next in
    let e : below a.hypotheses u8 s a.at ≡ got hypothesis next = sym c.byte_below.ensures ∙ field-value c.in_ok-hypothesis.was in
    let one : must (λ v. leb a.least v) 9 (below a.hypotheses u8) s a.at ≡ got hypothesis next = ap (passing (λ v. leb a.least v) 9 a.at) e ∙ least-in a.least hypothesis a.at next c.if-hypothesis-least.false in
    sym (bind-got (must (λ v. leb a.least v) 9 (below a.hypotheses u8)) _ s a.at one (bind-got (within 1 (2 ^ 24 - 1) u32) _ s next (sym c.word_within.ensures ∙ field-value c.in_ok-multiplier.was) refl))
