-- The k in its range, then the count of entries in its. Assumes nothing.
use Rattle.std.proofs.Common.{rules, Err, ◌≡◌, refl, sym, ap, ◌∙◌}
use Prim.Native.Nat.{ℕ, ◌-◌, ◌^◌}
use mathlib.Core.Bool.{cond}
use Rattle.formats.specs.Reading.{got, u8, u32, within, give}
use Rattle.fields.specs.Answers.{got_field}
use Rattle.second_sheets.specs.CertificateAnswers.{read_head}
use Rattle.fields.proofs.AnswerLaws.{field-value, field-refused}
use Rattle.formats.proofs.Gives.{bind-got}
use Rattle.fields.proofs.Skipping.{bind-refused}
use Rattle.second_sheets.proofs.certificate.proof_head.Goals as goal

pub returns-in_err-k : goal.returns-in_err-k
unfolding got_field read_head
returns-in_err-k c =
    let a = c.args in
    let s = a.s.now in
    let most = cond a.zero 0 (2 ^ 24 - 1) in
    let word : got_field c.word_within.result ≡ within 0 most u32 s a.at = ◌∙◌ {b = within 0 c.largest_k.result u32 s a.at} c.word_within.ensures (ap (λ (v : ℕ). within 0 v u32 s a.at) c.largest_k.ensures) in
    let same : c.from_residual.result ≡ Err c.in_err-k.field-0.0 = search rules in
    field-refused same ∙ sym (bind-refused (within 0 most u32) _ s a.at (sym word ∙ field-refused c.in_err-k.was))

pub returns-in_err-count : goal.returns-in_err-count
unfolding got_field read_head
returns-in_err-count c =
    let a = c.args in
    let s = a.s.now in
    let most = cond a.zero 0 (2 ^ 24 - 1) in
    let word : got_field c.word_within.result ≡ within 0 most u32 s a.at = ◌∙◌ {b = within 0 c.largest_k.result u32 s a.at} c.word_within.ensures (ap (λ (v : ℕ). within 0 v u32 s a.at) c.largest_k.ensures) in
    let k = c.in_ok-k.k in
    let next = c.in_ok-k.next in
    let e : within 0 most u32 s a.at ≡ got k next = sym word ∙ field-value c.in_ok-k.was in
    let same : c.from_residual-in_err-count.result ≡ Err c.in_err-count.field-0.0 = search rules in
    field-refused same ∙ sym (bind-got (within 0 most u32) _ s a.at e (bind-refused (within 0 128 u8) _ s next (sym c.byte_within.ensures ∙ field-refused c.in_err-count.was)))

pub returns : goal.returns
unfolding got_field read_head give
returns c =
    let a = c.args in
    let s = a.s.now in
    let most = cond a.zero 0 (2 ^ 24 - 1) in
    let word : got_field c.word_within.result ≡ within 0 most u32 s a.at = ◌∙◌ {b = within 0 c.largest_k.result u32 s a.at} c.word_within.ensures (ap (λ (v : ℕ). within 0 v u32 s a.at) c.largest_k.ensures) in
    let k = c.in_ok-k.k in
    let next = c.in_ok-k.next in
    let e : within 0 most u32 s a.at ≡ got k next = sym word ∙ field-value c.in_ok-k.was in
    sym (bind-got (within 0 most u32) _ s a.at e (bind-got (within 0 128 u8) _ s next (sym c.byte_within.ensures ∙ field-value c.in_ok-count.was) refl))
