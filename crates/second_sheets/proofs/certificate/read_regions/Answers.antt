-- The count byte, which must be the number of locations, then as many regions. Assumes nothing.
use Rattle.std.proofs.Common.{rules, Err, ◌≡◌, sym, ap, ◌∙◌}
use Prim.Native.Nat.{ℕ, ◌*◌}
use lib.Dec.{eqb}
use Rattle.formats.specs.Reading.{got, u8, passing, must}
use Rattle.fields.specs.Answers.{got_as}
use Rattle.second_sheets.specs.CertificateAnswers.{regions_for}
use Rattle.models.proofs.IndexLaws.{kept-none}
use Rattle.fields.proofs.AnswerLaws.{field-value, field-refused}
use Rattle.fields.proofs.Skipping.{bind-refused}
use Rattle.fields.proofs.HeaderLaws.{equal-in, equal-out}
use Rattle.fields.proofs.AnswerLaws.{next-refused}
use Rattle.second_sheets.proofs.CertificateLaws.{regions-then}
use Rattle.second_sheets.proofs.certificate.read_regions.Goals as goal

pub returns-then-count-locations : goal.returns-then-count-locations
unfolding got_as regions_for must
returns-then-count-locations c =
    let a = c.args in
    let s = a.s.now in
    let count = c.in_ok-count.count in
    let next = c.in_ok-count.next in
    let e : u8 s a.at ≡ got count next = sym c.byte.ensures ∙ field-value c.in_ok-count.was in record { result_after = sym (bind-refused (must (λ v. eqb v a.locations) 5 u8) _ s a.at (ap (passing (λ v. eqb v a.locations) 5 a.at) e ∙ equal-out a.locations count 5 a.at next c.if-count-locations.true)); kept = kept-none 0 (2 * a.locations) a.regions.now }

pub returns-in_err-count : goal.returns-in_err-count
unfolding got_as regions_for must passing
returns-in_err-count c =
    let a = c.args in
    let s = a.s.now in
    let same : c.from_residual.result ≡ Err c.in_err-count.field-0.0 = search rules in
    record { result_after = next-refused _ same ∙ (sym (bind-refused (must (λ v. eqb v a.locations) 5 u8) _ s a.at (ap (passing (λ v. eqb v a.locations) 5 a.at) (sym c.byte.ensures ∙ field-refused c.in_err-count.was)))); kept = kept-none 0 (2 * a.locations) a.regions.now }

pub returns : goal.returns
unfolding regions_for must
returns c =
    let a = c.args in
    let s = a.s.now in
    let count = c.in_ok-count.count in
    let next = c.in_ok-count.next in
    let e : u8 s a.at ≡ got count next = sym c.byte.ensures ∙ field-value c.in_ok-count.was in
    let one : must (λ v. eqb v a.locations) 5 u8 s a.at ≡ got a.locations next = ap (passing (λ v. eqb v a.locations) 5 a.at) e ∙ equal-in a.locations count 5 a.at next c.if-count-locations.false ∙ ap (λ (v : ℕ). got v next) c.if-count-locations.false in record { result_after = regions-then s a.version a.n a.locations a.at next one _ c.regions_into.result c.regions_into.ensures.result_after; kept = c.regions_into.ensures.kept }
