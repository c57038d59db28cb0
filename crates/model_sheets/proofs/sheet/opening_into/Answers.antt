-- The header, then the paper number. Assumes nothing.
use Rattle.std.proofs.Common.{rules, Err, ◌≡◌, sym, ap, ◌∙◌}
use mathlib.Core.List.{List}
use Prim.Native.Nat.{ℕ}
use borrow.Author.Rules.{rules}
use Rattle.formats.specs.Reading.{got, header}
use Rattle.formats.proofs.Versions.{version-small}
use Rattle.fields.specs.Answers.{got_as}
use Rattle.fields.proofs.AnswerLaws.{field-value, field-refused}
use Rattle.models.proofs.IndexLaws.{kept-none}
use Rattle.model_sheets.specs.Opening.{Opening}
use Rattle.formats.proofs.Header.{header_read}
use Rattle.fields.proofs.AnswerLaws.{next-refused}
use Rattle.fields.specs.Causes.{number_of}
use Rattle.model_sheets.proofs.OpeningLaws.{opening-first, opening-second, opening-both}
use Rattle.model_sheets.proofs.sheet.opening_into.Goals.{In_ok-version}
use Rattle.model_sheets.proofs.sheet.opening_into.Goals as goal

-- the header, once it is read
module _ (c : In_ok-version) where
  abbrev s : List ℕ
  s = c.args.s.now

  abbrev at : ℕ
  at = c.in_ok-version.at

  abbrev version : ℕ
  version = c.in_ok-version.version

  headed : header 1 s 0 ≡ got version at
  headed = sym c.header.ensures ∙ field-value c.in_ok-version.was

pub keep_opening-requires : goal.keep_opening-requires
keep_opening-requires c =
    (search rules, version-small 1 (version (goal.at.keep_opening-requires c).In_ok-version) (header_read 1 (s (goal.at.keep_opening-requires c).In_ok-version) 0 (version (goal.at.keep_opening-requires c).In_ok-version) (at (goal.at.keep_opening-requires c).In_ok-version) (headed (goal.at.keep_opening-requires c).In_ok-version)).fits)

pub returns-in_err-version : goal.returns-in_err-version
unfolding got_as
returns-in_err-version c = let a = c.args in
    let same : c.from_residual.result ≡ Err c.in_err-version.field-0.0 = search rules in
    record { result_after = next-refused _ same ∙ (sym (opening-first a.s.now (number_of c.in_err-version.field-0.0.0) c.in_err-version.field-0.0.1 (sym c.header.ensures ∙ field-refused c.in_err-version.was))); kept = kept-none 0 1004 a.index.now }

pub returns-in_err-paper : goal.returns-in_err-paper
unfolding got_as
returns-in_err-paper c = let same : c.from_residual-in_err-paper.result ≡ Err c.in_err-paper.field-0.0 = search rules in
    record { result_after = next-refused _ same ∙ (sym (opening-second (s (goal.at.returns-in_err-paper c).In_ok-version) (version (goal.at.returns-in_err-paper c).In_ok-version) (at (goal.at.returns-in_err-paper c).In_ok-version) (headed (goal.at.returns-in_err-paper c).In_ok-version) (number_of c.in_err-paper.field-0.0.0) c.in_err-paper.field-0.0.1 (sym c.read_paper.ensures ∙ field-refused c.in_err-paper.was))); kept = kept-none 0 1004 c.args.index.now }

pub returns : goal.returns
unfolding got_as
returns c =
    let kept = c.keep_opening.ensures in record { result_after = ap (λ (o : Opening). got o c.in_ok-paper.body) kept.index_after ∙ sym (opening-both (s (goal.at.returns c).In_ok-version) (version (goal.at.returns c).In_ok-version) (at (goal.at.returns c).In_ok-version) (headed (goal.at.returns c).In_ok-version) c.in_ok-paper.paper c.in_ok-paper.body (sym c.read_paper.ensures ∙ field-value c.in_ok-paper.was)); kept = kept.kept }
