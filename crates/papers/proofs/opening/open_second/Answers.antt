-- Each way out is one of the ways in which a second sheet opens or is refused. Assumes nothing.
use Rattle.std.proofs.Common.{rules, Err, ◌≡◌, sym, ap, ◌∙◌}
use mathlib.Core.List.{List}
use Prim.Native.Nat.{ℕ}
use Rattle.formats.specs.Versions.{pair_of}
use Rattle.formats.specs.Reading.{got, read_paper}
use Rattle.formats.specs.Reading as reading
use Rattle.models.specs.Index.{version_in, model_from}
use Rattle.fields.specs.Answers.{got_field}
use Rattle.fields.proofs.AnswerLaws.{field-value, field-refused}
use Rattle.rules.proofs.Pairing.{header-first, versions-apart, paper-cut, papers-apart, opens-pair}
use Rattle.fields.specs.Causes.{number_of}
use Rattle.papers.proofs.opening.open_second.Goals.{After-pair_of, In_ok-paper}
use Rattle.papers.proofs.opening.open_second.Goals as goal

-- the header, once it is read, and the version that goes with the model's
module _ (c : After-pair_of) where
  abbrev index : List ℕ
  index = c.args.index.now

  abbrev s : List ℕ
  s = c.args.second.now

  abbrev kind : ℕ
  kind = c.args.kind

  abbrev version : ℕ
  version = c.in_ok-version.version

  abbrev at : ℕ
  at = c.in_ok-version.at

  headed : reading.header kind s 0 ≡ got version at
  headed = sym c.header.ensures ∙ field-value c.in_ok-version.was

  wanted : c.pair_of.result ≡ pair_of (version_in index)
  wanted = c.pair_of.ensures ∙ ap pair_of c.version_of.ensures

-- the paper number, once it is read
module _ (c : In_ok-paper) where
  abbrev body : ℕ
  body = c.in_ok-paper.body

  abbrev paper : ℕ
  paper = c.in_ok-paper.paper

  same : version (goal.at.In_ok-paper c).After-pair_of ≡ pair_of (version_in (index (goal.at.In_ok-paper c).After-pair_of))
  same = c.if-version-pair_of.false ∙ wanted (goal.at.In_ok-paper c).After-pair_of

  numbered : read_paper (version (goal.at.In_ok-paper c).After-pair_of) (s (goal.at.In_ok-paper c).After-pair_of) (at (goal.at.In_ok-paper c).After-pair_of) ≡ got paper body
  numbered = sym c.read_paper.ensures ∙ field-value c.in_ok-paper.was

pub returns-then-version-pair_of : goal.returns-then-version-pair_of
unfolding got_field model_from
returns-then-version-pair_of c =
    λ model.
    sym (versions-apart (kind (goal.at.returns-then-version-pair_of c).After-pair_of) (model_from model (index (goal.at.returns-then-version-pair_of c).After-pair_of)) (s (goal.at.returns-then-version-pair_of c).After-pair_of) (version (goal.at.returns-then-version-pair_of c).After-pair_of) (at (goal.at.returns-then-version-pair_of c).After-pair_of) (headed (goal.at.returns-then-version-pair_of c).After-pair_of) (λ e. c.if-version-pair_of.true (e ∙ sym (wanted (goal.at.returns-then-version-pair_of c).After-pair_of))))

pub returns-then-paper-paper_of : goal.returns-then-paper-paper_of
unfolding got_field model_from
returns-then-paper-paper_of c =
    λ model.
    sym (papers-apart (kind (goal.at.returns-then-paper-paper_of c).After-pair_of) (model_from model (index (goal.at.returns-then-paper-paper_of c).After-pair_of)) (s (goal.at.returns-then-paper-paper_of c).After-pair_of) (version (goal.at.returns-then-paper-paper_of c).After-pair_of) (at (goal.at.returns-then-paper-paper_of c).After-pair_of) (headed (goal.at.returns-then-paper-paper_of c).After-pair_of) (same (goal.at.returns-then-paper-paper_of c).In_ok-paper) (paper (goal.at.returns-then-paper-paper_of c).In_ok-paper) (body (goal.at.returns-then-paper-paper_of c).In_ok-paper) (numbered (goal.at.returns-then-paper-paper_of c).In_ok-paper) (λ e. c.if-paper-paper_of.true (e ∙ sym c.paper_of.ensures)))

pub returns-in_err-version : goal.returns-in_err-version
unfolding got_field
returns-in_err-version c =
    λ model.
    let a = c.args in
    let same : c.from_residual.result ≡ Err c.in_err-version.field-0.0 = search rules in
    field-refused same ∙ sym (header-first a.kind (model_from model a.index.now) a.second.now (number_of c.in_err-version.field-0.0.0) c.in_err-version.field-0.0.1 (sym c.header.ensures ∙ field-refused c.in_err-version.was))

pub returns-in_err-paper : goal.returns-in_err-paper
unfolding got_field model_from
returns-in_err-paper c =
    let same : c.from_residual-in_err-paper.result ≡ Err c.in_err-paper.field-0.0 = search rules in
    λ model. field-refused same ∙ sym (paper-cut (kind (goal.at.returns-in_err-paper c).After-pair_of) (model_from model (index (goal.at.returns-in_err-paper c).After-pair_of)) (s (goal.at.returns-in_err-paper c).After-pair_of) (version (goal.at.returns-in_err-paper c).After-pair_of) (at (goal.at.returns-in_err-paper c).After-pair_of) (headed (goal.at.returns-in_err-paper c).After-pair_of) (c.if-version-pair_of.false ∙ wanted (goal.at.returns-in_err-paper c).After-pair_of) (number_of c.in_err-paper.field-0.0.0) c.in_err-paper.field-0.0.1 (sym c.read_paper.ensures ∙ field-refused c.in_err-paper.was))

pub returns : goal.returns
unfolding got_field model_from
returns c =
    λ model.
    sym (opens-pair (kind (goal.at.returns c).After-pair_of) (model_from model (index (goal.at.returns c).After-pair_of)) (s (goal.at.returns c).After-pair_of) (version (goal.at.returns c).After-pair_of) (at (goal.at.returns c).After-pair_of) (headed (goal.at.returns c).After-pair_of) (same (goal.at.returns c).In_ok-paper) (body (goal.at.returns c).In_ok-paper) (numbered (goal.at.returns c).In_ok-paper ∙ ap (λ (x : ℕ). got x (body (goal.at.returns c).In_ok-paper)) (c.if-paper-paper_of.false ∙ c.paper_of.ensures)))
