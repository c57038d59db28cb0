-- A word where the version has it. Assumes nothing.
use mathlib.Core.Path.{sym, ap, ◌∙◌}
use mathlib.Core.Bool.{Bool}
use Rattle.formats.specs.Reading.{give, paper_if, read_paper}
use Rattle.fields.specs.Answers.{got_field}
use Rattle.fields.proofs.header.read_paper.Goals as goal

pub returns-then-has_paper : goal.returns-then-has_paper
unfolding read_paper paper_if
returns-then-has_paper c =
    let a = c.args in
    c.word.ensures ∙ sym (ap (λ (b : Bool). paper_if b a.s.now a.at) (sym c.has_paper.ensures ∙ c.if-has_paper.true))

pub returns : goal.returns
unfolding got_field read_paper paper_if give
returns c =
    let a = c.args in
    sym (ap (λ (b : Bool). paper_if b a.s.now a.at) (sym c.has_paper.ensures ∙ c.if-has_paper.false))
