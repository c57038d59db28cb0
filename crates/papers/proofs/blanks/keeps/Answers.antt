-- The one or the other. Assumes nothing.
use mathlib.Core.Path.{sym, ap, ◌∙◌, subst}
use mathlib.Core.Bool.{Bool}
use Rattle.papers.specs.Blanks.{KnownIn, keeps_at}
use Rattle.papers.proofs.blanks.keeps.Goals as goal

pub kept_in_flow-requires : goal.kept_in_flow-requires
unfolding KnownIn
kept_in_flow-requires c = record { good_index = c.requires.good_index; known_modes = (subst (λ (b : Bool). KnownIn b c.args.index.now c.args.numbers) c.if-flow.true c.requires.known_in.0, c.requires.known_in.1) }

pub returns-then-flow : goal.returns-then-flow
unfolding keeps_at
returns-then-flow c =
    let a = c.args in
    c.kept_in_flow.ensures ∙ ap (λ (b : Bool). keeps_at a.model.now a.index.now b a.numbers a.v) (sym c.if-flow.true)

pub kept_in_jump-requires : goal.kept_in_jump-requires
unfolding KnownIn
kept_in_jump-requires c = record { good_index = c.requires.good_index; known_switches = (subst (λ (b : Bool). KnownIn b c.args.index.now c.args.numbers) c.if-flow.false c.requires.known_in.0, c.requires.known_in.1) }

pub returns : goal.returns
unfolding keeps_at
returns c =
    let a = c.args in
    c.kept_in_jump.ensures ∙ ap (λ (b : Bool). keeps_at a.model.now a.index.now b a.numbers a.v) (sym c.if-flow.false)
