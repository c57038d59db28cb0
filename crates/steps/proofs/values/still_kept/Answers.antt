-- Nothing is asked where no blank is kept; else every variable's test. Assumes nothing.
use mathlib.Core.Path.{◌≡◌, sym, ap, ◌∙◌}
use borrow.Author.Rules.{rules}
use borrow.Author.Tests.{tests}
use Rattle.std.proofs.lemmas.Iterator.{serves_from_Range}
use Rattle.formats.specs.Versions.{keeps_blanks}
use Rattle.models.specs.Index.{entry}
use Rattle.papers.specs.Blanks.{KnownIn, keeps_at, still_at}
use Rattle.steps.specs.Held.{kept_at}
use Rattle.steps.proofs.ValueLaws.{kept_of}
use Rattle.steps.proofs.ValueLoops.{all-range}
use Rattle.steps.proofs.ValueStates.{nothing-still}
use Rattle.steps.proofs.values.still_kept.Goals as goal

pub returns-then-not-keeps_blanks : goal.returns-then-not-keeps_blanks
returns-then-not-keeps_blanks c =
    let a = c.args in
    let index = a.index.now in
    let free : c.keeps_blanks.result ≡ keeps_blanks (entry index 11) = c.keeps_blanks.ensures ∙ ap keeps_blanks c.version_of.ensures in
    nothing-still a.model.now index a.modes (entry index 0) a.state.now (sym free ∙ c.if-not-keeps_blanks.true)

pub all-requires-clause-callable : goal.all-requires-clause-callable
unfolding KnownIn
all-requires-clause-callable c = serves_from_Range (λ x q k. search (rules, tests)) (λ x low high. search rules)

pub returns : goal.returns
unfolding keeps_at
returns c =
    let a = c.args in
    let n = c.number_at-n in
    let still = still_at a.model.now a.index.now a.modes in
    all-range (kept_at still (entry a.index.now 0) a.state.now) n.result (entry a.index.now 0) n.ensures c.all.ensures.ran (λ x b q k. search (rules, tests, kept_of))
