-- Owners alone where no blank is kept; else the variables that a jump keeps. Assumes nothing.
use mathlib.Core.Path.{◌≡◌, sym, ap, ◌∙◌}
use mathlib.Core.Bool.{false}
use mathlib.Core.List.{List, ◌++◌}
use Prim.Native.Nat.{ℕ, ◌<◌}
use native.Mathlib.Omega.{arith}
use Rattle.std.proofs.Common.{rules, tests}
use Rattle.formats.specs.Versions.{keeps_blanks}
use Rattle.models.specs.Index.{entry}
use Rattle.papers.specs.Blanks.{Owned, KnownIn, stays_at, keeps_at}
use Rattle.papers.proofs.BlankLaws.{owners-known}
use Rattle.hypotheses.specs.Tables.{TableLine, lines_in}
use Rattle.hypotheses.specs.Listing.{variable_lines}
use Rattle.hypotheses.proofs.ModeLines.{plain-staying, kept-jump}
use Rattle.hypotheses.proofs.tables.push_staying.Goals.{After-from-n}
use Rattle.hypotheses.proofs.tables.push_staying.Goals as goal

-- the number of variables
many : (c : After-from-n) → c.from-n.result ≡ entry c.args.index.now 0
unfolding entry
many c = c.from-n.ensures

pub push_those-requires-clause-n_bound : goal.push_those-requires-clause-n_bound
push_those-requires-clause-n_bound c = omega (arith, many (goal.at.push_those-requires-clause-n_bound c).After-from-n, c.requires.good_index.0.most)

pub push_those-requires-clause-kept_called : goal.push_those-requires-clause-kept_called
push_those-requires-clause-kept_called c =
    λ v h.
    let owned : Owned c.args.index.now = owners-known c.requires.good_index.0 in
    let within : v < entry c.args.index.now 0 = omega (arith, h, many (goal.at.push_those-requires-clause-kept_called c).After-from-n) in
    search rules

pub returns-then-not-keeps_blanks-clause-result_after : goal.returns-then-not-keeps_blanks-clause-result_after
returns-then-not-keeps_blanks-clause-result_after c =
    let a = c.args in
    let index = a.index.now in
    let free : c.keeps_blanks.result ≡ keeps_blanks (entry index 11) = c.keeps_blanks.ensures ∙ ap keeps_blanks c.version_of.ensures in
    c.push_those.ensures.result_after (stays_at index a.switches) (λ v b h p. search (rules, tests))
    ∙ ap (λ (n : ℕ). lines_in a.table.now a.at ++ variable_lines (stays_at index a.switches) n) (many (goal.at.returns-then-not-keeps_blanks-clause-result_after c).After-from-n)
    ∙ ap (λ (xs : List TableLine). lines_in a.table.now a.at ++ xs) (plain-staying a.model.now index a.switches (sym free ∙ c.if-not-keeps_blanks.true))

pub push_those-requires-2-clause-n_bound : goal.push_those-requires-2-clause-n_bound
push_those-requires-2-clause-n_bound c = omega (arith, many (goal.at.push_those-requires-2-clause-n_bound c).After-from-n, c.requires.good_index.0.most)

pub push_those-requires-2-clause-kept_called : goal.push_those-requires-2-clause-kept_called
unfolding KnownIn
push_those-requires-2-clause-kept_called c =
    λ v h.
    let within : v < entry c.args.index.now 0 = omega (arith, h, many (goal.at.push_those-requires-2-clause-kept_called c).After-from-n) in
    search rules

pub returns-clause-result_after : goal.returns-clause-result_after
unfolding keeps_at
returns-clause-result_after c =
    let a = c.args in
    let index = a.index.now in
    c.push_those-2.ensures.result_after (keeps_at a.model.now index false a.switches) (λ v b h p. search (rules, tests))
    ∙ ap (λ (n : ℕ). lines_in a.table.now a.at ++ variable_lines (keeps_at a.model.now index false a.switches) n) (many (goal.at.returns-clause-result_after c).After-from-n)
    ∙ ap (λ (xs : List TableLine). lines_in a.table.now a.at ++ xs) (kept-jump a.model.now index a.switches)
