-- Nothing where no blank is kept; else the variables that a flow keeps. Assumes nothing.
use mathlib.Core.Path.{◌≡◌, sym, ap, ◌∙◌}
use mathlib.Core.Bool.{true}
use mathlib.Core.List.{List, ◌++◌}
use Prim.Native.Nat.{ℕ, ◌<◌}
use native.Mathlib.Omega.{arith}
use Rattle.std.proofs.Common.{rules, tests}
use Rattle.formats.specs.Versions.{keeps_blanks}
use Rattle.models.specs.Index.{entry}
use Rattle.papers.specs.Blanks.{KnownIn, keeps_at}
use Rattle.hypotheses.specs.Tables.{TableLine, lines_in}
use Rattle.hypotheses.specs.Listing.{variable_lines}
use Rattle.hypotheses.proofs.TableLaws.{pushed_none, pushed-as}
use Rattle.hypotheses.proofs.ModeLines.{nothing-still, kept-flow}
use Rattle.hypotheses.proofs.tables.push_still.Goals.{After-from-n}
use Rattle.hypotheses.proofs.tables.push_still.Goals as goal

-- the number of variables
many : (c : After-from-n) → c.from-n.result ≡ entry c.args.index.now 0
unfolding entry
many c = c.from-n.ensures

pub returns-then-not-keeps_blanks-clause-result_after : goal.returns-then-not-keeps_blanks-clause-result_after
returns-then-not-keeps_blanks-clause-result_after c =
    let a = c.args in
    let index = a.index.now in
    let free : c.keeps_blanks.result ≡ keeps_blanks (entry index 11) = c.keeps_blanks.ensures ∙ ap keeps_blanks c.version_of.ensures in
    (pushed-as (sym (nothing-still a.model.now index a.modes (sym free ∙ c.if-not-keeps_blanks.true))) (pushed_none a.table.now a.at 8 c.requires.in_bounds.1.1)).told

pub push_those-requires-clause-n_bound : goal.push_those-requires-clause-n_bound
push_those-requires-clause-n_bound c = omega (arith, many (goal.at.push_those-requires-clause-n_bound c).After-from-n, c.requires.good_index.0.most)

pub push_those-requires-clause-kept_called : goal.push_those-requires-clause-kept_called
unfolding KnownIn
push_those-requires-clause-kept_called c =
    λ v h.
    let within : v < entry c.args.index.now 0 = omega (arith, h, many (goal.at.push_those-requires-clause-kept_called c).After-from-n) in
    search rules

pub returns-clause-result_after : goal.returns-clause-result_after
unfolding keeps_at
returns-clause-result_after c =
    let a = c.args in
    let test = keeps_at a.model.now a.index.now true a.modes in
    c.push_those.ensures.result_after test (λ v b h p. search (rules, tests))
    ∙ ap (λ (n : ℕ). lines_in a.table.now a.at ++ variable_lines test n) (many (goal.at.returns-clause-result_after c).After-from-n)
    ∙ ap (λ (xs : List TableLine). lines_in a.table.now a.at ++ xs) (kept-flow a.model.now a.index.now a.modes)
