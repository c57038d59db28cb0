-- One for each row of the region, where the location may be a start. Assumes nothing.
use mathlib.Core.Path.{◌≡◌, ◌∙◌}
use Prim.Native.Nat.{ℕ}
use lib.Dec.{eqb}
use Rattle.farkas.specs.Lists.{every}
use Rattle.formats.specs.Rows.{Condition}
use Rattle.models.specs.Index.{model_from}
use Rattle.rules.specs.Runs.{modes_in}
use Rattle.papers.specs.Paper.{regions_of}
use Rattle.queries.proofs.FindLaws.{start-goals, start-no-goals, start-there}
use Rattle.queries.proofs.find.start_goals.Goals.{After-all_start}
use Rattle.queries.proofs.find.start_goals.Goals as goal

abbrev region_at : After-all_start → ℕ → Condition
region_at c = regions_of c.args.paper.model.now c.args.paper.index.now c.args.paper.second.now c.args.paper.regions.now

starts : (c : After-all_start) → c.all_start.result ≡ every (λ mode. eqb mode.start 1) (modes_in (model_from c.args.paper.model.now c.args.paper.index.now) c.args.location)
starts c = c.all_start.ensures ∙ start-there _ _ (region_at c) c.args.location c.args.modes c.requires.stands

pub returns-then-all_start : goal.returns-then-all_start
returns-then-all_start c = start-goals _ _ _ _ (starts (goal.at.returns-then-all_start c).After-all_start) c.if-all_start.true c.region_rows.ensures

pub returns-else-all_start : goal.returns-else-all_start
returns-else-all_start c = start-no-goals _ _ _ (starts (goal.at.returns-else-all_start c).After-all_start) c.if-all_start.false
