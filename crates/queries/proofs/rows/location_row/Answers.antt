-- The table of the group, then its hypothesis. Assumes nothing.
use mathlib.Core.Path.{refl, ◌∙◌}
use Rattle.models.specs.Index.{entry}
use Rattle.papers.proofs.StandingLaws.{stands_at_lem}
use Rattle.queries.proofs.HeldLaws.{empty-stacked, held-row}
use borrow.Author.Rules.{rules}
use Rattle.queries.proofs.rows.location_row.Goals as goal

pub table_at-segments-requires : goal.table_at-segments-requires
unfolding entry
table_at-segments-requires c = record { stands = (let p = c.requires in (stands_at_lem _ _ _ _ _ c.args.paper.good.good p.location_bound.0 c.modes_at-modes.ensures, (p.location_bound.1, (search rules, empty-stacked _ refl)))) }

pub row_in-requires-clause-n_bound : goal.row_in-requires-clause-n_bound
unfolding entry
row_in-requires-clause-n_bound c = c.args.paper.good.good.most

pub returns : goal.returns
unfolding entry
returns c = c.row_in.ensures ∙ held-row c.table_at-segments.ensures.group_held _
