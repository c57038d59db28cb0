-- The table of the joint switch, then its hypothesis. Assumes nothing.
use mathlib.Core.Path.{refl, ◌∙◌}
use Rattle.models.specs.Index.{entry}
use Rattle.queries.proofs.HeldLaws.{empty-stacked, held-row}
use borrow.Author.Rules.{rules}
use Rattle.queries.proofs.rows.joint_row.Goals as goal

pub joint_table-segments-requires-clause-in_bounds : goal.joint_table-segments-requires-clause-in_bounds
unfolding entry
joint_table-segments-requires-clause-in_bounds c = (search rules, empty-stacked _ refl)

pub row_in-requires-clause-n_bound : goal.row_in-requires-clause-n_bound
unfolding entry
row_in-requires-clause-n_bound c = c.args.paper.good.good.most

pub returns : goal.returns
unfolding entry
returns c = c.row_in.ensures ∙ held-row c.joint_table-segments.ensures.joint_held _
