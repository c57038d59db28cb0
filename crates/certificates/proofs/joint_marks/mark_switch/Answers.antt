-- Nothing where the target's region has no rows, else the group of the jump. Assumes nothing.
use mathlib.Core.Path.{sym, ap, ◌∙◌}
use mathlib.Core.List.{List}
use native.Mathlib.Omega.{arith}
use Rattle.models.specs.Index.{entry}
use Rattle.models.proofs.IndexLaws.{kept-none}
use Rattle.models.specs.Counts.{per_component}
use Rattle.hypotheses.specs.Listing.{Task}
use Rattle.hypotheses.proofs.GroupLaws.{no-rows-jump}
use Rattle.certificates.specs.Passed.{marked_from}
use Rattle.certificates.proofs.JointMarks.{marked-none}
use borrow.Author.Rules.{rules}
use Rattle.certificates.proofs.joint_marks.mark_switch.Goals as goal

pub region_rows-requires : goal.region_rows-requires
region_rows-requires c = (search rules, omega (arith, c.requires.target_bound.0, c.args.paper.good.few))

pub returns-then-region_rows-eq0-clause-value : goal.returns-then-region_rows-eq0-clause-value
returns-then-region_rows-eq0-clause-value c =
    let a = c.args in
    let model = a.paper.model.now in
    let index = a.paper.index.now in
    let second = a.paper.second.now in
    let regions = a.paper.regions.now in
    marked-none second a.from.marking (no-rows-jump model index second regions a.from.location a.landing.target (per_component index a.landing.switches) c.requires.target_bound.0 (sym c.region_rows.ensures ∙ c.if-region_rows-eq0.true))

pub returns-then-region_rows-eq0-clause-fresh : goal.returns-then-region_rows-eq0-clause-fresh
returns-then-region_rows-eq0-clause-fresh c = c.requires.ready.fresh

pub returns-then-region_rows-eq0-clause-kept : goal.returns-then-region_rows-eq0-clause-kept
returns-then-region_rows-eq0-clause-kept c = kept-none _ 96 c.args.table.now

pub jump_group-group-requires : goal.jump_group-group-requires
jump_group-group-requires c = record { target_bound = c.requires.target_bound; in_bounds = (c.requires.ready.long, c.requires.ready.here) }

pub overflow_cast-n : goal.overflow_cast-n
unfolding entry
overflow_cast-n c = omega (arith, c.args.paper.good.good.most)

pub mark_group-requires : goal.mark_group-requires
unfolding entry
mark_group-requires c =
    let k = c.jump_group-group in record { model_len_bound = (c.args.paper.good.short, (c.args.paper.good.brief, (c.args.paper.good.good.most, omega (arith, k.auto.table, c.requires.ready.long)))); good_group = (k.ensures.good_group, (c.requires.ready.underway, c.requires.ready.fresh)) }

pub returns-clause-value : goal.returns-clause-value
unfolding entry
returns-clause-value c =
    c.mark_group.ensures.value
    ∙ ap (λ (ts : List Task). marked_from ts c.args.paper.second.now c.args.from.marking) c.jump_group-group.ensures.result_after
