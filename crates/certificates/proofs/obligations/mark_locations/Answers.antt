-- The proofs that are left at each level of loops, marked from here, are the whole. Assumes nothing.
use Rattle.std.proofs.Common.{◌≡◌, ◌<◌, length, refl, sym, ap, ◌∙◌, arith}
use mathlib.Core.List.{List}
use Rattle.formats.specs.Joint.{count_up, join_all}
use Rattle.models.specs.Index.{entry}
use Rattle.fields.proofs.AnswerLaws.{next-at, next-refused}
use Rattle.hypotheses.specs.Listing.{Task, tasks_of, location_tasks_for, mark_tasks}
use Rattle.hypotheses.proofs.TableLaws.{stacked-less}
use Rattle.papers.proofs.StandingLaws.{stands_at_lem}
use Rattle.papers.proofs.JoinedLaws.{joined-none, joined-whole}
use Rattle.certificates.specs.Passed.{stands_at}
use Rattle.certificates.proofs.MarkLaws.{tasks-length}
use Rattle.certificates.proofs.MarkLoops.{locations_left, location-in, going-in, going-out, going-past, going-on, goal-failed}
use Rattle.certificates.proofs.JointMarks.{marked-end}
use Rattle.certificates.proofs.obligations.mark_locations.Goals.{Start, After-group_at-group, In-loop-goal}
use Rattle.certificates.proofs.obligations.mark_locations.Goals as goal

-- the locations from the first on are all
whole : (s : Start) → mark_tasks (locations_left s.args.paper.model.now s.args.paper.index.now s.args.paper.second.now s.args.paper.regions.now s.args.locations 0) s.args.paper.second.now s.args.at 0 ≡ mark_tasks (join_all (location_tasks_for s.args.paper.model.now s.args.paper.index.now s.args.paper.second.now s.args.paper.regions.now) (count_up 0 s.args.locations)) s.args.paper.second.now s.args.at 0
whole s = ap (λ (ts : List Task). mark_tasks ts s.args.paper.second.now s.args.at 0) (joined-whole _ s.args.locations)

-- the tasks of a group
abbrev part : After-group_at-group → List Task
part c = tasks_of c.args.paper.model.now c.args.paper.second.now (entry c.args.paper.index.now 0) c.group_at-group.new.table c.group_at-group.result

all : (c : After-group_at-group) → length (part c) ≡ c.group_at-group.result.goals
all c =
    tasks-length c.args.paper.model.now c.args.paper.second.now (entry c.args.paper.index.now 0) c.group_at-group.new.table c.group_at-group.result

short : (c : In-loop-goal) → c.loop-goal.goal < length (part (goal.at.In-loop-goal c).After-group_at-group)
short c = omega (arith, c.loop-goal-test.true, all (goal.at.In-loop-goal c).After-group_at-group)

pub loop-location-init : goal.loop-location-init
loop-location-init c =
    record { underway = record { within = c.requires.locations_value.1; few = omega arith }; fresh = c.requires.in_bounds.1.1; stacked = c.requires.in_bounds.1.0; comes = refl }

pub loop-g-init : goal.loop-g-init
unfolding entry
loop-g-init c = location-in _ _ _ _ _ _ c.loop-location-test.true refl c.loop-location.invariant

pub group_at-group-requires : goal.group_at-group-requires
unfolding entry
group_at-group-requires c =
    let p = c.requires in
    record { stands = (stands_at_lem _ _ c.loop-location.location _ _ c.args.paper.good.good (omega (arith, c.loop-location-test.true, p.locations_value.0)) c.modes_at-modes.ensures, (omega (arith, c.loop-g-test.true), (omega (arith, c.loop-g.auto.table, c.loop-location.auto.table, p.in_bounds.0), c.loop-g.invariant.stacked))) }

pub loop-goal-init : goal.loop-goal-init
unfolding entry
loop-goal-init c =
    let k = c.group_at-group.ensures in
    going-in _ _ _ _ c.loop-g-test.true k.result_after (stacked-less 0 (omega arith) k.good_group.stacked) c.loop-g.invariant

pub mark_goal-requires-clause-model_len_bound : goal.mark_goal-requires-clause-model_len_bound
unfolding entry
mark_goal-requires-clause-model_len_bound c =
    let p = c.args.paper.good in
    (p.short, (p.brief, (p.good.most, omega (arith, c.group_at-group.auto.table, c.loop-g.auto.table, c.loop-location.auto.table, c.requires.in_bounds.0))))

pub mark_goal-requires-clause-good_group : goal.mark_goal-requires-clause-good_group
unfolding entry
mark_goal-requires-clause-good_group c =
    (c.group_at-group.ensures.good_group, (omega (arith, c.loop-goal-test.true), c.loop-goal.invariant.fresh))

pub overflow_add-done : goal.overflow_add-done
overflow_add-done c =
    let u = c.loop-goal.invariant.underway in
    omega (arith, u.few, u.within, c.args.paper.good.brief)

pub loop-goal-preserved : goal.loop-goal-preserved
unfolding entry
loop-goal-preserved c =
    going-on _ _ c.loop-goal.goal _ (short (goal.at.loop-goal-preserved c).In-loop-goal) (sym c.mark_goal.ensures.value ∙ next-at tt c.in-Ok.is) c.in-Ok.ensures.fresh c.loop-goal.invariant

pub loop-g-preserved : goal.loop-g-preserved
unfolding entry
loop-g-preserved c =
    let t = (goal.at.loop-g-preserved c).After-group_at-group in
    going-past (part t) _ c.loop-goal.goal (omega (arith, c.loop-goal-test.false, all t)) c.loop-goal.invariant

pub loop-location-preserved : goal.loop-location-preserved
unfolding entry
loop-location-preserved c = going-out _ _ _ _ c.loop-g-test.false c.loop-g.invariant

pub returns-in-Err-clause-value : goal.returns-in-Err-clause-value
unfolding entry stands_at
returns-in-Err-clause-value c =
    goal-failed _ _ _ _ c.loop-goal.goal (short (goal.at.returns-in-Err-clause-value c).In-loop-goal) _ _ _ _ (sym c.mark_goal.ensures.value ∙ next-refused tt c.in-Err.is) c.loop-goal.invariant.comes
    ∙ whole (goal.at.returns-in-Err-clause-value c).Start

pub returns-after-loop-location-clause-value : goal.returns-after-loop-location-clause-value
returns-after-loop-location-clause-value c =
    marked-end _ _ (joined-none _ _ _ c.loop-location-test.false) c.loop-location.invariant.comes ∙ whole (goal.at.returns-after-loop-location-clause-value c).Start

pub returns-after-loop-location-clause-stacked : goal.returns-after-loop-location-clause-stacked
returns-after-loop-location-clause-stacked c = (c.loop-location.invariant.stacked, c.loop-location.invariant.fresh)
