-- The events that are left, marked from here, are the whole; the location's own lines stay in the table. Assumes nothing.
use Rattle.std.proofs.Common.{rules, Err, ◌≡◌, refl, ap, ◌∙◌}
use mathlib.Core.List.{List}
use native.Mathlib.Omega.{arith}
use Rattle.models.specs.Index.{components_from}
use Rattle.formats.specs.Joint.{joints_of}
use Rattle.hypotheses.specs.Listing.{Task, joint_tasks_for, here_lines}
use Rattle.hypotheses.proofs.TableLaws.{pushed, lines_start, stacked-less}
use Rattle.papers.specs.Standing.{Stands}
use Rattle.papers.proofs.StandingLaws.{stands_at_lem}
use Rattle.papers.proofs.JoinedLaws.{joined_on, joined-none, joined-whole}
use Rattle.certificates.specs.Passed.{marked_from, leaving_tasks, Ready}
use Rattle.certificates.proofs.JointMarks.{turn_on, turn-stops, marked-end, ready-again}
use Rattle.certificates.proofs.joint_marks.mark_leaving.Goals.{After-modes_at-modes, Start}
use Rattle.certificates.proofs.joint_marks.mark_leaving.Goals as goal

-- the events together are what leaves the location
whole : (s : Start) → marked_from (joined_on (λ e. joint_tasks_for s.args.paper.model.now s.args.paper.index.now s.args.paper.second.now s.args.paper.regions.now (joints_of (components_from s.args.paper.model.now s.args.paper.index.now) s.args.location e)) 16 0) s.args.paper.second.now s.args.from ≡ marked_from (leaving_tasks s.args.paper.model.now s.args.paper.index.now s.args.paper.second.now s.args.paper.regions.now s.args.location) s.args.paper.second.now s.args.from
unfolding leaving_tasks
whole s = ap (λ (ts : List Task). marked_from ts s.args.paper.second.now s.args.from) (joined-whole _ 16)

pub modes_at-modes-requires : goal.modes_at-modes-requires
modes_at-modes-requires c = record { good_index = c.args.paper.good.good; location_bound = c.requires.location_bound.0 }

-- the location and its modes
stands : (c : After-modes_at-modes) → Stands c.args.paper.model.now c.args.paper.index.now c.args.location c.modes_at-modes.result
stands c =
    stands_at_lem c.args.paper.model.now c.args.paper.index.now c.args.location c.modes_at-modes.result _ c.args.paper.good.good c.requires.location_bound.0 c.modes_at-modes.ensures

pub push_here-here-requires-clause-location_bound : goal.push_here-here-requires-clause-location_bound
push_here-here-requires-clause-location_bound c =
    (c.requires.location_bound.0, (stands (goal.at.push_here-here-requires-clause-location_bound c).After-modes_at-modes).known)

pub loop-e-init : goal.loop-e-init
loop-e-init c =
    let a = c.args in
    let k = c.push_here-here in
    let same = stands (goal.at.loop-e-init c).After-modes_at-modes in
    let ready : Ready a.paper.model.now a.paper.index.now a.paper.second.now a.paper.regions.now (record { location = a.location; modes = c.modes_at-modes.result; here = k.result; marking = a.from }) k.new.table a.sums.now =
    record { long = omega (arith, k.auto.table, c.requires.in_bounds.0); here = record { below = c.requires.location_bound.0; few = k.ensures.onto.few; stacked = k.ensures.onto.stacked; told = lines_start (pushed (k.ensures.result_after, k.ensures.onto)) ∙ ap (here_lines a.paper.index.now a.paper.regions.now a.location) same.here }; underway = c.requires.location_bound.1.0; fresh = c.requires.location_bound.1.1 } in
    (omega arith, (ready, (refl, refl)))

pub mark_event-requires-clause-stands : goal.mark_event-requires-clause-stands
mark_event-requires-clause-stands c =
    (stands (goal.at.mark_event-requires-clause-stands c).After-modes_at-modes, omega (arith, c.loop-e-test.true))

pub returns-in_err-marking-clause-value : goal.returns-in_err-marking-clause-value
returns-in_err-marking-clause-value c =
    let i = c.loop-e.invariant.1 in
    let same : c.from_residual.result ≡ Err c.in_err-marking.field-0.0 = search rules in
    turn-stops _ _ _ c.loop-e-test.true i.0.underway c.mark_event.ensures.value i.1.1 c.in_err-marking.was same ∙ whole (goal.at.returns-in_err-marking-clause-value c).Start

pub loop-e-preserved : goal.loop-e-preserved
loop-e-preserved c =
    let i = c.loop-e.invariant.1 in
    let k = c.mark_event in
    let was = c.in_ok-marking.was in
    let same = k.auto.table in
    (omega (arith, c.loop-e-test.true), (ready-again _ i.0 same k.ensures.kept c.in_ok-marking.ensures.fresh k.ensures.value was, (same ∙ i.1.0, turn_on _ _ _ c.loop-e-test.true i.0.underway k.ensures.value i.1.1 was)))

pub returns-clause-value : goal.returns-clause-value
returns-clause-value c =
    marked-end _ _ (joined-none _ _ _ c.loop-e-test.false) c.loop-e.invariant.1.1.1 ∙ whole (goal.at.returns-clause-value c).Start

pub returns-clause-stacked : goal.returns-clause-stacked
returns-clause-stacked c = let i = c.loop-e.invariant.1.0 in (stacked-less 0 (omega arith) i.here.stacked, i.fresh)
