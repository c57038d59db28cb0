-- The locations that are left, marked from here, are the whole. Assumes nothing.
use Rattle.std.proofs.Common.{rules, Err, ◌≡◌, refl, sym, ap, ◌∙◌}
use mathlib.Core.List.{List}
use native.Mathlib.Omega.{arith}
use Rattle.formats.specs.Joint.{joints}
use Rattle.models.specs.Index.{components_from}
use Rattle.hypotheses.specs.Listing.{Task, joint_tasks_for}
use Rattle.papers.proofs.JoinedLaws.{joined_on, joined-none}
use Rattle.certificates.specs.Passed.{marked_from, leaving_tasks}
use Rattle.certificates.proofs.JointMarks.{goes_on, goes-wrong, marked-end, joints-left}
use Rattle.certificates.proofs.joint_marks.mark_joints.Goals.{Start}
use Rattle.certificates.proofs.joint_marks.mark_joints.Goals as goal

-- the joint switches of all locations are all joint switches
whole : (s : Start) → marked_from (joined_on (leaving_tasks s.args.paper.model.now s.args.paper.index.now s.args.paper.second.now s.args.paper.regions.now) s.args.locations 0) s.args.paper.second.now s.args.from ≡ marked_from (joint_tasks_for s.args.paper.model.now s.args.paper.index.now s.args.paper.second.now s.args.paper.regions.now (joints (components_from s.args.paper.model.now s.args.paper.index.now))) s.args.paper.second.now s.args.from
whole s = ap (λ (ts : List Task). marked_from ts s.args.paper.second.now s.args.from) (sym (joints-left _ _ _ _ _ s.requires.locations_value.0))

pub loop-location-init : goal.loop-location-init
loop-location-init c =
    record { underway = c.requires.locations_value.1.0; fresh = c.requires.locations_value.1.1; stacked = c.requires.in_bounds.1; comes = refl }

pub mark_leaving-requires-clause-location_bound : goal.mark_leaving-requires-clause-location_bound
mark_leaving-requires-clause-location_bound c =
    let i = c.loop-location.invariant in
    (omega (arith, c.loop-location-test.true, c.requires.locations_value.0), (i.underway, i.fresh))

pub returns-in_err-marking : goal.returns-in_err-marking
returns-in_err-marking c =
    let same : c.from_residual.result ≡ Err c.in_err-marking.field-0.0 = search rules in
    goes-wrong _ _ _ c.loop-location-test.true c.loop-location.invariant c.mark_leaving.ensures.value c.in_err-marking.was same ∙ whole (goal.at.returns-in_err-marking c).Start

pub loop-location-preserved : goal.loop-location-preserved
loop-location-preserved c =
    let k = c.mark_leaving in
    let again = c.in_ok-marking.ensures.stacked in
    goes_on _ _ _ c.loop-location-test.true c.loop-location.invariant k.ensures.value c.in_ok-marking.was again.0 again.1

pub returns : goal.returns
returns c =
    marked-end _ _ (joined-none _ _ _ c.loop-location-test.false) c.loop-location.invariant.comes ∙ whole (goal.at.returns c).Start
