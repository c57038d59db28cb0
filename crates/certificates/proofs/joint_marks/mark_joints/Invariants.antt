use Rattle.hypotheses.specs.Listing.{mark_tasks}
use Rattle.papers.proofs.JoinedLaws.{joined_on}
use Rattle.certificates.specs.Passed.{leaving_tasks}
use Rattle.certificates.proofs.MarkLoops.{Going}
use Rattle.certificates.proofs.joint_marks.mark_joints.Given as goal

abbrev pub invariant-loop-location : goal.invariant-loop-location
invariant-loop-location l =
    Going l.paper.second.now l.table l.sums (mark_tasks (joined_on (leaving_tasks l.paper.model.now l.paper.index.now l.paper.second.now l.paper.regions.now) l.locations 0) l.paper.second.now l.initial.marking.place l.initial.marking.done) (joined_on (leaving_tasks l.paper.model.now l.paper.index.now l.paper.second.now l.paper.regions.now) l.locations l.location) l.marking
