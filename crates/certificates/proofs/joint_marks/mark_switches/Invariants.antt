use mathlib.Core.Path.{◌≡◌}
use Prim.Native.Nat.{◌+◌, ◌*◌, ◌≤◌}
use lib.ListN.{length}
use Rattle.models.specs.Index.{Kept}
use Rattle.papers.specs.Paper.{regions_of}
use Rattle.certificates.specs.declared.Leaving.{Leaving}
use Rattle.hypotheses.specs.Listing.{mark_tasks}
use Rattle.certificates.specs.Passed.{Ready}
use Rattle.certificates.proofs.MarkLoops.{Comes}
use Rattle.certificates.proofs.JointMarks.{jumps_left}
use Rattle.certificates.proofs.joint_marks.mark_switches.Given as goal

abbrev pub invariant-loop-x : goal.invariant-loop-x
invariant-loop-x l =
    let at : Leaving = record { location = l.from.location; modes = l.from.modes; here = l.from.here; marking = l.marking } in
    (l.x ≤ l.slot.count)
    × (Ready l.paper.model.now l.paper.index.now l.paper.second.now l.paper.regions.now at l.table l.sums
    × ((length l.table ≡ length l.initial.table)
    × (Kept (4 * l.from.here + 4) 96 l.initial.table l.table
    × Comes l.paper.second.now (mark_tasks (jumps_left l.paper.model.now l.paper.index.now (regions_of l.paper.model.now l.paper.index.now l.paper.second.now l.paper.regions.now) l.from.location l.slot.e 0) l.paper.second.now l.from.marking.place l.from.marking.done) (jumps_left l.paper.model.now l.paper.index.now (regions_of l.paper.model.now l.paper.index.now l.paper.second.now l.paper.regions.now) l.from.location l.slot.e l.x) l.marking.place l.marking.done)))
