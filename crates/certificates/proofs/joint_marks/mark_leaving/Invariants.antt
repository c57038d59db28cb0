use mathlib.Core.Path.{◌≡◌}
use mathlib.Core.List.{List}
use Prim.Native.Nat.{ℕ, ◌≤◌}
use lib.ListN.{length}
use Rattle.models.specs.Index.{components_from}
use Rattle.certificates.specs.declared.Leaving.{Leaving}
use Rattle.formats.specs.Joint.{joints_of}
use Rattle.hypotheses.specs.Listing.{Task, joint_tasks_for, mark_tasks}
use Rattle.papers.proofs.JoinedLaws.{joined_on}
use Rattle.certificates.specs.Passed.{Ready}
use Rattle.certificates.proofs.MarkLoops.{Comes}
use Rattle.certificates.proofs.joint_marks.mark_leaving.Given as goal

abbrev pub invariant-loop-e : goal.invariant-loop-e
invariant-loop-e l =
    let at : Leaving = record { location = l.location; modes = l.modes; here = l.here; marking = l.marking } in
    let events : ℕ → List Task = (λ e. joint_tasks_for l.paper.model.now l.paper.index.now l.paper.second.now l.paper.regions.now (joints_of (components_from l.paper.model.now l.paper.index.now) l.location e)) in
    (l.e ≤ 16)
    × (Ready l.paper.model.now l.paper.index.now l.paper.second.now l.paper.regions.now at l.table l.sums
    × ((length l.table ≡ length l.initial.table)
    × Comes l.paper.second.now (mark_tasks (joined_on events 16 0) l.paper.second.now l.initial.marking.place l.initial.marking.done) (joined_on events 16 l.e) l.marking.place l.marking.done))
