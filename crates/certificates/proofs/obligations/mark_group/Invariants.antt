use Prim.Native.Nat.{◌+◌, ◌≤◌}
use lib.ListN.{length, drop}
use Rattle.hypotheses.specs.Listing.{tasks_of, mark_tasks}
use Rattle.certificates.specs.Passed.{Fresh}
use Rattle.certificates.proofs.MarkLoops.{Comes}
use Rattle.certificates.proofs.obligations.mark_group.Given as goal

abbrev pub invariant-loop-goal : goal.invariant-loop-goal
invariant-loop-goal l =
    (l.goal ≤ l.goals)
    × ((l.place ≤ length l.second)
    × ((l.from.done + l.goal ≤ l.place)
    × (Fresh l.sums
    × Comes l.second (mark_tasks (tasks_of l.model l.second l.n l.table l.group) l.second l.from.place l.from.done) (drop l.goal (tasks_of l.model l.second l.n l.table l.group)) l.place (l.from.done + l.goal))))
