use mathlib.Core.List.{◌++◌}
use Prim.Native.Nat.{◌+◌}
use lib.ListN.{drop}
use Rattle.models.specs.Index.{entry}
use Rattle.hypotheses.specs.Listing.{tasks_of, mark_tasks}
use Rattle.certificates.proofs.MarkLoops.{locations_left, groups_left, Going}
use Rattle.certificates.proofs.obligations.mark_locations.Given as goal

abbrev pub invariant-loop-goal : goal.invariant-loop-goal
invariant-loop-goal l =
    Going l.paper.second.now l.table l.sums (mark_tasks (locations_left l.paper.model.now l.paper.index.now l.paper.second.now l.paper.regions.now l.locations 0) l.paper.second.now l.at 0) (drop l.goal (tasks_of l.paper.model.now l.paper.second.now (entry l.paper.index.now 0) l.table l.group) ++ (groups_left l.paper.model.now l.paper.index.now l.paper.second.now l.paper.regions.now l.location l.groups (l.g + 1) ++ locations_left l.paper.model.now l.paper.index.now l.paper.second.now l.paper.regions.now l.locations (l.location + 1))) (record { place = l.place; done = l.done })

abbrev pub invariant-loop-g : goal.invariant-loop-g
invariant-loop-g l =
    Going l.paper.second.now l.table l.sums (mark_tasks (locations_left l.paper.model.now l.paper.index.now l.paper.second.now l.paper.regions.now l.locations 0) l.paper.second.now l.at 0) (groups_left l.paper.model.now l.paper.index.now l.paper.second.now l.paper.regions.now l.location l.groups l.g ++ locations_left l.paper.model.now l.paper.index.now l.paper.second.now l.paper.regions.now l.locations (l.location + 1)) (record { place = l.place; done = l.done })

abbrev pub invariant-loop-location : goal.invariant-loop-location
invariant-loop-location l =
    Going l.paper.second.now l.table l.sums (mark_tasks (locations_left l.paper.model.now l.paper.index.now l.paper.second.now l.paper.regions.now l.locations 0) l.paper.second.now l.at 0) (locations_left l.paper.model.now l.paper.index.now l.paper.second.now l.paper.regions.now l.locations l.location) (record { place = l.place; done = l.done })
