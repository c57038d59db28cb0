use Prim.Native.Nat.{◌+◌, ◌≤◌}
use Rattle.formats.specs.Joint.{joints_of}
use Rattle.models.specs.Index.{components_from, model_from}
use Rattle.papers.specs.Paper.{regions_of}
use Rattle.queries.specs.Finding.{Passing}
use Rattle.queries.proofs.FindLaws.{event_size, each_on}
use Rattle.queries.proofs.find.find_switch.Given as goal

abbrev pub invariant-loop-at : goal.invariant-loop-at
invariant-loop-at l =
    (l.at ≤ event_size l.paper.model.now l.paper.index.now l.location l.slot.e)
    × Passing (model_from l.paper.model.now l.paper.index.now) (regions_of l.paper.model.now l.paper.index.now l.paper.second.now l.paper.regions.now) (joints_of (components_from l.paper.model.now l.paper.index.now) l.location l.slot.e) (each_on l.paper.model.now l.paper.index.now l.location l.slot.e l.at) l.first l.initial.left (l.first + l.at) l.left
