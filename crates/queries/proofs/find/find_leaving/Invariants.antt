use Prim.Native.Nat.{◌≤◌}
use Rattle.formats.specs.Joint.{joints_of, join_all, count_up}
use Rattle.models.specs.Index.{components_from, model_from}
use Rattle.papers.specs.Paper.{regions_of}
use Rattle.papers.proofs.JoinedLaws.{joined_on}
use Rattle.queries.specs.Finding.{Passing}
use Rattle.queries.proofs.find.find_leaving.Given as goal

abbrev pub invariant-loop-e : goal.invariant-loop-e
invariant-loop-e l =
    (l.e ≤ 16)
    × Passing (model_from l.paper.model.now l.paper.index.now) (regions_of l.paper.model.now l.paper.index.now l.paper.second.now l.paper.regions.now) (join_all (joints_of (components_from l.paper.model.now l.paper.index.now) l.location) (count_up 0 16)) (joined_on (joints_of (components_from l.paper.model.now l.paper.index.now) l.location) 16 l.e) l.initial.spot.at l.initial.spot.left l.spot.at l.spot.left
