use Prim.Native.Nat.{◌≤◌}
use Rattle.formats.specs.Joint.{joints_of, joints, join_all, count_up}
use Rattle.models.specs.Index.{components_from, model_from}
use Rattle.papers.specs.Paper.{regions_of}
use Rattle.papers.proofs.JoinedLaws.{joined_on}
use Rattle.queries.specs.Finding.{Passing}
use Rattle.queries.proofs.find.find_jump.Given as goal

abbrev pub invariant-loop-location : goal.invariant-loop-location
invariant-loop-location l =
    (l.location ≤ l.locations)
    × Passing (model_from l.paper.model.now l.paper.index.now) (regions_of l.paper.model.now l.paper.index.now l.paper.second.now l.paper.regions.now) (joints (components_from l.paper.model.now l.paper.index.now)) (joined_on (λ n. join_all (joints_of (components_from l.paper.model.now l.paper.index.now) n) (count_up 0 16)) l.locations l.location) 0 l.o l.spot.at l.spot.left
