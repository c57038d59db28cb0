use mathlib.Core.Path.{◌≡◌}
use mathlib.Core.List.{◌++◌}
use Prim.Native.Nat.{◌≤◌}
use Rattle.formats.specs.Joint.{joints}
use Rattle.models.specs.Index.{components_from, model_from}
use Rattle.rules.specs.Obligations.{location_obligations, jumps_obligations}
use Rattle.papers.specs.Paper.{regions_of}
use Rattle.queries.specs.Finding.{one_at, paper_obligations}
use Rattle.papers.proofs.JoinedLaws.{joined_on}
use Rattle.queries.proofs.find.find_location.Given as goal

abbrev pub invariant-loop-at : goal.invariant-loop-at
invariant-loop-at l = (l.at ≤ l.locations)
    × (one_at (joined_on (location_obligations (model_from l.paper.model.now l.paper.index.now) (regions_of l.paper.model.now l.paper.index.now l.paper.second.now l.paper.regions.now)) l.locations l.at ++ jumps_obligations (model_from l.paper.model.now l.paper.index.now) (regions_of l.paper.model.now l.paper.index.now l.paper.second.now l.paper.regions.now) 0 (joints (components_from l.paper.model.now l.paper.index.now))) l.left ≡ one_at (paper_obligations l.paper.model.now l.paper.index.now l.paper.second.now l.paper.regions.now) l.o)
