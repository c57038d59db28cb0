use mathlib.Core.Path.{◌≡◌}
use mathlib.Core.List.{[], ◌++◌}
use Prim.Native.Nat.{◌≤◌, ◌<◌}
use lib.ListN.{length}
use Rattle.models.specs.Index.{model_from}
use Rattle.rules.specs.Obligations.{location_obligations}
use Rattle.papers.specs.Paper.{regions_of}
use Rattle.queries.specs.Finding.{one_at, group_obligations}
use Rattle.papers.proofs.JoinedLaws.{joined_on}
use Rattle.queries.proofs.find.find_group.Given as goal

abbrev pub invariant-loop-at : goal.invariant-loop-at
invariant-loop-at l = (l.at ≤ l.groups)
    × ((one_at (joined_on (group_obligations (model_from l.paper.model.now l.paper.index.now) (regions_of l.paper.model.now l.paper.index.now l.paper.second.now l.paper.regions.now) l.location) l.groups l.at ++ []) l.left ≡ one_at (location_obligations (model_from l.paper.model.now l.paper.index.now) (regions_of l.paper.model.now l.paper.index.now l.paper.second.now l.paper.regions.now) l.location) l.o)
    × (l.left < length (joined_on (group_obligations (model_from l.paper.model.now l.paper.index.now) (regions_of l.paper.model.now l.paper.index.now l.paper.second.now l.paper.regions.now) l.location) l.groups l.at)))
