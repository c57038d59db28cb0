-- The sum of the four counts is that of the definition. Assumes nothing.
use mathlib.Core.Path.{◌≡◌}
use Prim.Native.Nat.{◌+◌, ◌*◌}
use native.Mathlib.Omega.{arith}
use lib.ListN.{length}
use Rattle.formats.specs.Joint.{bit}
use Rattle.models.specs.Index.{model_from}
use Rattle.rules.specs.Obligations.{location_obligations}
use Rattle.papers.specs.Paper.{regions_of}
use Rattle.scores.proofs.CountGoals.{location-few, location-sum}
use Rattle.scores.proofs.counting.goals_here.Goals.{After-from-starts}
use Rattle.scores.proofs.counting.goals_here.Goals as goal

-- the sum, and that it is small
sum : (c : After-from-starts) → c.from-starts.result * c.region_rows-rows.result + (c.region_rows-rows.result + c.fitting_count-fitting.result) ≡ length (location_obligations (model_from c.args.paper.model.now c.args.paper.index.now) (regions_of c.args.paper.model.now c.args.paper.index.now c.args.paper.second.now c.args.paper.regions.now) c.args.location)
unfolding bit
sum c =
    let a = c.args in
    location-sum a.paper.model.now a.paper.index.now a.paper.second.now a.paper.regions.now a.location a.modes c.requires.stands.here _ _ _ c.all_start.ensures c.from-starts.ensures c.region_rows-rows.ensures c.fitting_count-fitting.ensures

pub overflow_add-result : goal.overflow_add-result
overflow_add-result c = omega (arith, sum c, location-few c.args.paper.good c.args.location)

pub overflow_add-result-2 : goal.overflow_add-result-2
overflow_add-result-2 c = omega (arith, sum c, location-few c.args.paper.good c.args.location)

pub returns : goal.returns
returns c = sum c
