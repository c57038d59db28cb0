use mathlib.Core.Path.{◌≡◌}
use Rattle.formats.specs.Joint.{count_up}
use Rattle.formats.specs.JointTotals.{sum_over}
use Rattle.scores.proofs.CountGoals.{goals_for}
use Rattle.scores.proofs.counting.goals_by.Given as goal

abbrev pub invariant-loop-location : goal.invariant-loop-location
invariant-loop-location l = l.count ≡ sum_over (goals_for l.paper.model.now l.paper.index.now l.paper.second.now l.paper.regions.now) (count_up 0 l.location)
