-- What has been counted are the goals of the locations so far. Assumes nothing.
use mathlib.Core.Path.{◌≡◌, refl, ap, ◌∙◌}
use Prim.Native.Nat.{ℕ, ◌+◌}
use native.Mathlib.Omega.{arith}
use Rattle.formats.specs.Joint.{count_up}
use Rattle.formats.specs.JointTotals.{sum_over}
use Rattle.formats.proofs.SumLaws.{sum-next}
use Rattle.papers.specs.Standing.{Stands}
use Rattle.papers.proofs.StandingLaws.{stands_at_lem}
use Rattle.scores.proofs.CountGoals.{goals_for, goals-sum, goals-all, goals-few}
use Rattle.scores.proofs.counting.goals_by.Goals.{After-goals_into, After-modes_at-modes}
use Rattle.scores.proofs.counting.goals_by.Goals as goal

pub loop-location-init : goal.loop-location-init
unfolding sum_over count_up
loop-location-init c = refl

-- the modes are those of the location
here : (c : After-modes_at-modes) → Stands c.args.paper.model.now c.args.paper.index.now c.loop-location.location c.modes_at-modes.result
here c =
    stands_at_lem c.args.paper.model.now c.args.paper.index.now c.loop-location.location c.modes_at-modes.result _ c.args.paper.good.good (omega arith) c.modes_at-modes.ensures

pub goals_here-here-requires : goal.goals_here-here-requires
goals_here-here-requires c = record { stands = here (goal.at.goals_here-here-requires c).After-modes_at-modes }

pub goals_into-requires : goal.goals_into-requires
goals_into-requires c =
    record { stands = (here (goal.at.goals_into-requires c).After-modes_at-modes, c.requires.table) }

-- a turn, and that the sum is small
next : (c : After-goals_into) → c.loop-location.count + (c.goals_here-here.result + c.goals_into.result) ≡ sum_over (goals_for c.args.paper.model.now c.args.paper.index.now c.args.paper.second.now c.args.paper.regions.now) (count_up 0 (c.loop-location.location + 1))
next c =
    let a = c.args in
    let l = c.loop-location in
    sum-next (goals_for a.paper.model.now a.paper.index.now a.paper.second.now a.paper.regions.now) l.location _ l.count
    (goals-sum a.paper.model.now a.paper.index.now a.paper.second.now a.paper.regions.now l.location c.goals_here-here.result c.goals_into.result c.goals_here-here.ensures c.goals_into.ensures)
    l.invariant

pub overflow_add-count : goal.overflow_add-count
overflow_add-count c =
    let l = c.loop-location in
    omega (arith, next c, goals-few c.args.paper.good c.args.locations c.requires.locations_value.0 c.requires.locations_value.1 (l.location + 1) (omega arith))

pub overflow_add-count-in-loop-location : goal.overflow_add-count-in-loop-location
overflow_add-count-in-loop-location c =
    let l = c.loop-location in
    omega (arith, next c, goals-few c.args.paper.good c.args.locations c.requires.locations_value.0 c.requires.locations_value.1 (l.location + 1) (omega arith))

pub loop-location-preserved : goal.loop-location-preserved
loop-location-preserved c = next c

pub returns : goal.returns
returns c =
    let a = c.args in
    let l = c.loop-location in
    let whole : l.location ≡ a.locations = omega arith in
    l.invariant
    ∙ ap (λ (n : ℕ). sum_over (goals_for a.paper.model.now a.paper.index.now a.paper.second.now a.paper.regions.now) (count_up 0 n)) whole
    ∙ goals-all a.paper.second.now a.paper.regions.now c.args.paper.good.good a.locations c.requires.locations_value.0
