-- The modes are those of the location. Assumes nothing.
use Rattle.papers.proofs.StandingLaws.{stands_at_lem}
use Rattle.scores.proofs.counting.location_goals.Goals as goal

pub goals_here-requires : goal.goals_here-requires
goals_here-requires c =
    record { stands = stands_at_lem c.args.paper.model.now c.args.paper.index.now c.args.location c.modes_at-modes.result _ c.args.paper.good.good c.requires.location_bound c.modes_at-modes.ensures }
