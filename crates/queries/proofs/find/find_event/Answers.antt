-- Beyond an event that has none, else by the table that lists its joint switches. Assumes nothing.
use mathlib.Core.Path.{sym, ◌∙◌}
use native.Mathlib.Omega.{arith}
use Rattle.models.specs.Index.{entry}
use Rattle.formats.proofs.JointProduct.{countable, event-none}
use Rattle.models.proofs.GoodIndexLaws.{good-components}
use Rattle.papers.proofs.LandedLaws.{listed-there}
use Rattle.queries.proofs.FindLaws.{none-there}
use Rattle.queries.proofs.find.find_event.Goals as goal

pub returns-then-paper-e-eq0 : goal.returns-then-paper-e-eq0
unfolding entry
returns-then-paper-e-eq0 c =
    let nothing = event-none (countable (good-components c.args.paper.good.good)) c.args.e c.args.location (sym (c.args.paper.good.counted.events c.args.e (omega (arith, c.requires.stands.1.0))) ∙ c.if-paper-e-eq0.true) c.requires.stands.0.below in
    none-there _ _ _ _ _ c.args.from.at c.args.from.left nothing

pub find_switch-requires-clause-location_bound : goal.find_switch-requires-clause-location_bound
find_switch-requires-clause-location_bound c =
    let p = c.requires in
    let listed = c.list_slot-slot.ensures in (p.stands.0.below, listed-there c.args.paper.good.good p.stands.0 listed)
