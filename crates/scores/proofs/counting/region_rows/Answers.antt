-- The number that is kept for a location's rows. Assumes nothing.
use mathlib.Core.Path.{sym, ◌∙◌}
use Rattle.papers.proofs.RegionLaws.{region-length}
use Rattle.scores.proofs.counting.region_rows.Goals as goal

pub returns : goal.returns
returns c =
    c.region_rows.ensures ∙ sym (region-length c.args.paper.model.now c.args.paper.index.now c.args.paper.second.now c.args.paper.regions.now c.args.location c.requires.location_bound)
