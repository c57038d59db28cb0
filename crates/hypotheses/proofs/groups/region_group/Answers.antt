-- Two numbers of the regions, and how many hypotheses the table has. Assumes nothing.
use mathlib.Core.Path.{refl}
use Rattle.models.specs.Index.{entry}
use Rattle.hypotheses.specs.Listing.{region_group}
use Rattle.hypotheses.proofs.groups.region_group.Goals as goal

pub returns : goal.returns
unfolding region_group entry
returns c = rw (c.version_of-version.ensures, c.lines-hypotheses.ensures, c.region_rows-goals.ensures, c.from-from.ensures) refl
