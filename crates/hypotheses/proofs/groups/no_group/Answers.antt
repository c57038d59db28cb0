-- The empty group, as it is. Assumes nothing.
use mathlib.Core.Path.{refl}
use Rattle.hypotheses.specs.Listing.{empty_group}
use Rattle.hypotheses.proofs.groups.no_group.Goals as goal

pub returns : goal.returns
unfolding empty_group
returns c = refl
