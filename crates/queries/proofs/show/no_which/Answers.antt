-- The fields one by one. Assumes nothing.
use mathlib.Core.Path.{refl}
use Rattle.queries.specs.Finding.{which_refused}
use Rattle.queries.proofs.show.no_which.Goals as goal

pub returns : goal.returns
unfolding which_refused
returns c = refl
