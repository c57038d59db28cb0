-- The five fields as they are. Assumes nothing.
use mathlib.Core.Path.{refl}
use Rattle.rules.specs.Marking.{answer}
use Rattle.papers.proofs.answers.second_accepted.Goals as goal

pub returns : goal.returns
unfolding answer
returns c = refl
