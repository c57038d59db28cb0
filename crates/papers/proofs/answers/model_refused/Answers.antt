-- The number of the cause, and the other fields as they are. Assumes nothing.
use Rattle.std.proofs.Common.{rules}
use Rattle.rules.specs.Marking.{answer}
use Rattle.papers.proofs.answers.model_refused.Goals as goal

pub returns : goal.returns
unfolding answer
returns c = search rules
