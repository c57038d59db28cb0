-- The first three numbers of what is told of the hypothesis. Assumes nothing.
use Rattle.rules.specs.Marking.{answer}
use Rattle.queries.proofs.ShowLaws.{answer-shown}
use Rattle.queries.proofs.show.show_answer.Goals as goal

pub returns : goal.returns
unfolding answer
returns c =
    let a = c.args in
    answer-shown a.limits a.model.now a.second.now a.o a.h c.show_hypothesis-shown.result c.show_hypothesis-shown.ensures
