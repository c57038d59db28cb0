-- The count that the index keeps. Assumes nothing.
use native.Mathlib.Omega.{arith}
use lib.ListN.{length}
use Rattle.models.specs.Index.{entry, components_from}
use Rattle.rules.specs.Marking.{answer}
use Rattle.joint_lists.proofs.ListLaws.{list-fits, list-short}
use Rattle.joint_lists.proofs.list.count_answer.Goals as goal

pub overflow_cast-count : goal.overflow_cast-count
unfolding entry
overflow_cast-count c = omega (arith, c.requires.counted.joined, c.requires.model_len_bound.1)

pub overflow_cast-count-2 : goal.overflow_cast-count-2
unfolding entry
overflow_cast-count-2 c = omega (arith, c.requires.counted.joined, c.requires.model_len_bound.1)

pub returns-then-count-lent : goal.returns-then-count-lent
unfolding answer entry
returns-then-count-lent c =
    let s = c.args.model.now in
    list-fits (components_from s c.args.index.now) (length s) c.args.lent _ c.requires.counted.joined c.if-count-lent.true

pub returns : goal.returns
unfolding answer entry
returns c =
    let s = c.args.model.now in
    list-short (components_from s c.args.index.now) (length s) c.args.lent _ c.requires.counted.joined c.if-count-lent.false
