-- What has been counted, with those still to come from this condition on, is the whole. Assumes nothing.
use native.Mathlib.Omega.{arith}
use Rattle.formats.specs.Joint.{bit}
use Rattle.models.specs.Index.{entry}
use Rattle.scores.proofs.CountGoals.{fitting-turn, fitting-end, fitting-most}
use Rattle.scores.proofs.counting.fitting_count.Goals as goal

pub modes_fit-requires : goal.modes_fit-requires
unfolding entry
modes_fit-requires c = (c.requires, omega arith)

pub overflow_add-count : goal.overflow_add-count
unfolding entry bit
overflow_add-count c =
    let a = c.args in
    let l = c.loop-u in
    let turn = fitting-turn a.model.now a.index.now a.modes l.u c.from-count.result (omega arith) c.modes_fit.ensures c.from-count.ensures in
    omega (arith, l.invariant, turn, fitting-most a.model.now a.index.now c.requires a.modes)

pub loop-u-preserved : goal.loop-u-preserved
unfolding entry bit
loop-u-preserved c =
    let a = c.args in
    let l = c.loop-u in
    let turn = fitting-turn a.model.now a.index.now a.modes l.u c.from-count.result (omega arith) c.modes_fit.ensures c.from-count.ensures in
    omega (arith, l.invariant, turn)

pub returns : goal.returns
unfolding entry
returns c =
    let a = c.args in
    let l = c.loop-u in
    omega (arith, l.invariant, fitting-end a.model.now a.index.now a.modes l.u (omega arith))
