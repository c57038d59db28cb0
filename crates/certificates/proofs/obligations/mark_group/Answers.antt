-- The goals that are left, marked from here, are the whole. Assumes nothing.
use mathlib.Core.Path.{◌≡◌, sym, ◌∙◌}
use mathlib.Core.List.{List}
use Prim.Native.Nat.{◌+◌, ◌<◌}
use native.Mathlib.Omega.{arith}
use lib.ListN.{length, get_or}
use Rattle.fields.proofs.AnswerLaws.{next-at, next-refused}
use Rattle.rules.specs.Marking.{Marked}
use Rattle.hypotheses.specs.Listing.{Task, no_task, tasks_of, mark_tasks}
use Rattle.certificates.specs.Passed.{stands_at}
use Rattle.certificates.proofs.FreshLaws.{fresh-length}
use Rattle.certificates.proofs.MarkLaws.{tasks-length, task-advances}
use Rattle.certificates.proofs.MarkLoops.{goals-left, goals-over, goal-on, goal-stops}
use Rattle.certificates.proofs.obligations.mark_group.Goals.{After-mark_goal}
use Rattle.certificates.proofs.obligations.mark_group.Goals as goal

pub loop-goal-init : goal.loop-goal-init
loop-goal-init c =
    let a = c.args in
    (omega arith, (c.requires.good_group.1.0.within, (omega (arith, c.requires.good_group.1.0.few), (c.requires.good_group.1.1, goals-left a.second.now (tasks_of a.model.now a.second.now a.n a.table.now a.group) a.from.place a.from.done))))

pub mark_goal-requires-clause-good_group : goal.mark_goal-requires-clause-good_group
mark_goal-requires-clause-good_group c =
    (c.requires.good_group.0, (omega (arith, c.loop-goal-test.true), c.loop-goal.invariant.1.1.1.0))

pub overflow_add-result : goal.overflow_add-result
overflow_add-result c = omega (arith, c.loop-goal.invariant.1.0, c.loop-goal.invariant.1.1.0, c.requires.model_len_bound.1.0)

pub shape_of-sums-in-Err : goal.shape_of-sums-in-Err
shape_of-sums-in-Err c =
    c.mark_goal.auto.sums ∙ fresh-length c.loop-goal.invariant.1.1.1.0 ∙ sym (fresh-length c.requires.good_group.1.1)

-- the tasks of the group, and what marking them all gives
module _ (c : After-mark_goal) where
  abbrev part : List Task
  part = tasks_of c.args.model.now c.args.second.now c.args.n c.args.table.now c.args.group

  abbrev whole : Marked (Unit {0})
  whole = mark_tasks part c.args.second.now c.args.from.place c.args.from.done

  short : c.loop-goal.goal < length part
  short = omega (arith, c.loop-goal-test.true, tasks-length c.args.model.now c.args.second.now c.args.n c.args.table.now c.args.group)

pub returns-in-Err-clause-value : goal.returns-in-Err-clause-value
unfolding stands_at
returns-in-Err-clause-value c =
    let t = (goal.at.returns-in-Err-clause-value c).After-mark_goal in
    let l = c.loop-goal in
    goal-stops c.args.second.now (whole t) (part t) l.goal (short t) l.place (c.args.from.done + l.goal) _ _ (sym c.mark_goal.ensures.value ∙ next-refused tt c.in-Err.is) l.invariant.1.1.1.1

pub loop-goal-preserved : goal.loop-goal-preserved
loop-goal-preserved c =
    let t = (goal.at.loop-goal-preserved c).After-mark_goal in
    let a = c.args in
    let l = c.loop-goal in
    let q = c.in-Ok.next in
    let e = sym c.mark_goal.ensures.value ∙ next-at tt c.in-Ok.is in
    let ends = task-advances (get_or (part t) l.goal no_task) a.second.now l.place q e in
    (omega (arith, c.loop-goal-test.true), (ends.1, (omega (arith, ends.0, l.invariant.1.1.0), (c.in-Ok.ensures.fresh, goal-on a.second.now (whole t) (part t) l.goal (short t) l.place a.from.done q e l.invariant.1.1.1.1))))

pub overflow_add-result-2 : goal.overflow_add-result-2
overflow_add-result-2 c = omega (arith, c.loop-goal.invariant.1.0, c.loop-goal.invariant.1.1.0, c.requires.model_len_bound.1.0, c.loop-goal-test.false)

pub shape_of-sums : goal.shape_of-sums
shape_of-sums c = fresh-length c.loop-goal.invariant.1.1.1.0 ∙ sym (fresh-length c.requires.good_group.1.1)

pub returns : goal.returns
unfolding stands_at
returns c =
    let a = c.args in
    let l = c.loop-goal in
    let part = tasks_of a.model.now a.second.now a.n a.table.now a.group in
    let all = tasks-length a.model.now a.second.now a.n a.table.now a.group in
    let goals : l.goal ≡ a.group.goals = omega (arith, l.invariant.0, c.loop-goal-test.false) in
    record { value = goals-over a.second.now (mark_tasks part a.second.now a.from.place a.from.done) part l.goal a.group.goals l.place a.from.done all goals l.invariant.1.1.1.1; fresh = l.invariant.1.1.1.0 }
