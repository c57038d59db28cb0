-- What is still to come is what the whole comes to. Assumes nothing.
use mathlib.Core.Path.{◌≡◌}
use Prim.Native.Nat.{suc, ◌+◌, ◌-◌}
use native.Mathlib.Omega.{arith}
use borrow.Author.Rules.{rules}
use Rattle.std.specs.Prelude.{Err}
use Rattle.runs.proofs.RunCode.{steps-go-on, steps-stop, steps-end, one-done}
use Rattle.runs.proofs.run.mark_steps.Goals as goal

pub returns-in_err-run-clause-state_after : goal.returns-in_err-run-clause-state_after
returns-in_err-run-clause-state_after c =
    let l = c.loop-i in
    let a = c.args in
    let same : c.from_residual.result ≡ Err c.in_err-run.field-0.0 = search rules in
    let more : a.steps - l._i ≡ suc (a.steps - (l._i + 1)) = omega (arith, c.loop-i-test.true) in
    rw same (steps-stop a.model.now a.index.now a.q a.s.now l.run l.state more l.invariant.1.1 c.mark_step.new.state c.in_err-run.field-0.0 c.in_err-run.ensures.state_after)

pub loop-i-preserved : goal.loop-i-preserved
loop-i-preserved c =
    let l = c.loop-i in
    let a = c.args in
    let some = c.loop-i-test.true in
    let one = c.in_ok-run.ensures in
    let left = c.mark_step.new.state in
    let more : a.steps - l._i ≡ suc (a.steps - (l._i + 1)) = omega (arith, some) in
    let done = one-done a.model.now a.index.now a.q a.s.now l.run l.state more l.invariant.1.1 left c.in_ok-run.run' one.state_after in
    (one.run_stands_2, (omega (arith, l.invariant.1.0, some, done), steps-go-on a.model.now a.index.now a.q a.s.now l.run l.state more l.invariant.1.1 left c.in_ok-run.run' one.state_after))

pub returns-clause-state_after : goal.returns-clause-state_after
returns-clause-state_after c =
    let a = c.args in
    let l = c.loop-i in
    steps-end a.model.now a.index.now a.q a.s.now l.run l.state (omega (arith, c.loop-i-test.false)) l.invariant.1.1
