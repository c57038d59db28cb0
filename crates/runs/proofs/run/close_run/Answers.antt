-- By cases: bytes left, then the state reached. Assumes nothing.
use mathlib.Core.Path.{◌∙◌}
use native.Mathlib.Omega.{arith}
use borrow.Author.Rules.{rules}
use Rattle.runs.proofs.RunCode.{close-left, left-placed, close-unsafe, close-safe}
use Rattle.runs.proofs.run.close_run.Goals as goal

pub second_refused-requires : goal.second_refused-requires
second_refused-requires c =
    let a = c.args in
    let p = c.requires in
    omega (arith, left-placed a.model.now a.index.now a.q a.s.now a.run a.state.now c.in-Err.refusal p.run_stands.0.placed c.in-Err.ensures, p.accepted.1)

pub returns-in-Err : goal.returns-in-Err
returns-in-Err c =
    let a = c.args in
    c.second_refused.ensures ∙ close-left a.model.now a.index.now a.q a.s.now a.run a.state.now c.in-Err.refusal c.in-Err.ensures

pub returns-then-is_unsafe : goal.returns-then-is_unsafe
returns-then-is_unsafe c =
    let a = c.args in
    let closes = close-unsafe a.model.now a.index.now a.q a.s.now a.run a.state.now c.in_default.field-0 c.in_default.ensures c.if-is_unsafe.ensures in
    search rules

pub returns-else-is_unsafe : goal.returns-else-is_unsafe
returns-else-is_unsafe c =
    let a = c.args in
    let closes = close-safe a.model.now a.index.now a.q a.s.now a.run a.state.now c.in_default.field-0 c.in_default.ensures c.if-is_unsafe.ensures in
    search rules
