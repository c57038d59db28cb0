-- Each side is what its reader promises at the steps that a row takes, and the collecting is one more operator. Assumes nothing.
use mathlib.Core.Path.{◌≡◌, sym, ap, ◌∙◌}
use native.Mathlib.Omega.{arith}
use Rattle.typed.specs.Forms.{refused, next, collected_at}
use Rattle.typed.specs.Working.{enough}
use Rattle.typed.proofs.RowLaws.{skip-within, row-refused, row-collected}
use Rattle.typed.proofs.working.work.Goals as goal

pub returns-in_err-left : goal.returns-in_err-left
unfolding enough
returns-in_err-left c =
    let a = c.args in
    let e = c.in_err-left in
    let is : c.from_residual.result ≡ refused e.field-0.0.place = grind arith in
    is ∙ sym e.was ∙ row-refused a.n a.text.now c.expression.result (c.expression.ensures.same (enough a.text.now) (omega arith)) e.field-0.0.place e.was

pub overflow_add-place : goal.overflow_add-place
overflow_add-place c =
    let l = c.in_ok-left.left in
    let b = c.expression.ensures.place l.next l.form c.in_ok-left.was in
    omega (arith, c.skip-place.ensures, skip-within c.args.text.now l.next b.1)

pub returns-in_err-right : goal.returns-in_err-right
unfolding enough collected_at next
returns-in_err-right c =
    let a = c.args in
    let l = c.in_ok-left.left in
    let n = enough a.text.now in
    let e = c.in_err-right in
    let is : c.from_residual-in_err-right.result ≡ refused e.field-0.0.place = grind arith in
    row-collected a.n a.text.now c.expression.result (c.expression.ensures.same n (omega arith)) c.expression-2.result c.from_residual-in_err-right.result l.next c.skip-place.result l.form
    c.in_ok-left.was c.skip-place.ensures (c.expression-2.ensures.same n (omega arith)) (is ∙ sym (ap (collected_at c.skip-place.result l.form) e.was))

pub returns : goal.returns
unfolding enough
returns c =
    let a = c.args in
    let l = c.in_ok-left.left in
    let n = enough a.text.now in
    row-collected a.n a.text.now c.expression.result (c.expression.ensures.same n (omega arith)) c.expression-2.result c.collect.result l.next c.skip-place.result l.form
    c.in_ok-left.was c.skip-place.ensures (c.expression-2.ensures.same n (omega arith)) (c.collect.ensures ∙ sym (ap (collected_at c.skip-place.result l.form) c.in_ok-right.was))
