-- The values before this one are in their places, what stands from n on is as it was, and the rest is read from here. Assumes nothing.
use Rattle.std.proofs.Common.{rules, Err, ◌≡◌, refl, sym, ap, ◌∙◌}
use native.Mathlib.Omega.{arith}
use borrow.Author.Rules.{rules}
use lib.IntN.{ℤ}
use lib.ListN.{length-set}
use mir.Syntax.{w64}
use mir.Val.{to_z, of_z}
use mir.Facts.{to_z-of_z}
use Rattle.formats.specs.Reading.{got}
use Rattle.fields.specs.Answers.{got_as}
use Rattle.second_sheets.specs.RunAnswers.{read_value}
use Rattle.fields.proofs.AnswerLaws.{field-value, field-refused, next-refused}
use Rattle.fields.specs.Causes.{number_of}
use Rattle.second_sheets.proofs.RunLaws.{values-start, values-stop, values-go-on, values-end, kept_same, kept_put}
use Rattle.second_sheets.proofs.run.values_into.Goals as goal

pub loop-i-init : goal.loop-i-init
loop-i-init c =
    let a = c.args in
    (omega arith, (refl, (kept_same 0 a.n a.values.now, values-start a.s.now a.n a.at a.values.now)))

pub returns-in_err-v : goal.returns-in_err-v
unfolding got_as
returns-in_err-v c =
    let a = c.args in
    let l = c.loop-i in
    let number = (number_of c.in_err-v.field-0.0.0) in
    let cut = c.in_err-v.field-0.0.1 in
    let same : c.from_residual.result ≡ Err c.in_err-v.field-0.0 = search rules in
    record { result_after = next-refused _ same ∙ (values-stop a.s.now a.n a.at l.values l.i l.place l.invariant.1.1.1 c.loop-i-test.true number cut (sym c.value.ensures ∙ field-refused c.in_err-v.was)); kept_values = l.invariant.1.1.0 }

pub offset_bounds-values-i : goal.offset_bounds-values-i
offset_bounds-values-i c = omega arith

pub bounds-values-i : goal.bounds-values-i
bounds-values-i c = omega arith

pub loop-i-preserved : goal.loop-i-preserved
loop-i-preserved c =
    let a = c.args in
    let l = c.loop-i in
    let v = c.in_ok-v.v in
    let after = c.in_ok-v.next in
    let h = c.loop-i-test.true in
    let back : to_z w64 (of_z w64 v) ≡ v = to_z-of_z {w = w64} {z = v} (search rules) in
    let e : read_value a.s.now l.place ≡ got (to_z w64 (of_z w64 v)) after = sym c.value.ensures ∙ field-value c.in_ok-v.was ∙ ap (λ (x : ℤ). got x after) (sym back) in (
      omega arith,
      (simp length-set l.invariant.1.0, (kept_put a.n l.values l.i (to_z w64 (of_z w64 v)) h l.invariant.1.1.0, values-go-on a.s.now a.n a.at l.values l.i l.place l.invariant.1.1.1 h (to_z w64 (of_z w64 v)) after (omega arith) e)),
    )

pub shape_of-values : goal.shape_of-values
shape_of-values c = c.loop-i.invariant.1.0

pub returns : goal.returns
unfolding got_as
returns c =
    let a = c.args in
    let l = c.loop-i in record { result_after = values-end a.s.now a.n a.at l.values l.i l.place l.invariant.1.1.1 (omega arith) (omega arith); kept_values = l.invariant.1.1.0 }
