-- The values, then the step beside them, or the refusal. Assumes nothing.
use Rattle.std.proofs.Common.{ap, ◌∙◌, rules, Err, ◌≡◌}
use lib.ListN.{take}
use Rattle.fields.specs.Answers.{got_field}
use Rattle.fields.proofs.AnswerLaws.{field-refused}
use Rattle.second_sheets.specs.RunAnswers.{step_as}
use Rattle.second_sheets.proofs.StepLaws.{with_at, with-held, with-refused, with_none}
use Rattle.second_sheets.proofs.run.with_values.Goals as goal

pub returns-in_err-after : goal.returns-in_err-after
returns-in_err-after c =
    let a = c.args in
    let read = c.values_into in
    let xs = take a.n read.new.values in
    let same : c.from_residual.result ≡ Err c.in_err-after.field-0.0 = search rules in
    let s = a.s.now in record { by_index = λ m. ap (step_as m xs) same ∙ with-refused a.step a.n s a.at xs read.result read.ensures.result_after _ c.in_err-after.was m; value = field-refused same ∙ with_none a.step a.n s a.at xs read.result read.ensures.result_after _ c.in_err-after.was; kept_values = read.ensures.kept_values }

pub returns : goal.returns
unfolding got_field
returns c =
    let a = c.args in
    let read = c.values_into in
    let xs = take a.n read.new.values in
    let s = a.s.now in record { by_index = with_at a.step a.n s a.at xs read.result read.ensures.result_after c.in_ok-after.after c.in_ok-after.was; value = with-held a.step a.n s a.at xs read.result read.ensures.result_after c.in_ok-after.after c.in_ok-after.was; kept_values = read.ensures.kept_values }
