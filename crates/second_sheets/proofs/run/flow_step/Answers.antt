-- The time in its range, then the values. Assumes nothing.
use Rattle.std.proofs.Common.{rules, Err, ◌≡◌, sym, ap, ◌∙◌}
use mathlib.Core.List.{List}
use Prim.Native.Nat.{ℕ, ◌-◌, ◌^◌}
use Rattle.formats.specs.Reading.{got, refused, u32, within}
use Rattle.models.specs.Index.{entry, model_from}
use Rattle.formats.specs.RunSheet.{read_flow}
use Rattle.second_sheets.specs.RunAnswers.{step_as, held_step}
use Rattle.fields.proofs.AnswerLaws.{field-value, field-refused}
use Rattle.fields.specs.Causes.{number_of}
use Rattle.second_sheets.proofs.RunLaws.{kept_same}
use Rattle.second_sheets.proofs.StepLaws.{flow-refused, flow-told, flow-held}
use Rattle.second_sheets.proofs.run.flow_step.Goals.{In_err-time}
use Rattle.second_sheets.proofs.run.flow_step.Goals as goal

pub with_values-requires : goal.with_values-requires
unfolding entry
with_values-requires c = c.requires.1

-- the time was refused
cut : (c : In_err-time) (model : List ℕ) → read_flow (model_from model c.args.index.now) c.args.s.now c.args.at ≡ refused (number_of c.in_err-time.field-0.0.0) c.in_err-time.field-0.0.1
cut c model =
    let a = c.args in
    flow-refused model a.index.now a.s.now a.at (number_of c.in_err-time.field-0.0.0) c.in_err-time.field-0.0.1 (sym c.word_within.ensures ∙ field-refused c.in_err-time.was)

pub returns-in_err-time : goal.returns-in_err-time
unfolding step_as held_step
returns-in_err-time c =
    let same : c.from_residual.result ≡ Err c.in_err-time.field-0.0 = search rules in
    let a = c.args in record { by_index = λ model. ap (step_as _ _) same ∙ sym (cut (goal.at.returns-in_err-time c).In_err-time model); by_index_2 = λ model. field-refused same ∙ ap held_step (sym (cut (goal.at.returns-in_err-time c).In_err-time model)); kept_values = kept_same 0 (entry a.index.now 0) a.values.now }

pub returns : goal.returns
unfolding entry
returns c =
    let a = c.args in
    let s = a.s.now in
    let index = a.index.now in
    let read = c.with_values in
    let e : within 0 (2 ^ 24 - 1) u32 s a.at ≡ got c.in_ok-time.time c.in_ok-time.next = sym c.word_within.ensures ∙ field-value c.in_ok-time.was in record { by_index = λ model. read.ensures.by_index (entry index 1) ∙ flow-told model index s a.at c.in_ok-time.time c.in_ok-time.next e; by_index_2 = λ model. read.ensures.value ∙ flow-held model index s a.at c.in_ok-time.time c.in_ok-time.next e; kept_values = read.ensures.kept_values }
