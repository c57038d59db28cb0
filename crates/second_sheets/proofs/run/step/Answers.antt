-- The kind, then a flow or a jump of the model. Assumes nothing.
use Rattle.std.proofs.Common.{rules, Err, ◌≡◌, sym, ap, ◌∙◌}
use mathlib.Core.List.{List}
use Prim.Native.Nat.{ℕ}
use Rattle.formats.specs.Reading.{got, refused, u8, within}
use Rattle.models.specs.Index.{entry, model_from}
use Rattle.formats.specs.RunSheet.{read_step}
use Rattle.second_sheets.specs.RunAnswers.{step_as, held_step}
use Rattle.fields.proofs.AnswerLaws.{field-value, field-refused}
use Rattle.fields.specs.Causes.{number_of}
use Rattle.second_sheets.proofs.RunLaws.{kept_same}
use Rattle.second_sheets.proofs.StepLaws.{step-refused, step-flow, step-jump}
use Rattle.second_sheets.proofs.run.step.Goals.{In_err-kind, In_ok-kind}
use Rattle.second_sheets.proofs.run.step.Goals as goal

-- the kind that was read, and one that was refused
kind-read : (c : In_ok-kind) → within 0 1 u8 c.args.s.now c.args.at ≡ got c.in_ok-kind.kind c.in_ok-kind.next
kind-read c = sym c.byte_within.ensures ∙ field-value c.in_ok-kind.was

no_kind : (c : In_err-kind) (model : List ℕ) → read_step (model_from model c.args.index.now) c.args.s.now c.args.at ≡ refused (number_of c.in_err-kind.field-0.0.0) c.in_err-kind.field-0.0.1
no_kind c model =
    let a = c.args in
    step-refused (model_from model a.index.now) a.s.now a.at (number_of c.in_err-kind.field-0.0.0) c.in_err-kind.field-0.0.1 (sym c.byte_within.ensures ∙ field-refused c.in_err-kind.was)

pub returns-in_err-kind : goal.returns-in_err-kind
unfolding step_as held_step
returns-in_err-kind c =
    let same : c.from_residual.result ≡ Err c.in_err-kind.field-0.0 = search rules in
    let a = c.args in record { by_index = λ model. ap (step_as _ _) same ∙ sym (no_kind (goal.at.returns-in_err-kind c).In_err-kind model); by_index_2 = λ model. field-refused same ∙ ap held_step (sym (no_kind (goal.at.returns-in_err-kind c).In_err-kind model)); kept_values = kept_same 0 (entry a.index.now 0) a.values.now }

pub returns-then-kind-eq0 : goal.returns-then-kind-eq0
returns-then-kind-eq0 c =
    let a = c.args in
    let index = a.index.now in
    let same : (model : List ℕ) → _ = λ model. step-flow (model_from model index) a.s.now a.at c.in_ok-kind.kind c.in_ok-kind.next (kind-read (goal.at.returns-then-kind-eq0 c).In_ok-kind) c.if-kind-eq0.true in
    let told = c.flow_step.ensures in record { by_index = λ model. told.by_index model ∙ sym (same model); by_index_2 = λ model. told.by_index_2 model ∙ ap held_step (sym (same model)); kept_values = told.kept_values }

pub returns-else-kind-eq0 : goal.returns-else-kind-eq0
returns-else-kind-eq0 c =
    let a = c.args in
    let index = a.index.now in
    let same : (model : List ℕ) → _ = λ model. step-jump (model_from model index) a.s.now a.at c.in_ok-kind.kind c.in_ok-kind.next (kind-read (goal.at.returns-else-kind-eq0 c).In_ok-kind) c.if-kind-eq0.false in
    let told = c.jump_step.ensures in record { by_index = λ model. told.by_index model ∙ sym (same model); by_index_2 = λ model. told.by_index_2 model ∙ ap held_step (sym (same model)); kept_values = told.kept_values }
