-- The event in its range, then the switch bytes, then the values. Assumes nothing.
use Rattle.std.proofs.Common.{rules, Err, ◌≡◌, sym, ap, ◌∙◌}
use mathlib.Core.List.{List}
use Prim.Native.Nat.{ℕ}
use Rattle.formats.specs.Reading.{got, refused, u8, within}
use Rattle.models.specs.Index.{entry, model_from}
use Rattle.formats.specs.RunSheet.{read_jump}
use Rattle.second_sheets.specs.RunAnswers.{switch_bytes, step_as, held_step}
use Rattle.fields.proofs.AnswerLaws.{field-value, field-refused}
use Rattle.fields.specs.Causes.{number_of}
use Rattle.second_sheets.proofs.RunLaws.{kept_same}
use Rattle.second_sheets.proofs.StepLaws.{switches-told, switches-refused, jump-refused, jump-cut, jump-told, jump-held}
use Rattle.second_sheets.proofs.run.jump_step.Goals.{After-switches, In_err-event, In_err-by}
use Rattle.second_sheets.proofs.run.jump_step.Goals as goal

pub with_values-requires : goal.with_values-requires
unfolding entry
with_values-requires c = c.requires.s_len_bound

-- the event that was read
event-read : (c : After-switches) → within 0 15 u8 c.args.s.now c.args.at ≡ got c.in_ok-event.event c.in_ok-event.next
event-read c = sym c.byte_within.ensures ∙ field-value c.in_ok-event.was

-- the event was refused, and a switch byte
no-event : (c : In_err-event) (model : List ℕ) → read_jump (model_from model c.args.index.now) c.args.s.now c.args.at ≡ refused (number_of c.in_err-event.field-0.0.0) c.in_err-event.field-0.0.1
no-event c model =
    let a = c.args in
    jump-refused model a.index.now a.s.now a.at (number_of c.in_err-event.field-0.0.0) c.in_err-event.field-0.0.1 (sym c.byte_within.ensures ∙ field-refused c.in_err-event.was)

no_switch : (c : In_err-by) (model : List ℕ) → read_jump (model_from model c.args.index.now) c.args.s.now c.args.at ≡ refused (number_of c.in_err-by.field-0.0.0) c.in_err-by.field-0.0.1
no_switch c model =
    let a = c.args in
    let bytes = switch_bytes a.index.now a.s.now c.in_ok-event.next in
    jump-cut model a.index.now a.s.now a.at c.in_ok-event.event c.in_ok-event.next (event-read (goal.at.In_err-by c).After-switches) (number_of c.in_err-by.field-0.0.0) c.in_err-by.field-0.0.1 (switches-refused bytes c.switches.result _ c.switches.ensures c.in_err-by.was)

pub returns-in_err-event : goal.returns-in_err-event
unfolding step_as held_step
returns-in_err-event c =
    let same : c.from_residual.result ≡ Err c.in_err-event.field-0.0 = search rules in
    let a = c.args in record { by_index = λ model. ap (step_as _ _) same ∙ sym (no-event (goal.at.returns-in_err-event c).In_err-event model); by_index_2 = λ model. field-refused same ∙ ap held_step (sym (no-event (goal.at.returns-in_err-event c).In_err-event model)); kept_values = kept_same 0 (entry a.index.now 0) a.values.now }

pub returns-in_err-by : goal.returns-in_err-by
unfolding step_as held_step
returns-in_err-by c =
    let same : c.from_residual-in_err-by.result ≡ Err c.in_err-by.field-0.0 = search rules in
    let a = c.args in record { by_index = λ model. ap (step_as _ _) same ∙ sym (no_switch (goal.at.returns-in_err-by c).In_err-by model); by_index_2 = λ model. field-refused same ∙ ap held_step (sym (no_switch (goal.at.returns-in_err-by c).In_err-by model)); kept_values = kept_same 0 (entry a.index.now 0) a.values.now }

pub returns : goal.returns
unfolding entry
returns c =
    let a = c.args in
    let s = a.s.now in
    let index = a.index.now in
    let bytes = switches-told (switch_bytes index s c.in_ok-event.next) c.switches.result c.in_ok-by.by c.in_ok-by.after c.switches.ensures c.in_ok-by.was in
    let read = c.with_values in record { by_index = λ model. read.ensures.by_index (entry index 1) ∙ jump-told model index s a.at c.in_ok-event.event c.in_ok-event.next (event-read (goal.at.returns c).After-switches) c.in_ok-by.by c.in_ok-by.after bytes c.requires.index_length_in_bounds.1; by_index_2 = λ model. read.ensures.value ∙ jump-held model index s a.at c.in_ok-event.event c.in_ok-event.next (event-read (goal.at.returns c).After-switches) c.in_ok-by.by c.in_ok-by.after bytes; kept_values = read.ensures.kept_values }
