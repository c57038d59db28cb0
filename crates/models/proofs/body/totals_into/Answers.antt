-- Three fields in a chain, kept one after the other. Assumes nothing.
use Rattle.std.proofs.Common.{rules, Err, ◌≡◌, sym, ap, ◌∙◌}
use native.Mathlib.Omega.{arith}
use lib.ListN.{set, length-set}
use Rattle.formats.specs.Reading.{got, u8, within}
use Rattle.fields.specs.Answers.{got_as}
use Rattle.fields.proofs.AnswerLaws.{field-value, field-refused}
use Rattle.formats.proofs.FieldLaws.{range-read}
use Rattle.fields.proofs.AnswerLaws.{next-refused}
use Rattle.models.proofs.BodyLaws.{totals-first, totals-second, totals-third, totals-read, totals-put}
use Rattle.models.proofs.IndexLaws.{kept-none, kept_set, kept_then}
use Rattle.models.proofs.body.totals_into.Goals.{In_ok-variables, In_ok-components, In_ok-conditions}
use Rattle.models.proofs.body.totals_into.Goals as goal

-- what each field was read as
variables-read : (c : In_ok-variables) → within 1 8 u8 c.args.s.now c.args.at ≡ got c.in_ok-variables.variables c.in_ok-variables.second
variables-read c = sym c.byte_within.ensures ∙ field-value c.in_ok-variables.was

components-read : (c : In_ok-components) → within 1 4 u8 c.args.s.now c.in_ok-variables.second ≡ got c.in_ok-components.components c.in_ok-components.third
components-read c = sym c.byte_within-2.ensures ∙ field-value c.in_ok-components.was

conditions-read : (c : In_ok-conditions) → within 0 16 u8 c.args.s.now c.in_ok-components.third ≡ got c.in_ok-conditions.conditions c.in_ok-conditions.next
conditions-read c = sym c.byte_within-3.ensures ∙ field-value c.in_ok-conditions.was

pub overflow_cast-index : goal.overflow_cast-index
overflow_cast-index c = omega (arith, (range-read u8 1 8 _ _ _ _ (variables-read (goal.at.overflow_cast-index c).In_ok-variables)).high)

pub overflow_cast-index-2 : goal.overflow_cast-index-2
overflow_cast-index-2 c = omega (arith, (range-read u8 1 4 _ _ _ _ (components-read (goal.at.overflow_cast-index-2 c).In_ok-components)).high)

pub bounds-index-1 : goal.bounds-index-1
bounds-index-1 c = simp length-set (omega (arith, c.requires))

pub overflow_cast-index-3 : goal.overflow_cast-index-3
overflow_cast-index-3 c = omega (arith, (range-read u8 0 16 _ _ _ _ (conditions-read c)).high)

pub bounds-index-2 : goal.bounds-index-2
bounds-index-2 c = simp length-set (omega (arith, c.requires))

pub returns-in_err-variables : goal.returns-in_err-variables
unfolding got_as
returns-in_err-variables c = let same : c.from_residual.result ≡ Err c.in_err-variables.field-0.0 = search rules in
    record { result_after = next-refused _ same ∙ (sym (totals-first _ _ _ _ (sym c.byte_within.ensures ∙ field-refused c.in_err-variables.was))); kept = kept-none 0 3 _ }

pub returns-in_err-components : goal.returns-in_err-components
unfolding got_as
returns-in_err-components c = let same : c.from_residual-in_err-components.result ≡ Err c.in_err-components.field-0.0 = search rules in
    record { result_after = next-refused _ same ∙ (sym (totals-second _ _ _ _ (variables-read (goal.at.returns-in_err-components c).In_ok-variables) _ _ (sym c.byte_within-2.ensures ∙ field-refused c.in_err-components.was))); kept = kept-none 0 3 _ }

pub returns-in_err-conditions : goal.returns-in_err-conditions
unfolding got_as
returns-in_err-conditions c = let same : c.from_residual-in_err-conditions.result ≡ Err c.in_err-conditions.field-0.0 = search rules in
    record { result_after = next-refused _ same ∙ (sym (totals-third _ _ _ _ (variables-read (goal.at.returns-in_err-conditions c).In_ok-variables) _ _ (components-read (goal.at.returns-in_err-conditions c).In_ok-components) _ _ (sym c.byte_within-3.ensures ∙ field-refused c.in_err-conditions.was))); kept = kept-none 0 3 _ }

pub returns : goal.returns
unfolding got_as
returns c =
    let index = c.args.index.now in
    let n = c.in_ok-variables.variables in
    let k = c.in_ok-components.components in
    let u = c.in_ok-conditions.conditions in record { result_after = ap (λ w. got w c.in_ok-conditions.next) (totals-put index n k u (omega (arith, c.requires))) ∙ sym (totals-read _ _ _ _ (variables-read (goal.at.returns c).In_ok-variables) _ _ (components-read (goal.at.returns c).In_ok-components) _ _ (conditions-read c)); kept = kept_then (kept_set 0 3 index 0 n (omega arith) (omega arith)) (kept_then (kept_set 0 3 (set index 0 n) 1 k (omega arith) (omega arith)) (kept_set 0 3 (set (set index 0 n) 1 k) 2 u (omega arith) (omega arith))) }
