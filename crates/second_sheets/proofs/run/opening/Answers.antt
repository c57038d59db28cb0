-- The fields, then the values. Assumes nothing.
use Rattle.std.proofs.Common.{rules, Err, ◌≡◌, sym, ◌∙◌}
use mathlib.Core.List.{[]}
use Prim.Native.Nat.{◌+◌}
use native.Mathlib.Omega.{arith}
use lib.ListN.{take}
use Rattle.formats.specs.Reading.{got, refused}
use Rattle.models.specs.Index.{entry}
use Rattle.formats.specs.RunSheet.{read_values}
use Rattle.second_sheets.specs.RunAnswers.{opening_as, read_opening_fields}
use Rattle.fields.proofs.AnswerLaws.{next-at, next-refused}
use Rattle.fields.specs.Causes.{number_of}
use Rattle.second_sheets.proofs.RunLaws.{kept_same}
use Rattle.second_sheets.proofs.StepLaws.{fields_value, fields-refused, opening-refused, opening-cut, opening-read}
use Rattle.second_sheets.proofs.run.opening.Goals.{In_ok-opening}
use Rattle.second_sheets.proofs.run.opening.Goals as goal

pub overflow_cast-index : goal.overflow_cast-index
unfolding entry
overflow_cast-index c = omega (arith, c.requires.0)

pub values_into-requires : goal.values_into-requires
unfolding entry
values_into-requires c = c.requires.1

-- the fields before the values
fields_read : (c : In_ok-opening) → read_opening_fields c.args.locations c.args.s.now c.args.at ≡ got (record { q = c.in_ok-opening.opening.q; steps = c.in_ok-opening.opening.steps; place = c.args.at + 6; location = c.in_ok-opening.opening.location; values = [] }) c.in_ok-opening.first
fields_read c = sym c.opening_fields.ensures ∙ fields_value [] c.args.at c.in_ok-opening.was

pub returns-in_err-opening : goal.returns-in_err-opening
unfolding opening_as
returns-in_err-opening c =
    let a = c.args in
    let s = a.s.now in
    let index = a.index.now in
    let same : c.from_residual.result ≡ Err c.in_err-opening.field-0.0 = search rules in
    record { result_after = fields-refused _ _ same ∙ (sym (opening-refused s a.at a.locations (entry index 0) (number_of c.in_err-opening.field-0.0.0) c.in_err-opening.field-0.0.1 (sym c.opening_fields.ensures ∙ fields-refused [] a.at c.in_err-opening.was))); kept_values = kept_same 0 (entry index 0) a.values.now }

pub returns-in_err-after : goal.returns-in_err-after
unfolding opening_as entry
returns-in_err-after c =
    let a = c.args in
    let s = a.s.now in
    let index = a.index.now in
    let read = c.values_into in
    let cut : read_values (entry index 0) s c.in_ok-opening.first ≡ refused (number_of c.in_err-after.field-0.0.0) c.in_err-after.field-0.0.1 = sym read.ensures.result_after ∙ next-refused (take (entry index 0) read.new.values) c.in_err-after.was in
    let same : c.from_residual-in_err-after.result ≡ Err c.in_err-after.field-0.0 = search rules in
    record { result_after = fields-refused _ _ same ∙ sym (opening-cut s a.at a.locations (entry index 0) c.in_ok-opening.opening.q c.in_ok-opening.opening.steps c.in_ok-opening.opening.location c.in_ok-opening.first (fields_read (goal.at.returns-in_err-after c).In_ok-opening) (number_of c.in_err-after.field-0.0.0) c.in_err-after.field-0.0.1 cut); kept_values = read.ensures.kept_values }

pub returns : goal.returns
unfolding opening_as entry
returns c =
    let a = c.args in
    let s = a.s.now in
    let index = a.index.now in
    let read = c.values_into in
    let xs = take (entry index 0) read.new.values in
    let whole : read_values (entry index 0) s c.in_ok-opening.first ≡ got xs c.in_ok-after.after = sym read.ensures.result_after ∙ next-at xs c.in_ok-after.was in record { result_after = sym (opening-read s a.at a.locations (entry index 0) c.in_ok-opening.opening.q c.in_ok-opening.opening.steps c.in_ok-opening.opening.location c.in_ok-opening.first (fields_read (goal.at.returns c).In_ok-opening) xs c.in_ok-after.after whole); kept_values = read.ensures.kept_values }
