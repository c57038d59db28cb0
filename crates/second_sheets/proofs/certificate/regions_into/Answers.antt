-- The regions before this one are kept, and the rest is read from here; each turn keeps one more. Assumes nothing.
use Rattle.std.proofs.Common.{rules, Err, ◌≡◌, refl, sym, ◌∙◌}
use Prim.Native.Nat.{◌+◌, ◌*◌, ◌<◌}
use native.Mathlib.Omega.{arith}
use lib.ListN.{length-set}
use Rattle.formats.specs.Reading.{got}
use Rattle.formats.specs.Rows.{read_condition}
use Rattle.fields.specs.Places.{rows_from}
use Rattle.fields.specs.Answers.{got_as}
use Rattle.models.proofs.IndexLaws.{kept-none}
use Rattle.fields.proofs.AnswerLaws.{rows-value, rows-refused}
use Rattle.fields.proofs.ConditionLaws.{CountRead, condition-read}
use Rattle.fields.proofs.AnswerLaws.{next-refused}
use Rattle.fields.specs.Causes.{number_of}
use Rattle.second_sheets.proofs.CertificateLaws.{regions-start, regions-go-on, regions-stop, regions-kept, regions-end}
use Rattle.second_sheets.proofs.certificate.regions_into.Goals.{In_ok-rows}
use Rattle.second_sheets.proofs.certificate.regions_into.Goals as goal

pub loop-l-init : goal.loop-l-init
loop-l-init c =
    let a = c.args in
    (omega arith, (refl, (kept-none 0 (2 * a.count) a.regions.now, regions-start a.s.now a.version a.n a.count a.at a.regions.now)))

pub condition-requires : goal.condition-requires
condition-requires c = (omega arith, omega arith)

pub returns-in_err-rows : goal.returns-in_err-rows
unfolding got_as
returns-in_err-rows c =
    let a = c.args in
    let l = c.loop-l in
    let cut = sym c.condition.ensures ∙ rows-refused a.s.now a.version a.n l.place c.in_err-rows.was in
    let same : c.from_residual.result ≡ Err c.in_err-rows.field-0.0 = search rules in
    record { result_after = next-refused _ same ∙ regions-stop a.s.now a.version a.n a.count a.at l.regions l.l l.place l.invariant.1.1.1 c.loop-l-test.true (number_of c.in_err-rows.field-0.0.0) c.in_err-rows.field-0.0.1 cut; kept = l.invariant.1.1.0 }

-- what this turn read, and that its count byte was there and is at most 16
rows-read : (c : In_ok-rows) → read_condition c.args.version 16 c.args.n c.args.s.now c.loop-l.place ≡ got (rows_from c.args.s.now c.args.version c.args.n (c.loop-l.place + 1) c.in_ok-rows.rows) c.in_ok-rows.next
rows-read c = sym c.condition.ensures ∙ rows-value c.args.s.now c.args.version c.args.n c.loop-l.place c.in_ok-rows.was

count-told : (c : In_ok-rows) → CountRead 16 c.args.n c.args.s.now c.loop-l.place c.in_ok-rows.rows
count-told c = condition-read 16 c.args.version c.args.n c.args.s.now c.loop-l.place (c.loop-l.place + 1) c.in_ok-rows.rows c.in_ok-rows.next (rows-read c)

pub overflow_add-regions : goal.overflow_add-regions
overflow_add-regions c = omega (arith, count-told c)

pub overflow_cast-regions : goal.overflow_cast-regions
overflow_cast-regions c = omega (arith, count-told c)

pub overflow_cast-regions-in-loop-l : goal.overflow_cast-regions-in-loop-l
overflow_cast-regions-in-loop-l c = omega (arith, count-told c)

pub loop-l-preserved : goal.loop-l-preserved
loop-l-preserved c =
    let a = c.args in
    let l = c.loop-l in
    let rows = c.in_ok-rows.rows in
    let h : l.l < a.count = c.loop-l-test.true in
    let kept = regions-kept a.s.now a.version a.n a.count a.at a.regions.now l.regions l.l (l.place + 1) rows l.invariant.1.1.0 h in
    let more = regions-go-on a.s.now a.version a.n a.count a.at l.regions l.l l.place l.invariant.1.1.1 h _ rows c.in_ok-rows.next (omega arith) refl (rows-read c) in
    (omega arith, (simp length-set l.invariant.1.0, (kept, more)))

pub shape_of-regions : goal.shape_of-regions
shape_of-regions c = c.loop-l.invariant.1.0

pub returns : goal.returns
unfolding got_as
returns c =
    let a = c.args in
    let l = c.loop-l in record { result_after = regions-end a.s.now a.version a.n a.count a.at l.regions l.l l.place l.invariant.1.1.1 (omega arith); kept = l.invariant.1.1.0 }
