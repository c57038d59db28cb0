-- The condition is read, and its first place and its count are kept. Assumes nothing.
use Rattle.std.proofs.Common.{rules, Err, ◌≡◌, sym, ap, ◌∙◌}
use Prim.Native.Nat.{◌+◌}
use native.Mathlib.Omega.{arith}
use Rattle.formats.specs.Reading.{got}
use Rattle.formats.specs.Rows.{read_condition}
use Rattle.fields.specs.Places.{rows_from}
use Rattle.fields.specs.Answers.{got_as}
use Rattle.fields.proofs.AnswerLaws.{rows-value, rows-refused}
use Rattle.fields.proofs.ConditionLaws.{condition-read}
use Rattle.fields.proofs.AnswerLaws.{next-refused}
use Rattle.models.proofs.IndexLaws.{kept-none, span-put}
use Rattle.models.proofs.model.condition_into.Goals as goal

pub overflow_add-at : goal.overflow_add-at
overflow_add-at c =
    let a = c.args in
    let s = a.s.now in
    let count = c.in_ok-count.count in
    let next = c.in_ok-count.next in
    let e : read_condition a.version a.most a.n s a.at ≡ got (rows_from s a.version a.n (a.at + 1) count) next = sym c.condition.ensures ∙ rows-value s a.version a.n a.at c.in_ok-count.was in
    let w = condition-read a.most a.version a.n s a.at (a.at + 1) count next e in
    omega (arith, c.requires)

pub put_span-requires : goal.put_span-requires
put_span-requires c =
    let a = c.args in
    let s = a.s.now in
    let count = c.in_ok-count.count in
    let next = c.in_ok-count.next in
    let e : read_condition a.version a.most a.n s a.at ≡ got (rows_from s a.version a.n (a.at + 1) count) next = sym c.condition.ensures ∙ rows-value s a.version a.n a.at c.in_ok-count.was in
    let w = condition-read a.most a.version a.n s a.at (a.at + 1) count next e in
    (omega (arith, c.requires), (omega (arith, c.requires), omega (arith, c.requires)))

pub returns-in_err-count : goal.returns-in_err-count
unfolding got_as
returns-in_err-count c = let a = c.args in
    let same : c.from_residual.result ≡ Err c.in_err-count.field-0.0 = search rules in
    record { result_after = next-refused _ same ∙ (sym (sym c.condition.ensures ∙ rows-refused a.s.now a.version a.n a.at c.in_err-count.was)); kept = kept-none a.i (a.i + 2) a.index.now }

pub returns : goal.returns
unfolding got_as
returns c =
    let a = c.args in
    let s = a.s.now in
    let count = c.in_ok-count.count in
    let next = c.in_ok-count.next in
    let e : read_condition a.version a.most a.n s a.at ≡ got (rows_from s a.version a.n (a.at + 1) count) next = sym c.condition.ensures ∙ rows-value s a.version a.n a.at c.in_ok-count.was in
    let w = condition-read a.most a.version a.n s a.at (a.at + 1) count next e in
    let old = a.index.now in
    let new = c.put_span.new.index in
    let v = span-put s a.version a.n old new a.i (a.at + 1) count (omega (arith, c.requires)) c.put_span.ensures in record { result_after = ap (λ rows. got rows next) v.0 ∙ sym e; kept = v.1 }
