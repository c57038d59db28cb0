-- The count in its range, then its rows passed over. Assumes nothing.
use Rattle.std.proofs.Common.{rules, ◌≡◌, Err, sym, ap, ◌∙◌}
use Prim.Native.Nat.{ℕ}
use native.Mathlib.Omega.{arith}
use Rattle.formats.specs.Reading.{got, u8, within, many}
use Rattle.formats.specs.Rows.{read_row, read_condition}
use Rattle.fields.specs.Places.{rows_from}
use Rattle.fields.specs.Answers.{got_rows}
use Rattle.fields.proofs.AnswerLaws.{field-value, field-refused, next-at, next-refused, rows-refused}
use Rattle.formats.proofs.FieldLaws.{range-read, byte-read}
use Rattle.formats.proofs.Gives.{bind-got}
use Rattle.fields.proofs.Skipping.{bind-refused}
use Rattle.fields.proofs.conditions.condition.Goals as goal

pub pass_rows-requires : goal.pass_rows-requires
pass_rows-requires c =
    let a = c.args in
    let s = a.s.now in
    let v = c.in_ok-count.count in
    let from = c.in_ok-count.from in
    let e : within 0 a.most u8 s a.at ≡ got v from = sym c.byte_within.ensures ∙ field-value c.in_ok-count.was in
    let w = range-read u8 0 a.most s a.at v from e in
    let b = byte-read s a.at v from w.read in record { at_in_bounds = omega arith; count_bound = (omega (arith, c.requires), omega (arith, c.requires)) }

pub returns-in_err-count : goal.returns-in_err-count
unfolding got_rows read_condition
returns-in_err-count c =
    let a = c.args in
    let same : c.from_residual.result ≡ Err c.in_err-count.field-0.0 = search rules in
    rows-refused a.s.now a.version a.n a.at same ∙ sym (bind-refused (within 0 a.most u8) (λ count. many count (read_row a.version a.n)) a.s.now a.at (sym c.byte_within.ensures ∙ field-refused c.in_err-count.was))

pub returns-in_err-next : goal.returns-in_err-next
unfolding got_rows read_condition
returns-in_err-next c =
    let a = c.args in
    let s = a.s.now in
    let v = c.in_ok-count.count in
    let from = c.in_ok-count.from in
    let e : within 0 a.most u8 s a.at ≡ got v from = sym c.byte_within.ensures ∙ field-value c.in_ok-count.was in
    let w = range-read u8 0 a.most s a.at v from e in
    let b = byte-read s a.at v from w.read in
    let same : c.from_residual-in_err-next.result ≡ Err c.in_err-next.field-0.0 = search rules in
    rows-refused s a.version a.n a.at same ∙ sym (bind-got (within 0 a.most u8) (λ count. many count (read_row a.version a.n)) s a.at e
    (sym c.pass_rows.ensures ∙ next-refused (rows_from s a.version a.n from v) c.in_err-next.was))

pub returns : goal.returns
unfolding got_rows read_condition
returns c =
    let a = c.args in
    let s = a.s.now in
    let v = c.in_ok-count.count in
    let from = c.in_ok-count.from in
    let e : within 0 a.most u8 s a.at ≡ got v from = sym c.byte_within.ensures ∙ field-value c.in_ok-count.was in
    let w = range-read u8 0 a.most s a.at v from e in
    let b = byte-read s a.at v from w.read in
    sym (bind-got (within 0 a.most u8) (λ count. many count (read_row a.version a.n)) s a.at e
    (sym c.pass_rows.ensures ∙ next-at (rows_from s a.version a.n from v) c.in_ok-next.was ∙ ap (λ (p : ℕ). got (rows_from s a.version a.n p v) c.in_ok-next.next) b.after))
