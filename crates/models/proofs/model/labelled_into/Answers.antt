-- The label, then the jump condition. Assumes nothing.
use Rattle.std.proofs.Common.{rules, Err, ◌≡◌, sym, ap, ◌∙◌}
use Prim.Native.Nat.{ℕ, ◌+◌, ◌*◌}
use native.Mathlib.Omega.{arith}
use lib.ListN.{length-set}
use Rattle.formats.specs.Reading.{got}
use Rattle.models.specs.Index.{entry, span_rows, read_label, labelled_from}
use Rattle.fields.specs.Answers.{got_as}
use Rattle.fields.proofs.AnswerLaws.{next-refused}
use Rattle.fields.specs.Causes.{number_of}
use Rattle.models.proofs.ModelLaws.{label_small, labelled-refused, labelled-read}
use Rattle.models.proofs.IndexLaws.{kept_then, kept-wider, entry-same, kept_at, kept_set, kept-none}
use Rattle.fields.proofs.AnswerLaws.{field-value, field-refused}
use Rattle.models.proofs.model.labelled_into.Goals as goal

pub overflow_cast-index : goal.overflow_cast-index
overflow_cast-index c =
    let a = c.args in
    let s = a.s.now in
    let v = c.in_ok-value.value in
    let next = c.in_ok-value.next in
    let one : read_label a.alphabet s a.at ≡ got v next = sym c.label.ensures ∙ field-value c.in_ok-value.was in
    omega (arith, label_small a.alphabet s a.at v next one)

pub bounds-index-i : goal.bounds-index-i
bounds-index-i c = omega (arith, c.requires.sized.long, c.requires.n_bound)

pub condition_into-requires : goal.condition_into-requires
condition_into-requires c = record { sized = record { short = c.requires.sized.short; long = simp length-set (omega (arith, c.requires.sized.long)) }; most_bound = omega (arith, c.requires.n_bound) }

pub returns-in_err-value : goal.returns-in_err-value
unfolding got_as
returns-in_err-value c = let a = c.args in
    let same : c.from_residual.result ≡ Err c.in_err-value.field-0.0 = search rules in
    record { result_after = next-refused _ same ∙ (sym (labelled-refused a.version a.n a.alphabet a.s.now a.at (number_of c.in_err-value.field-0.0.0) c.in_err-value.field-0.0.1 (sym c.label.ensures ∙ field-refused c.in_err-value.was))); kept = kept-none a.i (a.i + 3) a.index.now }

pub shape_of-index : goal.shape_of-index
shape_of-index c = c.condition_into.auto.index ∙ length-set c.args.index.now c.args.i c.in_ok-value.value

pub returns : goal.returns
unfolding labelled_from
returns c =
    let a = c.args in
    let s = a.s.now in
    let v = c.in_ok-value.value in
    let next = c.in_ok-value.next in
    let one : read_label a.alphabet s a.at ≡ got v next = sym c.label.ensures ∙ field-value c.in_ok-value.was in
    let old = a.index.now in
    let z = c.condition_into.new.index in
    let k = c.condition_into.ensures.kept in
    let first : entry z a.i ≡ v = kept_at k a.i (λ p q. omega arith) ∙ entry-same old a.i v (omega (arith, c.requires.sized.long, c.requires.n_bound)) in
    let e = labelled-read a.version a.n a.alphabet s a.at v next one (span_rows s a.version (2 * a.n) z (a.i + 1)) c.condition_into.result c.condition_into.ensures.result_after in record { result_after = ap (λ (w : ℕ). got_as (record { label = w; jump = span_rows s a.version (2 * a.n) z (a.i + 1) }) c.condition_into.result) first ∙ e; kept = kept_then (kept_set a.i (a.i + 3) old a.i v (omega arith) (omega arith)) (kept-wider (omega arith) (omega arith) k) }
