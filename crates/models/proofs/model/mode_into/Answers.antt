-- The start byte, then the three conditions. Assumes nothing.
use Rattle.std.proofs.Common.{rules, Err, ◌≡◌, sym, ap, ◌∙◌}
use Prim.Native.Nat.{ℕ, ◌+◌}
use native.Mathlib.Omega.{arith}
use lib.ListN.{set, length-set}
use Rattle.formats.specs.Reading.{got, u8, within}
use Rattle.models.specs.Index.{entry, span_rows, three_from, read_three, mode_from}
use Rattle.fields.specs.Answers.{got_as}
use Rattle.fields.proofs.AnswerLaws.{next-refused}
use Rattle.fields.specs.Causes.{number_of}
use Rattle.models.proofs.ModelLaws.{mode-refused, mode-read, initial-small, three-on, five-on}
use Rattle.models.proofs.IndexLaws.{kept_then, kept-wider, entry-same, kept_at, kept_set, kept-none}
use Rattle.fields.proofs.AnswerLaws.{field-value, field-refused}
use Rattle.formats.proofs.FieldLaws.{range-read}
use lib.Dec.{eqb}
use Rattle.models.proofs.model.mode_into.Goals as goal

pub overflow_cast-index : goal.overflow_cast-index
overflow_cast-index c =
    let a = c.args in
    let s = a.s.now in
    let start = c.in_ok-start.start in
    let next = c.in_ok-start.next in
    let one : within 0 1 u8 s a.at ≡ got start next = sym c.byte_within.ensures ∙ field-value c.in_ok-start.was in
    let w = range-read u8 0 1 s a.at start next one in
    omega arith

pub offset_bounds-index-i : goal.offset_bounds-index-i
offset_bounds-index-i c = omega (arith, c.requires.sized.long, c.requires.n_bound)

pub bounds-index-i : goal.bounds-index-i
bounds-index-i c = omega (arith, c.requires.sized.long, c.requires.n_bound)

pub conditions_into-requires : goal.conditions_into-requires
conditions_into-requires c =
    let a = c.args in
    let s = a.s.now in
    let start = c.in_ok-start.start in
    let next = c.in_ok-start.next in
    let one : within 0 1 u8 s a.at ≡ got start next = sym c.byte_within.ensures ∙ field-value c.in_ok-start.was in
    let w = range-read u8 0 1 s a.at start next one in record { sized = record { short = c.requires.sized.short; long = simp length-set (omega (arith, c.requires.sized.long)) }; most_bound = (initial-small (eqb start 0) c.most_initial.result c.most_initial.ensures, omega (arith, c.requires.n_bound)) }

pub returns-in_err-start : goal.returns-in_err-start
unfolding got_as
returns-in_err-start c = let a = c.args in
    let same : c.from_residual.result ≡ Err c.in_err-start.field-0.0 = search rules in
    record { result_after = next-refused _ same ∙ (sym (mode-refused a.version a.n a.s.now a.at (number_of c.in_err-start.field-0.0.0) c.in_err-start.field-0.0.1 (sym c.byte_within.ensures ∙ field-refused c.in_err-start.was))); kept = kept-none a.i (a.i + 7) a.index.now }

pub shape_of-index : goal.shape_of-index
shape_of-index c = c.conditions_into.auto.index ∙ length-set c.args.index.now c.args.i c.in_ok-start.start

pub returns : goal.returns
unfolding mode_from three_from
returns c =
    let a = c.args in
    let s = a.s.now in
    let start = c.in_ok-start.start in
    let next = c.in_ok-start.next in
    let one : within 0 1 u8 s a.at ≡ got start next = sym c.byte_within.ensures ∙ field-value c.in_ok-start.was in
    let w = range-read u8 0 1 s a.at start next one in
    let old = a.index.now in
    let put = set old a.i start in
    let z = c.conditions_into.new.index in
    let k = c.conditions_into.ensures.kept in
    let first : entry z a.i ≡ start = kept_at k a.i (λ p q. omega arith) ∙ entry-same old a.i start (omega (arith, c.requires.sized.long, c.requires.n_bound)) in
    let three = three_from s a.version a.n z (a.i + 1) in
    let e = mode-read a.version a.n s a.at start next one three c.conditions_into.result (c.conditions_into.ensures.result_after ∙ ap (λ (m : ℕ). read_three a.version m a.n s next) c.most_initial.ensures) in
    let second : span_rows s a.version a.n z (a.i + 3) ≡ three.invariant = ap (λ (j : ℕ). span_rows s a.version a.n z j) (three-on a.i) in
    let third : span_rows s a.version a.n z (a.i + 5) ≡ three.flow = ap (λ (j : ℕ). span_rows s a.version a.n z j) (five-on a.i) in record { result_after = ap (λ w. got_as w c.conditions_into.result) (λ j. record { start = first j; initial = three.initial; invariant = second j; flow = third j }) ∙ e; kept = kept_then (kept_set a.i (a.i + 7) old a.i start (omega arith) (omega arith)) (kept-wider (omega arith) (omega arith) k) }
