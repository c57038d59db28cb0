-- Source and target, then the label and the jump condition. Assumes nothing.
use Rattle.std.proofs.Common.{rules, Err, ◌≡◌, sym, ap, ◌∙◌}
use Prim.Native.Nat.{ℕ, ◌+◌, ◌*◌, ◌<◌}
use native.Mathlib.Omega.{arith}
use lib.ListN.{length, set, length-set}
use Rattle.formats.specs.Reading.{got, u8, below}
use Rattle.models.specs.Index.{entry, span_rows, labelled_from, switch_from}
use Rattle.fields.specs.Answers.{got_as}
use Rattle.fields.proofs.AnswerLaws.{next-refused}
use Rattle.fields.specs.Causes.{number_of}
use Rattle.models.proofs.ModelLaws.{switch-first, switch-second, switch-read, three-more}
use Rattle.models.proofs.IndexLaws.{kept_then, kept-wider, entry-same, kept_at, kept_set, kept-none, entry_other}
use Rattle.fields.proofs.AnswerLaws.{field-value, field-refused}
use Rattle.formats.proofs.FieldLaws.{count-read}
use Rattle.models.proofs.model.switch_into.Goals as goal

pub overflow_cast-index : goal.overflow_cast-index
overflow_cast-index c =
    let a = c.args in
    let s = a.s.now in
    let source = c.in_ok-source.source in
    let second = c.in_ok-source.second in
    let one : below a.modes u8 s a.at ≡ got source second = sym c.byte_below.ensures ∙ field-value c.in_ok-source.was in
    let target = c.in_ok-target.target in
    let third = c.in_ok-target.third in
    let two : below a.modes u8 s second ≡ got target third = sym c.byte_below-2.ensures ∙ field-value c.in_ok-target.was in
    omega (arith, (count-read u8 a.modes s a.at source second one).less, c.requires.n_bound)

pub bounds-index-i : goal.bounds-index-i
bounds-index-i c = omega (arith, c.requires.sized.long, c.requires.n_bound)

pub overflow_cast-index-2 : goal.overflow_cast-index-2
overflow_cast-index-2 c =
    let a = c.args in
    let s = a.s.now in
    let source = c.in_ok-source.source in
    let second = c.in_ok-source.second in
    let one : below a.modes u8 s a.at ≡ got source second = sym c.byte_below.ensures ∙ field-value c.in_ok-source.was in
    let target = c.in_ok-target.target in
    let third = c.in_ok-target.third in
    let two : below a.modes u8 s second ≡ got target third = sym c.byte_below-2.ensures ∙ field-value c.in_ok-target.was in
    omega (arith, (count-read u8 a.modes s second target third two).less, c.requires.n_bound)

pub bounds-index-i-2 : goal.bounds-index-i-2
bounds-index-i-2 c = simp length-set (omega (arith, c.requires.sized.long, c.requires.n_bound))

pub labelled_into-requires : goal.labelled_into-requires
labelled_into-requires c = record { sized = record { short = c.requires.sized.short; long = simp length-set (omega (arith, c.requires.sized.long)) }; n_bound = omega (arith, c.requires.n_bound) }

pub returns-in_err-source : goal.returns-in_err-source
unfolding got_as
returns-in_err-source c = let a = c.args in
    let same : c.from_residual.result ≡ Err c.in_err-source.field-0.0 = search rules in
    record { result_after = next-refused _ same ∙ (sym (switch-first a.version a.n a.alphabet a.modes a.s.now a.at (number_of c.in_err-source.field-0.0.0) c.in_err-source.field-0.0.1 (sym c.byte_below.ensures ∙ field-refused c.in_err-source.was))); kept = kept-none a.i (a.i + 5) a.index.now }

pub returns-in_err-target : goal.returns-in_err-target
unfolding got_as
returns-in_err-target c =
    let a = c.args in
    let s = a.s.now in
    let source = c.in_ok-source.source in
    let second = c.in_ok-source.second in
    let one : below a.modes u8 s a.at ≡ got source second = sym c.byte_below.ensures ∙ field-value c.in_ok-source.was in
    let same : c.from_residual-in_err-target.result ≡ Err c.in_err-target.field-0.0 = search rules in
    record { result_after = next-refused _ same ∙ (sym (switch-second a.version a.n a.alphabet a.modes s a.at source second one (number_of c.in_err-target.field-0.0.0) c.in_err-target.field-0.0.1 (sym c.byte_below-2.ensures ∙ field-refused c.in_err-target.was))); kept = kept-none a.i (a.i + 5) a.index.now }

pub shape_of-index : goal.shape_of-index
shape_of-index c = c.labelled_into.auto.index ∙ length-set (set c.args.index.now c.args.i c.in_ok-source.source) (c.args.i + 1) c.in_ok-target.target ∙ length-set c.args.index.now c.args.i c.in_ok-source.source

pub returns : goal.returns
unfolding switch_from labelled_from
returns c =
    let a = c.args in
    let s = a.s.now in
    let source = c.in_ok-source.source in
    let second = c.in_ok-source.second in
    let one : below a.modes u8 s a.at ≡ got source second = sym c.byte_below.ensures ∙ field-value c.in_ok-source.was in
    let target = c.in_ok-target.target in
    let third = c.in_ok-target.third in
    let two : below a.modes u8 s second ≡ got target third = sym c.byte_below-2.ensures ∙ field-value c.in_ok-target.was in
    let old = a.index.now in
    let put = set old a.i source in
    let z = c.labelled_into.new.index in
    let k = c.labelled_into.ensures.kept in
    let long : a.i + 1 < length put = simp length-set (omega (arith, c.requires.sized.long, c.requires.n_bound)) in
    let first : entry z a.i ≡ source = kept_at k a.i (λ p q. omega arith) ∙ entry_other put (a.i + 1) a.i target (λ q. omega arith) ∙ entry-same old a.i source (omega (arith, c.requires.sized.long, c.requires.n_bound)) in
    let next : entry z (a.i + 1) ≡ target = kept_at k (a.i + 1) (λ p q. omega arith) ∙ entry-same put (a.i + 1) target long in
    let rows : span_rows s a.version (2 * a.n) z (a.i + 3) ≡ span_rows s a.version (2 * a.n) z (a.i + 2 + 1) = ap (λ (j : ℕ). span_rows s a.version (2 * a.n) z j) (three-more a.i) in
    let e = switch-read a.version a.n a.alphabet a.modes s a.at source second one target third two (labelled_from s a.version a.n z (a.i + 2)) c.labelled_into.result c.labelled_into.ensures.result_after in record { result_after = ap (λ w. got_as w c.labelled_into.result) (λ j. record { source = first j; target = next j; label = entry z (a.i + 2); jump = rows j }) ∙ e; kept = kept_then (kept_set a.i (a.i + 5) old a.i source (omega arith) (omega arith)) (kept_then (kept_set a.i (a.i + 5) put (a.i + 1) target (omega arith) (omega arith)) (kept-wider (omega arith) (omega arith) k)) }
