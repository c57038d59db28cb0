-- Three conditions in a chain; each keeps the numbers of those before it. Assumes nothing.
use Rattle.std.proofs.Common.{rules, Err, ◌≡◌, sym, ap, ◌∙◌}
use Prim.Native.Nat.{◌+◌}
use native.Mathlib.Omega.{arith}
use Rattle.formats.specs.Rows.{read_condition}
use Rattle.models.specs.Index.{span_rows, three_from}
use Rattle.fields.specs.Answers.{got_as}
use Rattle.fields.proofs.ChainLaws.{told_at, told-refused}
use Rattle.fields.proofs.AnswerLaws.{next-refused}
use Rattle.fields.specs.Causes.{number_of}
use Rattle.models.proofs.ModelLaws.{three-first, three-second, three_third}
use Rattle.models.proofs.IndexLaws.{kept_then, kept-wider, agree-low, span_same}
use Rattle.models.proofs.model.conditions_into.Goals as goal

pub condition_into-requires-2 : goal.condition_into-requires-2
condition_into-requires-2 c = record { sized = record { short = c.requires.sized.short; long = omega (arith, c.requires.sized.long, c.condition_into.auto.index) }; most_bound = omega (arith, c.requires) }

pub condition_into-requires-3 : goal.condition_into-requires-3
condition_into-requires-3 c = record { sized = record { short = c.requires.sized.short; long = omega (arith, c.requires.sized.long, c.condition_into.auto.index, c.condition_into-2.auto.index) }; most_bound = omega (arith, c.requires) }

pub returns-in_err-second : goal.returns-in_err-second
unfolding got_as
returns-in_err-second c =
    let a = c.args in
    let s = a.s.now in
    let x = c.condition_into.new.index in
    let same : c.from_residual.result ≡ Err c.in_err-second.field-0.0 = search rules in
    record { result_after = next-refused _ same ∙ sym (three-first s a.most a.version a.n a.at (number_of c.in_err-second.field-0.0.0) c.in_err-second.field-0.0.1 (told-refused (span_rows s a.version a.n x a.i) (read_condition a.version a.most a.n s a.at) c.condition_into.ensures.result_after c.in_err-second.was)); kept = kept-wider (omega arith) (omega arith) c.condition_into.ensures.kept }

pub returns-in_err-third : goal.returns-in_err-third
unfolding got_as
returns-in_err-third c =
    let a = c.args in
    let s = a.s.now in
    let x = c.condition_into.new.index in
    let one = told_at (span_rows s a.version a.n x a.i) (read_condition a.version a.most a.n s a.at) c.condition_into.ensures.result_after c.in_ok-second.was in
    let y = c.condition_into-2.new.index in
    let second = c.in_ok-second.second in
    let same : c.from_residual-in_err-third.result ≡ Err c.in_err-third.field-0.0 = search rules in
    record { result_after = next-refused _ same ∙ sym (three-second s a.most a.version a.n a.at (span_rows s a.version a.n x a.i) second one (number_of c.in_err-third.field-0.0.0) c.in_err-third.field-0.0.1 (told-refused (span_rows s a.version a.n y (a.i + 2)) (read_condition a.version 8 a.n s second) c.condition_into-2.ensures.result_after c.in_err-third.was)); kept = kept_then (kept-wider (omega arith) (omega arith) c.condition_into.ensures.kept) (kept-wider (omega arith) (omega arith) c.condition_into-2.ensures.kept) }

pub returns : goal.returns
unfolding three_from
returns c =
    let a = c.args in
    let s = a.s.now in
    let x = c.condition_into.new.index in
    let one = told_at (span_rows s a.version a.n x a.i) (read_condition a.version a.most a.n s a.at) c.condition_into.ensures.result_after c.in_ok-second.was in
    let y = c.condition_into-2.new.index in
    let second = c.in_ok-second.second in
    let z = c.condition_into-3.new.index in
    let third = c.in_ok-third.third in
    let two = told_at (span_rows s a.version a.n y (a.i + 2)) (read_condition a.version 8 a.n s second) c.condition_into-2.ensures.result_after c.in_ok-third.was in
    let k₁ = c.condition_into.ensures.kept in
    let k₂ = c.condition_into-2.ensures.kept in
    let k₃ = c.condition_into-3.ensures.kept in
    let first : span_rows s a.version a.n z a.i ≡ span_rows s a.version a.n x a.i = span_same s a.version a.n y z a.i (agree-low k₃ (omega arith)) ∙ span_same s a.version a.n x y a.i (agree-low k₂ (omega arith)) in
    let middle : span_rows s a.version a.n z (a.i + 2) ≡ span_rows s a.version a.n y (a.i + 2) = span_same s a.version a.n y z (a.i + 2) (agree-low k₃ (omega arith)) in
    let e = three_third s a.most a.version a.n a.at (span_rows s a.version a.n x a.i) second one (span_rows s a.version a.n y (a.i + 2)) third two (span_rows s a.version a.n z (a.i + 4)) c.condition_into-3.result c.condition_into-3.ensures.result_after in record { result_after = ap (λ w. got_as w c.condition_into-3.result) (λ j. record { initial = first j; invariant = middle j; flow = span_rows s a.version a.n z (a.i + 4) }) ∙ e; kept = kept_then (kept-wider (omega arith) (omega arith) k₁) (kept_then (kept-wider (omega arith) (omega arith) k₂) (kept-wider (omega arith) (omega arith) k₃)) }
