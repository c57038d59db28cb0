-- The modes, then the rows, which keep the modes. Assumes nothing.
use Rattle.std.proofs.Common.{rules, Err, ◌≡◌, sym, ap, ◌∙◌}
use Prim.Native.Nat.{◌+◌}
use native.Mathlib.Omega.{arith}
use Rattle.formats.specs.Reading.{each}
use Rattle.models.specs.Index.{entry, span_rows, unsafe_from, components_from}
use Rattle.fields.specs.Answers.{got_as}
use Rattle.fields.proofs.ChainLaws.{told_at, told-refused}
use Rattle.fields.proofs.AnswerLaws.{next-refused}
use Rattle.fields.specs.Causes.{number_of}
use Rattle.models.proofs.IndexLaws.{kept_then, kept-wider, agree-low}
use Rattle.fields.proofs.ReadLoop.{up_to}
use Rattle.models.proofs.UnsafeLaws.{read_mode_byte, unsafe-refused, unsafe-read, bytes_same}
use Rattle.models.proofs.unsafes.unsafe_into.Goals as goal

pub condition_into-requires : goal.condition_into-requires
condition_into-requires c = record { sized = record { short = c.requires.sized.short; long = omega (arith, c.requires.sized.long, c.unsafe_modes_into.auto.index) }; most_bound = omega (arith, c.requires.n_bound) }

pub returns-in_err-next : goal.returns-in_err-next
unfolding got_as up_to
returns-in_err-next c =
    let a = c.args in
    let s = a.s.now in
    let all = components_from s a.index.now in
    let x = c.unsafe_modes_into.new.index in
    let same : c.from_residual.result ≡ Err c.in_err-next.field-0.0 = search rules in
    record { result_after = next-refused _ same ∙ sym (unsafe-refused a.version a.n all s a.at (number_of c.in_err-next.field-0.0.0) c.in_err-next.field-0.0.1 (told-refused (up_to (λ k. entry x (a.i + k)) a.c) (each read_mode_byte all s a.at) c.unsafe_modes_into.ensures.result_after c.in_err-next.was)); kept = kept-wider (omega arith) (omega arith) c.unsafe_modes_into.ensures.kept }

pub returns : goal.returns
unfolding unsafe_from up_to
returns c =
    let a = c.args in
    let s = a.s.now in
    let i = a.i in
    let all = components_from s a.index.now in
    let x = c.unsafe_modes_into.new.index in
    let y = c.condition_into.new.index in
    let k₁ = c.unsafe_modes_into.ensures.kept in
    let k₂ = c.condition_into.ensures.kept in
    let rows = span_rows s a.version a.n y (i + 4) in
    let one = told_at (up_to (λ k. entry x (i + k)) a.c) (each read_mode_byte all s a.at) c.unsafe_modes_into.ensures.result_after c.in_ok-next.was in
    let e = unsafe-read a.version a.n all s a.at (up_to (λ k. entry x (i + k)) a.c) c.in_ok-next.next one rows c.condition_into.result c.condition_into.ensures.result_after in
    let modes : up_to (λ k. entry y (i + k)) a.c ≡ up_to (λ k. entry x (i + k)) a.c = bytes_same a.c x y i c.requires.n_bound.1.1.0 (agree-low k₂ (omega arith)) in record { result_after = ap (λ w. got_as w c.condition_into.result) (λ j. record { modes = modes j; rows = rows }) ∙ e; kept = kept_then (kept-wider (omega arith) (omega arith) k₁) (kept-wider (omega arith) (omega arith) k₂) }
