-- A byte is a field of one byte: whole where the place is below the length, cut elsewhere. Assumes nothing.
use mathlib.Core.Path.{sym, ap, ◌∙◌}
use Prim.Native.Nat.{ℕ, ◌+◌, ◌<◌, ◌≤◌}
use lib.ListN.{length}
use native.Mathlib.Omega.{arith}
use Rattle.formats.specs.Reading.{got, u8}
use Rattle.fields.specs.Answers.{got_field}
use Rattle.formats.proofs.FieldLaws.{field-got, field_cut, byte_at}
use Rattle.fields.proofs.fields.byte.Goals as goal

pub overflow_cast-result : goal.overflow_cast-result
overflow_cast-result c = omega (arith, c.shared_slice_known-1.given c.args.at)

pub returns-then-at-s : goal.returns-then-at-s
unfolding got_field u8
returns-then-at-s c =
    let s = c.args.s.now in
    let at = c.args.at in
    let h : at < length s = c.if-at-s.true in
    sym (field-got 1 s at (omega arith) ∙ ap (λ (v : ℕ). got v (at + 1)) (byte_at s at h))

pub returns-else-at-s : goal.returns-else-at-s
unfolding got_field u8
returns-else-at-s c =
    let s = c.args.s.now in
    let at = c.args.at in
    let h : length s ≤ at = c.if-at-s.false in
    sym (field_cut 1 s at (omega arith))
