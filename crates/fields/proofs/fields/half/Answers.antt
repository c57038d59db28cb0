-- Two bytes where there are two, else a cut field. Assumes nothing.
use mathlib.Core.Path.{sym, ap, ◌∙◌}
use Prim.Native.Nat.{ℕ, ◌+◌, ◌-◌, ◌<◌, ◌≤◌}
use native.Mathlib.Omega.{arith}
use lib.ListN.{length}
use Rattle.formats.specs.Reading.{got, u16}
use Rattle.fields.specs.Answers.{got_field}
use Rattle.formats.proofs.FieldLaws.{field-got, field_cut, two_at}
use Rattle.fields.proofs.fields.half.Goals as goal

pub overflow_cast-high : goal.overflow_cast-high
overflow_cast-high c = omega (arith, c.shared_slice_known-1.given c.args.at)

pub overflow_cast-low : goal.overflow_cast-low
overflow_cast-low c = omega (arith, c.shared_slice_known-then-at-length-1.given (c.args.at + 1))

pub overflow_mul-result : goal.overflow_mul-result
overflow_mul-result c = omega (arith, c.shared_slice_known-then-at-length-1.given c.args.at, c.shared_slice_known-then-at-length-1.given (c.args.at + 1))

pub overflow_add-result : goal.overflow_add-result
overflow_add-result c = omega (arith, c.shared_slice_known-then-at-length-1.given c.args.at, c.shared_slice_known-then-at-length-1.given (c.args.at + 1))

pub returns-then-at-length : goal.returns-then-at-length
unfolding got_field u16
returns-then-at-length c =
    let s = c.args.s.now in
    let at = c.args.at in
    let h : at + 2 ≤ length s = omega (arith, c.if-length-ge2.true, c.if-at-length.true) in
    sym (field-got 2 s at h ∙ ap (λ (v : ℕ). got v (at + 2)) (two_at s at h))

pub returns-else-at-length : goal.returns-else-at-length
unfolding got_field u16
returns-else-at-length c =
    let s = c.args.s.now in
    let at = c.args.at in
    let h : length s - 2 < at = c.if-at-length.false in
    sym (field_cut 2 s at (omega arith))

pub returns-else-length-ge2 : goal.returns-else-length-ge2
unfolding got_field u16
returns-else-length-ge2 c =
    let s = c.args.s.now in
    let at = c.args.at in
    let h : length s < 2 = c.if-length-ge2.false in
    sym (field_cut 2 s at (omega arith))
