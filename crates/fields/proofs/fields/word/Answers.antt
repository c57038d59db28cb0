-- Four bytes where there are four, else a cut field. Assumes nothing.
use mathlib.Core.Path.{sym, ap, ◌∙◌}
use Prim.Native.Nat.{ℕ, ◌+◌, ◌-◌, ◌<◌, ◌≤◌}
use native.Mathlib.Omega.{arith}
use lib.ListN.{length}
use Rattle.formats.specs.Reading.{got, u32}
use Rattle.fields.specs.Answers.{got_field}
use Rattle.formats.proofs.FieldLaws.{field-got, field_cut}
use Rattle.fields.proofs.fields.word.Goals as goal

pub returns-then-at-length : goal.returns-then-at-length
unfolding got_field u32
returns-then-at-length c =
    let s = c.args.s.now in
    let at = c.args.at in
    let h : at + 4 ≤ length s = omega (arith, c.if-length-ge4.true, c.if-at-length.true) in
    sym (field-got 4 s at h ∙ ap (λ (v : ℕ). got v (at + 4)) (sym c.number.ensures))

pub returns-else-at-length : goal.returns-else-at-length
unfolding got_field u32
returns-else-at-length c =
    let s = c.args.s.now in
    let at = c.args.at in
    let h : length s - 4 < at = c.if-at-length.false in
    sym (field_cut 4 s at (omega arith))

pub returns-else-length-ge4 : goal.returns-else-length-ge4
unfolding got_field u32
returns-else-length-ge4 c =
    let s = c.args.s.now in
    let at = c.args.at in
    let h : length s < 4 = c.if-length-ge4.false in
    sym (field_cut 4 s at (omega arith))
