-- The coefficients are added by `add_numbers`, the bound by one product more. Assumes nothing.
use mathlib.Core.Path.{◌≡◌, refl, sym, ap, ap₂, ◌∙◌}
use Prim.Native.Nat.{◌+◌, ◌≤◌}
use native.Mathlib.Omega.{arith}
use lib.IntN.{ℤ, pos, nat_abs, ◌+ℤ◌, ◌*ℤ◌}
use lib.ListN.{length}
use mir.Syntax.{w64}
use mir.Val.{to_z, of_z}
use mir.Facts.{to_z-of_z}
use Rattle.farkas.specs.Rows.{row_of, onward}
use Rattle.farkas.specs.Words.{numbers_at, row_in}
use Rattle.farkas.specs.Sums.{plus_from}
use Rattle.farkas.proofs.SumLaws.{plus-onward, numbers-length, add-plain}
use Rattle.farkas.proofs.add_row.Goals.{After-from-by}
use Rattle.farkas.proofs.add_row.Goals as goal

-- how often the row is added, and its size
often : (c : After-from-by) → to_z w64 (of_z w64 c.from-by.result) ≡ pos c.args.m
often c = to_z-of_z {w = w64} {z = c.from-by.result} (record { sfits = c.from-by.type_inv }) ∙ c.from-by.ensures

size : (c : After-from-by) → nat_abs (to_z w64 (of_z w64 c.from-by.result)) ≡ c.args.m
size c = ap nat_abs (often c)

pub returns : goal.returns
unfolding onward row_in
returns c =
    let a = c.args in
    let row = numbers_at a.words.now a.at a.count in
    let told = to_z-of_z {w = w64} {z = c.multiply_add.result} (record { sfits = c.multiply_add.type_inv }) in
    let word = to_z-of_z {w = w64} {z = c.signed_word.result} (record { sfits = c.signed_word.type_inv }) in
    let wide : a.shift + length row ≤ length a.sums.now = omega (arith, c.requires.count_in_bounds.0, numbers-length a.words.now a.at a.count) in
    ap₂ row_of
    (c.add_numbers.ensures
    ∙ ap (λ (m : ℤ). plus_from a.shift m a.sums.now row) (often (goal.at.returns c).After-from-by)
    ∙ sym (plus-onward a.shift a.m a.sums.now row wide))
    (told
    ∙ c.multiply_add.ensures
    ∙ ap₂ (λ (b m : ℤ). b +ℤ m *ℤ to_z w64 (of_z w64 c.signed_word.result)) (to_z-of_z c.ranges.bound) (often (goal.at.returns c).After-from-by)
    ∙ ap (λ (y : ℤ). a.bound +ℤ pos a.m *ℤ y) (word ∙ c.signed_word.ensures.value))
    ∙ add-plain a.sums.now a.bound a.m (onward a.shift (row_in a.words.now a.at a.count)) refl
