-- Numbers of 32 bits leave room for the product and the sum in 64, and what is read back into 32 bits is what lies in s32.
-- Assumes nothing.
use mathlib.Core.Path.{◌≡◌, ap, ◌∙◌}
use lib.IntN.{ℤ, ◌+ℤ◌, ◌*ℤ◌}
use mir.Syntax.{w64}
use mir.Val.{to_z, of_z}
use mir.Facts.{to_z-of_z}
use Rattle.typed.specs.Forms.{entry_of}
use Rattle.typed.proofs.EntryLaws.{widened, narrowed}
use Rattle.typed.proofs.forms.entry_of.Goals.{After-multiply_add}
use Rattle.typed.proofs.forms.entry_of.Goals as goal

-- the number that is tested
sum_is : (c : After-multiply_add) → to_z w64 (of_z w64 c.multiply_add.result) ≡ c.args.x +ℤ c.args.m *ℤ c.args.y
sum_is c =
    let a = c.args in
    let f = c.ranges in
    let wide : ℤ → ℤ = λ u. to_z w64 (of_z w64 u) in
    let x = ap wide c.from.ensures ∙ widened a.x f.x in
    let m = ap wide c.from-2.ensures ∙ widened a.m f.m in
    let y = ap wide c.from-3.ensures ∙ widened a.y f.y in
    to_z-of_z {w = w64} (record { sfits = c.multiply_add.type_inv }) ∙ c.multiply_add.ensures ∙ (λ k. x k +ℤ m k *ℤ y k)

pub returns : goal.returns
returns c = c.ok.ensures.value ∙ narrowed c.try_from.result _ c.try_from.ensures ∙ ap entry_of (sum_is (goal.at.returns c).After-multiply_add)
