-- The test at k = 0 and the test above it are the two cases of `bound_passes`.
use mathlib.Core.Path.{◌≡◌, refl, ◌∙◌}
use Prim.Native.Nat.{ℕ, zero, suc}
use lib.IntN.{ℤ, pos, ◌*ℤ◌}
use mathlib.Core.Bool.{Bool, not, ◌&&◌}
use Rattle.farkas.specs.Rows.{compared}
use mir.Facts.{to_z-of_z}
use Rattle.farkas.specs.Farkas.{bound_passes}
use Rattle.farkas.proofs.Bits.{times}
use Rattle.farkas.proofs.bound_passes.Goals.{After-compare-2, then-must, else-must}
use Rattle.farkas.proofs.bound_passes.Goals as goal

above : (k : ℕ) (sum : ℤ) (strict : Bool) (goal : ℤ) (must : Bool) → (k ≡ 0 → ⊥) → bound_passes k sum strict goal must ≡ compared (must && not strict) sum (pos k *ℤ goal)
unfolding bound_passes
above zero sum strict goal must h = absurd (h refl)
above (suc k) sum strict goal must h = refl

-- whether the sum must be below
below : (c : After-compare-2) → c.if-must.compare ≡ (c.args.must && not c.args.strict)
below c = elim c.if-must.branch [ then-must w ↦ w.compare-is ∙ rw w.if-must.true | else-must w ↦ w.compare-is ∙ rw w.if-must.false ]

pub returns-then-k-eq0 : goal.returns-then-k-eq0
unfolding bound_passes
returns-then-k-eq0 c = c.compare.ensures ∙ rw (to_z-of_z c.ranges.sum, c.if-k-eq0.true)

pub returns : goal.returns
returns c =
    let a = c.args in
    let r = c.multiply_add-bound.result in
    let e : r ≡ pos a.k *ℤ a.goal = c.multiply_add-bound.ensures ∙ times a.k c.from.result a.goal c.from.ensures c.ranges.k c.ranges.goal in
    c.compare-2.ensures
    ∙ rw (to_z-of_z c.ranges.sum, to_z-of_z {z = r} (record { sfits = c.multiply_add-bound.type_inv }), e, below c, above a.k a.sum a.strict a.goal a.must c.if-k-eq0.false)
