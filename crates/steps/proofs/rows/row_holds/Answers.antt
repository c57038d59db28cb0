-- The sum so far is that of the coefficients that were read, and its size grows by at most a share of what 64 bits hold a turn.
-- Assumes nothing.
use mathlib.Core.Path.{◌≡◌, refl, ap, ◌∙◌}
use Prim.Native.Nat.{ℕ, ◌*◌, ◌+◌}
use native.Mathlib.Omega.{arith}
use lib.IntN.{ℤ, pos, ◌+ℤ◌, ◌*ℤ◌, +ℤ_idl}
use lib.ListN.{length, get_or}
use mir.Syntax.{w64}
use mir.Val.{to_z, of_z}
use mir.Facts.{to_z-of_z}
use mathlib.Core.Bool.{Bool}
use Rattle.farkas.specs.Rows.{item, dot, compared}
use Rattle.formats.proofs.Versions.{numbers-within}
use Rattle.fields.specs.Places.{signed_at, numbers_at}
use Rattle.steps.proofs.ValueLaws.{dot-goes-on, sum_room, sum-grows, row-compared}
use Rattle.steps.proofs.rows.row_holds.Goals.{After-multiply_add-bound, After-multiply_add-sum}
use Rattle.steps.proofs.rows.row_holds.Goals as goal

pub loop-i-init : goal.loop-i-init
unfolding dot numbers_at
loop-i-init c = (refl, omega arith)

pub signed_word-requires : goal.signed_word-requires
signed_word-requires c = (omega (arith, numbers-within c.args.version c.args.count c.args.at (length c.args.s.now) c.requires.count_in_bounds.0), omega arith)

-- the coefficient and the value of a turn, read back from their bits
pub multiply_add-sum-requires : goal.multiply_add-sum-requires
unfolding item
multiply_add-sum-requires c =
    let l = c.loop-i in
    let more = c.loop-i-test.true in
    let a = c.signed_word.result in
    let p = get_or c.args.point.now l.i (pos 0) in
    rw (to_z-of_z {w = w64} {z = a} (record { sfits = c.signed_word.type_inv }), to_z-of_z {w = w64} {z = p} (record { sfits = c.multiply_add-arg-1.given }))
    (sum_room c.args.count l.i (to_z w64 l.sum-bits) a p more l.invariant.1 c.signed_word.ensures.result_bound (c.requires.small_point.0.small l.i more))

summed : (c : After-multiply_add-sum) → to_z w64 (of_z w64 c.multiply_add-sum.result) ≡ to_z w64 c.loop-i.sum-bits +ℤ c.signed_word.result *ℤ item c.args.point.now c.loop-i.i
unfolding item
summed c =
    let a = c.signed_word.result in
    let p = get_or c.args.point.now c.loop-i.i (pos 0) in
    to_z-of_z {w = w64} {z = c.multiply_add-sum.result} (record { sfits = c.multiply_add-sum.type_inv })
    ∙ c.multiply_add-sum.ensures
    ∙ rw (to_z-of_z {w = w64} {z = a} (record { sfits = c.signed_word.type_inv }), to_z-of_z {w = w64} {z = p} (record { sfits = c.multiply_add-arg-1.given })) refl

pub loop-i-preserved : goal.loop-i-preserved
loop-i-preserved c =
    let l = c.loop-i in
    let a = c.signed_word in
    let more = c.loop-i-test.true in
    let sum = to_z w64 l.sum-bits in
    let p = item c.args.point.now l.i in
    (summed c ∙ dot-goes-on c.args.s.now c.args.at l.i c.args.point.now sum a.result l.invariant.0 a.ensures.value, rw (summed c) (sum-grows c.args.count l.i sum a.result p more l.invariant.1 a.ensures.result_bound (c.requires.small_point.0.small l.i more)))

pub signed_word-requires-2 : goal.signed_word-requires-2
signed_word-requires-2 c = (omega (arith, numbers-within c.args.version c.args.count c.args.at (length c.args.s.now) c.requires.count_in_bounds.0), omega arith)

-- q times the bound
bound-is : (c : After-multiply_add-bound) → to_z w64 (of_z w64 c.multiply_add-bound.result) ≡ c.signed_word-2.result *ℤ pos c.args.q
bound-is c =
    let b = c.signed_word-2.result in
    to_z-of_z {w = w64} {z = c.multiply_add-bound.result} (record { sfits = c.multiply_add-bound.type_inv })
    ∙ c.multiply_add-bound.ensures
    ∙ rw (to_z-of_z {w = w64} {z = b} (record { sfits = c.signed_word-2.type_inv }), to_z-of_z {w = w64} {z = c.from.result} (record { sfits = c.from.type_inv }), c.from.ensures) (+ℤ_idl _)

pub returns : goal.returns
returns c =
    let l = c.loop-i in
    let b = c.signed_word-2 in
    let here : l.i ≡ c.args.count = omega arith in
    let whole : to_z w64 l.sum-bits ≡ dot (numbers_at c.args.s.now c.args.at c.args.count) c.args.point.now = l.invariant.0 ∙ ap (λ (i : ℕ). dot (numbers_at c.args.s.now c.args.at i) c.args.point.now) here in
    let bound : to_z w64 (of_z w64 c.multiply_add-bound.result) ≡ signed_at c.args.s.now (c.args.at + 4 * c.args.count) *ℤ pos c.args.q = bound-is (goal.at.returns c).After-multiply_add-bound ∙ ap (λ (z : ℤ). z *ℤ pos c.args.q) b.ensures.value in
    c.compare.ensures
    ∙ ap (λ (strict : Bool). compared strict (to_z w64 l.sum-bits) (to_z w64 (of_z w64 c.multiply_add-bound.result))) c.is_strict.ensures
    ∙ row-compared c.args.s.now c.args.at c.args.version c.args.count c.args.q c.args.point.now (to_z w64 l.sum-bits) (to_z w64 (of_z w64 c.multiply_add-bound.result)) whole bound
