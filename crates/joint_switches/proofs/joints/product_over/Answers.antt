-- What has been multiplied is the product of the components from here on. Assumes nothing.
use mathlib.Core.Path.{◌≡◌, sym, ap, ◌∙◌}
use Prim.Native.Nat.{ℕ, suc, ◌*◌, ◌-◌, ◌^◌, ◌≤◌, ◌<◌}
use native.Mathlib.Nat.{le_trans, mul-le-mul, pow-succ', pow-le-pow_right}
use native.Mathlib.Omega.{arith}
use Rattle.joint_switches.proofs.joints.product_over.Goals as goal

-- powers that bound it: at the start, and with one factor more
one : (m : ℕ) → 1 ≤ 32 ^ m
one m = pow-le-pow_right {n = 32} (omega arith) {i = 0} (omega arith)

grown : (k n product : ℕ) → 0 < k → k ≤ 4 → n ≤ 32 → product ≤ 32 ^ (4 - k) → n * product ≤ 32 ^ (4 - (k - 1))
grown k n product h l small w =
    le_trans (mul-le-mul small w) (omega (arith, ap (λ (m : ℕ). 32 ^ m) (left k h l) ∙ pow-succ' 32 (4 - k)))
  where
    left : (k : ℕ) → 0 < k → k ≤ 4 → 4 - (k - 1) ≡ suc (4 - k)
    left k h l = omega arith

largest : (k : ℕ) → 32 ^ (4 - k) ≤ 1048576
largest k = pow-le-pow_right {n = 32} (omega arith) {i = 4 - k} {j = 4} (omega arith)

pub loop-k-init : goal.loop-k-init
loop-k-init g c =
    (one (4 - c.component_count-k.result), λ product e step. sym (ap product c.component_count-k.ensures ∙ e))

pub overflow_mul-product : goal.overflow_mul-product
overflow_mul-product g c =
    let l = c.loop-k in
    let small = c.requires.small (l.k - 1) c.factor-product.result (omega arith) c.factor-product.ensures in
    omega (arith, grown l.k c.factor-product.result l.product c.loop-k-test.true (omega arith) small l.invariant.0, largest (l.k - 1))

pub loop-k-preserved : goal.loop-k-preserved
loop-k-preserved g c =
    let l = c.loop-k in
    let n = c.factor-product.result in
    let h = c.loop-k-test.true in
    let small = c.requires.small (l.k - 1) n (omega arith) c.factor-product.ensures in (
      grown l.k n l.product h (omega arith) small l.invariant.0,
      λ product e step. ap (λ (m : ℕ). n * m) (l.invariant.1 product e step) ∙ step l.k n h (omega arith) c.factor-product.ensures,
    )
