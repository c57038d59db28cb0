use mathlib.Core.Path.{◌≡◌}
use Prim.Native.Nat.{ℕ, ◌*◌, ◌-◌, ◌^◌, ◌≤◌, ◌<◌}
use Rattle.models.specs.Index.{entry}
use Rattle.joint_switches.proofs.joints.product_over.Given as goal

abbrev pub invariant-loop-k : goal.invariant-loop-k
invariant-loop-k g l =
    (l.product ≤ 32 ^ (4 - l.k))
    × ((product : ℕ → ℕ) → product (entry l.index 1) ≡ 1 → ((k n : ℕ) → 0 < k → k ≤ entry l.index 1 → goal.F-post g l.factor (k - 1) n → n * product k ≡ product (k - 1)) → l.product ≡ product l.k)
