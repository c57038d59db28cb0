-- More laws on the whole numbers: order and equality, what a factor of at least 1 does, and sums with nothing added.
-- Each is a fact on naturals once the unknowns are split (Integers.antt). Of two naturals, which is less. Assumes nothing.
use mathlib.Core.Path.{◌≡◌, refl, sym}
use mathlib.Core.Logic.{◌⊎◌, inl, inr, ⊎_elim}
use mathlib.Core.Bool.{Bool, true, false}
use Prim.Native.Nat.{ℕ, ◌≤◌, ◌<◌}
use native.Mathlib.Nat.{le_of_mul-le-mul_left, eq-or-lt_of_le}
use native.Mathlib.Omega.{arith}
use lib.Dec.{ltb}
use borrow.Author.Tests.{ltb-true, ltb-false}
use lib.IntN.{ℤ, pos, ◌+ℤ◌, ◌*ℤ◌, *ℤ_comm}
use lib.Signed.{◌≤ℤ◌}
use Rattle.farkas.proofs.Integers.{split, by_parts, ≤-*}

pub ≤-antisym : (a b : ℤ) → a ≤ℤ b → b ≤ℤ a → a ≡ b
≤-antisym a b = rw (split a, split b) (simp by_parts (omega arith))

pub ≤-of-≡ : (a b : ℤ) → a ≡ b → a ≤ℤ b
≤-of-≡ a b = rw (split a, split b) (simp by_parts (omega arith))

-- the two sides of an order, q times
pub ≤-times : (q : ℕ) (a b : ℤ) → a ≤ℤ b → (a *ℤ pos q) ≤ℤ (b *ℤ pos q)
≤-times q a b h = rw (*ℤ_comm a (pos q), *ℤ_comm b (pos q)) (≤-* q a b h)

-- a factor of at least 1 cancels
pub ≤-cancel : (k : ℕ) (a b : ℤ) → 1 ≤ k → (pos k *ℤ a) ≤ℤ (pos k *ℤ b) → a ≤ℤ b
≤-cancel k a b = rw (split a, split b) (simp by_parts (λ pk h. le_of_mul-le-mul_left {k = k} (omega arith) pk))

-- a row of zeros adds nothing, however often
pub plus-nothing : (s : ℤ) (m : ℕ) → s ≡ s +ℤ pos m *ℤ pos 0
plus-nothing s m = rw (split s) (simp by_parts (omega arith))

pub zero-plus-nothing : (p : ℤ) → pos 0 ≡ pos 0 *ℤ p +ℤ pos 0
zero-plus-nothing p = rw (split p) (simp by_parts (omega arith))

-- the one is less, or it is not
pub compare : (a b : ℕ) → (a < b) ⊎ (b ≤ a)
compare a b = go (ltb a b) refl
  where
    go : (t : Bool) → ltb a b ≡ t → (a < b) ⊎ (b ≤ a)
    go true e = inl (ltb-true a b e)
    go false e = inr (ltb-false a b e)

-- the one is less, they are the same, or it is more
pub by_order : (n m : ℕ) (P : Type 0) → (n < m → P) → (n ≡ m → P) → (m < n → P) → P
by_order n m P below same above = ⊎_elim below (λ h. ⊎_elim (λ e. same (sym e)) above (eq-or-lt_of_le h)) (compare n m)
