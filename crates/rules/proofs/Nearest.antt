-- What `nearest` gives is the nearest whole number, the even one at a half, and no other number is that (02, order 5). Assumes nothing.
use mathlib.Core.Bool.{Bool, true, false, cond}
use mathlib.Core.Path.{◌≡◌, refl, ap}
use Prim.Native.Nat.{ℕ, zero, suc, ◌+◌, ◌*◌, ◌/◌, ◌%◌, ◌≤◌, ◌<◌}
use native.Mathlib.Nat.{mod-lt, div-add-mod', mul-le-mul_right, le_of_eq}
use native.Mathlib.Omega.{arith}
use borrow.Author.Tests.{ltb-true, ltb-false}
use lib.Dec.{ltb}
use Rattle.farkas.proofs.Order.{by_order}
use Rattle.rules.specs.Nearest.{nearer, nearest, apart, Nearest}

-- multiples of b that differ: what a is apart from the one and from the other makes b or more
between : (a b n m : ℕ) → n < m → b ≤ apart a (n * b) + apart a (m * b)
unfolding apart
between a b n m h = omega (arith, mul-le-mul_right {m = suc n} {n = m} b h)

-- and 2 · b or more where they are no neighbours
between-two : (a b n m : ℕ) → suc n < m → 2 * b ≤ apart a (n * b) + apart a (m * b)
unfolding apart
between-two a b n m h = omega (arith, mul-le-mul_right {m = suc (suc n)} {n = m} b h)

-- what is at most half of b off is the nearest
pub near-least : (a b n m : ℕ) → 2 * apart a (n * b) ≤ b → apart a (n * b) ≤ apart a (m * b)
near-least a b n m h =
    by_order n m (apart a (n * b) ≤ apart a (m * b))
    (λ l. omega (arith, between a b n m l))
    (λ e. le_of_eq (ap (λ (k : ℕ). apart a (k * b)) e))
    (λ l. omega (arith, between a b m n l))

-- a, which is n wholes and r of the next: less than half of it, more, or just half
pub below_half : (a b n r : ℕ) → 2 * r < b → n * b + r ≡ a → Nearest a b n
unfolding apart
below_half a b n r h e =
    record { near = omega arith; even = λ t. absurd (omega arith); least = λ m. near-least a b n m (omega arith) }

pub above_half : (a b n r : ℕ) → r < b → b < 2 * r → n * b + r ≡ a → Nearest a b (suc n)
unfolding apart
above_half a b n r l h e =
    record { near = omega arith; even = λ t. absurd (omega arith); least = λ m. near-least a b (suc n) m (omega arith) }

to-even : (a b n r k : ℕ) → 2 * r ≡ b → n * b + r ≡ a → n % 2 ≡ k → k < 2 → Nearest a b (n + k)
unfolding apart
to-even a b n r zero h e p l =
    record { near = omega arith; even = λ t. omega arith; least = λ m. near-least a b (n + 0) m (omega arith) }
to-even a b n r (suc zero) h e p l =
    record { near = omega arith; even = λ t. omega arith; least = λ m. near-least a b (n + 1) m (omega arith) }
to-even a b n r (suc (suc k)) h e p l = absurd (omega arith)

pub at-half : (a b n r : ℕ) → 2 * r ≡ b → n * b + r ≡ a → Nearest a b (n + n % 2)
at-half a b n r h e = to-even a b n r (n % 2) h e refl (mod-lt n (omega arith))

nearer-is : (a b n r : ℕ) → r < b → n * b + r ≡ a → Nearest a b (nearer n r b)
unfolding nearer
nearer-is a b n r l e = go (ltb (2 * r) b) (ltb b (2 * r)) refl refl
  where
    go : (s t : Bool) → ltb (2 * r) b ≡ s → ltb b (2 * r) ≡ t → Nearest a b (cond s n (cond t (suc n) (n + n % 2)))
    go true t p q = below_half a b n r (ltb-true (2 * r) b p) e
    go false true p q = above_half a b n r l (ltb-true b (2 * r) q) e
    go false false p q = at-half a b n r (omega (arith, ltb-false (2 * r) b p, ltb-false b (2 * r) q)) e

-- The theorem beside the definition: twice the distance is at most b, at a tie the result is even, no other whole number is nearer
pub nearest-is : (a b : ℕ) → 1 ≤ b → Nearest a b (nearest a b)
unfolding nearest
nearest-is a b h = nearer-is a b (a / b) (a % b) (mod-lt a h) (div-add-mod' a b)

-- of two numbers that both are the nearest none is less: they would be neighbours, each just half of b off and even
not-less : (a b n m : ℕ) → 1 ≤ b → Nearest a b n → Nearest a b m → n < m → ⊥
not-less a b n m h v w l =
    by_order (suc n) m ⊥
    (λ f. omega (arith, between-two a b n m f, v.near, w.near))
    (λ e. omega (arith, v.even (omega (arith, between a b n m l, v.near, w.near)), w.even (omega (arith, between a b n m l, v.near, w.near))))
    (λ f. omega arith)

-- and it is the only one
pub nearest-only : (a b n : ℕ) → 1 ≤ b → Nearest a b n → n ≡ nearest a b
nearest-only a b n h v =
    let w = nearest-is a b h in
    by_order n (nearest a b) (n ≡ nearest a b)
    (λ l. absurd (not-less a b n (nearest a b) h v w l))
    (λ e. e)
    (λ l. absurd (not-less a b (nearest a b) n h w v l))
