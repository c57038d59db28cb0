-- Numbers as four bytes have them, without their signs, divided, and raised by 2^31. Assumes nothing.
use mathlib.Core.Path.{◌≡◌, sym, ap, ◌∙◌}
use mathlib.Core.Bool.{Bool, true, false, cond}
use Prim.Native.Nat.{ℕ, zero, suc, ◌+◌, ◌-◌, ◌/◌, ◌^◌, ◌≤◌, ◌<◌}
use native.Mathlib.Nat.{div-le_self}
use native.Mathlib.Omega.{arith}
use borrow.Author.Tests.{lt-ltb, le-ltb}
use lib.Dec.{ltb, leb-zero}
use lib.Signed.{le_z}
use lib.IntN.{pos, negsuc, neg_ℤ, nat_abs}
use Rattle.farkas.specs.Words.{signed}
use Rattle.fair_rows.specs.FairRows.{quotient}
use Rattle.writing.specs.Writing.{twos}
use Rattle.fair_conditions.specs.Held.{lowered}

-- which of the two ways a number is read
below : {A : Type 0} (n m : ℕ) (x y : A) → n < m → cond (ltb n m) x y ≡ x
below n m x y h = ap (λ (b : Bool). cond b x y) (lt-ltb n m h)

above : {A : Type 0} (n m : ℕ) (x y : A) → m ≤ n → cond (ltb n m) x y ≡ y
above n m x y h = ap (λ (b : Bool). cond b x y) (le-ltb n m h)

pub signed_low : (n : ℕ) → n < 2 ^ 31 → signed n ≡ pos n
unfolding signed
signed_low n h = below n (2 ^ 31) (pos n) (negsuc (2 ^ 32 - suc n)) h

pub signed_high : (n : ℕ) → 2 ^ 31 ≤ n → signed n ≡ negsuc (2 ^ 32 - suc n)
unfolding signed
signed_high n h = above n (2 ^ 31) (pos n) (negsuc (2 ^ 32 - suc n)) h

pub lowered-low : (n : ℕ) → n < 2 ^ 31 → lowered n ≡ negsuc (2 ^ 31 - suc n)
unfolding lowered
lowered-low n h = below n (2 ^ 31) (negsuc (2 ^ 31 - suc n)) (pos (n - 2 ^ 31)) h

pub lowered-high : (n : ℕ) → 2 ^ 31 ≤ n → lowered n ≡ pos (n - 2 ^ 31)
unfolding lowered
lowered-high n h = above n (2 ^ 31) (negsuc (2 ^ 31 - suc n)) (pos (n - 2 ^ 31)) h

-- without its sign
pub size_low : (n : ℕ) → n < 2 ^ 31 → n ≡ nat_abs (signed n)
size_low n h = sym (ap nat_abs (signed_low n h))

pub size-high : (n : ℕ) → 2 ^ 31 ≤ n → n < 2 ^ 32 → 4294967295 - n + 1 ≡ nat_abs (signed n)
size-high n h l = same n l ∙ sym (ap nat_abs (signed_high n h))
  where
    same : (n : ℕ) → n < 2 ^ 32 → 4294967295 - n + 1 ≡ suc (2 ^ 32 - suc n)
    same n l = omega arith

-- divided and raised
pub raised-low : (n d : ℕ) → n < 2 ^ 31 → lowered (n / d + 2147483648) ≡ quotient d (signed n)
unfolding quotient
raised-low n d h =
    lowered-high (n / d + 2147483648) (omega arith)
    ∙ ap pos (less (n / d))
    ∙ sym (ap (quotient d) (signed_low n h))
  where
    less : (k : ℕ) → k + 2147483648 - 2 ^ 31 ≡ k
    less k = omega arith

raised-minus : (k : ℕ) → k ≤ 2 ^ 31 → lowered (2147483648 - k) ≡ neg_ℤ (pos k)
raised-minus zero h = lowered-high 2147483648 (omega arith)
raised-minus (suc k) h = lowered-low (2147483648 - suc k) (omega arith) ∙ ap negsuc (back k h)
  where
    back : (k : ℕ) → suc k ≤ 2 ^ 31 → 2 ^ 31 - suc (2147483648 - suc k) ≡ k
    back k h = omega arith

pub quotient-small : (n d : ℕ) → 2 ^ 31 ≤ n → (4294967295 - n + 1) / d ≤ 2 ^ 31
quotient-small n d h = omega (arith, div-le_self (4294967295 - n + 1) d)

pub raised-high : (n d : ℕ) → 2 ^ 31 ≤ n → n < 2 ^ 32 → lowered (2147483648 - (4294967295 - n + 1) / d) ≡ quotient d (signed n)
unfolding quotient
raised-high n d h l =
    raised-minus ((4294967295 - n + 1) / d) (quotient-small n d h)
    ∙ ap (λ (k : ℕ). neg_ℤ (pos (k / d))) (same n l)
    ∙ sym (ap (quotient d) (signed_high n h))
  where
    same : (n : ℕ) → n < 2 ^ 32 → 4294967295 - n + 1 ≡ suc (2 ^ 32 - suc n)
    same n l = omega arith

-- as four bytes have it
pub coded-low : (n : ℕ) → n < 2 ^ 31 → n + 2147483648 ≡ twos (lowered n)
unfolding twos
coded-low n h = back n h ∙ sym (ap twos (lowered-low n h))
  where
    back : (n : ℕ) → n < 2 ^ 31 → n + 2147483648 ≡ 2 ^ 32 - suc (2 ^ 31 - suc n)
    back n h = omega arith

pub coded-high : (n : ℕ) → 2 ^ 31 ≤ n → n - 2147483648 ≡ twos (lowered n)
unfolding twos
coded-high n h = sym (ap twos (lowered-high n h))

-- its sign
pub sign_low : (n : ℕ) → n < 2 ^ 31 → le_z (pos 0) (signed n) ≡ true
sign_low n h = ap (le_z (pos 0)) (signed_low n h) ∙ leb-zero n

pub sign_high : (n : ℕ) → 2 ^ 31 ≤ n → le_z (pos 0) (signed n) ≡ false
sign_high n h = ap (le_z (pos 0)) (signed_high n h)
