-- Signed numbers in 64 bits: how large a sum and a product are, which numbers fit, and that equal bits are equal numbers.
-- Assumes nothing.
use mathlib.Core.Path.{◌≡◌, refl, sym, ap, ◌∙◌}
use mathlib.Core.Bool.{Bool, true, false, cond}
use Prim.Native.Nat.{ℕ, zero, suc, ◌+◌, ◌*◌, ◌-◌, ◌^◌, ◌≤◌, ◌<◌}
use native.Mathlib.Nat.{mul-le-mul}
use native.Mathlib.Omega.{arith}
use lib.Dec.{ltb}
use lib.IntN.{ℤ, pos, negsuc, neg_ℤ, nat_abs, ◌+ℤ◌, ◌*ℤ◌, +ℤ_idl}
use mir.Syntax.{w32, w64}
use mir.Val.{Fits, SFits, to_z, of_z}
use mir.Facts.{to_z-of_z}

size-either : (c : Bool) (x y : ℤ) (n : ℕ) → nat_abs x ≤ n → nat_abs y ≤ n → nat_abs (cond c x y) ≤ n
size-either true x y n h k = h
size-either false x y n h k = k

-- a sum is at most as large as its parts together
pub size-+ : (x y : ℤ) → nat_abs (x +ℤ y) ≤ nat_abs x + nat_abs y
size-+ (pos a) (pos b) = omega arith
size-+ (pos a) (negsuc b) = size-either (ltb a (suc b)) (negsuc (suc b - suc a)) (pos (a - suc b)) (a + suc b) (omega arith) (omega arith)
size-+ (negsuc a) (pos b) = size-either (ltb b (suc a)) (negsuc (suc a - suc b)) (pos (b - suc a)) (suc a + b) (omega arith) (omega arith)
size-+ (negsuc a) (negsuc b) = omega arith

size-neg : (n : ℕ) → nat_abs (neg_ℤ (pos n)) ≡ n
size-neg zero = refl
size-neg (suc n) = refl

pub size-* : (x y : ℤ) → nat_abs (x *ℤ y) ≡ nat_abs x * nat_abs y
size-* (pos a) (pos b) = refl
size-* (pos a) (negsuc b) = size-neg (a * suc b)
size-* (negsuc a) (pos b) = size-neg (suc a * b)
size-* (negsuc a) (negsuc b) = refl

-- x + m * y is at most as large as x and m times y together
pub size-+* : (x m y : ℤ) → nat_abs (x +ℤ m *ℤ y) ≤ nat_abs x + nat_abs m * nat_abs y
size-+* x m y = omega (arith, size-+ x (m *ℤ y), size-* m y)

-- a number of size below 2 ^ 63 fits
pub fits : (z : ℤ) → nat_abs z < 2 ^ 63 → SFits w64 z
fits (pos n) h = record { sfits = h }
fits (negsuc n) h = record { sfits = omega arith }

-- so is read back from its bits
pub read_back : (z : ℤ) → nat_abs z < 2 ^ 63 → to_z w64 (of_z w64 z) ≡ z
read_back z h = to_z-of_z (fits z h)

-- equal bits are equal numbers
pub same_bits : (x y : ℤ) → SFits w64 x → SFits w64 y → of_z w64 x ≡ of_z w64 y → x ≡ y
same_bits x y f g e = sym (to_z-of_z f) ∙ ap (to_z w64) e ∙ to_z-of_z g

-- k times z, as 0 + m * z is computed, where m is the number k of 32 bits: where z has size up to 2 ^ 31 there is room
module _ (k : ℕ) (m z : ℤ) (e : m ≡ pos k) (fk : Fits w32 k) (fz : SFits w64 z) where
  often : to_z w64 (of_z w64 m) ≡ pos k
  often = ap (λ (x : ℤ). to_z w64 (of_z w64 x)) e ∙ read_back (pos k) (omega arith)

  pub times-room : nat_abs z ≤ 2 ^ 31 → 0 + nat_abs (to_z w64 (of_z w64 m)) * nat_abs (to_z w64 (of_z w64 z)) < 2 ^ 63
  times-room h =
      let below : k ≤ 2 ^ 32 - 1 = omega arith in
      rw (often, to_z-of_z fz) (omega (arith, mul-le-mul below h))

  pub times : pos 0 +ℤ to_z w64 (of_z w64 m) *ℤ to_z w64 (of_z w64 z) ≡ pos k *ℤ z
  times = rw (often, to_z-of_z fz) (+ℤ_idl (pos k *ℤ z))
