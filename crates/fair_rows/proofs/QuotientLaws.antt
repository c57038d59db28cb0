-- Division of one number: what it means that one number divides another, and what a whole number is after a division. Assumes nothing.
use mathlib.Core.Path.{◌≡◌, refl, sym, ap, ◌∙◌}
use mathlib.Core.Logic.{◌↔◌}
use mathlib.Core.Bool.{Bool, true, false}
use Prim.Native.Nat.{ℕ, zero, suc, ◌*◌, ◌/◌, ◌%◌, ◌≤◌, ◌∣◌}
use native.Mathlib.Omega.{arith}
use native.Mathlib.Nat.{div-one, zero-div, div-le_self, mul-div_cancel', dvd-mod_iff, dvd_of_mod-eq-zero, mod-eq-zero_of_dvd}
use lib.Dec.{T, eqb}
use lib.IntN.{ℤ, pos, negsuc, neg_ℤ, nat_abs, ◌*ℤ◌}
use lib.Signed.{mag}
use mir.Facts.{eqb_yes, yes_eqb}
use Rattle.fair_rows.specs.FairRows.{quotient, is_zero}

-- two tests that pass together give the same answer
pub same_tests : (a b : Bool) → (T a → T b) → (T b → T a) → a ≡ b
same_tests true true f g = refl
same_tests true false f g = absurd (f tt)
same_tests false true f g = absurd (g tt)
same_tests false false f g = refl

-- the test of the definitions means that one number divides the other
pub divides : (d n : ℕ) → T (eqb (n % d) 0) ↔ (d ∣ n)
divides d n = (λ t. dvd_of_mod-eq-zero d (eqb_yes t), λ h. yes_eqb (mod-eq-zero_of_dvd d h))

-- one step of Euclid's algorithm keeps the common divisors
pub euclid :
    (a b d : ℕ) → 1 ≤ d → 1 ≤ b
    → (T (eqb (a % d) 0) × T (eqb (b % d) 0)) ↔ (T (eqb (b % d) 0) × T (eqb (a % b % d) 0))
euclid a b d p q = (
  λ h. (h.1, (divides d (a % b)).1 ((dvd-mod_iff d ((divides d b).0 h.1)).1 ((divides d a).0 h.0))),
  λ h. ((divides d a).1 ((dvd-mod_iff d ((divides d b).0 h.0)).0 ((divides d (a % b)).0 h.1)), h.0),
)

-- A number divided, times the divisor, is the number
times-neg : (d k n : ℕ) → d * k ≡ suc n → pos d *ℤ neg_ℤ (pos k) ≡ negsuc n
times-neg d zero n h = absurd (omega arith)
times-neg d (suc k) n h = ap (λ (m : ℕ). neg_ℤ (pos m)) h

pub quotient-exact : (d : ℕ) (z : ℤ) → d ∣ nat_abs z → pos d *ℤ quotient d z ≡ z
unfolding quotient
quotient-exact d (pos n) h = ap pos (mul-div_cancel' d h)
quotient-exact d (negsuc n) h = times-neg d (suc n / d) n (mul-div_cancel' d h)

-- The size of the number divided, and what stays of its sign
minus-size : (n : ℕ) → nat_abs (neg_ℤ (pos n)) ≡ n
minus-size zero = refl
minus-size (suc n) = refl

pub quotient-size : (d : ℕ) (z : ℤ) → nat_abs (quotient d z) ≡ nat_abs z / d
unfolding quotient
quotient-size d (pos n) = refl
quotient-size d (negsuc n) = minus-size (suc n / d)

-- divided, a number stays within the range of a signed width: `mag` is below half the width's power there
pub quotient-mag : (d : ℕ) (z : ℤ) → mag (quotient d z) ≤ mag z
unfolding quotient
quotient-mag d (pos n) = div-le_self n d
quotient-mag d (negsuc n) = go (suc n / d) (div-le_self (suc n) d)
  where
    go : (k : ℕ) → k ≤ suc n → mag (neg_ℤ (pos k)) ≤ n
    go zero h = omega arith
    go (suc k) h = omega arith

-- a number that is divided without a remainder is 0 exactly where it was
pub quotient-zero : (d : ℕ) (z : ℤ) → d ∣ nat_abs z → is_zero (quotient d z) ≡ is_zero z
unfolding is_zero
quotient-zero d z h =
    same_tests (eqb (nat_abs (quotient d z)) 0) (eqb (nat_abs z) 0)
    (λ t. yes_eqb {a = nat_abs z} {b = 0} (omega (arith, mul-div_cancel' d h, ap (λ (k : ℕ). d * k) (sym (quotient-size d z) ∙ eqb_yes t))))
    (λ t. yes_eqb (quotient-size d z ∙ ap (λ (n : ℕ). n / d) (eqb_yes t) ∙ zero-div d))

-- divided by 1
pub quotient-one : (z : ℤ) → quotient 1 z ≡ z
unfolding quotient
quotient-one (pos n) = ap pos (div-one n)
quotient-one (negsuc n) = ap (λ (k : ℕ). neg_ℤ (pos k)) (div-one (suc n))
