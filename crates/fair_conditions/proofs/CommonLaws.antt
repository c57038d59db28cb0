-- Common divisors as Euclid's algorithm finds them, of two numbers and of a list. Assumes nothing.
use mathlib.Core.Path.{◌≡◌, refl, sym, ap, ap₂, ◌∙◌, subst}
use mathlib.Core.Bool.{Bool, true, false, cond, ◌&&◌}
use mathlib.Core.List.{List, [], ◌∷◌, ◌++◌}
use mathlib.Core.Logic.{◌↔◌}
use Prim.Native.Nat.{ℕ, zero, suc, ◌+◌, ◌*◌, ◌-◌, ◌%◌, ◌≤◌, ◌<◌}
use native.Mathlib.Nat.{zero-mod, mod-eq_of_lt}
use native.Mathlib.Omega.{arith}
use borrow.Author.Tests.{eq-eqb, leb-false}
use mir.Facts.{and_yes, yes_and, yes_eqb, eqb_yes}
use lib.Dec.{T, eqb}
use lib.IntN.{ℤ, pos, negsuc, nat_abs}
use lib.Signed.{le_z}
use Rattle.farkas.specs.Lists.{every}
use Rattle.farkas.specs.Rows.{Row}
use Rattle.farkas.specs.Words.{signed_at, numbers_at, row_in}
use Rattle.fair_rows.specs.FairRows.{numbers_of, divides_all, divided, lowest, is_zero, fair_row}
use Rattle.fair_rows.proofs.DivisorLaws.{common-is, fair-row-by}
use Rattle.fair_rows.proofs.QuotientLaws.{euclid}
use Rattle.fair_conditions.specs.Held.{Divides, Common, CommonOf, RowDivisor}

-- two numbers with the same common divisors as two others
abbrev pub Alike : ℕ → ℕ → ℕ → ℕ → Type 0
Alike a b x y = (d : ℕ) → 1 ≤ d → (Divides d x × Divides d y) ↔ (Divides d a × Divides d b)

pub alike-goes-on : (a b x y : ℕ) → 1 ≤ y → Alike a b x y → Alike a b y (x % y)
alike-goes-on a b x y l w d h =
    (λ t. (w d h).0 ((euclid x y d h l).1 t), λ t. (euclid x y d h l).0 ((w d h).1 t))

nothing : (d : ℕ) → Divides d 0
nothing d = yes_eqb (zero-mod d)

-- one more number before others
pub common-none : CommonOf [] 0
unfolding divides_all every
common-none = record { divides = λ d h. (λ t. tt, λ t. nothing d) }

pub common-more : (z : ℤ) (xs : List ℤ) (r k : ℕ) → CommonOf xs r → Common r (nat_abs z) k → CommonOf (z ∷ xs) k
unfolding divides_all every
common-more z xs r k w v = record {
  divides = λ d h. (
    λ t. let p = (v.divides d h).0 t in yes_and (eqb (nat_abs z % d) 0) (divides_all d xs) p.1 ((w.divides d h).0 p.0),
    λ t. let p = and_yes (eqb (nat_abs z % d) 0) (divides_all d xs) t in (v.divides d h).1 ((w.divides d h).1 p.1, p.0),
  );
}

-- and one after them
both_ends : (d : ℕ) (xs : List ℤ) (z : ℤ) → T (divides_all d (xs ++ (z ∷ []))) ↔ (T (divides_all d xs) × Divides d (nat_abs z))
unfolding divides_all every
both_ends d [] z = (λ t. (tt, (and_yes (eqb (nat_abs z % d) 0) true t).0), λ w. yes_and (eqb (nat_abs z % d) 0) true w.1 tt)
both_ends d (x ∷ xs) z = (
  λ t.
      let p = and_yes (eqb (nat_abs x % d) 0) (divides_all d (xs ++ (z ∷ []))) t in
      let w = (both_ends d xs z).0 p.1 in
      (yes_and (eqb (nat_abs x % d) 0) (divides_all d xs) p.0 w.0, w.1),
  λ w.
      let p = and_yes (eqb (nat_abs x % d) 0) (divides_all d xs) w.0 in
      yes_and (eqb (nat_abs x % d) 0) (divides_all d (xs ++ (z ∷ []))) p.0 ((both_ends d xs z).1 (p.1, w.1)),
)

pub common-last : (xs : List ℤ) (z : ℤ) (r k : ℕ) → CommonOf xs r → Common r (nat_abs z) k → CommonOf (xs ++ (z ∷ [])) k
common-last xs z r k w v = record {
  divides = λ d h. (
    λ t. let p = (v.divides d h).0 t in (both_ends d xs z).1 ((w.divides d h).0 p.0, p.1),
    λ t. let p = (both_ends d xs z).0 t in (v.divides d h).1 ((w.divides d h).1 p.0, p.1),
  );
}

-- the numbers of a sheet from the i-th on, the last first
pub numbers-before : (s : List ℕ) (at count i : ℕ) → i < count → numbers_at s (at + 4 * i) (count - i) ≡ signed_at s (at + 4 * i) ∷ numbers_at s (at + 4 * (i + 1)) (count - (i + 1))
unfolding numbers_at
numbers-before s at count i h =
    ap (numbers_at s (at + 4 * i)) (one_less count i h)
    ∙ ap (λ (p : ℕ). signed_at s (at + 4 * i) ∷ numbers_at s p (count - (i + 1))) (onward at i)
  where
    one_less : (count i : ℕ) → i < count → count - i ≡ suc (count - (i + 1))
    one_less count i h = omega arith

    onward : (at i : ℕ) → at + 4 * i + 4 ≡ at + 4 * (i + 1)
    onward at i = omega arith

pub numbers-none : (s : List ℕ) (p count : ℕ) → numbers_at s p (count - count) ≡ []
unfolding numbers_at
numbers-none s p count = ap (numbers_at s p) (nought count)
  where
    nought : (count : ℕ) → count - count ≡ 0
    nought count = omega arith

pub numbers-all : (s : List ℕ) (at count i : ℕ) → i ≤ 0 → numbers_at s (at + 4 * i) (count - i) ≡ numbers_at s at count
numbers-all s at count zero h = ap (λ (p : ℕ). numbers_at s p (count - 0)) (start at) ∙ ap (numbers_at s at) (all count)
  where
    start : (at : ℕ) → at + 4 * 0 ≡ at
    start at = omega arith

    all : (count : ℕ) → count - 0 ≡ count
    all count = omega arith
numbers-all s at count (suc i) h = absurd (omega arith)

-- a turn of the loop over a row's numbers, from place i to the one before it
pub common-turn : (s : List ℕ) (at count i j divisor k : ℕ) → i ≡ j + 1 → i ≤ count → CommonOf (numbers_at s (at + 4 * i) (count - i)) divisor → Common divisor (nat_abs (signed_at s (at + 4 * j))) k → CommonOf (numbers_at s (at + 4 * j) (count - j)) k
common-turn s at count i j divisor k e h w v =
    subst (λ (xs : List ℤ). CommonOf xs k) (sym (numbers-before s at count j (omega arith)))
    (common-more (signed_at s (at + 4 * j)) (numbers_at s (at + 4 * (j + 1)) (count - (j + 1))) divisor k
    (subst (λ (x : ℕ). CommonOf (numbers_at s (at + 4 * x) (count - x)) divisor) e w)
    v)

-- no number but 0 is divided by every number, so the divisor of coefficients is 0 exactly where all are
zero_of : (k : ℕ) → Divides (k + 1) k → k ≡ 0
zero_of k t = sym (mod-eq_of_lt {n = k} {m = k + 1} (omega arith)) ∙ eqb_yes t

all-zero : (xs : List ℤ) → ((d : ℕ) → 1 ≤ d → T (divides_all d xs)) → every is_zero xs ≡ true
unfolding divides_all every is_zero
all-zero [] f = refl
all-zero (z ∷ xs) f =
    ap₂ (λ (a b : Bool). a && b)
    (eq-eqb (nat_abs z) 0 (zero_of (nat_abs z) (and_yes (eqb (nat_abs z % (nat_abs z + 1)) 0) (divides_all (nat_abs z + 1) xs) (f (nat_abs z + 1) (omega arith))).0))
    (all-zero xs (λ d h. (and_yes (eqb (nat_abs z % d) 0) (divides_all d xs) (f d h)).1))

pub zero-divisor : (xs : List ℤ) (r : ℕ) → CommonOf xs r → r ≡ 0 → every is_zero xs ≡ true
zero-divisor xs r w e = all-zero xs (λ d h. (w.divides d h).0 (subst (λ (k : ℕ). Divides d k) (sym e) (nothing d)))

zeros-divided : (d : ℕ) (xs : List ℤ) → T (every is_zero xs) → T (divides_all d xs)
unfolding divides_all every is_zero
zeros-divided d [] t = tt
zeros-divided d (z ∷ xs) t =
    let p = and_yes (eqb (nat_abs z) 0) (every is_zero xs) t in
    yes_and (eqb (nat_abs z % d) 0) (divides_all d xs) (subst (λ (k : ℕ). Divides d k) (sym (eqb_yes p.0)) (nothing d)) (zeros-divided d xs p.1)

pub some-divisor : (xs : List ℤ) (r : ℕ) → CommonOf xs r → (r ≡ 0 → ⊥) → every is_zero xs ≡ false
some-divisor xs r w h = go (every is_zero xs) refl
  where
    go : (b : Bool) → every is_zero xs ≡ b → every is_zero xs ≡ false
    go true e = absurd (h (zero_of r ((w.divides (r + 1) (omega arith)).1 (zeros-divided (r + 1) xs (subst T (sym e) tt)))))
    go false e = e

-- a common divisor of a number other than 0 is other than 0
pub common-some : (a b r : ℕ) → Common a b r → (a ≡ 0 → ⊥) → r ≡ 0 → ⊥
common-some a b r w h e = h (zero_of a ((w.divides (a + 1) (omega arith)).0 (subst (λ (k : ℕ). Divides (a + 1) k) (sym e) (nothing (a + 1)))).0)

-- 0 and a number have that number's divisors
pub common-zero : (b : ℕ) → Common 0 b b
common-zero b = record { divides = λ d h. (λ t. (nothing d, t), λ t. t.1) }

-- The row's divisor, each way that the code finds it
module _ (s : List ℕ) (at n coefficients : ℕ) (w : CommonOf (numbers_at s at n) coefficients) where
  abbrev row : Row
  row = row_in s at n

  abbrev bound : ℤ
  bound = signed_at s (at + 4 * n)

  by : (a b : Bool) → every is_zero (numbers_at s at n) ≡ a → le_z (pos 0) bound ≡ b → fair_row row ≡ cond (a && b) [] (lowest row ∷ [])
  unfolding row_in
  by a b e f = fair-row-by row refl ∙ ap₂ (λ (x y : Bool). cond (x && y) [] (lowest row ∷ [])) e f

  lowest_by : (r : ℕ) → Common coefficients (nat_abs bound) r → lowest row ∷ [] ≡ divided r row ∷ []
  unfolding lowest numbers_of row_in
  lowest_by r v = ap (λ (d : ℕ). divided d row ∷ []) (sym (common-is (numbers_at s at n ++ (bound ∷ [])) r (common-last (numbers_at s at n) bound coefficients r w v).divides))

  pub divisor-dropped : coefficients ≡ 0 → le_z (pos 0) bound ≡ true → RowDivisor row 0
  divisor-dropped e f = record { dropped = λ z. by true true (zero-divisor (numbers_at s at n) coefficients w e) f; divides = λ z. absurd (z refl) }

  pub divisor-below : (r : ℕ) → coefficients ≡ 0 → le_z (pos 0) bound ≡ false → r ≡ nat_abs bound → RowDivisor row r
  divisor-below r e f q = record {
    dropped = λ z. absurd (below-some bound f (sym q ∙ z));
    divides = λ z. by true false (zero-divisor (numbers_at s at n) coefficients w e) f ∙ lowest_by r (subst (λ (x : ℕ). Common x (nat_abs bound) r) (sym e) (subst (λ (x : ℕ). Common 0 (nat_abs bound) x) (sym q) (common-zero (nat_abs bound))));
  }
    where
      below-some : (z : ℤ) → le_z (pos 0) z ≡ false → nat_abs z ≡ 0 → ⊥
      below-some (pos k) f e = omega (arith, leb-false 0 k f)
      below-some (negsuc k) f e = omega (arith, e)

  pub divisor-found : (r : ℕ) → (coefficients ≡ 0 → ⊥) → Common coefficients (nat_abs bound) r → RowDivisor row r
  divisor-found r h v = record {
    dropped = λ z. absurd (common-some coefficients (nat_abs bound) r v h z);
    divides = λ z. by false (le_z (pos 0) bound) (some-divisor (numbers_at s at n) coefficients w h) refl ∙ lowest_by r v;
  }
