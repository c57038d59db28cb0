-- The divisor of a row's numbers is the greatest that divides them all, and divided by it they have none but 1. So a row becomes what the
-- definitions say, whichever way its divisor is found. Assumes nothing.
use mathlib.Core.Path.{◌≡◌, refl, sym, ap, ap₂, ◌∙◌, subst}
use mathlib.Core.Logic.{◌↔◌}
use mathlib.Core.Bool.{Bool, true, false, not, cond, ◌&&◌}
use mathlib.Core.List.{List, [], ◌∷◌, ◌++◌, map}
use Prim.Native.Nat.{ℕ, zero, suc, ◌*◌, ◌/◌, ◌%◌, ◌≤◌, max, ◌∣◌}
use native.Mathlib.Omega.{arith}
use native.Mathlib.Nat.{zero-div, div_self, mul-div_cancel', le_of_mul-le-mul_left, one-dvd, dvd_refl, dvd-zero, le_of_dvd, mul-dvd-mul_left}
use lib.Dec.{T, eqb, eqb→eq, leb-zero}
use lib.IntN.{ℤ, pos, negsuc, neg_ℤ, nat_abs}
use lib.Signed.{le_z}
use mir.Facts.{and_yes, yes_and, eqb_no}
use Rattle.farkas.specs.Lists.{every, All, none, more}
use Rattle.farkas.specs.Rows.{Row, compared}
use Rattle.farkas.proofs.All.{all_append, all_of, every-all}
use Rattle.fair_rows.specs.FairRows.{divides_all, greatest, size, divisor, numbers_of, quotient, divided, lowest, is_zero, never, fair_zeros, fair_by, fair_row}
use Rattle.fair_rows.proofs.QuotientLaws.{divides, quotient-size}

-- The greatest number that passes a test
record Greatest (f : ℕ → Bool) (n g : ℕ) : Type 0 where
  passes : 1 ≤ n → T (f g)
  least : 1 ≤ n → 1 ≤ g
  most : (d : ℕ) → d ≤ n → T (f d) → d ≤ g

greatest-is : (f : ℕ → Bool) (n : ℕ) → T (f 1) → Greatest f n (greatest f n)
unfolding greatest
greatest-is f zero t = record { passes = λ l. absurd (omega arith); least = λ l. absurd (omega arith); most = λ d u h. u }
greatest-is f (suc n) t = go n (f (suc n)) refl (greatest-is f n t)
  where
    go : (k : ℕ) (b : Bool) → f (suc k) ≡ b → Greatest f k (greatest f k) → Greatest f (suc k) (cond b (suc k) (greatest f k))
    go k true e w = record { passes = λ l. subst T (sym e) tt; least = λ l. omega arith; most = λ d u h. u }
    go zero false e w = absurd (subst T e t)
    go (suc k) false e w =
        record {
          passes = λ l. w.passes (omega arith);
          least = λ l. w.least (omega arith);
          most = λ d u h. below d u h (eqb d (suc (suc k))) refl;
        }
      where
        below : (d : ℕ) → d ≤ suc (suc k) → T (f d) → (b : Bool) → eqb d (suc (suc k)) ≡ b → d ≤ greatest f (suc k)
        below d u h true q = absurd (subst T e (subst (λ x. T (f x)) (eqb→eq d (suc (suc k)) (subst T (sym q) tt)) h))
        below d u h false q =
            let other = eqb_no {a = d} {b = suc (suc k)} (subst (λ b. T (not b)) (sym q) tt) in
            w.most d (omega arith) h

-- Numbers that have a common divisor
abbrev pub Common : ℕ → List ℤ → Type 0
Common d xs = All (λ z. d ∣ nat_abs z) xs

there : (d : ℕ) (xs : List ℤ) → T (divides_all d xs) → Common d xs
unfolding divides_all every
there d [] t = none
there d (z ∷ xs) t =
    let h = and_yes (eqb (nat_abs z % d) 0) (divides_all d xs) t in
    more ((divides d (nat_abs z)).0 h.0) (there d xs h.1)

back : (d : ℕ) {xs : List ℤ} → Common d xs → T (divides_all d xs)
unfolding divides_all every
back d none = tt
back d (more {a = z} {xs = xs} h c) =
    yes_and (eqb (nat_abs z % d) 0) (divides_all d xs) ((divides d (nat_abs z)).1 h) (back d c)

pub common : (d : ℕ) (xs : List ℤ) → T (divides_all d xs) ↔ Common d xs
common d xs = (there d xs, back d)

-- none is greater than the largest of the numbers
common-small : (d : ℕ) {xs : List ℤ} → Common d xs → 1 ≤ size xs → d ≤ size xs
unfolding size
common-small d none l = absurd (omega arith)
common-small d (more {a = z} {xs = xs} h c) l = go (nat_abs z) refl (common-small d c)
  where
    go : (k : ℕ) → nat_abs z ≡ k → (1 ≤ size xs → d ≤ size xs) → d ≤ max (nat_abs z) (size xs)
    go zero e f = omega (arith, f (omega arith))
    go (suc k) e f = omega (arith, le_of_dvd {m = d} {n = nat_abs z} (omega arith) h)

-- "the greatest common divisor of its numbers": where they are not all 0, the divisor divides them all, is at least 1, and no other that
-- divides them all is greater
greatest-divisor : (xs : List ℤ) → Greatest (λ d. divides_all d xs) (size xs) (divisor xs)
unfolding divisor
greatest-divisor xs =
    greatest-is (λ d. divides_all d xs) (size xs) (back 1 (all_of (λ z. 1 ∣ nat_abs z) (pos 0) xs (λ i. one-dvd _)))

pub divisor-divides : (xs : List ℤ) → 1 ≤ size xs → T (divides_all (divisor xs) xs)
divisor-divides xs = (greatest-divisor xs).passes

pub divisor-least : (xs : List ℤ) → 1 ≤ size xs → 1 ≤ divisor xs
divisor-least xs = (greatest-divisor xs).least

pub divisor-most : (xs : List ℤ) (d : ℕ) → 1 ≤ size xs → T (divides_all d xs) → d ≤ divisor xs
divisor-most xs d l t = (greatest-divisor xs).most d (common-small d (there d xs t) l) t

-- 0 where all are 0
size-zero : (xs : List ℤ) → size xs ≡ 0 → (d : ℕ) → Common d xs
unfolding size
size-zero [] e d = none
size-zero (z ∷ xs) e d = more (subst (λ n. d ∣ n) (first (nat_abs z) (size xs) e) (dvd-zero d)) (size-zero xs (omega arith) d)
  where
    first : (a b : ℕ) → max a b ≡ 0 → 0 ≡ a
    first a b e = omega arith

divisor-none : (xs : List ℤ) → size xs ≡ 0 → divisor xs ≡ 0
unfolding divisor greatest
divisor-none xs e = ap (greatest (λ d. divides_all d xs)) e

-- a number that has exactly the common divisors is the greatest of them
pub common-is : (xs : List ℤ) (r : ℕ) → ((d : ℕ) → 1 ≤ d → T (eqb (r % d) 0) ↔ T (divides_all d xs)) → r ≡ divisor xs
common-is xs r f = go (size xs) refl r refl
  where
    go : (n : ℕ) → size xs ≡ n → (k : ℕ) → r ≡ k → r ≡ divisor xs
    go zero e zero q = q ∙ sym (divisor-none xs e)
    go zero e (suc k) q =
        let over : suc r ∣ r = (divides (suc r) r).0 ((f (suc r) (omega arith)).1 (back (suc r) (size-zero xs e (suc r)))) in
        absurd (omega (arith, le_of_dvd {m = suc r} {n = r} (omega arith) over))
    go (suc n) e zero q =
        let over : suc (size xs) ∣ r = subst (λ k. suc (size xs) ∣ k) (sym q) (dvd-zero (suc (size xs))) in
        let all = there (suc (size xs)) xs ((f (suc (size xs)) (omega arith)).0 ((divides (suc (size xs)) r).1 over)) in
        absurd (omega (arith, common-small (suc (size xs)) all (omega arith)))
    go (suc n) e (suc k) q =
        let some : 1 ≤ size xs = omega arith in
        let least : 1 ≤ divisor xs = divisor-least xs some in
        let up : r ≤ divisor xs = divisor-most xs r some ((f r (omega arith)).0 ((divides r r).1 (dvd_refl r))) in
        let down : divisor xs ≤ r = le_of_dvd {m = divisor xs} {n = r} (omega arith) ((divides (divisor xs) r).0 ((f (divisor xs) least).1 (divisor-divides xs some))) in
        omega arith

-- Divided by its divisor a row has none but 1: what divides the quotients, times the divisor, divides the numbers
twice : (d e : ℕ) (z : ℤ) → d ∣ nat_abs z → e ∣ nat_abs (quotient d z) → (d * e) ∣ nat_abs z
twice d e z h k =
    subst (λ n. (d * e) ∣ n) (ap (λ (n : ℕ). d * n) (quotient-size d z) ∙ mul-div_cancel' d h) (mul-dvd-mul_left e d k)

common-twice : (d e : ℕ) (xs : List ℤ) → Common d xs → Common e (map (quotient d) xs) → Common (d * e) xs
common-twice d e [] c g = none
common-twice d e (z ∷ xs) (more h c) (more k g) = more (twice d e z h k) (common-twice d e xs c g)

size-divided : (d : ℕ) {xs : List ℤ} → Common d xs → 1 ≤ size xs → 1 ≤ size (map (quotient d) xs)
unfolding size
size-divided d none l = absurd (omega arith)
size-divided d (more {a = z} {xs = xs} h c) l = go (nat_abs z) refl (nat_abs z / d) refl (size-divided d c)
  where
    go : (k : ℕ) → nat_abs z ≡ k → (j : ℕ) → nat_abs z / d ≡ j → (1 ≤ size xs → 1 ≤ size (map (quotient d) xs)) → 1 ≤ max (nat_abs (quotient d z)) (size (map (quotient d) xs))
    go zero e j q f = omega (arith, f (omega arith))
    go (suc k) e zero q f = absurd (omega (arith, mul-div_cancel' d h, ap (λ (x : ℕ). d * x) q))
    go (suc k) e (suc j) q f = omega (arith, quotient-size d z)

pub divided-once : (xs : List ℤ) → 1 ≤ size xs → divisor (map (quotient (divisor xs)) xs) ≡ 1
divided-once xs l =
    let d = divisor xs in
    let ys = map (quotient d) xs in
    let least : 1 ≤ d = divisor-least xs l in
    let c : Common d xs = there d xs (divisor-divides xs l) in
    let some : 1 ≤ size ys = size-divided d c l in
    let e = divisor ys in
    let few : d * e ≤ d = divisor-most xs (d * e) l (back (d * e) (common-twice d e xs c (there e ys (divisor-divides ys some)))) in
    omega (arith, divisor-least ys some, le_of_mul-le-mul_left {m = e} {n = 1} {k = d} (omega arith) least)

-- Common divisors of a row's numbers are those of its coefficients and of its bound
pub common-parts : (d : ℕ) (xs : List ℤ) (b : ℤ) → Common d (xs ++ (b ∷ [])) → Common d xs × (d ∣ nat_abs b)
common-parts d [] b (more h c) = (none, h)
common-parts d (z ∷ xs) b (more h c) = let w = common-parts d xs b c in (more h w.0, w.1)

-- Zeros: every number divides them, and they stay
abbrev pub Zeros : List ℤ → Type 0
Zeros xs = All (λ z. z ≡ pos 0) xs

zero_is : (z : ℤ) → T (is_zero z) → z ≡ pos 0
unfolding is_zero
zero_is (pos n) t = ap pos (eqb→eq n 0 t)
zero_is (negsuc n) t = absurd (omega (arith, eqb→eq (suc n) 0 t))

zeros-are : {xs : List ℤ} → All (λ z. T (is_zero z)) xs → Zeros xs
zeros-are none = none
zeros-are (more {a = z} t h) = more (zero_is z t) (zeros-are h)

pub zeros : (xs : List ℤ) → every is_zero xs ≡ true → Zeros xs
zeros xs e = zeros-are (every-all is_zero xs (subst T (sym e) tt))

zeros-common : (d : ℕ) {xs : List ℤ} → Zeros xs → Common d xs
zeros-common d none = none
zeros-common d (more e h) = more (subst (λ z. d ∣ nat_abs z) (sym e) (dvd-zero d)) (zeros-common d h)

zeros-stay : (d : ℕ) {xs : List ℤ} → Zeros xs → map (quotient d) xs ≡ xs
unfolding quotient
zeros-stay d none = refl
zeros-stay d (more e h) =
    ap₂ (λ (x : ℤ) (ys : List ℤ). x ∷ ys) (ap (quotient d) e ∙ ap pos (zero-div d) ∙ sym e) (zeros-stay d h)

-- the divisor of zeros and one number below 0 is that number without its sign, so that divided by it the number is −1
pub divisor-zeros : (n : ℕ) {xs : List ℤ} → Zeros xs → suc n ≡ divisor (xs ++ (negsuc n ∷ []))
divisor-zeros n {xs} h =
    common-is (xs ++ (negsuc n ∷ [])) (suc n)
    (λ d p. (
      λ t. back d (all_append (zeros-common d h) (more ((divides d (suc n)).0 t) none)),
      λ t. (divides d (suc n)).1 (common-parts d xs (negsuc n) (there d (xs ++ (negsuc n ∷ [])) t)).1,
    ))

bound-lowest : (xs : List ℤ) (b : ℤ) → Zeros xs → le_z (pos 0) b ≡ false → quotient (divisor (xs ++ (b ∷ []))) b ≡ negsuc 0
unfolding quotient
bound-lowest xs (pos n) h e = absurd (subst T (sym (leb-zero n) ∙ e) tt)
bound-lowest xs (negsuc n) h e =
    ap (λ (d : ℕ). neg_ℤ (pos (suc n / d))) (sym (divisor-zeros n h))
    ∙ ap (λ (k : ℕ). neg_ℤ (pos k)) (div_self {n = suc n} (omega arith))

-- a row of zeros "given bound −1" is that row divided as any other
pub never-lowest : (r : Row) → every is_zero r.coefficients ≡ true → r.strict ≡ false → le_z (pos 0) r.bound ≡ false → lowest r ≡ never r
unfolding lowest never divided numbers_of
never-lowest r e s l =
    let h = zeros r.coefficients e in
    let d = divisor (r.coefficients ++ (r.bound ∷ [])) in
    λ i. record { coefficients = zeros-stay d h i; bound = bound-lowest r.coefficients r.bound h l i; strict = s i }

-- so a row that is not strict is dropped where its coefficients are 0 and its bound is not below 0, and divided where not
pub fair-row-by :
    (r : Row) → r.strict ≡ false
    → fair_row r ≡ cond (every is_zero r.coefficients && le_z (pos 0) r.bound) [] (lowest r ∷ [])
unfolding fair_row fair_by fair_zeros compared
fair-row-by r s = go (every is_zero r.coefficients) refl (le_z (pos 0) r.bound) refl
  where
    tested : {b : Bool} → le_z (pos 0) r.bound ≡ b → compared r.strict (pos 0) r.bound ≡ b
    tested f = ap (λ (t : Bool). compared t (pos 0) r.bound) s ∙ f

    go : (a : Bool) → every is_zero r.coefficients ≡ a → (b : Bool) → le_z (pos 0) r.bound ≡ b → fair_by a r ≡ cond (a && b) [] (lowest r ∷ [])
    go true e true f = ap (λ (t : Bool). fair_zeros t r) (tested f)
    go true e false f = ap (λ (t : Bool). fair_zeros t r) (tested f) ∙ ap (λ (x : Row). x ∷ []) (sym (never-lowest r e s f))
    go false e b f = refl
