-- Rows in bytes: no number of theirs is larger than 2 ^ 31, on whichever unknowns they stand. Assumes nothing.
use mathlib.Core.Path.{◌≡◌, refl, sym, subst}
use mathlib.Core.List.{List, [], ◌∷◌, ◌++◌, map}
use Prim.Native.Nat.{ℕ, zero, suc, ◌+◌, ◌*◌, ◌^◌, ◌≤◌, ◌<◌}
use native.Mathlib.Decide.{dec_lt}
use native.Mathlib.Omega.{arith}
use lib.Dec.{lit<, lit≤}
use lib.IntN.{ℤ, pos, negsuc, neg_ℤ, nat_abs}
use lib.ListN.{length, get_or, take, drop, replicate, length-take, get_or-eq_default}
use lib.Seq.{get_or-take, get_or-drop}
use Rattle.farkas.specs.Rows.{item, onward, on_change}
use Rattle.farkas.specs.Words.{big_endian, signed_at, numbers_at, row_in}
use Rattle.farkas.specs.Sizes.{Bytes, Small, Within}
use Rattle.farkas.proofs.WordLaws.{signed-small}
use Rattle.farkas.proofs.Sizes.{zeros_within}

-- up to four bytes make a number of 32 bits
four-small : (xs : List ℕ) → Bytes xs → length xs ≤ 4 → big_endian xs < 2 ^ 32
unfolding big_endian
four-small [] b h = lit< tt
four-small (x ∷ []) b h = omega (arith, b 0)
four-small (x ∷ y ∷ []) b h = omega (arith, b 0, b 1)
four-small (x ∷ y ∷ z ∷ []) b h = omega (arith, b 0, b 1, b 2)
four-small (x ∷ y ∷ z ∷ w ∷ []) b h = omega (arith, b 0, b 1, b 2, b 3)
four-small (x ∷ y ∷ z ∷ w ∷ v ∷ xs) b h = absurd (omega arith)

bytes-part : (s : List ℕ) (p : ℕ) → Bytes s → Bytes (take 4 (drop p s))
bytes-part s p b i = go (dec_lt i 4)
  where
    go : Dec (i < 4) → get_or (take 4 (drop p s)) i 0 < 256
    go (yes h) = rw (get_or-take 4 (drop p s) i 0 h, get_or-drop p s i 0) (b (p + i))
    go (no f) = rw (get_or-eq_default (take 4 (drop p s)) 0 {n = i} (omega (arith, length-take 4 (drop p s)))) (lit< tt)

pub signed-within : (s : List ℕ) (p : ℕ) → Bytes s → nat_abs (signed_at s p) ≤ 2 ^ 31
unfolding signed_at
signed-within s p b = signed-small (big_endian (take 4 (drop p s))) (four-small (take 4 (drop p s)) (bytes-part s p b) (omega (arith, length-take 4 (drop p s))))

-- Coefficients of which none is larger than a size
pub small-none : (size : ℕ) → Small size []
unfolding item
small-none size i = omega arith

pub small-cons : (size : ℕ) (a : ℤ) (xs : List ℤ) → nat_abs a ≤ size → Small size xs → Small size (a ∷ xs)
unfolding item
small-cons size a xs h f zero = h
small-cons size a xs h f (suc i) = f i

pub small-append : (size : ℕ) (xs ys : List ℤ) → Small size xs → Small size ys → Small size (xs ++ ys)
unfolding item
small-append size [] ys f g i = g i
small-append size (x ∷ xs) ys f g zero = f 0
small-append size (x ∷ xs) ys f g (suc i) = small-append size xs ys (λ j. f (suc j)) g i

pub small-zeros : (size n : ℕ) → Small size (replicate n (pos 0))
small-zeros size n i = omega (arith, zeros_within n i)

pub size-negated : (z : ℤ) → nat_abs (neg_ℤ z) ≡ nat_abs z
size-negated (pos zero) = refl
size-negated (pos (suc n)) = refl
size-negated (negsuc n) = refl

pub small-negated : (size : ℕ) (xs : List ℤ) → Small size xs → Small size (map neg_ℤ xs)
unfolding item
small-negated size [] f i = f i
small-negated size (x ∷ xs) f zero = subst (λ (n : ℕ). n ≤ size) (sym (size-negated x)) (f 0)
small-negated size (x ∷ xs) f (suc i) = small-negated size xs (λ j. f (suc j)) i

-- the numbers of a row, and the row on the unknowns from one on and on rates
pub small-numbers : (s : List ℕ) (p n : ℕ) → Bytes s → Small (2 ^ 31) (numbers_at s p n)
unfolding numbers_at
small-numbers s p zero b = small-none (2 ^ 31)
small-numbers s p (suc n) b = small-cons (2 ^ 31) (signed_at s p) (numbers_at s (p + 4) n) (signed-within s p b) (small-numbers s (p + 4) n b)

pub row_within : (s : List ℕ) (p shift n : ℕ) → Bytes s → Within (2 ^ 31) (onward shift (row_in s p n))
unfolding onward row_in
row_within s p shift n b =
    record {
      coefficient = small-append (2 ^ 31) (replicate shift (pos 0)) (numbers_at s p n) (small-zeros (2 ^ 31) shift) (small-numbers s p n b);
      bound = signed-within s (p + 4 * n) b;
    }

pub rates-within : (s : List ℕ) (p n : ℕ) → Bytes s → Within (2 ^ 31) (on_change (row_in s p n))
unfolding on_change row_in
rates-within s p n b =
    let xs = numbers_at s p n in
    let v = neg_ℤ (signed_at s (p + 4 * n)) in
    let last : nat_abs v ≤ 2 ^ 31 = subst (λ (k : ℕ). k ≤ 2 ^ 31) (sym (size-negated (signed_at s (p + 4 * n)))) (signed-within s (p + 4 * n) b) in
    record {
      coefficient =
          small-append (2 ^ 31) (map neg_ℤ xs) (xs ++ (v ∷ []))
          (small-negated (2 ^ 31) xs (small-numbers s p n b))
          (small-append (2 ^ 31) xs (v ∷ []) (small-numbers s p n b) (small-cons (2 ^ 31) v [] last (small-none (2 ^ 31))));
      bound = lit≤ tt;
    }
