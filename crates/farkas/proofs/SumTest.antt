-- Laws of the test over sums in a list: what a loop has found, and that the three parts are the definition's test. Assumes nothing.
use mathlib.Core.Path.{◌≡◌, refl, sym, ap, ap₂, ◌∙◌, subst}
use mathlib.Core.Bool.{Bool, true, false, ◌&&◌}
use mathlib.Core.List.{List, [], ◌∷◌, ◌++◌}
use Prim.Native.Nat.{ℕ, zero, suc, ◌+◌, ◌*◌, ◌-◌, ◌≤◌, ◌<◌}
use native.Mathlib.Numerals.{add-one}
use native.Mathlib.Omega.{arith}
use lib.Dec.{T, eqb, lit<}
use lib.IntN.{ℤ, pos, ◌*ℤ◌, *ℤ-zero}
use lib.ListN.{length, get_or, set, take, drop, replicate, length-take, length-drop}
use lib.Seq.{get_or-take, get_or-drop, take-length}
use mir.Syntax.{w64}
use mir.Val.{SFits, of_z}
use Rattle.std.specs.List.{list_all}
use Rattle.std.proofs.lemmas.Bool.{eqb-true, eqb-false}
use Rattle.farkas.proofs.Bits.{fits, same_bits}
use Rattle.farkas.specs.Lists.{every}
use Rattle.farkas.specs.Rows.{item}
use Rattle.farkas.specs.Farkas.{same_z, coefficients_agree}
use Rattle.farkas.proofs.Test.{same-means}
use Rattle.farkas.proofs.Items.{agree-all, agree-not}
use Rattle.farkas.specs.Words.{signed_at, numbers_at}
use Rattle.farkas.specs.Sums.{is_zero, agrees_at, cleared}
use Rattle.farkas.proofs.SumLaws.{numbers-length}

-- a chain's test of each element
pub all-every : {A : Type 0} (f : A → Bool) (xs : List A) → list_all f xs ≡ every f xs
unfolding every
all-every f [] = refl
all-every f (x ∷ xs) = ap (λ (b : Bool). f x && b) (all-every f xs)

-- sums that are set to 0 one after the other
pub cleared-none : (from : ℕ) (sums : List ℤ) → sums ≡ cleared from 0 sums
unfolding cleared
cleared-none from [] = refl
cleared-none zero (s ∷ sums) = refl
cleared-none (suc from) (s ∷ sums) = ap (λ (xs : List ℤ). s ∷ xs) (cleared-none from sums)

pub cleared-length : (from count : ℕ) (sums : List ℤ) → length (cleared from count sums) ≡ length sums
unfolding cleared
cleared-length from count [] = refl
cleared-length zero zero (s ∷ sums) = refl
cleared-length zero (suc count) (s ∷ sums) = omega (arith, cleared-length zero count sums)
cleared-length (suc from) count (s ∷ sums) = omega (arith, cleared-length from count sums)

pub cleared-read : (from count : ℕ) (sums : List ℤ) (i : ℕ) → i ≡ from + count → get_or (cleared from count sums) i (pos 0) ≡ get_or sums i (pos 0)
unfolding cleared
cleared-read from count [] i e = refl
cleared-read zero zero (s ∷ sums) i e = refl
cleared-read zero (suc count) (s ∷ sums) zero e = absurd (omega arith)
cleared-read zero (suc count) (s ∷ sums) (suc i) e = cleared-read zero count sums i (omega arith)
cleared-read (suc from) count (s ∷ sums) zero e = refl
cleared-read (suc from) count (s ∷ sums) (suc i) e = cleared-read from count sums i (omega arith)

pub cleared-store : (from count : ℕ) (sums : List ℤ) (i : ℕ) → i ≡ from + count → i < length sums → set (cleared from count sums) i (pos 0) ≡ cleared from (count + 1) sums
unfolding cleared
cleared-store from count [] i e h = absurd (omega arith)
cleared-store zero zero (s ∷ sums) zero e h = ap (λ (xs : List ℤ). pos 0 ∷ xs) (cleared-none zero sums)
cleared-store zero zero (s ∷ sums) (suc i) e h = absurd (omega arith)
cleared-store zero (suc count) (s ∷ sums) zero e h = absurd (omega arith)
cleared-store zero (suc count) (s ∷ sums) (suc i) e h =
    ap (λ (xs : List ℤ). pos 0 ∷ xs) (cleared-store zero count sums i (omega arith) (omega arith) ∙ ap (λ (n : ℕ). cleared zero n sums) (add-one count))
    ∙ ap (λ (n : ℕ). cleared zero n (s ∷ sums)) (sym (add-one (suc count)))
cleared-store (suc from) count (s ∷ sums) zero e h = absurd (omega arith)
cleared-store (suc from) count (s ∷ sums) (suc i) e h = ap (λ (xs : List ℤ). s ∷ xs) (cleared-store from count sums i (omega arith) (omega arith))

-- elements of a part, and numbers of a sheet
part-item : (xs : List ℤ) (from n j : ℕ) → j < n → item (take n (drop from xs)) j ≡ item xs (from + j)
unfolding item
part-item xs from n j h = get_or-take n (drop from xs) j (pos 0) h ∙ get_or-drop from xs j (pos 0)

numbers-item : (s : List ℕ) (at n j : ℕ) → j < n → item (numbers_at s at n) j ≡ signed_at s (at + 4 * j)
unfolding item numbers_at
numbers-item s at zero j h = absurd (omega arith)
numbers-item s at (suc n) zero h = ap (signed_at s) (none at)
  where
    none : (at : ℕ) → at ≡ at + 4 * 0
    none at = omega arith
numbers-item s at (suc n) (suc j) h = numbers-item s (at + 4) n j (omega arith) ∙ ap (signed_at s) (moved at j)
  where
    moved : (at j : ℕ) → at + 4 + 4 * j ≡ at + 4 * suc j
    moved at j = omega arith

-- the loop over a goal: all numbers agree, or one differs
module _ (k : ℕ) (sums : List ℤ) (from : ℕ) (s : List ℕ) (at count : ℕ) (room : from + count ≤ length sums) where
  pub goal-agrees : ((j : ℕ) → j < count → get_or sums (from + j) (pos 0) ≡ pos k *ℤ signed_at s (at + 4 * j)) → agrees_at k from sums (numbers_at s at count) ≡ true
  unfolding agrees_at item
  goal-agrees h =
      let n = length (numbers_at s at count) in
      let same : n ≡ count = numbers-length s at count in
      agree-all k (take n (drop from sums)) (numbers_at s at count) n (omega (arith, length-take n (drop from sums))) (omega arith)
      (λ j l. part-item sums from n j l ∙ h j (omega arith) ∙ ap (λ (z : ℤ). pos k *ℤ z) (sym (numbers-item s at count j (omega arith))))

  pub goal-differs : (j : ℕ) → j < count → (get_or sums (from + j) (pos 0) ≡ pos k *ℤ signed_at s (at + 4 * j) → ⊥) → agrees_at k from sums (numbers_at s at count) ≡ false
  unfolding agrees_at item
  goal-differs j l h =
      let n = length (numbers_at s at count) in
      let same : n ≡ count = numbers-length s at count in
      agree-not k (take n (drop from sums)) (numbers_at s at count) j
      (λ e. h (sym (part-item sums from n j (omega arith)) ∙ e ∙ ap (λ (z : ℤ). pos k *ℤ z) (numbers-item s at count j l)))

-- the definition's test, in the three parts that the code goes through
and_assoc : (a b c : Bool) → ((a && b) && c) ≡ (a && (b && c))
and_assoc true b c = refl
and_assoc false b c = refl

pub rest-zero : (k : ℕ) (sums : List ℤ) → coefficients_agree k sums [] ≡ every is_zero sums
unfolding coefficients_agree every is_zero
rest-zero k [] = refl
rest-zero k (s ∷ sums) = refl

goal-and-rest : (k : ℕ) (sums goal : List ℤ) → length goal ≤ length sums → coefficients_agree k sums goal ≡ (coefficients_agree k (take (length goal) sums) goal && every is_zero (drop (length goal) sums))
unfolding coefficients_agree every
goal-and-rest k sums [] h = rest-zero k sums
goal-and-rest k [] (g ∷ goal) h = absurd (omega arith)
goal-and-rest k (s ∷ sums) (g ∷ goal) h =
    ap (λ (b : Bool). same_z s (pos k *ℤ g) && b) (goal-and-rest k sums goal (omega arith))
    ∙ sym (and_assoc (same_z s (pos k *ℤ g)) (coefficients_agree k (take (length goal) sums) goal) (every is_zero (drop (length goal) sums)))

pub agree-parts : (k shift : ℕ) (sums goal : List ℤ) → shift + length goal ≤ length sums → coefficients_agree k sums (replicate shift (pos 0) ++ goal) ≡ (every is_zero (take shift sums) && (agrees_at k shift sums goal && every is_zero (drop (shift + length goal) sums)))
unfolding coefficients_agree every agrees_at is_zero
agree-parts k zero sums goal h = goal-and-rest k sums goal (omega arith) ∙ ap (λ (n : ℕ). coefficients_agree k (take (length goal) sums) goal && every is_zero (drop n sums)) (none (length goal))
  where
    none : (n : ℕ) → n ≡ 0 + n
    none n = omega arith
agree-parts k (suc shift) [] goal h = absurd (omega arith)
agree-parts k (suc shift) (s ∷ sums) goal h =
    ap₂ (λ (z : ℤ) (b : Bool). same_z s z && b) (*ℤ-zero (pos k)) (agree-parts k shift sums goal (omega arith))
    ∙ sym (and_assoc (is_zero s) (every is_zero (take shift sums)) (agrees_at k shift sums goal && every is_zero (drop (shift + length goal) sums)))
    ∙ ap (λ (n : ℕ). (is_zero s && every is_zero (take shift sums)) && (agrees_at k shift sums goal && every is_zero (drop n (s ∷ sums)))) (next shift (length goal))
  where
    next : (a b : ℕ) → suc (a + b) ≡ suc a + b
    next a b = omega arith

-- the test of one sum
pub zero-yes : (x : ℤ) → x ≡ pos 0 → is_zero x ≡ true
unfolding is_zero same_z
zero-yes x e = ap (λ (z : ℤ). is_zero z) e

pub zero-no : (x : ℤ) → (x ≡ pos 0 → ⊥) → is_zero x ≡ false
unfolding is_zero
zero-no x f = go (same_z x (pos 0)) refl
  where
    go : (b : Bool) → same_z x (pos 0) ≡ b → same_z x (pos 0) ≡ false
    go true e = absurd (f ((same-means x (pos 0)).0 (subst T (sym e) tt)))
    go false e = e

-- a sum that fits is 0 where its bits are
pub zero-bits : (x : ℤ) → SFits w64 x → eqb (of_z w64 x) 0 ≡ is_zero x
zero-bits x f = go (eqb (of_z w64 x) 0) refl
  where
    go : (b : Bool) → eqb (of_z w64 x) 0 ≡ b → b ≡ is_zero x
    go true e = sym (zero-yes x (same_bits x (pos 0) f (fits (pos 0) (lit< tt)) (eqb-true (of_z w64 x) 0 e)))
    go false e = sym (zero-no x (λ z. eqb-false (of_z w64 x) 0 e (ap (of_z w64) z)))

-- sums of which all are 0
zero_is : (x : ℤ) → is_zero x ≡ true → x ≡ pos 0
unfolding is_zero
zero_is x e = (same-means x (pos 0)).0 (subst T (sym e) tt)

pub and_first : (a b : Bool) → (a && b) ≡ true → a ≡ true
and_first true b e = refl
and_first false b e = e

pub and_second : (a b : Bool) → (a && b) ≡ true → b ≡ true
and_second true b e = e
and_second false b e = absurd (let z : ◌≡◌ {A = ℕ} 0 1 = cc in omega arith)

pub zeros-are : (xs : List ℤ) → every is_zero xs ≡ true → xs ≡ replicate (length xs) (pos 0)
unfolding every
zeros-are [] e = refl
zeros-are (x ∷ xs) e = ap₂ (λ (y : ℤ) (ys : List ℤ). y ∷ ys) (zero_is x (and_first (is_zero x) (every is_zero xs) e)) (zeros-are xs (and_second (is_zero x) (every is_zero xs) e))

-- a part that was compared is 0 again, the parts before and after it are as they were: so all sums are 0 where those are
pub cleared-past : (from count : ℕ) (sums : List ℤ) (n : ℕ) → n ≡ from + count → drop n (cleared from count sums) ≡ drop n sums
unfolding cleared
cleared-past from count [] n e = refl
cleared-past zero zero (s ∷ sums) n e = refl
cleared-past zero (suc count) (s ∷ sums) zero e = absurd (omega arith)
cleared-past zero (suc count) (s ∷ sums) (suc n) e = cleared-past zero count sums n (omega arith)
cleared-past (suc from) count (s ∷ sums) zero e = absurd (omega arith)
cleared-past (suc from) count (s ∷ sums) (suc n) e = cleared-past from count sums n (omega arith)

pub cleared-zero : (from count : ℕ) (sums : List ℤ) (n : ℕ) → n ≡ from + count → every is_zero (take from sums) ≡ true → every is_zero (drop n sums) ≡ true → every is_zero (cleared from count sums) ≡ true
unfolding cleared every
cleared-zero from count [] n e p q = refl
cleared-zero zero zero (s ∷ sums) zero e p q = q
cleared-zero zero zero (s ∷ sums) (suc n) e p q = absurd (omega arith)
cleared-zero zero (suc count) (s ∷ sums) zero e p q = absurd (omega arith)
cleared-zero zero (suc count) (s ∷ sums) (suc n) e p q = ap₂ (λ (a b : Bool). a && b) (zero-yes (pos 0) refl) (cleared-zero zero count sums n (omega arith) refl q)
cleared-zero (suc from) count (s ∷ sums) zero e p q = absurd (omega arith)
cleared-zero (suc from) count (s ∷ sums) (suc n) e p q =
    ap₂ (λ (a b : Bool). a && b) (and_first (is_zero s) (every is_zero (take from sums)) p)
    (cleared-zero from count sums n (omega arith) (and_second (is_zero s) (every is_zero (take from sums)) p) q)

-- all of a list, as a part of it
pub whole_part : (xs : List ℤ) (n : ℕ) → take (length xs - n) (drop n xs) ≡ drop n xs
whole_part xs n = ap (λ (k : ℕ). take k (drop n xs)) (sym (length-drop n xs)) ∙ take-length (drop n xs)

-- the three tests of a goal's unknowns, by what each gave
module _ (k shift : ℕ) (sums goal : List ℤ) (wide : shift + length goal ≤ length sums) where
  pub first-fails : every is_zero (take shift sums) ≡ false → coefficients_agree k sums (replicate shift (pos 0) ++ goal) ≡ false
  first-fails e = agree-parts k shift sums goal wide ∙ ap (λ (a : Bool). a && (agrees_at k shift sums goal && every is_zero (drop (shift + length goal) sums))) e

  pub second-fails : every is_zero (take shift sums) ≡ true → agrees_at k shift sums goal ≡ false → coefficients_agree k sums (replicate shift (pos 0) ++ goal) ≡ false
  second-fails e f = agree-parts k shift sums goal wide ∙ ap₂ (λ (a b : Bool). a && (b && every is_zero (drop (shift + length goal) sums))) e f

  pub third-tells : every is_zero (take shift sums) ≡ true → agrees_at k shift sums goal ≡ true → coefficients_agree k sums (replicate shift (pos 0) ++ goal) ≡ every is_zero (drop (shift + length goal) sums)
  third-tells e f = agree-parts k shift sums goal wide ∙ ap₂ (λ (a b : Bool). a && (b && every is_zero (drop (shift + length goal) sums))) e f
