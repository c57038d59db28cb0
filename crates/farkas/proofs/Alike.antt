-- Rows that differ only in zeros at the end are alike: each coefficient, the bound and the mark are the same.
-- The test and the truth of a row ask for coefficients one by one, so alike rows can take each other's place. The code holds sums with a
-- number for each unknown, the definitions hold a row with as many as the sheet gives. Assumes nothing.
use mathlib.Core.Path.{◌≡◌, refl, sym, ap, ap₂, ◌∙◌}
use mathlib.Core.Bool.{Bool, true, false, cond}
use mathlib.Core.List.{List, [], ◌∷◌, ◌++◌}
use Prim.Native.Nat.{ℕ, zero, suc}
use lib.Dec.{T}
use lib.IntN.{ℤ, pos, ◌+ℤ◌, ◌*ℤ◌}
use lib.ListN.{replicate}
use Rattle.farkas.specs.Rows.{Row, Alike, item, dot}
use Rattle.farkas.specs.Farkas.{coefficients_agree, bound_passes, sums_test}
use Rattle.farkas.proofs.Order.{zero-plus-nothing}
use Rattle.farkas.proofs.Test.{agree-means}

pub alike_refl : (r : Row) → Alike r r
alike_refl r = record { coefficient = λ i. refl; bound = refl; strict = refl }

pub alike-sym : {r s : Row} → Alike r s → Alike s r
alike-sym h = record { coefficient = λ i. sym (h.coefficient i); bound = sym h.bound; strict = sym h.strict }

-- zeros at the end
pub item-padded : (n : ℕ) (xs : List ℤ) (i : ℕ) → item (xs ++ replicate n (pos 0)) i ≡ item xs i
unfolding item
item-padded zero [] i = refl
item-padded (suc n) [] zero = refl
item-padded (suc n) [] (suc i) = item-padded n [] i
item-padded n (a ∷ xs) zero = refl
item-padded n (a ∷ xs) (suc i) = item-padded n xs i

pub alike-padded :
    (n : ℕ) (xs : List ℤ) (b : ℤ) (t : Bool)
    → Alike (record { coefficients = xs ++ replicate n (pos 0); bound = b; strict = t }) (record { coefficients = xs; bound = b; strict = t })
alike-padded n xs b t = record { coefficient = item-padded n xs; bound = refl; strict = refl }

-- the test
carry-agree :
    (k : ℕ) {r s x y : Row} → Alike r s → Alike x y
    → T (coefficients_agree k r.coefficients x.coefficients) → T (coefficients_agree k s.coefficients y.coefficients)
carry-agree k {r} {s} {x} {y} h g t =
    (agree-means k s.coefficients y.coefficients).1
    (λ i. sym (h.coefficient i) ∙ (agree-means k r.coefficients x.coefficients).0 t i ∙ ap (λ a. pos k *ℤ a) (g.coefficient i))

same_tests : (a b : Bool) → (T a → T b) → (T b → T a) → a ≡ b
same_tests true true f g = refl
same_tests true false f g = absurd (f tt)
same_tests false true f g = absurd (g tt)
same_tests false false f g = refl

pub alike-test : (k : ℕ) {r s x y : Row} → Alike r s → Alike x y → sums_test k r x ≡ sums_test k s y
unfolding sums_test
alike-test k {r} {s} {x} {y} h g =
    ap₂ (λ a b. cond a (cond b 0 11) 10)
    (same_tests (coefficients_agree k r.coefficients x.coefficients) (coefficients_agree k s.coefficients y.coefficients)
    (carry-agree k h g)
    (carry-agree k (alike-sym h) (alike-sym g)))
    (ap₂ (λ b d. bound_passes k b r.strict d x.strict) h.bound g.bound ∙ ap₂ (λ t u. bound_passes k s.bound t y.bound u) h.strict g.strict)

-- the truth of a row
pub dot-items : (xs ys ps : List ℤ) → ((i : ℕ) → item xs i ≡ item ys i) → dot xs ps ≡ dot ys ps
unfolding dot item
dot-items [] [] ps h = refl
dot-items [] (b ∷ ys) [] h = refl
dot-items [] (b ∷ ys) (p ∷ ps) h =
    zero-plus-nothing p ∙ ap₂ (λ c d. c *ℤ p +ℤ d) (h zero) (dot-items [] ys ps (λ i. h (suc i)))
dot-items (a ∷ xs) [] [] h = refl
dot-items (a ∷ xs) [] (p ∷ ps) h =
    ap₂ (λ c d. c *ℤ p +ℤ d) (h zero) (dot-items xs [] ps (λ i. h (suc i))) ∙ sym (zero-plus-nothing p)
dot-items (a ∷ xs) (b ∷ ys) [] h = refl
dot-items (a ∷ xs) (b ∷ ys) (p ∷ ps) h = ap₂ (λ c d. c *ℤ p +ℤ d) (h zero) (dot-items xs ys ps (λ i. h (suc i)))
