-- What the number of Farkas' test of sums and a goal says: 0 exactly where the condition is met, 10 exactly where some unknown's sum differs, 11
-- exactly where all sums agree and the bound fails. Each Boolean of the test is given its meaning, by induction over the lists.
-- Assumes nothing.
use mathlib.Core.Path.{◌≡◌, refl, sym}
use mathlib.Core.Logic.Iff
use mathlib.Core.Logic.{◌↔◌, ◌≢◌, ◌⊎◌, inl, inr}
use mathlib.Core.Bool.{Bool, true, false, not, cond, ◌&&◌}
use mathlib.Core.List.{List, [], ◌∷◌}
use Prim.Native.Nat.{ℕ, zero, suc}
use native.Mathlib.Omega.{arith}
use lib.Dec.{T, T_not, not_T}
use lib.IntN.{ℤ, pos, ◌+ℤ◌, ◌*ℤ◌, +ℤ_idl, *ℤ-zero}
use lib.ListN.{get_or}
use lib.Signed.{le_z}
use mir.Facts.{and_yes, yes_and}
use Rattle.farkas.specs.Rows.{Row, item}
use Rattle.farkas.specs.Lists.{every}
use Rattle.farkas.specs.Farkas.{Agree, BoundMet, plus, same_z, coefficients_agree, bound_passes, sums_test, SumsMeet}
use Rattle.farkas.proofs.Order.{≤-antisym, ≤-of-≡, plus-nothing}
use Rattle.farkas.proofs.Comparing.{compared-means}

-- an unknown's sum after one more row
pub item-plus : (m : ℕ) (ss xs : List ℤ) (i : ℕ) → item (plus m ss xs) i ≡ item ss i +ℤ pos m *ℤ item xs i
unfolding item plus
item-plus m ss [] i = plus-nothing (get_or ss i (pos 0)) m
item-plus m [] (a ∷ xs) zero = sym (+ℤ_idl (pos m *ℤ a))
item-plus m [] (a ∷ xs) (suc i) = item-plus m [] xs i
item-plus m (s ∷ ss) (a ∷ xs) zero = refl
item-plus m (s ∷ ss) (a ∷ xs) (suc i) = item-plus m ss xs i

pub same-means : (a b : ℤ) → T (same_z a b) ↔ (a ≡ b)
unfolding same_z
same-means a b = (there, λ e. yes_and (le_z a b) (le_z b a) (≤-of-≡ a b e).le (≤-of-≡ b a (sym e)).le)
  where
    there : T (le_z a b && le_z b a) → a ≡ b
    there t = let h = and_yes (le_z a b) (le_z b a) t in ≤-antisym a b (record { le = h.0 }) (record { le = h.1 })

-- A test of all unknowns: it passes and P is true of each, or it fails and P is false of one
data Told (b : Bool) (P : ℕ → Type 0) : Type 0 where
  everywhere : T b → ((i : ℕ) → P i) → Told b P
  fails-at : T (not b) → (i : ℕ) → ¬ P i → Told b P

module _ (b : Bool) (P : ℕ → Type 0) where
  told-passes : Told b P → T b ↔ ((i : ℕ) → P i)
  told-passes (everywhere t h) = (λ u. h, λ g. t)
  told-passes (fails-at t i n) = (λ u. absurd (T_not b t u), λ g. absurd (n (g i)))

  told-fails : Told b P → T (not b) ↔ ((i : ℕ) × (¬ P i))
  told-fails (everywhere t h) = (λ u. absurd (T_not b u t), λ g. absurd (g.1 (h g.0)))
  told-fails (fails-at t i n) = (λ u. (i, n), λ g. t)

  -- one more test, of the first unknown
  told_and : (a : Bool) → T a ↔ P zero → Told b (λ i. P (suc i)) → Told (a && b) P
  told_and true m (everywhere t h) = everywhere t (λ i. elim i as (λ k. P k) [ zero ↦ m.0 tt | suc j ↦ h j ])
  told_and true m (fails-at t i n) = fails-at t (suc i) n
  told_and false m r = fails-at tt zero m.1

-- a list's numbers, where P is true of the 0s that it does not reach
module _ (f : ℤ → Bool) (P : ℤ → Type 0) (means : (a : ℤ) → T (f a) ↔ P a) (at_zero : P (pos 0)) where
  every-told : (xs : List ℤ) → Told (every f xs) (λ i. P (item xs i))
  unfolding every item
  every-told [] = everywhere tt (λ i. at_zero)
  every-told (a ∷ xs) = told_and (every f xs) (λ i. P (item (a ∷ xs) i)) (f a) (means a) (every-told xs)

agree-told : (k : ℕ) (ss gs : List ℤ) → Told (coefficients_agree k ss gs) (λ i. item ss i ≡ pos k *ℤ item gs i)
unfolding coefficients_agree item
agree-told k [] gs =
    every-told (λ g. same_z (pos 0) (pos k *ℤ g)) (λ g. pos 0 ≡ pos k *ℤ g)
    (λ g. same-means (pos 0) (pos k *ℤ g))
    (sym (*ℤ-zero (pos k))) gs
agree-told k (s ∷ ss) [] =
    every-told (λ t. same_z t (pos 0)) (λ t. t ≡ pos k *ℤ pos 0)
    (λ t. rw (*ℤ-zero (pos k)) (same-means t (pos 0)))
    (sym (*ℤ-zero (pos k))) (s ∷ ss)
agree-told k (s ∷ ss) (g ∷ gs) =
    told_and (coefficients_agree k ss gs) (λ i. item (s ∷ ss) i ≡ pos k *ℤ item (g ∷ gs) i)
    (same_z s (pos k *ℤ g))
    (same-means s (pos k *ℤ g))
    (agree-told k ss gs)

pub agree-means : (k : ℕ) (ss gs : List ℤ) → T (coefficients_agree k ss gs) ↔ Agree k (item ss) gs
agree-means k ss gs = told-passes (coefficients_agree k ss gs) (λ i. item ss i ≡ pos k *ℤ item gs i) (agree-told k ss gs)

pub differ-means : (k : ℕ) (ss gs : List ℤ) → T (not (coefficients_agree k ss gs)) ↔ ((i : ℕ) × (item ss i ≢ pos k *ℤ item gs i))
differ-means k ss gs = told-fails (coefficients_agree k ss gs) (λ i. item ss i ≡ pos k *ℤ item gs i) (agree-told k ss gs)

pub bound-means : (k : ℕ) (s : ℤ) (strict : Bool) (g : ℤ) (must : Bool) → T (bound_passes k s strict g must) ↔ BoundMet k s strict g must
unfolding bound_passes
bound-means zero s strict g must =
    let m = compared-means (not strict) s (pos 0) in
    (λ t. (λ h. absurd (omega arith), λ e. m.0 t), λ h. m.1 (h.1 refl))
bound-means (suc k) s strict g must =
    let m = compared-means (must && not strict) s (pos (suc k) *ℤ g) in
    (λ t. (λ h. m.0 t, λ e. absurd (omega arith)), λ h. m.1 (h.0 (omega arith)))

-- the number that the two tests pick
abbrev picked : Bool → Bool → ℕ
picked a b = cond a (cond b 0 11) 10

picks-zero : (a b : Bool) → (picked a b ≡ 0) ↔ (T a × T b)
picks-zero true true = (λ e. (tt, tt), λ h. refl)
picks-zero true false = (λ e. absurd (omega arith), λ h. absurd h.1)
picks-zero false b = (λ e. absurd (omega arith), λ h. absurd h.0)

picks-ten : (a b : Bool) → (picked a b ≡ 10) ↔ T (not a)
picks-ten true true = (λ e. omega arith, λ t. absurd t)
picks-ten true false = (λ e. omega arith, λ t. absurd t)
picks-ten false b = (λ e. tt, λ t. refl)

picks-eleven : (a b : Bool) → (picked a b ≡ 11) ↔ (T a × T (not b))
picks-eleven true true = (λ e. absurd (omega arith), λ h. absurd h.1)
picks-eleven true false = (λ e. (tt, tt), λ h. refl)
picks-eleven false b = (λ e. absurd (omega arith), λ h. absurd h.0)

picks-three : (a b : Bool) → (picked a b ≡ 0) ⊎ ((picked a b ≡ 10) ⊎ (picked a b ≡ 11))
picks-three true true = inl refl
picks-three true false = inr (inr refl)
picks-three false b = inr (inl refl)

-- What each number means, of sums and a goal
module _ (k : ℕ) (sums goal : Row) where
  abbrev agrees : Bool
  agrees = coefficients_agree k sums.coefficients goal.coefficients

  abbrev passes : Bool
  passes = bound_passes k sums.bound sums.strict goal.bound goal.strict

  agrees-means : T agrees ↔ Agree k (item sums.coefficients) goal.coefficients
  agrees-means = agree-means k sums.coefficients goal.coefficients

  passes-means : T passes ↔ BoundMet k sums.bound sums.strict goal.bound goal.strict
  passes-means = bound-means k sums.bound sums.strict goal.bound goal.strict

  pub zero-means : (sums_test k sums goal ≡ 0) ↔ SumsMeet k (item sums.coefficients) sums.bound sums.strict goal
  unfolding sums_test
  zero-means =
      Iff.trans (Iff.trans (picks-zero agrees passes) (Iff.and agrees-means passes-means))
      (λ h. record { coefficients = h.0; bound = h.1.0; below = h.1.1 }, λ m. (m.coefficients, (m.bound, m.below)))

  pub ten-means : (sums_test k sums goal ≡ 10) ↔ ((i : ℕ) × (item sums.coefficients i ≢ pos k *ℤ item goal.coefficients i))
  unfolding sums_test
  ten-means = Iff.trans (picks-ten agrees passes) (differ-means k sums.coefficients goal.coefficients)

  pub eleven-means : (sums_test k sums goal ≡ 11) ↔ (Agree k (item sums.coefficients) goal.coefficients × (¬ BoundMet k sums.bound sums.strict goal.bound goal.strict))
  unfolding sums_test
  eleven-means = Iff.trans (picks-eleven agrees passes) (Iff.and agrees-means (Iff.trans (T_not passes, not_T passes) (Iff.not passes-means)))

  pub only-three : (sums_test k sums goal ≡ 0) ⊎ ((sums_test k sums goal ≡ 10) ⊎ (sums_test k sums goal ≡ 11))
  unfolding sums_test
  only-three = picks-three agrees passes
