-- Coefficients in arrays, as the loops meet them: how long a sum is, and the test of agreement told by the unknowns that were
-- compared. Assumes nothing.
use mathlib.Core.Path.{◌≡◌, refl, ap}
use mathlib.Core.Bool.{Bool, true, false, not}
use mathlib.Core.List.{List, [], ◌∷◌}
use Prim.Native.Nat.{ℕ, suc, ◌≤◌, ◌<◌}
use native.Mathlib.Nat.{suc_inj}
use native.Mathlib.Decide.{dec_lt}
use native.Mathlib.Omega.{arith}
use lib.Dec.{T}
use lib.IntN.{ℤ, pos, ◌*ℤ◌, *ℤ-zero}
use lib.ListN.{length, get_or-eq_default}
use Rattle.farkas.specs.Rows.{item}
use Rattle.farkas.specs.Farkas.{plus, coefficients_agree}
use Rattle.farkas.proofs.Test.{agree-means, differ-means}

pub plus-length : (m : ℕ) (sums r : List ℤ) → length sums ≡ length r → length (plus m sums r) ≡ length sums
unfolding plus
plus-length m sums [] e = refl
plus-length m [] (a ∷ xs) e = absurd (omega arith)
plus-length m (s ∷ sums) (a ∷ xs) e = ap suc (plus-length m sums xs (suc_inj e))

-- a test that passes or fails
passed : (b : Bool) → T b → b ≡ true
passed true t = refl
passed false t = absurd t

failed : (b : Bool) → T (not b) → b ≡ false
failed true t = absurd t
failed false t = refl

-- past the end a coefficient is 0
past : (xs : List ℤ) (i : ℕ) → length xs ≤ i → item xs i ≡ pos 0
unfolding item
past xs i h = get_or-eq_default xs (pos 0) h

module _ (k : ℕ) (sums goal : List ℤ) where
  -- all unknowns of both lists were compared
  pub agree-all : (n : ℕ) → length sums ≤ n → length goal ≤ n → ((i : ℕ) → i < n → item sums i ≡ pos k *ℤ item goal i) → coefficients_agree k sums goal ≡ true
  agree-all n h l same = passed (coefficients_agree k sums goal) ((agree-means k sums goal).1 (λ i. at i (dec_lt i n)))
    where
      at : (i : ℕ) → Dec (i < n) → item sums i ≡ pos k *ℤ item goal i
      at i (yes below) = same i below
      at i (no out) = rw (past sums i (omega arith), past goal i (omega arith), *ℤ-zero (pos k))

  -- one differs
  pub agree-not : (i : ℕ) → (item sums i ≡ pos k *ℤ item goal i → ⊥) → coefficients_agree k sums goal ≡ false
  agree-not i differs = failed (coefficients_agree k sums goal) ((differ-means k sums goal).1 (i, differs))
