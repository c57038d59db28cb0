-- Sums that are all 0: a part of them is lent, and comes back as zeros. And a table without segments. Assumes nothing.
use mathlib.Core.Path.{◌≡◌, refl, sym, ap, ap₂, ◌∙◌}
use mathlib.Core.List.{List, ◌∷◌, ◌++◌}
use Prim.Native.Nat.{ℕ, zero, suc, ◌+◌, ◌*◌, ◌≤◌}
use native.Mathlib.Omega.{arith}
use lib.IntN.{ℤ, pos}
use lib.ListN.{length, take, drop, replicate, length-append, length-replicate}
use Rattle.hypotheses.specs.Tables.{end_of, Stacked}
use Rattle.certificates.specs.Passed.{Fresh}

zeros-first : (w n : ℕ) → w ≤ n → take w (replicate n (pos 0)) ≡ replicate w (pos 0)
zeros-first zero n h = refl
zeros-first (suc w) zero h = absurd (omega arith)
zeros-first (suc w) (suc n) h = ap (λ (xs : List ℤ). pos 0 ∷ xs) (zeros-first w n (omega arith))

zeros-whole : (w n : ℕ) → w ≤ n → replicate w (pos 0) ++ drop w (replicate n (pos 0)) ≡ replicate n (pos 0)
zeros-whole zero n h = refl
zeros-whole (suc w) zero h = absurd (omega arith)
zeros-whole (suc w) (suc n) h = ap (λ (xs : List ℤ). pos 0 ∷ xs) (zeros-whole w n (omega arith))

zeros-left : (w n : ℕ) → w ≤ n → w + length (drop w (replicate n (pos 0))) ≡ n
zeros-left zero n h = omega (arith, length-replicate n (pos 0))
zeros-left (suc w) zero h = absurd (omega arith)
zeros-left (suc w) (suc n) h = omega (arith, zeros-left w n (omega arith))

module _ {sums : List ℤ} (fresh : Fresh sums) where
  pub fresh-length : length sums ≡ 17
  fresh-length = ap length fresh.zeros ∙ length-replicate 17 (pos 0)

  module _ (w : ℕ) (few : w ≤ 17) where
    pub fresh-part : take w sums ≡ replicate w (pos 0)
    fresh-part = ap (take w) fresh.zeros ∙ zeros-first w 17 few

    pub fresh-wide : w ≡ length (take w sums)
    fresh-wide = sym (ap length fresh-part ∙ length-replicate w (pos 0))

    pub fresh-again : (part : List ℤ) → part ≡ replicate w (pos 0) → Fresh (part ++ drop w sums)
    fresh-again part e = record { zeros = ap₂ (λ (xs ys : List ℤ). xs ++ drop w ys) e fresh.zeros ∙ zeros-whole w 17 few }

    pub fresh-long : (part : List ℤ) → length part ≡ w → length (part ++ drop w sums) ≡ 17
    fresh-long part e =
        length-append part (drop w sums)
        ∙ ap₂ ◌+◌ e (ap (λ (xs : List ℤ). length (drop w xs)) fresh.zeros)
        ∙ zeros-left w 17 few

-- a table without segments
pub no-segments : (table : List ℕ) → end_of table 0 ≡ 0 → Stacked table 0
no-segments table e = record { first = e; ascending = λ g a b. absurd (omega (arith, a, b)); small = λ g h. low g h }
  where
    low : (g : ℕ) → g ≤ 0 → end_of table g ≤ 16 * g
    low zero h = omega (arith, e)
    low (suc g) h = absurd (omega (arith, h))
