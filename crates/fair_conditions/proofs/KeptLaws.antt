-- Kept numbers: one more kept before others, and what else stays. Assumes nothing.
use mathlib.Core.Path.{◌≡◌, refl, sym, ap, ap₂, ◌∙◌, subst}
use mathlib.Core.Bool.{false}
use mathlib.Core.List.{List, ◌∷◌, map}
use Prim.Native.Nat.{ℕ, zero, suc, ◌+◌, ◌*◌, ◌-◌, ◌≤◌, ◌<◌}
use native.Mathlib.Omega.{arith}
use lib.IntN.{ℤ}
use lib.ListN.{length, get_or, set, length-set}
use lib.Seq.{get_or-set_same, get_or-set_other}
use Rattle.farkas.specs.Words.{signed_at, numbers_at}
use Rattle.fair_rows.specs.FairRows.{quotient}
use Rattle.fair_conditions.specs.Held.{lowered, kept_numbers, kept_row}
use Rattle.fair_conditions.proofs.CommonLaws.{numbers-before, numbers-none}
use Rattle.fair_conditions.proofs.SortLaws.{left-numbers}

-- numbers of which none has changed
pub numbers-alike : (before after : List ℕ) (p n : ℕ) → ((i : ℕ) → p ≤ i → i < p + n → get_or after i 0 ≡ get_or before i 0) → kept_numbers after p n ≡ kept_numbers before p n
unfolding kept_numbers
numbers-alike before after p zero f = refl
numbers-alike before after p (suc n) f =
    ap₂ (λ (x : ℤ) (xs : List ℤ). x ∷ xs) (ap lowered (f p (omega arith) (omega arith))) (numbers-alike before after (p + 1) n (λ i h l. f i (omega arith) (omega arith)))

-- Numbers kept so far: those from place i on are divided, and nothing outside has changed
pub record Kept (s : List ℕ) (at count divisor base : ℕ) (before after : List ℕ) (i : ℕ) : Type 0 where
  pub few : i ≤ count
  pub long : length after ≡ length before
  pub numbers : kept_numbers after (base + i) (count - i) ≡ map (quotient divisor) (numbers_at s (at + 4 * i) (count - i))
  pub outside : (j : ℕ) → (base + i ≤ j → j < base + count → ⊥) → get_or after j 0 ≡ get_or before j 0

module _ (s : List ℕ) (at count divisor base : ℕ) (before : List ℕ) where
  pub kept-starts : Kept s at count divisor base before before count
  unfolding kept_numbers
  kept-starts = record {
    few = omega arith;
    long = refl;
    numbers = ap (kept_numbers before (base + count)) (nought count) ∙ sym (ap (map (quotient divisor)) (numbers-none s (at + 4 * count) count));
    outside = λ j h. refl;
  }
    where
      nought : (count : ℕ) → count - count ≡ 0
      nought count = omega arith

  pub kept-goes-on : (after : List ℕ) (i j v : ℕ) → i ≡ j + 1 → base + count ≤ length before → lowered v ≡ quotient divisor (signed_at s (at + 4 * j)) → Kept s at count divisor base before after i → Kept s at count divisor base before (set after (base + j) v) j
  kept-goes-on after i j v e room q k =
      let inside : base + j < length after = omega (arith, k.long, k.few) in
      let rest : kept_numbers (set after (base + j) v) (base + (j + 1)) (count - (j + 1)) ≡ map (quotient divisor) (numbers_at s (at + 4 * (j + 1)) (count - (j + 1)))
      = numbers-alike after (set after (base + j) v) (base + (j + 1)) (count - (j + 1)) (λ x h l. get_or-set_other after (base + j) x v 0 (λ z. omega (arith, z)))
      ∙ subst (λ (x : ℕ). kept_numbers after (base + x) (count - x) ≡ map (quotient divisor) (numbers_at s (at + 4 * x) (count - x))) e k.numbers in
      record {
        few = omega (arith, k.few);
        long = length-set after (base + j) v ∙ k.long;
        numbers =
            left-numbers (set after (base + j) v) base j count (omega (arith, k.few))
            ∙ ap₂ (λ (x : ℤ) (xs : List ℤ). x ∷ xs) (ap lowered (get_or-set_same after (base + j) v 0 inside) ∙ q) rest
            ∙ sym (ap (map (quotient divisor)) (numbers-before s at count j (omega (arith, k.few))));
        outside = λ x h. get_or-set_other after (base + j) x v 0 (λ z. h (omega (arith, z)) (omega (arith, z, k.few))) ∙ k.outside x (λ a b. h (omega arith) b);
      }

-- a row of which no number has changed
pub row-alike : (before after : List ℕ) (n k : ℕ) → ((i : ℕ) → 17 * k ≤ i → i < 17 * k + (n + 1) → get_or after i 0 ≡ get_or before i 0) → kept_row after n k ≡ kept_row before n k
unfolding kept_row
row-alike before after n k f =
    let numbers = numbers-alike before after (17 * k) n (λ i h l. f i h (omega arith)) in
    let bound : lowered (get_or after (17 * k + n) 0) ≡ lowered (get_or before (17 * k + n) 0) = ap lowered (f (17 * k + n) (omega arith) (omega arith)) in
    ap₂ (λ (xs : List ℤ) (b : ℤ). record { coefficients = xs; bound = b; strict = false }) numbers bound
