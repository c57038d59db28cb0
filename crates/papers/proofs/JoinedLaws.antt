-- Lists joined for the numbers from one on: a turn, the end, the whole. Assumes nothing.
use mathlib.Core.Path.{◌≡◌, sym, ap, ◌∙◌}
use mathlib.Core.List.{List, [], ◌++◌}
use Prim.Native.Nat.{ℕ, suc, ◌+◌, ◌-◌, ◌≤◌, ◌<◌}
use native.Mathlib.Nat.{sub-zero}
use native.Mathlib.Numerals.{add-one}
use native.Mathlib.Omega.{arith}
use Rattle.formats.specs.Joint.{count_up, join_all}

-- what a loop over numbers has still to push
abbrev pub joined_on : {B : Type 0} → (ℕ → List B) → ℕ → ℕ → List B
joined_on f n i = join_all f (count_up i (n - i))

pub joined-first : {B : Type 0} (f : ℕ → List B) (n i : ℕ) → i < n → joined_on f n i ≡ f i ++ joined_on f n (i + 1)
unfolding join_all count_up
joined-first f n i h =
    ap (λ (k : ℕ). join_all f (count_up i k)) (one_less i n h) ∙ ap (λ (j : ℕ). f i ++ join_all f (count_up j (n - (i + 1)))) (sym (add-one i))
  where
    one_less : (i n : ℕ) → i < n → n - i ≡ suc (n - (i + 1))
    one_less i n h = omega arith

pub joined-none : {B : Type 0} (f : ℕ → List B) (n i : ℕ) → n ≤ i → joined_on f n i ≡ []
unfolding join_all count_up
joined-none f n i h = ap (λ (k : ℕ). join_all f (count_up i k)) (nothing i n h)
  where
    nothing : (i n : ℕ) → n ≤ i → n - i ≡ 0
    nothing i n h = omega arith

pub joined-whole : {B : Type 0} (f : ℕ → List B) (n : ℕ) → joined_on f n 0 ≡ join_all f (count_up 0 n)
joined-whole f n = ap (λ (k : ℕ). join_all f (count_up 0 k)) (sub-zero n)
