-- The lent slice of a run from step to step: new values are read behind those before, the step is tested, and they take the place of those
-- before. Assumes nothing.
use mathlib.Core.Path.{◌≡◌, sym, ap, ◌∙◌}
use mathlib.Core.List.{List, [], ◌++◌, append-nil}
use Prim.Native.Nat.{ℕ, ◌+◌, ◌*◌, ◌-◌, ◌^◌, ◌≤◌, ◌<◌}
use native.Mathlib.Decide.{dec_le}
use native.Mathlib.Omega.{arith}
use lib.IntN.{ℤ, pos, nat_abs}
use lib.ListN.{length, get_or, take, drop, length-append, length-drop, drop_of_length-le}
use lib.Seq.{length-take-le, take_at, drop_at, take-take, take-add, get_or-take, get_or-drop}
use Rattle.farkas.specs.Rows.{item}
use Rattle.models.specs.Index.{entry}
use Rattle.second_sheets.specs.RunAnswers.{KeptValues}
use Rattle.steps.specs.Held.{per_variable, state_of, state_in, SmallValues, SmallState}

-- a slice whose part from n on was lent, and has new numbers
pub record Lent (n : ℕ) (before after new : List ℤ) : Type 0 where
  pub front : take n after ≡ take n before
  pub rest : drop n after ≡ new
  pub whole : length after ≡ length before

pub lent_back : (n k : ℕ) (xs ys : List ℤ) → k ≡ n → n ≤ length xs → length ys ≡ length (take (length xs - k) (drop k xs)) → Lent n xs (take k xs ++ (ys ++ drop (length xs - k) (drop k xs))) ys
lent_back n k xs ys e h l =
    let first : length (take k xs) ≡ n = length-take-le k xs (omega arith) ∙ e in
    let same : length ys ≡ length xs - k = l ∙ length-take-le (length xs - k) (drop k xs) (omega (arith, length-drop k xs)) in
    let none : drop (length xs - k) (drop k xs) ≡ [] = drop_of_length-le (drop k xs) {i = length xs - k} (omega (arith, length-drop k xs)) in
    let parts : take k xs ++ (ys ++ drop (length xs - k) (drop k xs)) ≡ take k xs ++ ys = ap (λ zs. take k xs ++ (ys ++ zs)) none ∙ ap (λ zs. take k xs ++ zs) (append-nil ys) in
    record {
      front = ap (take n) parts ∙ take_at (take k xs) ys n first ∙ ap (λ (i : ℕ). take i xs) e;
      rest = ap (drop n) parts ∙ drop_at (take k xs) ys n first;
      whole = ap length parts ∙ length-append (take k xs) ys ∙ sum (length (take k xs)) (length ys) first same e h;
    }
  where
    sum : (a b : ℕ) → a ≡ n → b ≡ length xs - k → k ≡ n → n ≤ length xs → a + b ≡ length xs
    sum a b p q e h = omega arith

-- values before and after are small
module _ {n : ℕ} {before after new : List ℤ} (l : Lent n before after new) (old : SmallValues n before) (young : SmallValues n new) where
  both_at : (i : ℕ) → i < 2 * n → Dec (n ≤ i) → nat_abs (item after i) ≤ 2 ^ 27
  unfolding item
  both_at i h (no f) =
      let k : i < n = omega arith in
      rw (sym (get_or-take n after i (pos 0) k) ∙ ap (λ xs. get_or xs i (pos 0)) l.front ∙ get_or-take n before i (pos 0) k) (old.small i k)
  both_at i h (yes k) =
      rw (ap (λ (j : ℕ). get_or after j (pos 0)) (back i k) ∙ sym (get_or-drop n after (i - n) (pos 0)) ∙ ap (λ xs. get_or xs (i - n) (pos 0)) l.rest)
      (young.small (i - n) (omega arith))
    where
      back : (i : ℕ) → n ≤ i → i ≡ n + (i - n)
      back i k = omega arith

  both_small : 2 * n ≤ length before → SmallValues (2 * n) after
  both_small room = record { long = omega (arith, l.whole); small = λ i h. both_at i h (dec_le n i) }

pub small-state : {index : List ℕ} {before after new : List ℤ} → Lent (entry index 0) before after new → SmallValues (entry index 0) before → SmallValues (entry index 0) new → 3 * entry index 0 ≤ length before → SmallState index after
small-state l old young room = record { values = both_small l old young (omega arith); room = omega (arith, l.whole) }

-- a state has only the first numbers of a slice
pub state-kept : (model index modes : List ℕ) (xs ys : List ℤ) → take (entry index 0) xs ≡ take (entry index 0) ys → state_in model index modes xs ≡ state_in model index modes ys
unfolding state_of per_variable
state-kept model index modes xs ys e = ap (λ values. record { location = (state_in model index modes []).location; values = values }) e

-- a test of the step leaves the values before and after as they were
module _ (n : ℕ) {until : ℕ} {xs ys : List ℤ} (k : KeptValues (2 * n) until xs ys) where
  pub kept-before : take n ys ≡ take n xs
  kept-before = sym (take-take n (2 * n) ys (omega arith)) ∙ ap (take n) k.front ∙ take-take n (2 * n) xs (omega arith)

  pub kept-after : 2 * n ≤ length xs → length ys ≡ length xs → take n (drop n ys) ≡ take n (drop n xs)
  kept-after room same =
      sym (behind ys (omega arith)) ∙ ap (drop n) k.front ∙ behind xs room
    where
      twice : (n : ℕ) → 2 * n ≡ n + n
      twice n = omega arith

      behind : (zs : List ℤ) → 2 * n ≤ length zs → drop n (take (2 * n) zs) ≡ take n (drop n zs)
      behind zs h =
          ap (λ (i : ℕ). drop n (take i zs)) (twice n)
          ∙ ap (drop n) (take-add n n zs)
          ∙ drop_at (take n zs) (take n (drop n zs)) n (length-take-le n zs (omega arith))

-- the first numbers of a slice are small where they are those of a slice with small ones
pub small-first : {n : ℕ} {xs ys : List ℤ} → take n xs ≡ take n ys → n ≤ length xs → SmallValues n ys → SmallValues n xs
unfolding item
small-first {n} {xs} {ys} e long v =
    record { long = long; small = λ i h. rw (sym (get_or-take n xs i (pos 0) h) ∙ ap (λ zs. get_or zs i (pos 0)) e ∙ get_or-take n ys i (pos 0) h) (v.small i h) }
