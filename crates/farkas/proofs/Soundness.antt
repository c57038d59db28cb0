-- A proof that meets Farkas' condition is sound: where its hypotheses hold, at any point and over any q of at least 1, its goal
-- holds too, and with k = 0 they cannot all hold. A multiple of a row that holds, added to sums that hold, leaves sums that hold;
-- so do all the entries; what is left is the last comparison. Assumes nothing.
use mathlib.Core.Path.{◌≡◌, sym, ap, ◌∙◌}
use mathlib.Core.Logic.{◌↔◌}
use mathlib.Core.Bool.{Bool, true, false, not, ◌&&◌, ◌||◌}
use mathlib.Core.List.{List, [], ◌∷◌}
use Prim.Native.Nat.{ℕ, ◌≤◌}
use native.Mathlib.Omega.{arith}
use lib.Dec.{T}
use lib.IntN.{ℤ, pos, ◌+ℤ◌, ◌*ℤ◌, +ℤ_idl, zero-*ℤ}
use lib.ListN.{get_or}
use lib.Signed.{≤ℤ_refl, clash_ℤ}
use Rattle.farkas.specs.Rows.{Row, Holds, Compared, item, dot, row_holds, zero_row}
use Rattle.farkas.specs.Farkas.{Entry, Proof, Agree, plus, strict_after, add_row, add_entry, add_entries, summed, SumsMeet, Meets}
use Rattle.farkas.proofs.Integers.{split, by_parts, *-assoc, +-*}
use Rattle.farkas.proofs.Order.{plus-nothing}
use Rattle.farkas.proofs.Comparing.{compared-means, compared-+, compared-*, compared-times, compared-cancel, compared-trans, compared-weaker}
use Rattle.farkas.specs.Lists.{All}
use Rattle.farkas.proofs.All.{all-at}
use Rattle.farkas.proofs.Test.{item-plus}
use Rattle.farkas.proofs.Alike.{dot-items}
use Rattle.farkas.proofs.Entries.{sums-worked, held-meets}

-- a sum's product with a point
first : (m : ℕ) (a p d : ℤ) → (pos m *ℤ a) *ℤ p +ℤ (pos 0 +ℤ pos m *ℤ d) ≡ pos 0 +ℤ pos m *ℤ (a *ℤ p +ℤ d)
first m a p d = rw (split a, split p, split d) (simp by_parts (omega arith))

next : (m : ℕ) (s a p c d : ℤ) → (s +ℤ pos m *ℤ a) *ℤ p +ℤ (c +ℤ pos m *ℤ d) ≡ (s *ℤ p +ℤ c) +ℤ pos m *ℤ (a *ℤ p +ℤ d)
next m s a p c d = rw (split s, split a, split p, split c, split d) (simp by_parts (omega arith))

pub dot-plus : (m : ℕ) (ss xs ps : List ℤ) → dot (plus m ss xs) ps ≡ dot ss ps +ℤ pos m *ℤ dot xs ps
unfolding dot plus
dot-plus m ss [] ps = plus-nothing (dot ss ps) m
dot-plus m [] (a ∷ xs) [] = plus-nothing (pos 0) m
dot-plus m [] (a ∷ xs) (p ∷ ps) = ap (λ c. (pos m *ℤ a) *ℤ p +ℤ c) (dot-plus m [] xs ps) ∙ first m a p (dot xs ps)
dot-plus m (s ∷ ss) (a ∷ xs) [] = plus-nothing (pos 0) m
dot-plus m (s ∷ ss) (a ∷ xs) (p ∷ ps) =
    ap (λ c. (s +ℤ pos m *ℤ a) *ℤ p +ℤ c) (dot-plus m ss xs ps) ∙ next m s a p (dot ss ps) (dot xs ps)

-- k times a row has k times its product: it is the sum of that row alone
pub dot-multiple : (k : ℕ) (ss gs ps : List ℤ) → Agree k (item ss) gs → dot ss ps ≡ pos k *ℤ dot gs ps
unfolding dot item
dot-multiple k ss gs ps h =
    dot-items ss (plus k [] gs) ps (λ i. h i ∙ sym (item-plus k [] gs i ∙ +ℤ_idl (pos k *ℤ item gs i)))
    ∙ dot-plus k [] gs ps
    ∙ +ℤ_idl (pos k *ℤ dot gs ps)

-- At a point x over q
module _ (q : ℕ) (x : List ℤ) where
  pub holds-means : (r : Row) → Holds q x r ↔ Compared r.strict (dot r.coefficients x) (r.bound *ℤ pos q)
  unfolding row_holds
  holds-means r = compared-means r.strict (dot r.coefficients x) (r.bound *ℤ pos q)

  pub zero-row-holds : Holds q x zero_row
  unfolding zero_row dot
  zero-row-holds = (holds-means zero_row).1 (record { most = rw (zero-*ℤ (pos q)) (≤ℤ_refl (pos 0)); below = λ t. absurd t })

  pub add-row-holds : (sums : Row) (m : ℕ) (r : Row) → Holds q x sums → Holds q x r → Holds q x (add_row sums m r)
  unfolding add_row strict_after
  add-row-holds sums m r s h =
      (holds-means (add_row sums m r)).1
      (rw (dot-plus m sums.coefficients r.coefficients x, +-* sums.bound (pos m *ℤ r.bound) (pos q), *-assoc (pos m) r.bound (pos q))
      (compared-+ ((holds-means sums).0 s) (compared-* m ((holds-means r).0 h))))

  -- hypotheses that hold
  module _ (hypotheses : List Row) (holds : (i : ℕ) → Holds q x (get_or hypotheses i zero_row)) where
    pub add-entries-holds : (es : List Entry) (sums : Row) → Holds q x sums → Holds q x (add_entries hypotheses sums es)
    unfolding add_entries add_entry
    add-entries-holds [] sums s = s
    add-entries-holds (e ∷ es) sums s =
        let r = get_or hypotheses e.hypothesis zero_row in
        add-entries-holds es (add_row sums e.multiplier r) (add-row-holds sums e.multiplier r s (holds e.hypothesis))

    pub summed-holds : (es : List Entry) → Holds q x (summed hypotheses es)
    unfolding summed
    summed-holds es = add-entries-holds es zero_row zero-row-holds

  -- sums that hold and meet the condition
  module _ (k : ℕ) (sums goal : Row) (meet : SumsMeet k (item sums.coefficients) sums.bound sums.strict goal) (s : Holds q x sums) where
    multiple : dot sums.coefficients x ≡ pos k *ℤ dot goal.coefficients x
    multiple = dot-multiple k sums.coefficients goal.coefficients x meet.coefficients

    -- a strict goal is met strictly by the sums, or else by its bound
    one-strict : (strict must : Bool) → T must → T (strict || (must && not strict))
    one-strict true must t = tt
    one-strict false true t = tt
    one-strict false false t = t

    pub goal-holds : 1 ≤ q → 1 ≤ k → Holds q x goal
    goal-holds positive h =
        (holds-means goal).1
        (compared-cancel k h
        (rw (← multiple, ← *-assoc (pos k) goal.bound (pos q))
        (compared-weaker (one-strict sums.strict goal.strict)
        (compared-trans ((holds-means sums).0 s) (compared-times q positive (meet.bound h))))))

    -- at k = 0 the sums are strict, or else their bound is below 0: either way 0 would be below 0
    nothing_left : (strict : Bool) → T (strict || not strict)
    nothing_left true = tt
    nothing_left false = tt

    pub none-there : 1 ≤ q → k ≡ 0 → ⊥
    none-there h e =
        let g = dot goal.coefficients x in
        let zero-sum : dot sums.coefficients x ≡ pos 0 = multiple ∙ ap (λ n. pos n *ℤ g) e ∙ zero-*ℤ g in
        let w = compared-trans ((holds-means sums).0 s) (compared-times q h (meet.below e)) in
        clash_ℤ (rw (zero-sum, zero-*ℤ (pos q)) at (w.below (nothing_left sums.strict))) (≤ℤ_refl (pos 0))

-- A proof that meets the condition, at a point x over q where its hypotheses hold: at every place, or as a list
module _ (hypotheses : List Row) (goal : Row) (p : Proof) (meets : Meets hypotheses goal p) (x : List ℤ) (q : ℕ) (positive : 1 ≤ q) where
  pub sound-at : ((i : ℕ) → Holds q x (get_or hypotheses i zero_row)) → (1 ≤ p.k → Holds q x goal) × (p.k ≡ 0 → ⊥)
  unfolding Meets
  sound-at h =
      let sums = summed hypotheses p.entries in
      let met = (held-meets p.k goal (sums-worked hypotheses p.entries)).1 meets in
      let s = summed-holds q x hypotheses h p.entries in
      (goal-holds q x p.k sums goal met s positive, none-there q x p.k sums goal met s positive)

  pub sound : All (Holds q x) hypotheses → (1 ≤ p.k → Holds q x goal) × (p.k ≡ 0 → ⊥)
  sound h = sound-at (all-at zero_row (zero-row-holds q x) h)

  pub sound-unsafe : p.k ≡ 0 → ¬ All (Holds q x) hypotheses
  sound-unsafe e h = (sound h).1 e
