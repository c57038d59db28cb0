-- What entries sum to, at each unknown and for the bound, and what the number of a proof's test says of it. The sums do not depend on the
-- order of the entries; worked out entry by entry they are the same (`sums-worked`, the one law from the definition to the fold); one entry
-- more adds its part at every unknown and to the bound, and makes the sums strict where its row is. Assumes nothing.
use mathlib.Core.Path.{◌≡◌, refl, sym, ap, ◌∙◌, subst}
use mathlib.Core.Logic.Iff
use mathlib.Core.Logic.{◌↔◌, ◌≢◌, ◌⊎◌}
use mathlib.Core.Bool.{Bool, true, false, ◌||◌}
use mathlib.Core.List.{List, [], ◌∷◌, ◌++◌, append_assoc}
use Prim.Native.Nat.{ℕ}
use lib.IntN.{ℤ, pos, ◌+ℤ◌, ◌*ℤ◌, +ℤ_idl, +ℤ_idr, +ℤ_assoc, +ℤ_comm}
use lib.ListN.{get_or, replicate}
use Rattle.farkas.specs.Rows.{Row, Alike, item, row_of, zero_row}
use Rattle.farkas.specs.Lists.{some}
use Rattle.farkas.specs.Farkas.{Entry, Proof, Agree, BoundMet, strict_after, add_row, add_entry, add_entries, summed, part_at, bound_part, strict_part, total, sum_at, bound_sum, strict_sum, SumsOf, SumsMeet, Meets, sums_test, farkas_test}
use Rattle.farkas.proofs.Test as test
use Rattle.farkas.proofs.Alike.{alike_refl, alike-sym, alike-padded, alike-test}

-- Entries in two parts, and one entry more: the parts, added
total-parts : (part : Entry → ℤ) (es fs : List Entry) → total part (es ++ fs) ≡ total part es +ℤ total part fs
unfolding total
total-parts part [] fs = sym (+ℤ_idl (total part fs))
total-parts part (e ∷ es) fs = ap (λ s. part e +ℤ s) (total-parts part es fs) ∙ sym (+ℤ_assoc (part e) (total part es) (total part fs))

total-next : (part : Entry → ℤ) (es : List Entry) (e : Entry) → total part (es ++ (e ∷ [])) ≡ total part es +ℤ part e
unfolding total
total-next part es e = total-parts part es (e ∷ []) ∙ ap (λ s. total part es +ℤ s) (+ℤ_idr (part e))

-- Any part may come first, so that entries may stand in any order
total_first : (part : Entry → ℤ) (es fs gs : List Entry) → total part (es ++ (fs ++ gs)) ≡ total part (fs ++ (es ++ gs))
total_first part es fs gs = in_parts es fs ∙ swapped (total part es) (total part fs) (total part gs) ∙ sym (in_parts fs es)
  where
    in_parts : (xs ys : List Entry) → total part (xs ++ (ys ++ gs)) ≡ total part xs +ℤ (total part ys +ℤ total part gs)
    in_parts xs ys = total-parts part xs (ys ++ gs) ∙ ap (λ s. total part xs +ℤ s) (total-parts part ys gs)

    swapped : (a b c : ℤ) → a +ℤ (b +ℤ c) ≡ b +ℤ (a +ℤ c)
    swapped a b c = sym (+ℤ_assoc a b c) ∙ ap (λ s. s +ℤ c) (+ℤ_comm a b) ∙ +ℤ_assoc b a c

-- The same of a test that some entry passes
or_assoc : (a b c : Bool) → ((a || b) || c) ≡ (a || (b || c))
or_assoc true b c = refl
or_assoc false b c = refl

or-none : (a : Bool) → (a || false) ≡ a
or-none true = refl
or-none false = refl

some-parts : (f : Entry → Bool) (es fs : List Entry) → some f (es ++ fs) ≡ (some f es || some f fs)
unfolding some
some-parts f [] fs = refl
some-parts f (e ∷ es) fs = ap (λ b. f e || b) (some-parts f es fs) ∙ sym (or_assoc (f e) (some f es) (some f fs))

some_next : (f : Entry → Bool) (es : List Entry) (e : Entry) → some f (es ++ (e ∷ [])) ≡ (some f es || f e)
unfolding some
some_next f es e = some-parts f es (e ∷ []) ∙ ap (λ b. some f es || b) (or-none (f e))

some_first : (f : Entry → Bool) (es fs gs : List Entry) → some f (es ++ (fs ++ gs)) ≡ some f (fs ++ (es ++ gs))
some_first f es fs gs = in_parts es fs ∙ swapped (some f es) (some f fs) (some f gs) ∙ sym (in_parts fs es)
  where
    in_parts : (xs ys : List Entry) → some f (xs ++ (ys ++ gs)) ≡ (some f xs || (some f ys || some f gs))
    in_parts xs ys = some-parts f xs (ys ++ gs) ∙ ap (λ b. some f xs || b) (some-parts f ys gs)

    swapped : (a b c : Bool) → (a || (b || c)) ≡ (b || (a || c))
    swapped true true c = refl
    swapped true false c = refl
    swapped false b c = refl

pub any-first : (hs : List Row) (es fs gs : List Entry) {r : Row} → SumsOf hs (es ++ (fs ++ gs)) r → SumsOf hs (fs ++ (es ++ gs)) r
unfolding sum_at bound_sum strict_sum
any-first hs es fs gs h =
    record {
      coefficient = λ i. h.coefficient i ∙ total_first (λ e. part_at hs e i) es fs gs;
      bound = h.bound ∙ total_first (bound_part hs) es fs gs;
      strict = h.strict ∙ some_first (strict_part hs) es fs gs;
    }

-- No entry: all sums are 0, in a row of none or of so many coefficients
no-sums : (hs : List Row) → SumsOf hs [] zero_row
unfolding zero_row item sum_at bound_sum strict_sum total some
no-sums hs = record { coefficient = λ i. refl; bound = refl; strict = refl }

-- A row that differs only in zeros at the end holds the same sums
pub alike-sums : {hs : List Row} {es : List Entry} {r s : Row} → Alike r s → SumsOf hs es r → SumsOf hs es s
alike-sums a h = record { coefficient = λ i. sym (a.coefficient i) ∙ h.coefficient i; bound = sym a.bound ∙ h.bound; strict = sym a.strict ∙ h.strict }

pub none-summed : (hs : List Row) (n : ℕ) → SumsOf hs [] (row_of (replicate n (pos 0)) (pos 0))
unfolding zero_row
none-summed hs n = alike-sums (alike-sym (alike-padded n [] (pos 0) false)) (no-sums hs)

-- One entry more: its row is added as often as it says, to the sums at all unknowns and to the bound, which are strict then if it is
pub sums_next : (hs : List Row) (es : List Entry) (e : Entry) {r : Row} → SumsOf hs es r → SumsOf hs (es ++ (e ∷ [])) (add_entry hs r e)
unfolding add_entry add_row strict_after sum_at bound_sum strict_sum part_at bound_part strict_part
sums_next hs es e {r} h =
    record {
      coefficient = λ i.
          test.item-plus e.multiplier r.coefficients (get_or hs e.hypothesis zero_row).coefficients i
          ∙ ap (λ s. s +ℤ part_at hs e i) (h.coefficient i)
          ∙ sym (total-next (λ x. part_at hs x i) es e);
      bound = ap (λ s. s +ℤ bound_part hs e) h.bound ∙ sym (total-next (bound_part hs) es e);
      strict = ap (λ b. b || strict_part hs e) h.strict ∙ sym (some_next (strict_part hs) es e);
    }

-- The fold: entries worked out one after the other, onto the sums of those before
sums-onto : (hs : List Row) (es fs : List Entry) {r : Row} → SumsOf hs es r → SumsOf hs (es ++ fs) (add_entries hs r fs)
unfolding add_entries
sums-onto hs es [] {r} h = subst (λ (l : List Entry). SumsOf hs l r) (sym (append-none es)) h
  where
    append-none : (l : List Entry) → l ++ [] ≡ l
    append-none [] = refl
    append-none (e ∷ l) = ap (λ (m : List Entry). e ∷ m) (append-none l)
sums-onto hs es (e ∷ fs) {r} h =
    subst (λ (l : List Entry). SumsOf hs l (add_entries hs (add_entry hs r e) fs)) (append_assoc es (e ∷ []) fs)
    (sums-onto hs (es ++ (e ∷ [])) fs (sums_next hs es e h))

pub sums-worked : (hs : List Row) (es : List Entry) → SumsOf hs es (summed hs es)
unfolding summed
sums-worked hs es = sums-onto hs [] es (no-sums hs)

-- rows that hold the sums of the same entries are alike
pub same-sums : {hs : List Row} {es : List Entry} {r s : Row} → SumsOf hs es r → SumsOf hs es s → Alike r s
same-sums h k = record { coefficient = λ i. h.coefficient i ∙ sym (k.coefficient i); bound = h.bound ∙ sym k.bound; strict = h.strict ∙ sym k.strict }

-- Rows that hold the sums are tested as the proof is
pub held_test : (hs : List Row) (goal : Row) (p : Proof) {r : Row} → SumsOf hs p.entries r → farkas_test hs goal p ≡ sums_test p.k r goal
unfolding farkas_test
held_test hs goal p h = alike-test p.k (same-sums (sums-worked hs p.entries) h) (alike_refl goal)

-- Farkas' condition on the sums that a row holds is that on the sums of its entries
pub held-meets : {hs : List Row} {es : List Entry} {r : Row} (k : ℕ) (goal : Row) → SumsOf hs es r → SumsMeet k (item r.coefficients) r.bound r.strict goal ↔ SumsMeet k (sum_at hs es) (bound_sum hs es) (strict_sum hs es) goal
held-meets {hs} {es} {r} k goal h = (forth, back)
  where
    forth : SumsMeet k (item r.coefficients) r.bound r.strict goal → SumsMeet k (sum_at hs es) (bound_sum hs es) (strict_sum hs es) goal
    forth m = rw (← h.bound, ← h.strict) (record { coefficients = λ i. sym (h.coefficient i) ∙ m.coefficients i; bound = m.bound; below = m.below })

    back : SumsMeet k (sum_at hs es) (bound_sum hs es) (strict_sum hs es) goal → SumsMeet k (item r.coefficients) r.bound r.strict goal
    back m = rw (h.bound, h.strict) (record { coefficients = λ i. h.coefficient i ∙ m.coefficients i; bound = m.bound; below = m.below })

-- What each number of a proof's test means
module _ (hypotheses : List Row) (goal : Row) (p : Proof) where
  abbrev worked : Row
  worked = summed hypotheses p.entries

  held : SumsOf hypotheses p.entries worked
  held = sums-worked hypotheses p.entries

  pub zero-means : (farkas_test hypotheses goal p ≡ 0) ↔ Meets hypotheses goal p
  unfolding farkas_test Meets
  zero-means = Iff.trans (test.zero-means p.k worked goal) (held-meets p.k goal held)

  pub ten-means : (farkas_test hypotheses goal p ≡ 10) ↔ ((i : ℕ) × (sum_at hypotheses p.entries i ≢ pos p.k *ℤ item goal.coefficients i))
  unfolding farkas_test
  ten-means =
      Iff.trans (test.ten-means p.k worked goal)
      (λ h. (h.0, λ e. h.1 (held.coefficient h.0 ∙ e)), λ h. (h.0, λ e. h.1 (sym (held.coefficient h.0) ∙ e)))

  pub eleven-means : (farkas_test hypotheses goal p ≡ 11) ↔ (Agree p.k (sum_at hypotheses p.entries) goal.coefficients × (¬ BoundMet p.k (bound_sum hypotheses p.entries) (strict_sum hypotheses p.entries) goal.bound goal.strict))
  unfolding farkas_test
  eleven-means =
      Iff.trans (test.eleven-means p.k worked goal)
      (rw (← held.bound, ← held.strict) (λ h. (λ i. sym (held.coefficient i) ∙ h.0 i, h.1), λ h. (λ i. held.coefficient i ∙ h.0 i, h.1)))

  pub only-three : (farkas_test hypotheses goal p ≡ 0) ⊎ ((farkas_test hypotheses goal p ≡ 10) ⊎ (farkas_test hypotheses goal p ≡ 11))
  unfolding farkas_test
  only-three = test.only-three p.k worked goal
