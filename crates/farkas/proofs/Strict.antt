-- What strict rows change in Farkas' condition (02, order 8), in the order's own words, and that they change nothing else: where no row that
-- is used is strict and the goal is not, the condition is 01's word for word, so that a sum of 0 at k = 0 stays refused. Assumes nothing.
use mathlib.Core.Path.{◌≡◌, refl, ap, ap₂, ◌∙◌}
use mathlib.Core.Logic.{◌↔◌, ◌⊎◌, inl, inr, ⊎_elim}
use mathlib.Core.Bool.{Bool, true, false, not, ◌&&◌, ◌||◌}
use mathlib.Core.List.{List, [], ◌∷◌}
use Prim.Native.Nat.{ℕ, ◌≤◌}
use native.Mathlib.Omega.{arith}
use lib.Dec.{T}
use lib.IntN.{ℤ, pos, ◌*ℤ◌}
use lib.ListN.{get_or}
use lib.Signed.{lt_z, lt_z_no, ◌≤ℤ◌, ◌<ℤ◌}
use Rattle.farkas.specs.Rows.{Row, Compared, zero_row}
use Rattle.farkas.specs.Lists.{All, none, more, some}
use Rattle.farkas.specs.Farkas.{Entry, Proof, Agree, counts, strict_part, sum_at, bound_sum, strict_sum, SumsMeet, PlainMeet, Meets}
use Rattle.farkas.proofs.All.{all-at}
use Rattle.farkas.proofs.Order.{≤-antisym, ≤-of-≡}
use Rattle.farkas.proofs.Comparing.{<-most, counts-never}

-- Below, or equal where a strict row is among the summed
or-equal : (strict : Bool) (a b : ℤ) → Compared (not strict) a b ↔ ((a <ℤ b) ⊎ ((a ≡ b) × T strict))
or-equal true a b = (there, back)
  where
    there : Compared false a b → (a <ℤ b) ⊎ ((a ≡ b) × T true)
    there c = go (lt_z a b) refl
      where
        go : (less : Bool) → lt_z a b ≡ less → (a <ℤ b) ⊎ ((a ≡ b) × T true)
        go true e = inl (record { lt = rw e tt })
        go false e = inr (≤-antisym a b c.most (lt_z_no (rw e tt)), tt)

    back : (a <ℤ b) ⊎ ((a ≡ b) × T true) → Compared false a b
    back = ⊎_elim
        (λ h. record { most = <-most a b h; below = λ u. absurd u })
        (λ h. record { most = ≤-of-≡ a b h.0; below = λ u. absurd u })
or-equal false a b =
    (λ c. inl (c.below tt), ⊎_elim (λ h. record { most = <-most a b h; below = λ u. h }) (λ h. absurd h.1))

-- "At k = 0 .. below 0. .. a summed bound of 0 also passes if a strict hypothesis has an entry"
pub at_zero :
    (sums : ℕ → ℤ) (s : ℤ) (strict : Bool) (goal : Row)
    → SumsMeet 0 sums s strict goal ↔ (Agree 0 sums goal.coefficients × ((s <ℤ pos 0) ⊎ ((s ≡ pos 0) × T strict)))
at_zero sums s strict goal = (
  λ m. (m.coefficients, (or-equal strict s (pos 0)).0 (m.below refl)),
  λ h. record { coefficients = h.0; bound = λ k. absurd (omega arith); below = λ e. (or-equal strict s (pos 0)).1 h.1 },
)

-- At k from 1, a goal that is met by a comparison strict or not
at-goal :
    (k : ℕ) (sums : ℕ → ℤ) (s : ℤ) (strict must : Bool) (goal : Row) → 1 ≤ k → (goal.strict && not strict) ≡ must
    → SumsMeet k sums s strict goal ↔ (Agree k sums goal.coefficients × Compared must s (pos k *ℤ goal.bound))
at-goal k sums s strict must goal positive mark = (
  λ m. (m.coefficients, rw mark at (m.bound positive)),
  λ h. record { coefficients = h.0; bound = λ p. rw mark h.1; below = λ e. absurd (omega arith) },
)

-- "A strict goal at k from 1 needs the summed bound below k times its own, or equal with such an entry"
pub strict-goal :
    (k : ℕ) (sums : ℕ → ℤ) (s : ℤ) (strict : Bool) (goal : Row) → 1 ≤ k → goal.strict ≡ true
    → SumsMeet k sums s strict goal
    ↔ (Agree k sums goal.coefficients × ((s <ℤ (pos k *ℤ goal.bound)) ⊎ ((s ≡ pos k *ℤ goal.bound) × T strict)))
strict-goal k sums s strict goal positive must =
    let w = at-goal k sums s strict (not strict) goal positive (ap (λ b. b && not strict) must) in
    let v = or-equal strict s (pos k *ℤ goal.bound) in
    (λ m. ((w.0 m).0, v.0 (w.0 m).1), λ h. w.1 (h.0, v.1 h.1))

-- a goal that is not strict needs what 01 asks, whatever is strict among the summed
pub plain-goal :
    (k : ℕ) (sums : ℕ → ℤ) (s : ℤ) (strict : Bool) (goal : Row) → 1 ≤ k → goal.strict ≡ false
    → SumsMeet k sums s strict goal ↔ (Agree k sums goal.coefficients × (s ≤ℤ (pos k *ℤ goal.bound)))
plain-goal k sums s strict goal positive must =
    let w = at-goal k sums s strict false goal positive (ap (λ b. b && not strict) must) in
    (λ m. ((w.0 m).0, (w.0 m).1.most), λ h. w.1 (h.0, record { most = h.1; below = λ u. absurd u }))

-- Where nothing is strict the condition is 01's
pub sums-plain : (k : ℕ) (sums : ℕ → ℤ) (summed_bound : ℤ) (strict : Bool) (goal : Row) → strict ≡ false → goal.strict ≡ false → SumsMeet k sums summed_bound strict goal ↔ PlainMeet k sums summed_bound goal
sums-plain k sums summed_bound strict goal entry goals = (there, back)
  where
    below-yes : T (not strict)
    below-yes = rw entry tt

    below-no : T (goal.strict && not strict) → ⊥
    below-no t = rw goals at t

    there : SumsMeet k sums summed_bound strict goal → PlainMeet k sums summed_bound goal
    there m = (m.coefficients, (λ p. (m.bound p).most, λ e. (m.below e).below below-yes))

    back : PlainMeet k sums summed_bound goal → SumsMeet k sums summed_bound strict goal
    back h =
        record {
          coefficients = h.0;
          bound = λ p. record { most = h.1.0 p; below = λ t. absurd (below-no t) };
          below = λ e. record { most = <-most summed_bound (pos 0) (h.1.1 e); below = λ t. h.1.1 e };
        }

-- Entries whose hypotheses are not strict make no strict sum
plain-part : (hypotheses : List Row) (e : Entry) → (get_or hypotheses e.hypothesis zero_row).strict ≡ false → strict_part hypotheses e ≡ false
unfolding strict_part
plain-part hypotheses e h = ap (counts e.multiplier) h ∙ counts-never e.multiplier

pub none-strict : (hypotheses : List Row) (es : List Entry) → All (λ e. (get_or hypotheses e.hypothesis zero_row).strict ≡ false) es → strict_sum hypotheses es ≡ false
unfolding strict_sum some
none-strict hypotheses [] none = refl
none-strict hypotheses (e ∷ es) (more h rest) = ap₂ (λ a b. a || b) (plain-part hypotheses e h) (none-strict hypotheses es rest)

-- Where no hypothesis that is used is strict and the goal is not, a proof meets the condition exactly where it meets 01's
pub meets-plain :
    (hypotheses : List Row) (goal : Row) (p : Proof) → All (λ e. (get_or hypotheses e.hypothesis zero_row).strict ≡ false) p.entries → goal.strict ≡ false
    → Meets hypotheses goal p ↔ PlainMeet p.k (sum_at hypotheses p.entries) (bound_sum hypotheses p.entries) goal
unfolding Meets
meets-plain hypotheses goal p used goals =
    sums-plain p.k (sum_at hypotheses p.entries) (bound_sum hypotheses p.entries) (strict_sum hypotheses p.entries) goal (none-strict hypotheses p.entries used) goals

-- as where no hypothesis is strict at all
pub none-used : (hypotheses : List Row) (es : List Entry) → All (λ r. r.strict ≡ false) hypotheses → All (λ e. (get_or hypotheses e.hypothesis zero_row).strict ≡ false) es
unfolding zero_row
none-used hypotheses [] h = none
none-used hypotheses (e ∷ es) h = more (all-at zero_row refl h e.hypothesis) (none-used hypotheses es h)
