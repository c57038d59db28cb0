-- Proofs by Farkas' lemma (01, Certificate): what a proof is, what it sums to, when it is good, and the test for that.
-- Assumes nothing.
use Rattle.std.specs.Prelude.{◌≡◌, Bool, false, not, cond, ◌&&◌, ◌||◌, List, [], ◌∷◌, Result, Ok, Err, ℕ, zero, suc, ◌≤◌, ℤ, pos, ◌+ℤ◌, ◌*ℤ◌, get_or, ◌≤ℤ◌, ◌<ℤ◌}
use Rattle.std.specs.Int.Signed.{le_z}
use Rattle.farkas.specs.declared.Mismatch.{Mismatch}
use Rattle.farkas.specs.declared.Mismatch.TheVariants.{CoefficientsDiffer, BoundFails}
use Rattle.farkas.specs.Lists.{every, some}
use Rattle.farkas.specs.Rows.{Row, Compared, item, compared, zero_row}

-- "per entry a u8 hypothesis .. and a u32 multiplier": hypotheses are numbered from 0
pub record Entry : Type 0 where
  pub hypothesis : ℕ
  pub multiplier : ℕ

-- "A proof is u32 k .. ; u8 entries"
pub record Proof : Type 0 where
  pub k : ℕ
  pub entries : List Entry

-- What an entry gives: its multiplier times the coefficient of its hypothesis at an unknown, and times the bound
unfoldable pub part_at : List Row → Entry → ℕ → ℤ
part_at hypotheses e unknown = pos e.multiplier *ℤ item (get_or hypotheses e.hypothesis zero_row).coefficients unknown

unfoldable pub bound_part : List Row → Entry → ℤ
bound_part hypotheses e = pos e.multiplier *ℤ (get_or hypotheses e.hypothesis zero_row).bound

-- what each entry gives, added up
unfoldable pub total : (Entry → ℤ) → List Entry → ℤ
total part [] = pos 0
total part (e ∷ es) = part e +ℤ total part es

-- "The multiplied hypotheses .. sum": what entries sum to at one unknown; "the summed bound". No order of work is meant: each sum stands
-- by itself
unfoldable pub sum_at : List Row → List Entry → ℕ → ℤ
sum_at hypotheses es unknown = total (λ e. part_at hypotheses e unknown) es

unfoldable pub bound_sum : List Row → List Entry → ℤ
bound_sum hypotheses es = total (bound_part hypotheses) es

-- "a strict hypothesis has an entry" (02, order 8): an entry with a multiplier from 1 of a strict row is among these
unfoldable pub counts : ℕ → Bool → Bool
counts zero strict = false
counts (suc m) strict = strict

unfoldable pub strict_part : List Row → Entry → Bool
strict_part hypotheses e = counts e.multiplier (get_or hypotheses e.hypothesis zero_row).strict

unfoldable pub strict_sum : List Row → List Entry → Bool
strict_sum hypotheses es = some (strict_part hypotheses) es

-- Two parts of Farkas' condition, by themselves: the coefficients agree at every unknown; the bound is met, by sums with a strict entry or
-- without, and a goal that must be met strictly or need not
abbrev pub Agree : ℕ → (ℕ → ℤ) → List ℤ → Type 0
Agree k sums gs = (i : ℕ) → sums i ≡ pos k *ℤ item gs i

abbrev pub BoundMet : ℕ → ℤ → Bool → ℤ → Bool → Type 0
BoundMet k s strict g must = (1 ≤ k → Compared (must && not strict) s (pos k *ℤ g)) × (k ≡ 0 → Compared (not strict) s (pos 0))

-- Farkas' condition on the sums at all unknowns and a summed bound, as a proposition. "The multiplied hypotheses must sum to k times the
-- goal's coefficients, at every unknown. The summed bound must be at most k times the goal's bound, or, at k = 0, below 0." Where rows are
-- strict (02, order 8): "At k = 0 a summed bound of 0 also passes if a strict hypothesis has an entry. A strict goal at k from 1 needs the
-- summed bound below k times its own, or equal with such an entry."
pub record SumsMeet (k : ℕ) (sums : ℕ → ℤ) (summed_bound : ℤ) (strict_entry : Bool) (goal : Row) : Type 0 where
  pub coefficients : (i : ℕ) → sums i ≡ pos k *ℤ item goal.coefficients i
  pub bound : 1 ≤ k → Compared (goal.strict && not strict_entry) summed_bound (pos k *ℤ goal.bound)
  pub below : k ≡ 0 → Compared (not strict_entry) summed_bound (pos 0)

-- The same where nothing is strict: 01's clause alone (`meets-plain` in proofs/Promise.antt)
abbrev pub PlainMeet : ℕ → (ℕ → ℤ) → ℤ → Row → Type 0
PlainMeet k sums summed_bound goal =
    Agree k sums goal.coefficients × ((1 ≤ k → summed_bound ≤ℤ (pos k *ℤ goal.bound)) × (k ≡ 0 → summed_bound <ℤ pos 0))

-- the condition of a proof from hypotheses
unfoldable pub Meets : List Row → Row → Proof → Type 0
Meets hypotheses goal p = SumsMeet p.k (sum_at hypotheses p.entries) (bound_sum hypotheses p.entries) (strict_sum hypotheses p.entries) goal

-- How the sums are worked out: held in a row, entry by entry. A row's coefficients, m times, added to the sums at all unknowns
unfoldable pub plus : ℕ → List ℤ → List ℤ → List ℤ
plus m sums [] = sums
plus m [] (a ∷ xs) = (pos m *ℤ a) ∷ plus m [] xs
plus m (s ∷ sums) (a ∷ xs) = (s +ℤ pos m *ℤ a) ∷ plus m sums xs

-- sums are strict as soon as a strict row was added, with a multiplier from 1
unfoldable pub strict_after : Bool → ℕ → Bool → Bool
strict_after before m strict = before || counts m strict

unfoldable pub add_row : Row → ℕ → Row → Row
add_row sums m r =
    record {
      coefficients = plus m sums.coefficients r.coefficients;
      bound = sums.bound +ℤ pos m *ℤ r.bound;
      strict = strict_after sums.strict m r.strict;
    }

unfoldable pub add_entry : List Row → Row → Entry → Row
add_entry hypotheses sums e = add_row sums e.multiplier (get_or hypotheses e.hypothesis zero_row)

unfoldable pub add_entries : List Row → Row → List Entry → Row
add_entries hypotheses sums [] = sums
add_entries hypotheses sums (e ∷ es) = add_entries hypotheses (add_entry hypotheses sums e) es

unfoldable pub summed : List Row → List Entry → Row
summed hypotheses es = add_entries hypotheses zero_row es

-- a row holds the sums of these entries: at every unknown, the summed bound, and whether a strict row is among the summed
pub record SumsOf (hypotheses : List Row) (es : List Entry) (sums : Row) : Type 0 where
  pub coefficient : (i : ℕ) → item sums.coefficients i ≡ sum_at hypotheses es i
  pub bound : sums.bound ≡ bound_sum hypotheses es
  pub strict : sums.strict ≡ strict_sum hypotheses es

-- The test. Two whole numbers are the same
unfoldable pub same_z : ℤ → ℤ → Bool
same_z a b = le_z a b && le_z b a

-- "sum to k times the goal's coefficients, at every unknown"
unfoldable pub coefficients_agree : ℕ → List ℤ → List ℤ → Bool
coefficients_agree k [] goal = every (λ g. same_z (pos 0) (pos k *ℤ g)) goal
coefficients_agree k (s ∷ sums) [] = every (λ t. same_z t (pos 0)) (s ∷ sums)
coefficients_agree k (s ∷ sums) (g ∷ goal) = same_z s (pos k *ℤ g) && coefficients_agree k sums goal

-- "at most k times the goal's bound, or, at k = 0, below 0", by sums that are strict or not, and for a goal that must be met strictly or
-- need not
unfoldable pub bound_passes : ℕ → ℤ → Bool → ℤ → Bool → Bool
bound_passes zero sum strict goal must = compared (not strict) sum (pos 0)
bound_passes (suc k) sum strict goal must = compared (must && not strict) sum (pos (suc k) *ℤ goal)

-- 0 where the condition holds; 10, "coefficients unequal"; 11, "bound fails" (01, What is handed back)
unfoldable pub sums_test : ℕ → Row → Row → ℕ
sums_test k sums goal =
    cond (coefficients_agree k sums.coefficients goal.coefficients)
    (cond (bound_passes k sums.bound sums.strict goal.bound goal.strict) 0 11)
    10

unfoldable pub farkas_test : List Row → Row → Proof → ℕ
farkas_test hypotheses goal p = sums_test p.k (summed hypotheses p.entries) goal

-- the number of what the test finds
unfoldable pub number_of : Result (Unit {0}) Mismatch → ℕ
number_of (Ok passed) = 0
number_of (Err CoefficientsDiffer) = 10
number_of (Err BoundFails) = 11
