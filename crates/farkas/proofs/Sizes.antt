-- "Entries are at most 128, so signed 64-bit sums hold" (01, Certificate). Each entry adds at most 2 ^ 24 * 2 ^ 31 to the size of a
-- sum, so after n entries no number is larger than n * 2 ^ 55, and below 128 entries there is room for one more.
-- `sums-within`, `sums-fit` and `sums-room` say it of the sums of any entries; `spare` and `grown` of one more row. Assumes nothing.
use mathlib.Core.List.{List, [], ◌∷◌}
use Prim.Native.Nat.{ℕ, zero, suc, ◌+◌, ◌*◌, ◌^◌, ◌≤◌, ◌<◌}
use native.Mathlib.Nat.{mul-le-mul, le_of_lt}
use native.Mathlib.Omega.{arith}
use lib.Dec.{lit≤}
use lib.IntN.{ℤ, nat_abs, pos, ◌*ℤ◌}
use lib.ListN.{length, get_or, set, replicate}
use Rattle.farkas.specs.Rows.{Row, item, row_of, zero_row}
use Rattle.farkas.specs.Farkas.{Entry, add_row, part_at, bound_part, total, sum_at, bound_sum, SumsOf}
use Rattle.farkas.specs.Lists.{All, more}
use Rattle.farkas.specs.Sums.{Spare}
use Rattle.farkas.specs.Sizes.{Within, Bounded}
use Rattle.farkas.proofs.Bits.{size-+, size-*, size-+*}
use Rattle.farkas.proofs.All.{all-at}
use Rattle.farkas.proofs.Test.{item-plus}

-- a larger size serves too
pub wider : {a b : ℕ} {r : Row} → a ≤ b → Within a r → Within b r
wider h w = record { coefficient = λ i. omega (arith, w.coefficient i); bound = omega arith }

-- a caller starts at size 0
pub zero-within : Within 0 zero_row
unfolding zero_row item
zero-within = record { coefficient = λ i. lit≤ tt; bound = lit≤ tt }

-- coefficients of which none is larger than the size: all 0, and one stored
pub zeros_within : (n i : ℕ) → nat_abs (item (replicate n (pos 0)) i) ≤ 0
unfolding item
zeros_within zero i = lit≤ tt
zeros_within (suc n) zero = lit≤ tt
zeros_within (suc n) (suc i) = zeros_within n i

pub set-within : (size : ℕ) (xs : List ℤ) (k : ℕ) (a : ℤ) → ((i : ℕ) → nat_abs (item xs i) ≤ size) → nat_abs a ≤ size → (i : ℕ) → nat_abs (item (set xs k a) i) ≤ size
unfolding item
set-within size [] k a f h i = f i
set-within size (x ∷ xs) zero a f h zero = h
set-within size (x ∷ xs) zero a f h (suc i) = f (suc i)
set-within size (x ∷ xs) (suc k) a f h zero = f 0
set-within size (x ∷ xs) (suc k) a f h (suc i) = set-within size xs k a (λ j. f (suc j)) h i

-- one number of a row, multiplied, adds at most 2 ^ 55
product : (m y : ℕ) → m < 2 ^ 24 → y ≤ 2 ^ 31 → m * y ≤ 2 ^ 55
product m y h k = mul-le-mul (le_of_lt h) k

module _ (n m : ℕ) (s r : Row) (sums : Within (n * 2 ^ 55) s) (small : m < 2 ^ 24) (row : Within (2 ^ 31) r) where
  -- with one entry more the sums grow by 2 ^ 55
  pub grown : Within ((n + 1) * 2 ^ 55) (add_row s m r)
  unfolding add_row
  grown =
      record {
        coefficient = λ i. rw (item-plus m s.coefficients r.coefficients i) (omega (arith, size-+* (item s.coefficients i) (pos m) (item r.coefficients i), sums.coefficient i, product m (nat_abs (item r.coefficients i)) small (row.coefficient i)));
        bound = omega (arith, size-+* s.bound (pos m) r.bound, product m (nat_abs r.bound) small row.bound);
      }

-- below 128 entries there is room for any number of 32 bits, m times
pub spare : (n m : ℕ) (s : Row) → Within (n * 2 ^ 55) s → m < 2 ^ 24 → n < 128 → Spare m s
spare n m s sums small h =
    record { coefficient = λ i. omega (arith, sums.coefficient i, product m (2 ^ 31) small (lit≤ tt)); bound = omega (arith, sums.bound, product m (2 ^ 31) small (lit≤ tt)) }

-- sums of which each is 0
pub zero-sums : (n : ℕ) → Within 0 (row_of (replicate n (pos 0)) (pos 0))
zero-sums n = record { coefficient = zeros_within n; bound = lit≤ tt }

-- Of entries that each give at most 2 ^ 55, as a number of 32 bits gives m times, the total
part-size : (m : ℕ) (a : ℤ) → m < 2 ^ 24 → nat_abs a ≤ 2 ^ 31 → nat_abs (pos m *ℤ a) ≤ 2 ^ 55
part-size m a h k = rw (size-* (pos m) a) (product m (nat_abs a) h k)

total_size :
    (part : Entry → ℤ) → ((e : Entry) → e.multiplier < 2 ^ 24 → nat_abs (part e) ≤ 2 ^ 55)
    → (es : List Entry) → All (λ e. e.multiplier < 2 ^ 24) es → nat_abs (total part es) ≤ length es * 2 ^ 55
unfolding total
total_size part each [] all = lit≤ tt
total_size part each (e ∷ es) (more small rest) = omega (arith, size-+ (part e) (total part es), each e small, total_size part each es rest)

-- so the sums of at most 128 entries fit, and below 128 there is room for any entry more
module _ (hs : List Row) (es : List Entry) (b : Bounded hs es) {sums : Row} (held : SumsOf hs es sums) where
  rows-small : (j : ℕ) → Within (2 ^ 31) (get_or hs j zero_row)
  rows-small = all-at zero_row (wider (lit≤ tt) zero-within) b.rows

  at_size : (i : ℕ) (e : Entry) → e.multiplier < 2 ^ 24 → nat_abs (part_at hs e i) ≤ 2 ^ 55
  unfolding part_at
  at_size i e small = part-size e.multiplier (item (get_or hs e.hypothesis zero_row).coefficients i) small ((rows-small e.hypothesis).coefficient i)

  bound-size : (e : Entry) → e.multiplier < 2 ^ 24 → nat_abs (bound_part hs e) ≤ 2 ^ 55
  unfolding bound_part
  bound-size e small = part-size e.multiplier (get_or hs e.hypothesis zero_row).bound small (rows-small e.hypothesis).bound

  pub sums-within : Within (length es * 2 ^ 55) sums
  unfolding sum_at bound_sum
  sums-within =
      record {
        coefficient = λ i. rw (held.coefficient i) (total_size (λ e. part_at hs e i) (at_size i) es b.multipliers);
        bound = rw held.bound (total_size (bound_part hs) bound-size es b.multipliers);
      }

  pub sums-fit : Within (2 ^ 62) sums
  sums-fit = wider (omega (arith, b.few)) sums-within

  pub sums-room : (m : ℕ) → m < 2 ^ 24 → length es < 128 → Spare m sums
  sums-room m small h = spare (length es) m sums sums-within small h
