-- The sizes of a row's numbers, and what 01 lets a proof have, so that its sums fit in 64 bits ("Entries are at most 128, so signed
-- 64-bit sums hold", 01, Certificate). Assumes nothing.
use Rattle.std.specs.Prelude.{List, ℕ, ◌^◌, ◌≤◌, ◌<◌, ℤ, nat_abs, length, get_or}
use Rattle.farkas.specs.Rows.{Row, item}
use Rattle.farkas.specs.Lists.{All}
use Rattle.farkas.specs.Farkas.{Entry}

-- every number of a sheet is a byte
abbrev pub Bytes : List ℕ → Type 0
Bytes s = (i : ℕ) → get_or s i 0 < 256

-- no coefficient is larger than the size
abbrev pub Small : ℕ → List ℤ → Type 0
Small size xs = (i : ℕ) → nat_abs (item xs i) ≤ size

-- no number of the row is larger than the size
pub record Within (size : ℕ) (r : Row) : Type 0 where
  pub coefficient : (i : ℕ) → nat_abs (item r.coefficients i) ≤ size
  pub bound : nat_abs r.bound ≤ size

-- what 01 lets a proof have: rows of numbers of 32 bits and their opposites, multipliers below 2 ^ 24, at most 128 entries
pub record Bounded (hypotheses : List Row) (es : List Entry) : Type 0 where
  pub rows : All (Within (2 ^ 31)) hypotheses
  pub multipliers : All (λ e. e.multiplier < 2 ^ 24) es
  pub few : length es ≤ 128
