-- Sums as the code holds them: a list with a number for each unknown. Numbers are added from one unknown on, and the test goes by parts.
-- Assumes nothing.
use Rattle.std.specs.Prelude.{Bool, List, [], ◌∷◌, ℕ, zero, suc, ◌+◌, ◌*◌, ◌^◌, ◌<◌, ℤ, pos, nat_abs, ◌+ℤ◌, ◌*ℤ◌, length, take, drop}
use Rattle.farkas.specs.Rows.{Row, item}
use Rattle.farkas.specs.Farkas.{same_z, coefficients_agree}

-- numbers, m times, added to those of a list from one on; past the end of the list nothing is added
unfoldable pub plus_from : ℕ → ℤ → List ℤ → List ℤ → List ℤ
plus_from to m [] xs = []
plus_from zero m (s ∷ sums) [] = s ∷ sums
plus_from zero m (s ∷ sums) (a ∷ xs) = (s +ℤ m *ℤ a) ∷ plus_from zero m sums xs
plus_from (suc to) m (s ∷ sums) xs = s ∷ plus_from to m sums xs

-- m times a number of 32 bits, or its opposite, can be added in 64 bits to so many sums from one on; to all sums and to the bound
pub record RoomAt (m to count : ℕ) (sums : List ℤ) : Type 0 where
  pub room : (i : ℕ) → i < count → nat_abs (item sums (to + i)) + m * 2 ^ 31 < 2 ^ 63

pub record Spare (m : ℕ) (sums : Row) : Type 0 where
  pub coefficient : (i : ℕ) → nat_abs (item sums.coefficients i) + m * 2 ^ 31 < 2 ^ 63
  pub bound : nat_abs sums.bound + m * 2 ^ 31 < 2 ^ 63

-- a sum that is 0
unfoldable pub is_zero : ℤ → Bool
is_zero t = same_z t (pos 0)

-- the sums from one on are k times a goal's coefficients
unfoldable pub agrees_at : ℕ → ℕ → List ℤ → List ℤ → Bool
agrees_at k from sums goal = coefficients_agree k (take (length goal) (drop from sums)) goal

-- so many sums from one on are 0 again
unfoldable pub cleared : ℕ → ℕ → List ℤ → List ℤ
cleared from count [] = []
cleared zero zero (s ∷ sums) = s ∷ sums
cleared zero (suc count) (s ∷ sums) = pos 0 ∷ cleared zero count sums
cleared (suc from) count (s ∷ sums) = s ∷ cleared from count sums
