-- Numbers as rows have them in bytes (01, Sheet): four bytes to a number. Assumes nothing.
use Rattle.std.specs.Prelude.{false, cond, List, [], ◌∷◌, ℕ, zero, suc, ◌+◌, ◌*◌, ◌-◌, ◌^◌, ◌≤◌, ◌<◌, ltb, ℤ, pos, negsuc, length, take, drop}
use Rattle.farkas.specs.Rows.{Row}

-- "all big-endian"
unfoldable pub big_endian : List ℕ → ℕ
big_endian [] = 0
big_endian (b ∷ bytes) = b * 256 ^ length bytes + big_endian bytes

-- "s32 is two's complement"
unfoldable pub signed : ℕ → ℤ
signed n = cond (ltb n (2 ^ 31)) (pos n) (negsuc (2 ^ 32 - suc n))

-- the s32 at a place, and so many of them, one after the other
unfoldable pub signed_at : List ℕ → ℕ → ℤ
signed_at s p = signed (big_endian (take 4 (drop p s)))

unfoldable pub numbers_at : List ℕ → ℕ → ℕ → List ℤ
numbers_at s p zero = []
numbers_at s p (suc k) = signed_at s p ∷ numbers_at s (p + 4) k

-- so many numbers stand at a place, among bytes that are not many
abbrev pub NumbersIn : List ℕ → ℕ → ℕ → Type 0
NumbersIn s p count = (p + 4 * count ≤ length s) × (length s < 2 ^ 20)

-- the row of so many coefficients at a place; it is not strict
unfoldable pub row_in : List ℕ → ℕ → ℕ → Row
row_in s p count = record { coefficients = numbers_at s p count; bound = signed_at s (p + 4 * count); strict = false }
