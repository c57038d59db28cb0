-- What the places of an index say of the sheet: numbers, rows and conditions found where they stand. Assumes nothing.
use Rattle.std.specs.Prelude.{List, [], ◌∷◌, ℕ, zero, suc, ◌+◌, ◌*◌}
use Rattle.formats.specs.Rows.{SheetRow, sheet_row, Condition}
-- the s32 at a place, and so many of them, one after the other
unfoldable pub use Rattle.farkas.specs.Words.{signed_at, numbers_at}
use Rattle.formats.specs.Versions.{row_bytes, strict_at}

-- the row at a place, with n coefficients
unfoldable pub row_at : List ℕ → ℕ → ℕ → ℕ → SheetRow
row_at s version n p = sheet_row version n p (strict_at version s p) (numbers_at s p n) (signed_at s (p + 4 * n))

-- so many rows from a place on
unfoldable pub rows_from : List ℕ → ℕ → ℕ → ℕ → ℕ → Condition
rows_from s version n p zero = []
rows_from s version n p (suc k) = row_at s version n p ∷ rows_from s version n (p + row_bytes version n) k
