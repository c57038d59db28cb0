-- Rows and conditions in a sheet (01, Sheet). Assumes nothing.
use Rattle.std.specs.Prelude.{Bool, List, ℕ, ℤ}
use Rattle.farkas.specs.Rows.{Row}
use Rattle.formats.specs.Versions.{row_bytes, strict_at}
use Rattle.formats.specs.Reading.{got, Reader, ◌>>=◌, give, here, u8, s32, within, many}

-- "A row is n coefficients a and a bound b, all s32", with the place of its first byte and how many bytes it has
pub record SheetRow : Type 0 where
  pub place : ℕ
  pub size : ℕ
  pub row : Row

abbrev pub sheet_row : ℕ → ℕ → ℕ → Bool → List ℤ → ℤ → SheetRow
sheet_row version n place strict coefficients bound =
    record { place = place; size = row_bytes version n; row = record { coefficients = coefficients; bound = bound; strict = strict } }

-- whether the row that begins here is strict
unfoldable pub read_strict : ℕ → Reader Bool
read_strict version s p = got (strict_at version s p) p

unfoldable pub read_row : ℕ → ℕ → Reader SheetRow
read_row version n = do
  place ← here
  strict ← read_strict version
  coefficients ← many n s32
  bound ← s32
  give (sheet_row version n place strict coefficients bound)

-- "A condition is a u8 row count, then rows; no rows means true"
abbrev pub Condition : Type 0
Condition = List SheetRow

unfoldable pub read_condition : ℕ → ℕ → ℕ → Reader Condition
read_condition version most n = do
  count ← within 0 most u8
  many count (read_row version n)
