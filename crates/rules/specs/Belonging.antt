-- Sheets that belong together (02, order 7), told of their bytes; and sheets that differ in nothing but their paper number. Assumes nothing.
use Rattle.std.specs.Prelude.{◌≡◌, List, ℕ, ◌≤◌, length, take, drop}
use Rattle.formats.specs.Reading.{big_endian}

-- "u16 L ..; u8 version" (01, Sheet): byte 2 of a sheet
unfoldable pub version_of : List ℕ → ℕ
version_of s = big_endian (take 1 (drop 2 s))

-- "sheets of version 3 begin their body with a u32 paper number": four bytes, from byte 4 on
unfoldable pub number_of : List ℕ → ℕ
number_of s = big_endian (take 4 (drop 4 s))

-- "both must carry the same one and the same version"; "Version 1 and 2 models still take version 1 second sheets (a version 2 one is number
-- 2)": the versions of a model and of its second sheet
pub data Pair : ℕ → ℕ → Type 0 where
  one-one : Pair 1 1
  two-one : Pair 2 1
  three-three : Pair 3 3

pub record Together (model second : List ℕ) : Type 0 where
  pub versions : Pair (version_of model) (version_of second)
  pub numbers : 3 ≤ version_of model → number_of second ≡ number_of model

-- the same sheet with another number in the four bytes of its paper number
pub record ButForNumber (s t : List ℕ) : Type 0 where
  pub size : length s ≡ length t
  pub front : take 4 s ≡ take 4 t
  pub rest : drop 8 s ≡ drop 8 t
