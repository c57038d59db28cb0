-- What a sheet's version decides (01, Sheet; 02, orders 6 and 7): which versions and kinds its header may have, which second sheets go with a
-- model, whether its body begins with a paper number, how many bytes a row has, whether it is strict, and what a blank means. Assumes
-- nothing.
use Rattle.std.specs.Prelude.{Bool, false, not, cond, ◌&&◌, ◌||◌, List, ℕ, ◌+◌, ◌*◌, leb, eqb}

-- the newest version: "u8 version, 1"; "version 2 model sheets" (02, order 6); "sheets of version 3" (order 7)
unfoldable pub newest : ℕ
newest = 3

-- the versions that a sheet of a kind may have: a model's is any of them, and no other sheet has version 2 ("a version 2 one is number 2",
-- 02, order 7)
unfoldable pub version_fits : ℕ → ℕ → Bool
version_fits kind version = (leb 1 version && leb version newest) && (eqb kind 1 || not (eqb version 2))

-- the version that the second sheet of a model has: "Version 1 and 2 models still take version 1 second sheets"; else "both must carry .. the
-- same version" (02, order 7)
unfoldable pub pair_of : ℕ → ℕ
pair_of version = cond (leb version 2) 1 version

-- "Model, certificate and run sheets of version 3 begin their body with a u32 paper number" (02, order 7)
unfoldable pub has_paper : ℕ → Bool
has_paper version = leb 3 version

-- "u8 kind (1 model, 2 certificate, 3 run)": the kinds that a sheet may have where one of this kind is wanted
unfoldable pub kind_fits : ℕ → ℕ → Bool
kind_fits kind found = eqb found kind

-- "A row is n coefficients a and a bound b, all s32"
unfoldable pub row_bytes : ℕ → ℕ → ℕ
row_bytes version n = 4 * (n + 1)

-- ".. and means a·x ≤ b": no row is strict, at whatever place of a sheet it stands
unfoldable pub strict_at : ℕ → List ℕ → ℕ → Bool
strict_at version s place = false

-- "The board's new rule book reads a blank as "does not change"" (02, order 6), from version 2 on: "Version 3 keeps version 2's blanks" (order
-- 7). In version 1 "an unmentioned variable of a moving one is free"
unfoldable pub keeps_blanks : ℕ → Bool
keeps_blanks version = leb 2 version
