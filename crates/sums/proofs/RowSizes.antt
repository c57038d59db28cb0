-- The sizes of rows: a sheet is of bytes, so no number of a row that a sheet gives is larger than 2 ^ 31, nor are the hypotheses made
-- from such rows, nor the goals. Assumes nothing.
use mathlib.Core.List.{List, [], ◌∷◌}
use Prim.Native.Nat.{ℕ, zero, suc, ◌+◌, ◌*◌, ◌^◌, ◌≤◌}
use lib.Dec.{lit≤}
use lib.IntN.{ℤ, pos, negsuc, nat_abs}
use lib.ListN.{replicate}
use Rattle.farkas.specs.Rows.{Row, onward, on_change}
use Rattle.farkas.specs.Sizes.{Bytes, Small, Within}
use Rattle.farkas.specs.Words.{row_in}
use Rattle.farkas.proofs.Promise.{set-within, small-none, small-cons, small-append, small-zeros, row_within, rates-within}
use Rattle.fields.specs.Places.{row_at}
use Rattle.rules.specs.Obligations.{nowhere, standing, on_x, on_next, on_rates, time_row, unit}
use Rattle.hypotheses.specs.Tables.{keeps_up, keeps_down, keeps, row_place, hypothesis_in}

small-unit : (n v : ℕ) (a : ℤ) → nat_abs a ≤ 2 ^ 31 → Small (2 ^ 31) (unit n v a)
unfolding unit
small-unit n v a h = set-within (2 ^ 31) (replicate n (pos 0)) v a (small-zeros (2 ^ 31) n) h

-- a row with such coefficients
within-size : (size : ℕ) (r : Row) → Small size r.coefficients → nat_abs r.bound ≤ size → Within size r
within-size size r f h = record { coefficient = f; bound = h }

-- the rows of a sheet on x, on the unknowns from `shift` on, and on rates
plain-within : (s : List ℕ) (version count at : ℕ) → Bytes s → Within (2 ^ 31) (row_at s version count at).row
unfolding row_at row_in onward
plain-within s version count at b = let w = row_within s at 0 count b in record { coefficient = w.coefficient; bound = w.bound }

next-within : (s : List ℕ) (version count at shift : ℕ) → Bytes s → Within (2 ^ 31) (on_next shift (row_at s version count at).row)
unfolding on_next row_at row_in onward
next-within s version count at shift b = let w = row_within s at shift count b in record { coefficient = w.coefficient; bound = w.bound }

on-rates-within : (s : List ℕ) (version n at : ℕ) → Bytes s → Within (2 ^ 31) (on_rates (row_at s version n at).row)
unfolding on_rates row_at row_in on_change
on-rates-within s version n at b = rates-within s at n b

time-within : (n : ℕ) → Within (2 ^ 31) (time_row n)
unfolding time_row
time-within n =
    within-size (2 ^ 31) (time_row n)
    (small-append (2 ^ 31) (replicate (n + n) (pos 0)) (negsuc 0 ∷ []) (small-zeros (2 ^ 31) (n + n)) (small-cons (2 ^ 31) (negsuc 0) [] (lit≤ tt) (small-none (2 ^ 31))))
    (lit≤ tt)

up-within : (n v : ℕ) → Within (2 ^ 31) (keeps_up n v)
unfolding keeps_up
up-within n v =
    within-size (2 ^ 31) (keeps_up n v)
    (small-append (2 ^ 31) (unit n v (negsuc 0)) (unit n v (pos 1)) (small-unit n v (negsuc 0) (lit≤ tt)) (small-unit n v (pos 1) (lit≤ tt)))
    (lit≤ tt)

down-within : (n v : ℕ) → Within (2 ^ 31) (keeps_down n v)
unfolding keeps_down
down-within n v =
    within-size (2 ^ 31) (keeps_down n v)
    (small-append (2 ^ 31) (unit n v (pos 1)) (unit n v (negsuc 0)) (small-unit n v (pos 1) (lit≤ tt)) (small-unit n v (negsuc 0) (lit≤ tt)))
    (lit≤ tt)

keeps-within : (n v row : ℕ) → Within (2 ^ 31) (keeps n v row)
unfolding keeps
keeps-within n v zero = up-within n v
keeps-within n v (suc row) = down-within n v

-- so the rows of every form
pub hypothesis-within : (model second : List ℕ) (version n form place row : ℕ) → Bytes model → Bytes second → Within (2 ^ 31) (hypothesis_in model second version n form place row).row
unfolding hypothesis_in standing nowhere on_x
hypothesis-within model second version n zero place row b c = plain-within model version n (row_place version n place row) b
hypothesis-within model second version n (suc zero) place row b c = plain-within second version n (row_place version n place row) c
hypothesis-within model second version n (suc (suc zero)) place row b c = plain-within model version n (row_place version n place row) b
hypothesis-within model second version n (suc (suc (suc zero))) place row b c = plain-within model version n (row_place version n place row) b
hypothesis-within model second version n (suc (suc (suc (suc zero)))) place row b c = next-within model version n (row_place version n place row) n b
hypothesis-within model second version n (suc (suc (suc (suc (suc zero))))) place row b c = on-rates-within model version n (row_place version n place row) b
hypothesis-within model second version n (suc (suc (suc (suc (suc (suc zero)))))) place row b c = time-within n
hypothesis-within model second version n (suc (suc (suc (suc (suc (suc (suc zero))))))) place row b c = plain-within model version (2 * n) (row_place version (2 * n) place row) b
hypothesis-within model second version n (suc (suc (suc (suc (suc (suc (suc (suc form)))))))) place row b c = keeps-within n place row
