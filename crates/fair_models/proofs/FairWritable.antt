-- Fair rows can be written where the rows can: they are no more, as wide, and their numbers, divided, still fit 32 bits. Assumes nothing.
use mathlib.Core.Path.{◌≡◌, refl, ap, ◌∙◌}
use mathlib.Core.Bool.{Bool, true, false, cond}
use mathlib.Core.List.{map}
use Prim.Native.Nat.{ℕ, suc, ◌-◌, ◌^◌, ◌≤◌, ◌<◌}
use native.Mathlib.Nat.{lt_of_le_of_lt}
use native.Mathlib.Omega.{arith}
use lib.Dec.{ltb}
use lib.IntN.{ℤ, pos, negsuc}
use lib.ListN.{length, length-map}
use lib.Signed.{mag}
use borrow.Author.Tests.{ltb-true, ltb-false}
use Rattle.farkas.specs.Lists.{All, none, more}
use Rattle.farkas.specs.Rows.{Row}
use Rattle.farkas.proofs.All.{all_map}
use Rattle.fair_rows.specs.FairRows.{divisor, numbers_of, quotient, divided, lowest, never, fair_row, fair_rows}
use Rattle.fair_rows.proofs.QuotientLaws.{quotient-mag}
use Rattle.fair_rows.proofs.FairLaws.{fair-row-cases, fair-all, fair-short}
use Rattle.formats.specs.Reading.{signed}
use Rattle.formats.specs.Rows.{Condition}
use Rattle.writing.specs.Writing.{twos}
use Rattle.writing.specs.Changed.{unplaced}
use Rattle.writing.proofs.Writable.{Fits, FitsRow}
use Rattle.writing.proofs.ChangedWritable.{Shortens}
use Rattle.rules.proofs.Hypotheses.{all_so}
use Rattle.fair_models.specs.FairCopy.{fair_condition}
use Rattle.fair_models.proofs.FairConditions.{rows_in}

-- A number fits 32 bits exactly where it is within −2^31 .. 2^31 − 1
fits-small : (z : ℤ) → Fits z → mag z < 2 ^ 31
unfolding twos signed
fits-small (pos n) f = go (ltb n (2 ^ 31)) refl f.back
  where
    go : (b : Bool) → ltb n (2 ^ 31) ≡ b → cond b (pos n) (negsuc (2 ^ 32 - suc n)) ≡ pos n → n < 2 ^ 31
    go true e h = ltb-true n (2 ^ 31) e
    go false e h = let z : ◌≡◌ {A = ℕ} 0 1 = cc in absurd (omega arith)
fits-small (negsuc n) f = go (ltb (2 ^ 32 - suc n) (2 ^ 31)) refl f.back
  where
    go : (b : Bool) → ltb (2 ^ 32 - suc n) (2 ^ 31) ≡ b → cond b (pos (2 ^ 32 - suc n)) (negsuc (2 ^ 32 - suc (2 ^ 32 - suc n))) ≡ negsuc n → n < 2 ^ 31
    go true e h = let z : ◌≡◌ {A = ℕ} 0 1 = cc in absurd (omega arith)
    go false e h = omega (arith, ltb-false (2 ^ 32 - suc n) (2 ^ 31) e)

small-fits : (z : ℤ) → mag z < 2 ^ 31 → Fits z
unfolding twos signed
small-fits (pos n) h = record { small = omega arith; back = go (ltb n (2 ^ 31)) refl }
  where
    go : (b : Bool) → ltb n (2 ^ 31) ≡ b → cond b (pos n) (negsuc (2 ^ 32 - suc n)) ≡ pos n
    go true e = refl
    go false e = absurd (omega (arith, ltb-false n (2 ^ 31) e))
small-fits (negsuc n) h = record { small = omega arith; back = go (ltb (2 ^ 32 - suc n) (2 ^ 31)) refl }
  where
    go : (b : Bool) → ltb (2 ^ 32 - suc n) (2 ^ 31) ≡ b → cond b (pos (2 ^ 32 - suc n)) (negsuc (2 ^ 32 - suc (2 ^ 32 - suc n))) ≡ negsuc n
    go true e = absurd (omega (arith, ltb-true (2 ^ 32 - suc n) (2 ^ 31) e))
    go false e = ap negsuc (omega arith)

-- so divided it fits too
divided-fits : (d : ℕ) (z : ℤ) → Fits z → Fits (quotient d z)
divided-fits d z f = small-fits (quotient d z) (lt_of_le_of_lt (quotient-mag d z) (fits-small z f))

-- A row's fair copy: as wide, with numbers that fit
abbrev FitsAlone : ℕ → ℕ → Row → Type 0
FitsAlone version n r = FitsRow version n (unplaced r)

lowest-fits : (version n : ℕ) (r : Row) → FitsAlone version n r → FitsAlone version n (lowest r)
unfolding unplaced lowest divided
lowest-fits version n r f =
    let d = divisor (numbers_of r) in
    record {
      wide = length-map r.coefficients (quotient d) ∙ f.wide;
      coefficients = all_map (quotient d) (all_so (divided-fits d) f.coefficients);
      bound = divided-fits d r.bound f.bound;
      mark = f.mark;
    }

never-fits : (version n : ℕ) (r : Row) → FitsAlone version n r → FitsAlone version n (never r)
unfolding unplaced never
never-fits version n r f =
    record { wide = f.wide; coefficients = f.coefficients; bound = small-fits (negsuc 0) (omega arith); mark = refl }

row_fits : (version n : ℕ) (r : Row) → FitsAlone version n r → All (FitsAlone version n) (fair_row r)
row_fits version n r f =
    fair-row-cases (All (FitsAlone version n)) r (λ e b. none)
    (λ e b. more (never-fits version n r f) none)
    (λ e. more (lowest-fits version n r f) none)

-- a condition's
rows-alone : (version n : ℕ) {rows : Condition} → All (FitsRow version n) rows → All (FitsAlone version n) (rows_in rows)
unfolding unplaced
rows-alone version n h =
    all_map (λ r. r.row)
    (all_so (λ r f. record { wide = f.wide; coefficients = f.coefficients; bound = f.bound; mark = f.mark }) h)

pub fair-shortens : Shortens fair_condition
unfolding fair_condition
fair-shortens =
    record {
      few = λ rows. few rows;
      fits = λ version n rows h. all_map unplaced (fair-all (FitsAlone version n) (row_fits version n) (rows_in rows) (rows-alone version n h));
    }
  where
    few : (rows : Condition) → length (map unplaced (fair_rows (rows_in rows))) ≤ length rows
    few rows =
        omega (arith, length-map (fair_rows (rows_in rows)) unplaced, fair-short (rows_in rows), length-map rows (λ r. r.row))
