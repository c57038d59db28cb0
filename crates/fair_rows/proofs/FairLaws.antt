-- The fair rows of a condition: strictly ascending, no more than the rows, the same when taken again, and with whatever one row's fair copy
-- keeps. Assumes nothing.
use mathlib.Core.Path.{◌≡◌, refl, sym, ap, ap₂, ◌∙◌, subst}
use mathlib.Core.Bool.{Bool, true, false, ◌&&◌}
use mathlib.Core.List.{List, [], ◌∷◌, ◌++◌, map, map-append}
use Prim.Native.Nat.{ℕ, zero, suc, ◌≤◌, max}
use native.Mathlib.Omega.{arith}
use lib.Dec.{T, eqb}
use lib.IntN.{ℤ, pos, nat_abs}
use lib.ListN.{length}
use mir.Facts.{yes_eqb}
use Rattle.farkas.specs.Lists.{every, All, none, more}
use Rattle.farkas.specs.Rows.{Row, compared, zero_row}
use Rattle.farkas.proofs.All.{all_of}
use Rattle.fair_rows.specs.FairRows.{size, divisor, numbers_of, quotient, divided, lowest, is_zero, never, fair_zeros, fair_by, fair_row, insert, insert_all, fair_rows}
use Rattle.fair_rows.proofs.QuotientLaws.{quotient-one, quotient-zero}
use Rattle.fair_rows.proofs.DivisorLaws.{Common, common, common-parts, divisor-divides, divided-once}
use Rattle.fair_rows.proofs.OrderLaws.{Ascending, done, rise, insert-first, insert-all-keeps, insert-all-length, insert-all-ascending}

-- One row gives none or one: by whether its coefficients are 0, and, if they are, by its bound
pub fair-row-cases :
    (P : List Row → Type 0) (r : Row)
    → (every is_zero r.coefficients ≡ true → compared r.strict (pos 0) r.bound ≡ true → P [])
    → (every is_zero r.coefficients ≡ true → compared r.strict (pos 0) r.bound ≡ false → P (never r ∷ []))
    → (every is_zero r.coefficients ≡ false → P (lowest r ∷ []))
    → P (fair_row r)
unfolding fair_row fair_by fair_zeros
fair-row-cases P r dropped refused kept = go (every is_zero r.coefficients) refl
  where
    zeros : every is_zero r.coefficients ≡ true → (b : Bool) → compared r.strict (pos 0) r.bound ≡ b → P (fair_zeros b r)
    zeros e true f = dropped e f
    zeros e false f = refused e f

    go : (a : Bool) → every is_zero r.coefficients ≡ a → P (fair_by a r)
    go true e = zeros e (compared r.strict (pos 0) r.bound) refl
    go false e = kept e

-- What one row's fair copy has, the fair rows have
fair-each : {P Q : Row → Type 0} → ((r : Row) → P r → All Q (fair_row r)) → {rows : List Row} → All P rows → All Q (fair_rows rows)
unfolding fair_rows
fair-each f none = none
fair-each f (more {a = r} {xs = rows} p h) = insert-all-keeps (fair_row r) (fair_rows rows) (f r p) (fair-each f h)

pub fair-all : (P : Row → Type 0) → ((r : Row) → P r → All P (fair_row r)) → (rows : List Row) → All P rows → All P (fair_rows rows)
fair-all P f rows h = fair-each f h

-- "strictly ascending": sorted, without repeats
pub fair-ascending : (rows : List Row) → Ascending (fair_rows rows)
unfolding fair_rows
fair-ascending [] = done
fair-ascending (r ∷ rows) = insert-all-ascending (fair_row r) (fair_rows rows) (fair-ascending rows)

-- "no longer than the original"
one_at_most : (r : Row) → length (fair_row r) ≤ 1
one_at_most r = fair-row-cases (λ rs. length rs ≤ 1) r (λ e f. omega arith) (λ e f. omega arith) (λ e. omega arith)

pub fair-short : (rows : List Row) → length (fair_rows rows) ≤ length rows
unfolding fair_rows
fair-short [] = omega arith
fair-short (r ∷ rows) = omega (arith, insert-all-length (fair_row r) (fair_rows rows), one_at_most r, fair-short rows)

-- "copying it again gives the same bytes". A row that is its own fair copy
abbrev Fixed : Row → Type 0
Fixed r = fair_row r ≡ r ∷ []

-- given bound −1, a row of zeros stays
never-fixed : (r : Row) → every is_zero r.coefficients ≡ true → Fixed (never r)
unfolding fair_row fair_by fair_zeros never compared
never-fixed r e = ap (λ (a : Bool). fair_by a (never r)) e

-- divided by its divisor, a row whose coefficients are not all 0 stays: they are still not all 0, and the divisor is 1
sized : (xs : List ℤ) (b : ℤ) → every is_zero xs ≡ false → 1 ≤ size (xs ++ (b ∷ []))
unfolding every size is_zero
sized [] b e = absurd (subst T e tt)
sized (z ∷ xs) b e = go (nat_abs z) refl (sized xs b)
  where
    rest : (a c : Bool) → T a → (a && c) ≡ false → c ≡ false
    rest true c t k = k
    rest false c t k = absurd t

    go : (k : ℕ) → nat_abs z ≡ k → (every is_zero xs ≡ false → 1 ≤ size (xs ++ (b ∷ []))) → 1 ≤ max (nat_abs z) (size (xs ++ (b ∷ [])))
    go zero q f = omega (arith, f (rest (eqb (nat_abs z) 0) (every is_zero xs) (yes_eqb q) e))
    go (suc k) q f = omega arith

pub some_size : (r : Row) → every is_zero r.coefficients ≡ false → 1 ≤ size (numbers_of r)
unfolding numbers_of
some_size r e = sized r.coefficients r.bound e

pub row_common : (r : Row) → every is_zero r.coefficients ≡ false → Common (divisor (numbers_of r)) (numbers_of r)
row_common r e = (common (divisor (numbers_of r)) (numbers_of r)).0 (divisor-divides (numbers_of r) (some_size r e))

quotients-zero : (d : ℕ) {xs : List ℤ} → Common d xs → every is_zero (map (quotient d) xs) ≡ every is_zero xs
unfolding every
quotients-zero d none = refl
quotients-zero d (more {a = z} h c) = ap₂ (λ (a b : Bool). a && b) (quotient-zero d z h) (quotients-zero d c)

still : (r : Row) → every is_zero r.coefficients ≡ false → every is_zero (lowest r).coefficients ≡ false
unfolding lowest divided numbers_of
still r e =
    let d = divisor (r.coefficients ++ (r.bound ∷ [])) in
    quotients-zero d (common-parts d r.coefficients r.bound (row_common r e)).0 ∙ e

pub once : (r : Row) → every is_zero r.coefficients ≡ false → divisor (numbers_of (lowest r)) ≡ 1
unfolding lowest divided numbers_of
once r e =
    let xs = r.coefficients ++ (r.bound ∷ []) in
    ap divisor (sym (map-append (quotient (divisor xs)) r.coefficients (r.bound ∷ []))) ∙ divided-once xs (some_size r e)

quotients-one : (xs : List ℤ) → map (quotient 1) xs ≡ xs
quotients-one [] = refl
quotients-one (z ∷ xs) = ap₂ (λ (x : ℤ) (ys : List ℤ). x ∷ ys) (quotient-one z) (quotients-one xs)

by_one : (r : Row) → divided 1 r ≡ r
unfolding divided
by_one r = λ i. record { coefficients = quotients-one r.coefficients i; bound = quotient-one r.bound i; strict = r.strict }

lowest-again : (r : Row) → every is_zero r.coefficients ≡ false → lowest (lowest r) ≡ lowest r
lowest-again r e = by_divisor (lowest r) ∙ ap (λ (d : ℕ). divided d (lowest r)) (once r e) ∙ by_one (lowest r)
  where
    by_divisor : (x : Row) → lowest x ≡ divided (divisor (numbers_of x)) x
    by_divisor x = unfold lowest in refl

lowest-fixed : (r : Row) → every is_zero r.coefficients ≡ false → Fixed (lowest r)
unfolding fair_row fair_by
lowest-fixed r e = ap (λ (a : Bool). fair_by a (lowest r)) (still r e) ∙ ap (λ (x : Row). x ∷ []) (lowest-again r e)

fixed-row : (r : Row) → All Fixed (fair_row r)
fixed-row r = fair-row-cases (λ rs. All Fixed rs) r (λ e f. none) (λ e f. more (never-fixed r e) none) (λ e. more (lowest-fixed r e) none)

stays-fair : (xs : List Row) → Ascending xs → All Fixed xs → fair_rows xs ≡ xs
unfolding fair_rows insert_all
stays-fair [] a h = refl
stays-fair (x ∷ xs) (rise b a) (more k h) =
    ap (λ (rs : List Row). insert_all rs (fair_rows xs)) k ∙ ap (insert x) (stays-fair xs a h) ∙ insert-first x xs b

pub fair-again : (rows : List Row) → fair_rows (fair_rows rows) ≡ fair_rows rows
fair-again rows = stays-fair (fair_rows rows) (fair-ascending rows) (fair-each (λ r u. fixed-row r) (all_of (λ r. Unit {0}) zero_row rows (λ i. tt)))
