-- The fair rows of a condition mention the unknowns that the condition mentions: a coefficient is 0 in all of them exactly where it is in
-- all of its rows (02, order 6: a blank stays a blank in a fair copy). Assumes nothing.
use mathlib.Core.Path.{◌≡◌, refl, sym, ap, ap₂, ◌∙◌}
use mathlib.Core.Bool.{Bool, true, false, ◌&&◌, and-true}
use mathlib.Core.List.{List, [], ◌∷◌, map}
use Prim.Native.Nat.{ℕ, zero, suc, ◌*◌, ◌∣◌}
use native.Mathlib.Omega.{arith}
use native.Mathlib.Nat.{zero-div}
use lib.IntN.{ℤ, pos, nat_abs, ◌*ℤ◌}
use Rattle.farkas.specs.Lists.{every, none, more}
use Rattle.farkas.specs.Rows.{Row, compared, item}
use Rattle.farkas.specs.Farkas.{same_z}
use Rattle.farkas.proofs.Promise.{same-means}
use Rattle.fair_rows.specs.FairRows.{divisor, numbers_of, quotient, divided, lowest, is_zero, never, fair_row, fair_rows}
use Rattle.fair_rows.proofs.QuotientLaws.{same_tests, quotient-exact}
use Rattle.fair_rows.proofs.DivisorLaws.{Common, common-parts, Zeros, zeros}
use Rattle.fair_rows.proofs.OrderLaws.{insert-all-every}
use Rattle.fair_rows.proofs.FairLaws.{fair-row-cases, row_common}

-- a row whose coefficient at an unknown is 0
abbrev pub blank_at : ℕ → Row → Bool
blank_at i r = same_z (item r.coefficients i) (pos 0)

-- divided by what divides it, a number is 0 exactly where it was
divided-zero : (d : ℕ) (z : ℤ) → d ∣ nat_abs z → same_z (quotient d z) (pos 0) ≡ same_z z (pos 0)
unfolding quotient
divided-zero d z h =
    same_tests (same_z (quotient d z) (pos 0)) (same_z z (pos 0))
    (λ t. (same-means z (pos 0)).1 (sym (quotient-exact d z h) ∙ ap (λ (x : ℤ). pos d *ℤ x) ((same-means (quotient d z) (pos 0)).0 t) ∙ nothing d))
    (λ t. (same-means (quotient d z) (pos 0)).1 (ap (quotient d) ((same-means z (pos 0)).0 t) ∙ ap pos (zero-div d)))
  where
    nothing : (d : ℕ) → pos d *ℤ pos 0 ≡ pos 0
    nothing d = ap pos (of d)
      where
        of : (d : ℕ) → d * 0 ≡ 0
        of d = omega arith

divided-blank : (d i : ℕ) {xs : List ℤ} → Common d xs → same_z (item (map (quotient d) xs) i) (pos 0) ≡ same_z (item xs i) (pos 0)
unfolding item
divided-blank d i none = refl
divided-blank d zero (more {a = z} h c) = divided-zero d z h
divided-blank d (suc i) (more h c) = divided-blank d i c

zeros-blank : (i : ℕ) {xs : List ℤ} → Zeros xs → same_z (item xs i) (pos 0) ≡ true
unfolding item same_z
zeros-blank i none = refl
zeros-blank zero (more e h) = ap (λ (z : ℤ). same_z z (pos 0)) e
zeros-blank (suc i) (more e h) = zeros-blank i h

-- one row, and all
fair-row-blank : (i : ℕ) (r : Row) → every (blank_at i) (fair_row r) ≡ blank_at i r
unfolding every never lowest divided numbers_of
fair-row-blank i r = fair-row-cases (λ rs. every (blank_at i) rs ≡ blank_at i r) r dropped refused kept
  where
    dropped : every is_zero r.coefficients ≡ true → compared r.strict (pos 0) r.bound ≡ true → true ≡ blank_at i r
    dropped e f = sym (zeros-blank i (zeros r.coefficients e))

    refused : every is_zero r.coefficients ≡ true → compared r.strict (pos 0) r.bound ≡ false → (blank_at i (never r) && true) ≡ blank_at i r
    refused e f = and-true (blank_at i r)

    kept : every is_zero r.coefficients ≡ false → (blank_at i (lowest r) && true) ≡ blank_at i r
    kept e =
        and-true (blank_at i (lowest r))
        ∙ divided-blank (divisor (numbers_of r)) i (common-parts (divisor (numbers_of r)) r.coefficients r.bound (row_common r e)).0

pub fair-blank : (i : ℕ) (rows : List Row) → every (blank_at i) (fair_rows rows) ≡ every (blank_at i) rows
unfolding fair_rows every
fair-blank i [] = refl
fair-blank i (r ∷ rows) =
    insert-all-every (blank_at i) (fair_row r) (fair_rows rows)
    ∙ ap₂ (λ (a b : Bool). a && b) (fair-row-blank i r) (fair-blank i rows)
