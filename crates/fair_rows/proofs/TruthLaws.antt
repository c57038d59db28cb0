-- The fair rows of a condition hold where the condition holds: at all values p and every q of at least 1, and, where no row is strict, at
-- q = 0 too, as rates are compared with. Both are one argument, in which a strict row asks that q is at least 1. Assumes nothing.
use mathlib.Core.Path.{◌≡◌, refl, sym, ap, ap₂, ◌∙◌, subst}
use mathlib.Core.Bool.{Bool, true, false, ◌&&◌, and-true}
use mathlib.Core.List.{List, [], ◌∷◌, map}
use Prim.Native.Nat.{ℕ, zero, suc, ◌*◌, ◌≤◌}
use native.Mathlib.Omega.{arith}
use native.Mathlib.Nat.{zero-mul}
use lib.Dec.{T}
use lib.IntN.{ℤ, pos, negsuc, ◌+ℤ◌, ◌*ℤ◌, *ℤ_comm}
use lib.Signed.{◌≤ℤ◌}
use Rattle.farkas.specs.Lists.{every, All, none, more}
use Rattle.farkas.specs.Rows.{Row, compared, Compared, dot, row_holds, zero_row}
use Rattle.farkas.proofs.All.{all_of}
use Rattle.farkas.proofs.Integers.{split, by_parts, *-assoc, *-+}
use Rattle.farkas.proofs.Order.{≤-times, zero-plus-nothing}
use Rattle.farkas.proofs.Comparing.{compared-means, compared-times, compared-cancel, compared_same, compared-plain}
use Rattle.fair_rows.specs.FairRows.{divisor, numbers_of, quotient, divided, lowest, is_zero, never, fair_row, fair_rows}
use Rattle.fair_rows.proofs.QuotientLaws.{same_tests, quotient-exact}
use Rattle.fair_rows.proofs.DivisorLaws.{Common, common-parts, Zeros, zeros, divisor-least}
use Rattle.fair_rows.proofs.OrderLaws.{insert-all-every}
use Rattle.fair_rows.proofs.FairLaws.{fair-row-cases, some_size, row_common}

-- Two comparisons pass together if each follows from the other
compared-alike : (s t : Bool) (a b c d : ℤ) → (Compared s a b → Compared t c d) → (Compared t c d → Compared s a b) → compared s a b ≡ compared t c d
compared-alike s t a b c d f g =
    same_tests (compared s a b) (compared t c d)
    (λ h. (compared-means t c d).1 (f ((compared-means s a b).0 h)))
    (λ h. (compared-means s a b).1 (g ((compared-means t c d).0 h)))

-- both sides d times
multiple : (d : ℕ) (s : Bool) (a b : ℤ) → 1 ≤ d → compared s a b ≡ compared s (pos d *ℤ a) (pos d *ℤ b)
multiple d s a b l =
    compared-alike s s a b (pos d *ℤ a) (pos d *ℤ b)
    (λ h. compared_same (*ℤ_comm a (pos d)) (*ℤ_comm b (pos d)) (compared-times d l h))
    (compared-cancel d l)

-- A row divided by what divides its numbers holds where the row holds
all-exact : (d : ℕ) {xs : List ℤ} → Common d xs → map (λ a. pos d *ℤ a) (map (quotient d) xs) ≡ xs
all-exact d none = refl
all-exact d (more {a = z} h c) = ap₂ (λ (x : ℤ) (ys : List ℤ). x ∷ ys) (quotient-exact d z h) (all-exact d c)

nothing : (d : ℕ) → pos 0 ≡ pos d *ℤ pos 0
nothing d = ap pos (zero_of d)
  where
    zero_of : (d : ℕ) → 0 ≡ d * 0
    zero_of d = omega arith

dot-multiple : (d : ℕ) (xs ps : List ℤ) → dot (map (λ a. pos d *ℤ a) xs) ps ≡ pos d *ℤ dot xs ps
unfolding dot
dot-multiple d [] ps = nothing d
dot-multiple d (a ∷ xs) [] = nothing d
dot-multiple d (a ∷ xs) (p ∷ ps) =
    ap₂ (λ (x y : ℤ). x +ℤ y) (*-assoc (pos d) a p) (dot-multiple d xs ps) ∙ sym (*-+ (pos d) (a *ℤ p) (dot xs ps))

divided-holds : (d q : ℕ) (p : List ℤ) (r : Row) → 1 ≤ d → Common d (numbers_of r) → row_holds q p (divided d r) ≡ row_holds q p r
unfolding row_holds divided numbers_of
divided-holds d q p r l c =
    let parts = common-parts d r.coefficients r.bound c in
    let xs = map (quotient d) r.coefficients in
    let b = quotient d r.bound in
    let left : pos d *ℤ dot xs p ≡ dot r.coefficients p = sym (dot-multiple d xs p) ∙ ap (λ (ys : List ℤ). dot ys p) (all-exact d parts.0) in
    let right : pos d *ℤ (b *ℤ pos q) ≡ r.bound *ℤ pos q = sym (*-assoc (pos d) b (pos q)) ∙ ap (λ (z : ℤ). z *ℤ pos q) (quotient-exact d r.bound parts.1) in
    multiple d r.strict (dot xs p) (b *ℤ pos q) l ∙ ap₂ (compared r.strict) left right

lowest-holds : (q : ℕ) (p : List ℤ) (r : Row) → every is_zero r.coefficients ≡ false → row_holds q p (lowest r) ≡ row_holds q p r
unfolding lowest
lowest-holds q p r e = divided-holds (divisor (numbers_of r)) q p r (divisor-least (numbers_of r) (some_size r e)) (row_common r e)

-- A row of zeros holds where 0 is within its bound q times
dot-zeros : (xs ps : List ℤ) → Zeros xs → dot xs ps ≡ pos 0
unfolding dot
dot-zeros [] ps h = refl
dot-zeros (a ∷ xs) [] h = refl
dot-zeros (a ∷ xs) (p ∷ ps) (more e h) = ap₂ (λ (x y : ℤ). x *ℤ p +ℤ y) e (dot-zeros xs ps h) ∙ sym (zero-plus-nothing p)

zeros-hold : (q : ℕ) (p : List ℤ) (r : Row) → Zeros r.coefficients → row_holds q p r ≡ compared r.strict (pos 0) (r.bound *ℤ pos q)
unfolding row_holds
zeros-hold q p r h = ap (λ (z : ℤ). compared r.strict z (r.bound *ℤ pos q)) (dot-zeros r.coefficients p h)

-- a bound that 0 is within, q times
pos-times : (q : ℕ) → pos 0 *ℤ pos q ≡ pos 0
pos-times q = ap pos (zero-mul q)

within-times : (q : ℕ) (s : Bool) (b : ℤ) → (T s → 1 ≤ q) → Compared s (pos 0) b → Compared s (pos 0) (b *ℤ pos q)
within-times q true b l c = compared_same (pos-times q) refl (compared-times q (l tt) c)
within-times q false b l c = compared_same (pos-times q) refl (compared-plain refl (≤-times q (pos 0) b c.most))

within-once : (q : ℕ) (s : Bool) (b : ℤ) → 1 ≤ q → Compared s (pos 0) (b *ℤ pos q) → Compared s (pos 0) b
within-once q s b l c = compared-cancel q l (compared_same (nothing q) (*ℤ_comm b (pos q)) c)

-- one that it is not within: q times it is like −1 q times
at-nothing : (b : ℤ) → Compared false (pos 0) (b *ℤ pos 0)
at-nothing b = compared-plain refl (least b)
  where
    least : (b : ℤ) → pos 0 ≤ℤ (b *ℤ pos 0)
    least b = rw (split b) (simp by_parts (omega arith))

outside-times :
    (q : ℕ) (s : Bool) (b : ℤ) → (T s → 1 ≤ q) → (Compared s (pos 0) b → ⊥)
    → compared false (pos 0) (negsuc 0 *ℤ pos q) ≡ compared s (pos 0) (b *ℤ pos q)
outside-times zero true b l n = absurd (omega (arith, l tt))
outside-times zero false b l n =
    compared-alike false false (pos 0) (negsuc 0 *ℤ pos 0) (pos 0) (b *ℤ pos 0) (λ c. at-nothing b) (λ c. at-nothing (negsuc 0))
outside-times (suc q) s b l n =
    compared-alike false s (pos 0) (negsuc 0 *ℤ pos (suc q)) (pos 0) (b *ℤ pos (suc q))
    (λ c. absurd (within-once (suc q) false (negsuc 0) (omega arith) c).most.le)
    (λ c. absurd (n (within-once (suc q) s b (omega arith) c)))

-- One row
fair-row-holds : (q : ℕ) (p : List ℤ) (r : Row) → (T r.strict → 1 ≤ q) → every (row_holds q p) (fair_row r) ≡ row_holds q p r
unfolding every never
fair-row-holds q p r l = fair-row-cases (λ rs. every (row_holds q p) rs ≡ row_holds q p r) r dropped refused kept
  where
    dropped : every is_zero r.coefficients ≡ true → compared r.strict (pos 0) r.bound ≡ true → true ≡ row_holds q p r
    dropped e f =
        let c = (compared-means r.strict (pos 0) r.bound).0 (subst T (sym f) tt) in
        let t = (compared-means r.strict (pos 0) (r.bound *ℤ pos q)).1 (within-times q r.strict r.bound l c) in
        same_tests true (compared r.strict (pos 0) (r.bound *ℤ pos q)) (λ u. t) (λ u. tt)
        ∙ sym (zeros-hold q p r (zeros r.coefficients e))

    refused : every is_zero r.coefficients ≡ true → compared r.strict (pos 0) r.bound ≡ false → (row_holds q p (never r) && true) ≡ row_holds q p r
    refused e f =
        and-true (row_holds q p (never r))
        ∙ zeros-hold q p (never r) (zeros r.coefficients e)
        ∙ outside-times q r.strict r.bound l (λ c. subst T f ((compared-means r.strict (pos 0) r.bound).1 c))
        ∙ sym (zeros-hold q p r (zeros r.coefficients e))

    kept : every is_zero r.coefficients ≡ false → (row_holds q p (lowest r) && true) ≡ row_holds q p r
    kept e = and-true (row_holds q p (lowest r)) ∙ lowest-holds q p r e

-- All rows
abbrev Serves : ℕ → Row → Type 0
Serves q r = T r.strict → 1 ≤ q

rows-hold : (q : ℕ) (p : List ℤ) {rows : List Row} → All (Serves q) rows → every (row_holds q p) (fair_rows rows) ≡ every (row_holds q p) rows
unfolding fair_rows every
rows-hold q p none = refl
rows-hold q p (more {a = r} {xs = rows} l h) =
    insert-all-every (row_holds q p) (fair_row r) (fair_rows rows)
    ∙ ap₂ (λ (a b : Bool). a && b) (fair-row-holds q p r l) (rows-hold q p h)

pub fair-holds : (q : ℕ) (p : List ℤ) (rows : List Row) → 1 ≤ q → every (row_holds q p) (fair_rows rows) ≡ every (row_holds q p) rows
fair-holds q p rows l = rows-hold q p (all_of (Serves q) zero_row rows (λ i t. l))

pub fair-holds-plain :
    (q : ℕ) (p : List ℤ) (rows : List Row) → All (λ r. r.strict ≡ false) rows
    → every (row_holds q p) (fair_rows rows) ≡ every (row_holds q p) rows
fair-holds-plain q p rows h = rows-hold q p (plain h)
  where
    plain : {xs : List Row} → All (λ r. r.strict ≡ false) xs → All (Serves q) xs
    plain none = none
    plain (more s k) = more (λ t. absurd (subst T s t)) (plain k)
