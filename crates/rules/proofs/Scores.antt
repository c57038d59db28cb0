-- Scores (01, What is handed back; 02, order 5): the nearest whole percent, within 0 to 100, never less for more proofs. Assumes nothing.
use mathlib.Core.Path.{◌≡◌, refl, ap, sym, ◌∙◌, subst}
use mathlib.Core.Logic.{◌⊎◌, inl, inr, ⊎_elim}
use Prim.Native.Nat.{ℕ, zero, suc, ◌*◌, ◌≤◌, min}
use native.Mathlib.Nat.{mul-le-mul_right, le_of_eq, le-min, min-le_left, min-le_right, min-eq_right, eq-or-lt_of_le}
use native.Mathlib.Omega.{arith}
use Rattle.rules.specs.Nearest.{nearer, nearest, apart, Nearest}
use Rattle.rules.specs.Marking.{score_of, refused_score}
use Rattle.farkas.proofs.Order.{by_order}
use Rattle.rules.proofs.Nearest.{near-least, nearest-is, nearest-only}

pub score-rounded : (done total : ℕ) → 1 ≤ total → score_of done total ≡ nearest (100 * done) total
unfolding score_of
score-rounded done zero h = absurd (omega arith)
score-rounded done (suc total) h = refl

-- Of some obligations the score is the nearest to 100 · done over all of them, and the only one that is
pub score-nearest : (done total : ℕ) → 1 ≤ total → Nearest (100 * done) total (score_of done total)
score-nearest done total h = subst (Nearest (100 * done) total) (sym (score-rounded done total h)) (nearest-is (100 * done) total h)

pub score-only : (done total n : ℕ) → 1 ≤ total → Nearest (100 * done) total n → n ≡ score_of done total
score-only done total n h v = nearest-only (100 * done) total n h v ∙ sym (score-rounded done total h)

-- all of them passed: 100
whole : (total : ℕ) → Nearest (100 * total) total 100
unfolding apart
whole total =
    record { near = omega arith; even = λ e. refl; least = λ m. near-least (100 * total) total 100 m (omega arith) }

pub full-score : (total : ℕ) → score_of total total ≡ 100
unfolding score_of
full-score zero = refl
full-score (suc n) = sym (score-only (suc n) (suc n) 100 (omega arith) (whole (suc n)))

-- a proof more never lowers it
pub score-rises : (done further total : ℕ) → done ≤ further → score_of done total ≤ score_of further total
unfolding score_of apart
score-rises done further zero h = omega arith
score-rises done further (suc n) h =
    let v = score-nearest done (suc n) (omega arith) in
    let w = score-nearest further (suc n) (omega arith) in
    by_order (score_of further (suc n)) (score_of done (suc n)) (score_of done (suc n) ≤ score_of further (suc n))
    (λ l. let e : done ≡ further = omega (arith, v.near, w.near, mul-le-mul_right (suc n) l) in le_of_eq (ap (λ (k : ℕ). score_of k (suc n)) e))
    (λ e. omega arith)
    (λ l. omega arith)

pub score-fits : (done total : ℕ) → done ≤ total → score_of done total ≤ 100
score-fits done total h = omega (arith, score-rises done total total h, full-score total)

pub refused-score-fits : (done total : ℕ) → refused_score done total ≤ 99
unfolding refused_score
refused-score-fits done total = min-le_left 99 _

pub refused-score-rises : (done further total : ℕ) → done ≤ further → refused_score done total ≤ refused_score further total
unfolding refused_score
refused-score-rises done further total h = le-min (min-le_left 99 _) (omega (arith, min-le_right 99 (score_of done total), score-rises done further total h))

-- the cap is felt only where the nearest is 100
pub refused-score-is : (done total : ℕ) → done ≤ total → (refused_score done total ≡ score_of done total) ⊎ ((refused_score done total ≡ 99) × (score_of done total ≡ 100))
unfolding refused_score
refused-score-is done total h =
    ⊎_elim
    (λ e. inr (ap (λ (n : ℕ). min 99 n) e, e))
    (λ l. inl (min-eq_right (omega arith)))
    (eq-or-lt_of_le (score-fits done total h))

-- document 02's own: a half that goes down, one that goes up; row 9 of document 01's table; the cap; no obligations
pub one-of-eight : score_of 1 8 ≡ 12
unfolding score_of nearest nearer
one-of-eight = refl

pub three-of-eight : score_of 3 8 ≡ 38
unfolding score_of nearest nearer
three-of-eight = refl

pub two-of-three : refused_score 2 3 ≡ 67
unfolding refused_score score_of nearest nearer
two-of-three = refl

pub all_but_one : refused_score 199 200 ≡ 99
unfolding refused_score score_of nearest nearer
all_but_one = refl

pub none-of-none : (score_of 0 0 ≡ 100) × (refused_score 0 0 ≡ 99)
unfolding refused_score score_of
none-of-none = (refl, refl)
