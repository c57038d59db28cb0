-- Rows at a point, as the code meets them: the sum so far and its size, the rows that are left, the places where an index keeps rows,
-- and tests of which the first is settled. Assumes nothing.
use mathlib.Core.Path.{◌≡◌, refl, sym, ap, ◌∙◌, subst}
use mathlib.Core.Bool.{Bool, true, false, not, ◌&&◌, ◌||◌, or-true, or-false}
use mathlib.Core.List.{List, [], ◌∷◌}
use Prim.Native.Nat.{ℕ, zero, suc, ◌+◌, ◌*◌, ◌^◌, ◌≤◌, ◌<◌}
use native.Mathlib.Nat.{mul-le-mul, le_of_mul-le-mul_right}
use native.Mathlib.Decide.{ℕ_discrete}
use native.Mathlib.Numerals.{add-one}
use native.Mathlib.Omega.{arith}
use borrow.Author.Tests.{eq-eqb, ne_eqb}
use lib.Dec.{T, eqb}
use lib.IntN.{ℤ, pos, nat_abs, ◌+ℤ◌, ◌*ℤ◌, +ℤ_assoc, +ℤ_comm, *ℤ-zero}
use lib.ListN.{get_or, take}
use mir.Syntax.{w64}
use mir.Val.{SFits, of_z}
use Rattle.farkas.specs.Rows.{item, dot, compared, row_holds}
use Rattle.farkas.specs.Farkas.{same_z}
use Rattle.farkas.proofs.Bits.{size-+*, same_bits}
use Rattle.farkas.proofs.Promise.{same-means}
use Rattle.fields.specs.Places.{signed_at, numbers_at, row_at, rows_from}
use Rattle.farkas.specs.Lists.{every}
use Rattle.formats.specs.Joint.{stays, count_up}
use Rattle.models.specs.Index.{entry, component_place, mode_place, switch_place, unsafe_place, span_rows, GoodSpan, GoodIndex}
use Rattle.rules.specs.Runs.{condition_holds}
use Rattle.papers.specs.Standing.{GoodModes}
use Rattle.steps.specs.Held.{SmallPoint, mode_holds, move_holds, same_at, kept_at}
use Rattle.rules.proofs.ListFacts.{is_true}
use Rattle.rules.proofs.Points.{dot-nothing}
use Rattle.papers.proofs.RowLoops as loops
pub use Rattle.papers.proofs.RowLoops.{row_room, row_next}
use Rattle.formats.specs.Versions.{row_bytes, strict_at}

-- the sum with one more coefficient
dot-first : (a p : ℤ) → a *ℤ p +ℤ pos 0 ≡ pos 0 +ℤ a *ℤ p
dot-first a p = +ℤ_comm (a *ℤ p) (pos 0)

dot-none : (d a : ℤ) → d ≡ pos 0 → pos 0 ≡ d +ℤ a *ℤ pos 0
dot-none d a e = rw (e, *ℤ-zero a) refl

dot-next : (s : List ℕ) (at i : ℕ) (ps : List ℤ) → dot (numbers_at s at (suc i)) ps ≡ dot (numbers_at s at i) ps +ℤ signed_at s (at + 4 * i) *ℤ item ps i
unfolding dot numbers_at item
dot-next s at i [] = dot-none (dot (numbers_at s at i) []) (signed_at s (at + 4 * i)) (dot-nothing (numbers_at s at i))
dot-next s at zero (p ∷ ps) = dot-first (signed_at s at) p ∙ ap (λ (k : ℕ). pos 0 +ℤ signed_at s k *ℤ p) (nothing at)
  where
    nothing : (at : ℕ) → at ≡ at + 4 * 0
    nothing at = omega arith
dot-next s at (suc i) (p ∷ ps) =
    ap (λ d. signed_at s at *ℤ p +ℤ d) (dot-next s (at + 4) i ps)
    ∙ sym (+ℤ_assoc (signed_at s at *ℤ p) (dot (numbers_at s (at + 4) i) ps) (signed_at s (at + 4 + 4 * i) *ℤ get_or ps i (pos 0)))
    ∙ ap (λ (k : ℕ). signed_at s at *ℤ p +ℤ dot (numbers_at s (at + 4) i) ps +ℤ signed_at s k *ℤ get_or ps i (pos 0)) (one_more at i)
  where
    one_more : (at i : ℕ) → at + 4 + 4 * i ≡ at + 4 * suc i
    one_more at i = omega arith

pub dot-goes-on : (s : List ℕ) (at i : ℕ) (ps : List ℤ) (sum a : ℤ) → sum ≡ dot (numbers_at s at i) ps → a ≡ signed_at s (at + 4 * i) → sum +ℤ a *ℤ item ps i ≡ dot (numbers_at s at (i + 1)) ps
dot-goes-on s at i ps sum a p q = rw (add-one i, p, q) (sym (dot-next s at i ps))

-- no further values than coefficients count
dot-take : (s : List ℕ) (at n : ℕ) (ps : List ℤ) → dot (numbers_at s at n) (take n ps) ≡ dot (numbers_at s at n) ps
unfolding dot numbers_at
dot-take s at zero ps = refl
dot-take s at (suc n) [] = refl
dot-take s at (suc n) (p ∷ ps) = ap (λ d. signed_at s at *ℤ p +ℤ d) (dot-take s (at + 4) n ps)

-- its size, times the number of coefficients: so much for each coefficient that was added
module _ (n i : ℕ) (sum a p : ℤ) (few : i < n) (small : nat_abs sum * n ≤ i * 2 ^ 62) (coefficient : nat_abs a ≤ 2 ^ 31) (value : nat_abs p * n ≤ 2 ^ 31) where
  product-size : nat_abs a * nat_abs p * n ≤ 2 ^ 62
  product-size = omega (arith, mul-le-mul coefficient value)

  pub sum_room : nat_abs sum + nat_abs a * nat_abs p < 2 ^ 63
  sum_room =
      let both : (nat_abs sum + nat_abs a * nat_abs p) * n ≤ (i + 1) * 2 ^ 62 = omega (arith, product-size) in
      let most : (nat_abs sum + nat_abs a * nat_abs p) * n ≤ 2 ^ 62 * n = omega (arith, both) in
      omega (arith, le_of_mul-le-mul_right most (omega arith))

  pub sum-grows : nat_abs (sum +ℤ a *ℤ p) * n ≤ (i + 1) * 2 ^ 62
  sum-grows = omega (arith, product-size, mul-le-mul (size-+* sum a p) (le-self n))
    where
      le-self : (n : ℕ) → n ≤ n
      le-self n = omega arith

-- q times its bound has room too
pub bound-room : (b q : ℕ) → b ≤ 2 ^ 31 → q < 2 ^ 24 → 0 + b * q < 2 ^ 63
bound-room b q h k =
    let below : q ≤ 2 ^ 24 = omega arith in
    omega (arith, mul-le-mul h below)

-- a row is compared: its sum with q times its bound
pub row-compared : (s : List ℕ) (at version n q : ℕ) (ps : List ℤ) (sum b : ℤ) → sum ≡ dot (numbers_at s at n) ps → b ≡ signed_at s (at + 4 * n) *ℤ pos q → compared (strict_at version s at) sum b ≡ row_holds q (take n ps) (row_at s version n at).row
unfolding row_holds row_at
row-compared s at version n q ps sum b p r = rw (p, r, dot-take s at n ps) refl

-- rows one after the other, from a place on
module _ (s : List ℕ) (version n q : ℕ) (ps : List ℤ) where
  -- a row of each number of a range
  rows-counted : (from at k rows : ℕ) → at ≡ from + row_bytes version n * k → every (λ j. row_holds q ps (row_at s version n (from + row_bytes version n * j)).row) (count_up k rows) ≡ condition_holds q ps (rows_from s version n at rows)
  unfolding condition_holds every count_up rows_from
  rows-counted from at k zero e = refl
  rows-counted from at k (suc rows) e =
      ap (λ (p : ℕ). row_holds q ps (row_at s version n p).row && every (λ j. row_holds q ps (row_at s version n (from + row_bytes version n * j)).row) (count_up (suc k) rows)) (sym e)
      ∙ ap (λ b. row_holds q ps (row_at s version n at).row && b) (rows-counted from (at + row_bytes version n) (suc k) rows (loops.row_next from version n at k e ∙ ap (λ (i : ℕ). from + row_bytes version n * i) (add-one k)))

  pub rows-range : (index : List ℕ) (place v first size : ℕ) → v ≡ version → first ≡ entry index place → size ≡ row_bytes v n → every (λ j. row_holds q ps (row_at s v n (first + size * j)).row) (count_up 0 (entry index (place + 1))) ≡ condition_holds q ps (span_rows s version n index place)
  unfolding span_rows
  rows-range index place v first size p f z = rw (z, f, p) (rows-counted (entry index place) (entry index place) 0 (entry index (place + 1)) (omega arith))

-- two values are the same where their bits are
told-false : (b : Bool) → (T b → ⊥) → b ≡ false
told-false true f = absurd (f tt)
told-false false f = refl

pub same_test : (a b : ℤ) → SFits w64 a → SFits w64 b → eqb (of_z w64 a) (of_z w64 b) ≡ same_z a b
same_test a b f g = go (ℕ_discrete (of_z w64 a) (of_z w64 b))
  where
    go : Dec (of_z w64 a ≡ of_z w64 b) → eqb (of_z w64 a) (of_z w64 b) ≡ same_z a b
    go (yes e) = eq-eqb (of_z w64 a) (of_z w64 b) e ∙ sym (is_true (same_z a b) ((same-means a b).1 (same_bits a b f g e)))
    go (no d) = ne_eqb (of_z w64 a) (of_z w64 b) d ∙ sym (told-false (same_z a b) (λ t. d (ap (of_z w64) ((same-means a b).0 t))))

-- one of two tests, where the first is settled
pub first-true : (a b : Bool) → a ≡ true → true ≡ (a || b)
first-true a b e = ap (λ x. x || b) (sym e)

pub first-false : (a b c : Bool) → a ≡ false → c ≡ b → c ≡ (a || b)
first-false a b c e p = p ∙ ap (λ x. x || b) (sym e)

-- a variable that is not kept is free
pub kept-moves : (a b : Bool) → a ≡ false → true ≡ (not a || b)
kept-moves a b e = ap (λ x. not x || b) (sym e)

pub kept-stays : (a b c : Bool) → a ≡ true → c ≡ b → c ≡ (not a || b)
kept-stays a b c e p = p ∙ ap (λ x. not x || b) (sym e)

-- a value that is the same is kept; one that is not is where nothing asks that it be
pub kept_same : (test : ℕ → Bool) (n : ℕ) (state : List ℤ) (v : ℕ) (same : Bool) → same ≡ same_at n state v → same ≡ true → true ≡ kept_at test n state v
unfolding kept_at
kept_same test n state v same p e = sym (or-true (not (test v))) ∙ ap (λ x. not (test v) || x) (sym e ∙ p)

pub kept-changed : (test : ℕ → Bool) (n : ℕ) (state : List ℤ) (v : ℕ) (same kept : Bool) → same ≡ same_at n state v → same ≡ false → kept ≡ test v → not kept ≡ kept_at test n state v
unfolding kept_at
kept-changed test n state v same kept p e q = ap not q ∙ sym (or-false (not (test v))) ∙ ap (λ x. not (test v) || x) (sym e ∙ p)

pub kept_of : (test : ℕ → Bool) (m n : ℕ) (state : List ℤ) (v : ℕ) (r : Bool) → m ≡ n → r ≡ kept_at test m state v → r ≡ kept_at test n state v
kept_of test m n state v r e q = q ∙ ap (λ (k : ℕ). kept_at test k state v) e

-- where a good index keeps rows: at an offset from a mode, of a switch, of an unsafe condition
pub point-for : {n m : ℕ} {point : List ℤ} → n ≡ m → SmallPoint m point → SmallPoint n point
point-for {point = point} e w = subst (λ (k : ℕ). SmallPoint k point) (sym e) w

module _ {s index modes : List ℕ} {offset : ℕ} (g : (offset ≤ 5) × GoodModes s index modes offset) (few : entry index 1 ≤ 4) (n k place : ℕ) (h : k < entry index 1) (p : n ≡ entry index 0) (q : place ≡ mode_place (component_place k) (get_or modes k 0) + offset) where
  pub mode-place : place + 1 < 1004
  unfolding mode_place component_place
  mode-place = omega (arith, q, g.0, g.1.small k h)

  pub mode-span : GoodSpan s (entry index 11) n index place
  mode-span =
      subst (λ (i : ℕ). GoodSpan s (entry index 11) i index place) (sym p)
      (subst (λ (i : ℕ). GoodSpan s (entry index 11) (entry index 0) index i) (sym q) (g.1.spans k h))

pub mode-told : (s index modes : List ℕ) (offset n k place t : ℕ) (point : List ℤ) (r : Bool) → n ≡ entry index 0 → place ≡ mode_place (component_place k) (get_or modes k 0) + offset → r ≡ condition_holds t (take n point) (span_rows s (entry index 11) n index place) → r ≡ mode_holds s index modes offset t point k
unfolding mode_holds
mode-told s index modes offset n k place t point r p q e =
    e
    ∙ ap (λ (i : ℕ). condition_holds t (take i point) (span_rows s (entry index 11) i index place)) p
    ∙ ap (λ (i : ℕ). condition_holds t (take (entry index 0) point) (span_rows s (entry index 11) (entry index 0) index i)) q

module _ {s index : List ℕ} (g : GoodIndex s index) (n k i place : ℕ) (h : k < entry index 1) (l : i < entry index (component_place k + 2)) (p : n ≡ entry index 0) (q : place ≡ switch_place (component_place k) i + 3) where
  pub switch-place : place + 1 < 1004
  unfolding switch_place component_place
  switch-place = omega (arith, q, g.few, (g.blocks k h).few)

  pub switch-span : GoodSpan s (entry index 11) (2 * n) index place
  switch-span =
      subst (λ (m : ℕ). GoodSpan s (entry index 11) (2 * m) index place) (sym p)
      (subst (λ (m : ℕ). GoodSpan s (entry index 11) (2 * entry index 0) index m) (sym q) ((g.blocks k h).switches i l).jump)

  pub switch-told : (t : ℕ) (point : List ℤ) (r : Bool) → eqb i stays ≡ false → r ≡ condition_holds t (take (2 * n) point) (span_rows s (entry index 11) (2 * n) index place) → r ≡ move_holds s index t point k i
  unfolding move_holds
  switch-told t point r f e =
      first-false (eqb i stays) (condition_holds t (take (2 * entry index 0) point) (span_rows s (entry index 11) (2 * entry index 0) index (switch_place (component_place k) i + 3))) r f
      (e
      ∙ ap (λ (m : ℕ). condition_holds t (take (2 * m) point) (span_rows s (entry index 11) (2 * m) index place)) p
      ∙ ap (λ (m : ℕ). condition_holds t (take (2 * entry index 0) point) (span_rows s (entry index 11) (2 * entry index 0) index m)) q)

module _ {s index : List ℕ} (g : GoodIndex s index) (n u : ℕ) (h : u < entry index 2) (p : n ≡ entry index 0) where
  pub unsafe-place : 892 + 6 * u + 4 + 1 < 1004
  unsafe-place = omega (arith, g.conditions)

  pub unsafe-span : GoodSpan s (entry index 11) n index (892 + 6 * u + 4)
  unfolding unsafe_place
  unsafe-span = subst (λ (m : ℕ). GoodSpan s (entry index 11) m index (892 + 6 * u + 4)) (sym p) (g.unsafe u h)

-- tests in a row, where the first are settled
pub second-fails : (x a r : Bool) → a ≡ false → false ≡ (x && (a && r))
second-fails true a r e = ap (λ y. y && r) (sym e)
second-fails false a r e = refl

pub third-fails : (a b c : Bool) → a ≡ true → b ≡ false → false ≡ (a && (b && c))
third-fails a b c p q = ap (λ y. y && c) (sym q) ∙ ap (λ y. y && (b && c)) (sym p)

pub third-left : (a b c : Bool) → a ≡ true → b ≡ true → c ≡ (a && (b && c))
third-left a b c p q = ap (λ y. y && c) (sym q) ∙ ap (λ y. y && (b && c)) (sym p)

-- the rule of a flow, where its tests are settled
module _ (a k n b : Bool) where
  pub flow-fails : a ≡ false → false ≡ (a && (k && (not n || b)))
  flow-fails e = ap (λ y. y && (k && (not n || b))) (sym e)

  pub flow-drifts : a ≡ true → k ≡ false → false ≡ (a && (k && (not n || b)))
  flow-drifts e p = ap (λ y. y && (not n || b)) (sym p) ∙ ap (λ y. y && (k && (not n || b))) (sym e)

  pub flow-lasts : a ≡ true → k ≡ true → n ≡ false → true ≡ (a && (k && (not n || b)))
  flow-lasts e p q = ap (λ y. not y || b) (sym q) ∙ ap (λ y. y && (not n || b)) (sym p) ∙ ap (λ y. y && (k && (not n || b))) (sym e)

  pub flow-stands : a ≡ true → k ≡ true → n ≡ true → b ≡ (a && (k && (not n || b)))
  flow-stands e p q = ap (λ y. not y || b) (sym q) ∙ ap (λ y. y && (not n || b)) (sym p) ∙ ap (λ y. y && (k && (not n || b))) (sym e)
