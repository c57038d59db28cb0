-- Values taken N times, and the values u·p + t·p' of a point between two states: products with them, their differences, and that a value is
-- kept on the way where it is kept at the end. Assumes nothing.
use mathlib.Core.Path.{◌≡◌, refl, sym, ap, ap₂, ◌∙◌, subst}
use mathlib.Core.List.{List, [], ◌∷◌, ◌++◌, map-append}
use Prim.Native.Nat.{ℕ, zero, suc, ◌+◌, ◌*◌}
use native.Mathlib.Omega.{arith}
use lib.Dec.{T}
use lib.IntN.{ℤ, pos, ◌+ℤ◌, ◌-ℤ◌, ◌*ℤ◌, *ℤ-zero}
use lib.ListN.{length, length-map}
use mir.Facts.{and_yes, yes_and}
use Rattle.farkas.specs.Rows.{item, dot}
use Rattle.farkas.specs.Farkas.{same_z}
use Rattle.farkas.proofs.Integers.{split, by_parts}
use Rattle.farkas.proofs.Promise.{same-means}
use Rattle.rules.specs.Runs.{difference, same_values, kept}
use Rattle.rules.specs.Between.{times, mixed}
use Rattle.rules.proofs.Blanks.{kept-means}
use Rattle.rules.proofs.Hypotheses.{all_so}

-- one value, mixed with itself or where there is none
mixed_one : (u t : ℕ) (x : ℤ) → pos u *ℤ x +ℤ pos t *ℤ x ≡ pos (u + t) *ℤ x
mixed_one u t x = rw (split x) (simp by_parts (omega arith))

mixed-zero : (u t : ℕ) → pos 0 ≡ pos u *ℤ pos 0 +ℤ pos t *ℤ pos 0
mixed-zero u t = simp by_parts (omega arith)

-- products with values taken N times, and with values mixed
pub dot-times : (N : ℕ) (xs ps : List ℤ) → dot xs (times N ps) ≡ pos N *ℤ dot xs ps
unfolding dot times
dot-times N [] ps = sym (*ℤ-zero (pos N))
dot-times N (a ∷ xs) [] = sym (*ℤ-zero (pos N))
dot-times N (a ∷ xs) (p ∷ ps) = ap (λ z. a *ℤ (pos N *ℤ p) +ℤ z) (dot-times N xs ps) ∙ law N a p (dot xs ps)
  where
    law : (N : ℕ) (a p d : ℤ) → a *ℤ (pos N *ℤ p) +ℤ pos N *ℤ d ≡ pos N *ℤ (a *ℤ p +ℤ d)
    law N a p d = rw (split a, split p, split d) (simp by_parts (omega arith))

pub dot-mixed : (u t : ℕ) (xs ps ns : List ℤ) → length ps ≡ length ns → dot xs (mixed u t ps ns) ≡ pos u *ℤ dot xs ps +ℤ pos t *ℤ dot xs ns
unfolding dot mixed
dot-mixed u t [] ps ns h = mixed-zero u t
dot-mixed u t (a ∷ xs) [] [] h = mixed-zero u t
dot-mixed u t (a ∷ xs) [] (n ∷ ns) h = absurd (omega arith)
dot-mixed u t (a ∷ xs) (p ∷ ps) [] h = absurd (omega arith)
dot-mixed u t (a ∷ xs) (p ∷ ps) (n ∷ ns) h =
    ap (λ z. a *ℤ (pos u *ℤ p +ℤ pos t *ℤ n) +ℤ z) (dot-mixed u t xs ps ns (omega arith)) ∙ law u t a p n (dot xs ps) (dot xs ns)
  where
    law : (u t : ℕ) (a p n c d : ℤ) → a *ℤ (pos u *ℤ p +ℤ pos t *ℤ n) +ℤ (pos u *ℤ c +ℤ pos t *ℤ d) ≡ pos u *ℤ (a *ℤ p +ℤ c) +ℤ pos t *ℤ (a *ℤ n +ℤ d)
    law u t a p n c d = rw (split a, split p, split n, split c, split d) (simp by_parts (omega arith))

module _ (N : ℕ) where
  pub length-times : (p : List ℤ) → length (times N p) ≡ length p
  unfolding times
  length-times p = length-map p (λ x. pos N *ℤ x)

  pub item-times : (p : List ℤ) (v : ℕ) → item (times N p) v ≡ pos N *ℤ item p v
  unfolding times item
  item-times [] v = sym (*ℤ-zero (pos N))
  item-times (x ∷ p) zero = refl
  item-times (x ∷ p) (suc v) = item-times p v

  pub append-times : (p next : List ℤ) → times N (p ++ next) ≡ times N p ++ times N next
  unfolding times
  append-times p next = map-append (λ x. pos N *ℤ x) p next

  pub difference-times : (next p : List ℤ) → difference (times N next) (times N p) ≡ times N (difference next p)
  unfolding times difference
  difference-times [] p = refl
  difference-times (y ∷ next) [] = refl
  difference-times (y ∷ next) (x ∷ p) = ap₂ (λ a l. a ∷ l) (law y x) (difference-times next p)
    where
      law : (y x : ℤ) → (pos N *ℤ y) -ℤ (pos N *ℤ x) ≡ pos N *ℤ (y -ℤ x)
      law y x = rw (split y, split x) (simp by_parts (omega arith))

  pub same-times : (xs ys : List ℤ) → T (same_values xs ys) → T (same_values (times N xs) (times N ys))
  unfolding same_values times
  same-times [] [] t = tt
  same-times [] (y ∷ ys) t = absurd t
  same-times (x ∷ xs) [] t = absurd t
  same-times (x ∷ xs) (y ∷ ys) t =
      let h = and_yes (same_z x y) (same_values xs ys) t in
      yes_and (same_z (pos N *ℤ x) (pos N *ℤ y)) (same_values (times N xs) (times N ys))
      ((same-means (pos N *ℤ x) (pos N *ℤ y)).1 (ap (λ z. pos N *ℤ z) ((same-means x y).0 h.0)))
      (same-times xs ys h.1)

-- on the way the rates are those of the whole flow: (u·p + t·p') − (u + t)·p is t·(p' − p)
pub mixed-difference : (u t : ℕ) (p next : List ℤ) → difference (mixed u t p next) (times (u + t) p) ≡ times t (difference next p)
unfolding mixed difference times
mixed-difference u t [] [] = refl
mixed-difference u t [] (y ∷ next) = refl
mixed-difference u t (x ∷ p) [] = refl
mixed-difference u t (x ∷ p) (y ∷ next) = ap₂ (λ a l. a ∷ l) (law u t x y) (mixed-difference u t p next)
  where
    law : (u t : ℕ) (x y : ℤ) → (pos u *ℤ x +ℤ pos t *ℤ y) -ℤ (pos (u + t) *ℤ x) ≡ pos t *ℤ (y -ℤ x)
    law u t x y = rw (split x, split y) (simp by_parts (omega arith))

-- on the way a value that is kept is the same
pub item-mixed : (u t : ℕ) (p next : List ℤ) (v : ℕ) → length p ≡ length next → item (mixed u t p next) v ≡ pos u *ℤ item p v +ℤ pos t *ℤ item next v
unfolding mixed item
item-mixed u t [] [] v h = mixed-zero u t
item-mixed u t [] (y ∷ next) v h = absurd (omega arith)
item-mixed u t (x ∷ p) [] v h = absurd (omega arith)
item-mixed u t (x ∷ p) (y ∷ next) zero h = refl
item-mixed u t (x ∷ p) (y ∷ next) (suc v) h = item-mixed u t p next v (omega arith)

pub kept-mixed : (u t : ℕ) (variables : List ℕ) (p next : List ℤ) → length p ≡ length next → T (kept variables next p) → T (kept variables (mixed u t p next) (times (u + t) p))
kept-mixed u t variables p next h k =
    (kept-means variables (mixed u t p next) (times (u + t) p)).1
    (all_so
    (λ v e. item-mixed u t p next v h ∙ ap (λ z. pos u *ℤ item p v +ℤ pos t *ℤ z) e ∙ mixed_one u t (item p v) ∙ sym (item-times (u + t) p v))
    ((kept-means variables next p).0 k))

-- the same values; and on the way of a flow of time 0, or at its start, they are those before
pub same_lists : (xs ys : List ℤ) → T (same_values xs ys) → xs ≡ ys
unfolding same_values
same_lists [] [] t = refl
same_lists [] (y ∷ ys) t = absurd t
same_lists (x ∷ xs) [] t = absurd t
same_lists (x ∷ xs) (y ∷ ys) t =
    let h = and_yes (same_z x y) (same_values xs ys) t in
    ap₂ (λ a l. a ∷ l) ((same-means x y).0 h.0) (same_lists xs ys h.1)

same_self : (xs : List ℤ) → T (same_values xs xs)
unfolding same_values
same_self [] = tt
same_self (x ∷ xs) = yes_and (same_z x x) (same_values xs xs) ((same-means x x).1 refl) (same_self xs)

pub lists-same : (xs ys : List ℤ) → xs ≡ ys → T (same_values xs ys)
lists-same xs ys e = subst (λ l. T (same_values xs l)) e (same_self xs)

pub mixed-same : (u t : ℕ) (p : List ℤ) → mixed u t p p ≡ times (u + t) p
unfolding mixed times
mixed-same u t [] = refl
mixed-same u t (x ∷ p) = ap₂ (λ a l. a ∷ l) (mixed_one u t x) (mixed-same u t p)

pub mixed-none : (u : ℕ) (p next : List ℤ) → length p ≡ length next → mixed u 0 p next ≡ times (u + 0) p
unfolding mixed times
mixed-none u [] next h = refl
mixed-none u (x ∷ p) [] h = absurd (omega arith)
mixed-none u (x ∷ p) (y ∷ next) h = ap₂ (λ a l. a ∷ l) (law u x y) (mixed-none u p next (omega arith))
  where
    law : (u : ℕ) (x y : ℤ) → pos u *ℤ x +ℤ pos 0 *ℤ y ≡ pos (u + 0) *ℤ x
    law u x y = rw (split x, split y) (simp by_parts (omega arith))

pub still-mixed : (u t δ : ℕ) (p next : List ℤ) → length p ≡ length next → (δ ≡ 0 → next ≡ p) → δ * t ≡ 0 → mixed u t p next ≡ times (u + t) p
still-mixed u zero δ p next h still e = mixed-none u p next h
still-mixed u (suc t) zero p next h still e = ap (mixed u (suc t) p) (still refl) ∙ mixed-same u (suc t) p
still-mixed u (suc t) (suc δ) p next h still e = absurd (omega arith)
