-- Combining coefficient by coefficient, and testing each. Assumes nothing.
use mathlib.Core.Path.{◌≡◌, refl, ap, ◌∙◌}
use mathlib.Core.Bool.{Bool, true, false, cond, ◌&&◌}
use mathlib.Core.List.{List, [], ◌∷◌}
use Prim.Native.Nat.{ℕ, zero, suc, ◌+◌, ◌≤◌, ◌<◌}
use native.Mathlib.Numerals.{add-one}
use native.Mathlib.Omega.{arith}
use lib.IntN.{ℤ, pos, negsuc, ◌+ℤ◌, ◌*ℤ◌}
use lib.ListN.{length, get_or, drop, drop_of_length-le}
use lib.Seq.{drop-cons}
use borrow.Author.Tests.{lt-leb}
use Rattle.farkas.specs.Lists.{every}
use Rattle.std.specs.Prelude.{Some, None}
use Rattle.typed.specs.declared.forms.Form.{Form}
use Rattle.typed.specs.Forms.{plus, s32, entry_of, fit, reaches, refused, is_zero}

pub plus-length : (m : ℤ) (xs ys : List ℤ) → length (plus m xs ys) ≡ length xs
unfolding plus
plus-length m [] ys = refl
plus-length m (x ∷ xs) [] = ap suc (plus-length m xs [])
plus-length m (x ∷ xs) (y ∷ ys) = ap suc (plus-length m xs ys)

pub plus-at : (m : ℤ) (xs ys : List ℤ) (i : ℕ) → i < length xs → i < length ys → get_or (plus m xs ys) i (pos 0) ≡ get_or xs i (pos 0) +ℤ m *ℤ get_or ys i (pos 0)
unfolding plus
plus-at m [] ys i h k = absurd (omega arith)
plus-at m (x ∷ xs) [] i h k = absurd (omega arith)
plus-at m (x ∷ xs) (y ∷ ys) zero h k = refl
plus-at m (x ∷ xs) (y ∷ ys) (suc i) h k = plus-at m xs ys i (omega arith) (omega arith)

-- a test of every element, from a place on
module _ (f : ℤ → Bool) (xs : List ℤ) (i : ℕ) (h : i < length xs) where
  from-here : every f (drop i xs) ≡ f (get_or xs i (pos 0)) && every f (drop (i + 1) xs)
  unfolding every
  from-here = rw (add-one, drop-cons xs i (pos 0) h)

  pub passes-here : f (get_or xs i (pos 0)) ≡ true → every f (drop i xs) ≡ every f (drop (i + 1) xs)
  passes-here e = from-here ∙ ap (λ b. b && every f (drop (i + 1) xs)) e

  pub fails-here : f (get_or xs i (pos 0)) ≡ false → every f (drop i xs) ≡ false
  fails-here e = from-here ∙ ap (λ b. b && every f (drop (i + 1) xs)) e

pub passes-all : (f : ℤ → Bool) (xs : List ℤ) (i : ℕ) → length xs ≤ i → every f (drop i xs) ≡ true
unfolding every
passes-all f xs i h = ap (every f) (drop_of_length-le xs h)

-- what an entry says of its number
tested : (b : Bool) (z v : ℤ) → cond b (Some z) None ≡ Some v → (b ≡ true) × (z ≡ v)
tested true z v e = (refl, cc)
tested false z v e = absurd (let u : ◌≡◌ {A = ℕ} 0 1 = cc in omega arith)

pub entry-fits : (z v : ℤ) → entry_of z ≡ Some v → (s32 z ≡ true) × (z ≡ v)
unfolding entry_of
entry-fits z v e = tested (s32 z) z v e

failed : (b : Bool) (z : ℤ) → cond b (Some z) None ≡ None → b ≡ false
failed true z e = absurd (let u : ◌≡◌ {A = ℕ} 0 1 = cc in omega arith)
failed false z e = refl

pub entry-outside : (z : ℤ) → entry_of z ≡ None → s32 z ≡ false
unfolding entry_of
entry-outside z e = failed (s32 z) z e

-- a form that fits, and one that does not
both-no : (a b : Bool) → b ≡ false → (a && b) ≡ false
both-no true b e = e
both-no false b e = refl

pub form-fits : (p q : ℕ) (x : Form) → every s32 x.coefficients ≡ true → s32 x.number ≡ true → fit p q x ≡ reaches q x
unfolding fit
form-fits p q x e f = rw (e, f)

pub coefficient-outside : (p q : ℕ) (x : Form) → every s32 x.coefficients ≡ false → fit p q x ≡ refused p
unfolding fit
coefficient-outside p q x e = rw e

pub number-outside : (p q : ℕ) (x : Form) → s32 x.number ≡ false → fit p q x ≡ refused p
unfolding fit
number-outside p q x e = ap (λ b. cond b (reaches q x) (refused p)) (both-no (every s32 x.coefficients) (s32 x.number) e)

-- whether a coefficient is 0
pub zero-yes : (z : ℤ) → z ≡ pos 0 → is_zero z ≡ true
unfolding is_zero
zero-yes z e = ap (λ u. is_zero u) e

pub zero-no : (z : ℤ) → (z ≡ pos 0 → ⊥) → is_zero z ≡ false
unfolding is_zero
zero-no (pos zero) h = absurd (h refl)
zero-no (pos (suc n)) h = rw (lt-leb (suc n) 0 (omega arith))
zero-no (negsuc n) h = refl
