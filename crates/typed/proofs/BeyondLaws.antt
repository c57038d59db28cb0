-- "The row is returned, coefficients from n on 0": only the first n letters are worked out, and sums and products of forms in them are
-- forms in them. Assumes nothing.
use mathlib.Core.Path.{◌≡◌, refl, ap, ◌∙◌, subst}
use mathlib.Core.Logic.{⊎_elim}
use mathlib.Core.Bool.{Bool, true, false, cond, ◌&&◌}
use mathlib.Core.List.{List, [], ◌∷◌}
use Prim.Native.Nat.{ℕ, zero, suc, ◌+◌, ◌^◌, ◌≤◌, ◌<◌}
use native.Mathlib.Omega.{arith}
use lib.Dec.{ltb}
use lib.IntN.{ℤ, pos, negsuc, ◌+ℤ◌, ◌*ℤ◌, *ℤ-zero}
use lib.ListN.{length, get_or, replicate, get_or-replicate, get_or-eq_default}
use lib.Seq.{get_or-set_other}
use borrow.Author.Tests.{ltb-true}
use Rattle.farkas.specs.Lists.{every}
use Rattle.typed.specs.declared.forms.Form.{Form}
use Rattle.std.specs.Prelude.{Ok, Err, ⊤}
use Rattle.typed.specs.Text.{Expression, term, sum, difference, Term, factor, product, Factor, number, variable, bracket, negative, Comparison}
use Rattle.typed.specs.Forms.{s32, single, plus, Reading, reaches, refused, fit, next, zero_form, combined, collected, joined, varies, multiplied, variable_at, number_at, collected_at}
use Rattle.typed.specs.Forms as forms
use Rattle.typed.specs.Values.{decimal_of, work_expression, work_term, work_factor, work_row}
use Rattle.typed.specs.Typed.{Answered, coefficients_of, Typed, count-refused, length-refused, text-refused, value-refused, accepted, typed_row}
use Rattle.farkas.proofs.Order.{compare}
use Rattle.typed.proofs.TypedLaws.{typed-is}

-- 0 from n on
pub record Only (n : ℕ) (xs : List ℤ) : Type 0 where
  pub beyond : (i : ℕ) → n ≤ i → get_or xs i (pos 0) ≡ pos 0

zeros : (i : ℕ) → get_or (replicate 8 (pos 0)) i (pos 0) ≡ pos 0
zeros i = ⊎_elim (λ h. get_or-replicate 8 i (pos 0) (pos 0) h) (λ h. get_or-eq_default (replicate 8 (pos 0)) (pos 0) h) (compare i 8)

plus-zero : (m : ℤ) (xs ys : List ℤ) (i : ℕ) → get_or xs i (pos 0) ≡ pos 0 → get_or ys i (pos 0) ≡ pos 0 → get_or (plus m xs ys) i (pos 0) ≡ pos 0
unfolding plus
plus-zero m [] ys i e f = refl
plus-zero m (x ∷ xs) [] zero e f = e
plus-zero m (x ∷ xs) [] (suc i) e f = plus-zero m xs [] i e refl
plus-zero m (x ∷ xs) (y ∷ ys) zero e f = ap (λ z. z +ℤ m *ℤ y) e ∙ ap (λ z. pos 0 +ℤ m *ℤ z) f ∙ ap (λ z. pos 0 +ℤ z) (*ℤ-zero m)
plus-zero m (x ∷ xs) (y ∷ ys) (suc i) e f = plus-zero m xs ys i e f

module _ (n : ℕ) where
  abbrev In : Reading → Type 0
  In (Ok w) = Only n w.form.coefficients
  In (Err e) = ⊤

  none : Only n (replicate 8 (pos 0))
  none = record { beyond = λ i h. zeros i }

  one : (v : ℕ) → v < n → Only n (single v).coefficients
  one v l = record { beyond = λ i h. get_or-set_other (replicate 8 (pos 0)) v i (pos 1) (pos 0) (λ e. absurd (omega arith)) ∙ zeros i }

  both : (m : ℤ) {xs ys : List ℤ} → Only n xs → Only n ys → Only n (plus m xs ys)
  both m {xs} {ys} a b = record { beyond = λ i h. plus-zero m xs ys i (a.beyond i h) (b.beyond i h) }

  chosen-in : (b : Bool) (p q : ℕ) (x : Form) → Only n x.coefficients → In (cond b (reaches q x) (refused p))
  chosen-in true p q x h = h
  chosen-in false p q x h = tt

  fit-in : (p q : ℕ) (x : Form) → Only n x.coefficients → In (fit p q x)
  unfolding fit
  fit-in p q x h = chosen-in (every s32 x.coefficients && s32 x.number) p q x h

  combined-in : (p q : ℕ) (a : Form) (m : ℤ) (b : Form) → Only n a.coefficients → Only n b.coefficients → In (fit p q (combined a m b))
  unfolding combined
  combined-in p q a m b h k = fit-in p q (combined a m b) (both m h k)

  product-in : (p q : ℕ) (a b : Form) → Only n a.coefficients → Only n b.coefficients → In (forms.product p q a b)
  unfolding forms.product
  product-in p q a b h k = go (varies a) (varies b)
    where
      go : (s t : Bool) → In (cond s (cond t (refused p) (fit p q (combined zero_form b.number a))) (fit p q (combined zero_form a.number b)))
      go true true = tt
      go true false = combined-in p q zero_form b.number a none h
      go false t = combined-in p q zero_form a.number b none k

  next-in : (w : Reading) (f : ℕ → Form → Reading) → In w → ((q : ℕ) (x : Form) → Only n x.coefficients → In (f q x)) → In (next w f)
  unfolding next
  next-in (Ok w) f h k = k w.next w.form h
  next-in (Err e) f h k = tt

  joined_in : (p : ℕ) (a : Form) (m : ℤ) (w : Reading) → Only n a.coefficients → In w → In (joined p a m w)
  unfolding joined
  joined_in p a m w h k = next-in w (λ q b. fit p q (combined a m b)) k (λ q b i. combined-in p q a m b h i)

  multiplied-in : (p : ℕ) (a : Form) (w : Reading) → Only n a.coefficients → In w → In (multiplied p a w)
  unfolding multiplied
  multiplied-in p a w h k = next-in w (λ q b. forms.product p q a b) k (λ q b i. product-in p q a b h i)

  collected-in : (p : ℕ) (a : Form) (w : Reading) → Only n a.coefficients → In w → In (collected_at p a w)
  unfolding collected_at collected
  collected-in p a w h k = next-in w (λ q b. fit p q (collected a b)) k (λ q b i. fit-in p q (collected a b) (both (negsuc 0) h i))

  letter-in : (p v : ℕ) → In (variable_at n p v)
  unfolding variable_at
  letter-in p v = go (ltb v n) refl
    where
      go : (b : Bool) → ltb v n ≡ b → In (cond b (reaches (p + 1) (single v)) (refused p))
      go true e = one v (ltb-true v n e)
      go false e = tt

  mutual
    unfolding work_expression number_at

    expression-in : (e : Expression) (p : ℕ) → In (work_expression n p e)
    expression-in (term t) p = term_in t p
    expression-in (sum e i j t) p =
        next-in (work_expression n p e) (λ q x. joined (q + i) x (pos 1) (work_term n (q + i + 1 + j) t)) (expression-in e p) λ q x h.
        joined_in (q + i) x (pos 1) (work_term n (q + i + 1 + j) t) h (term_in t (q + i + 1 + j))
    expression-in (difference e i j t) p =
        next-in (work_expression n p e) (λ q x. joined (q + i) x (negsuc 0) (work_term n (q + i + 1 + j) t)) (expression-in e p) λ q x h.
        joined_in (q + i) x (negsuc 0) (work_term n (q + i + 1 + j) t) h (term_in t (q + i + 1 + j))

    term_in : (t : Term) (p : ℕ) → In (work_term n p t)
    term_in (factor f) p = factor-in f p
    term_in (product t i j f) p =
        next-in (work_term n p t) (λ q x. multiplied (q + i) x (work_factor n (q + i + 1 + j) f)) (term_in t p) λ q x h.
        multiplied-in (q + i) x (work_factor n (q + i + 1 + j) f) h (factor-in f (q + i + 1 + j))

    factor-in : (f : Factor) (p : ℕ) → In (work_factor n p f)
    factor-in (number d ds) p = chosen-in (ltb (decimal_of d ds) (2 ^ 31)) p (p + suc (length ds)) _ none
    factor-in (variable v) p = letter-in p v
    factor-in (bracket i e j) p = next-in (work_expression n (p + 1 + i) e) (λ q x. reaches (q + j + 1) x) (expression-in e (p + 1 + i)) (λ q x h. h)
    factor-in (negative i f) p = joined_in p zero_form (negsuc 0) (work_factor n (p + 1 + i) f) none (factor-in f (p + 1 + i))

  row_in : (c : Comparison) → In (work_row n c)
  unfolding work_row
  row_in c =
      next-in (work_expression n c.before c.left) _ (expression-in c.left c.before) λ q x h.
      collected-in (q + c.between) x _ h (expression-in c.right (q + c.between + 2 + c.beyond))

  typed-only : {text : List ℕ} {a : Answered} → Typed n text a → Only n (coefficients_of a)
  typed-only (count-refused h) = none
  typed-only (length-refused l m h) = none
  typed-only (text-refused l m s p b) = none
  typed-only (value-refused l m s c e p r) = none
  typed-only (accepted l m s c e q x r) = subst In r (row_in c)

-- in every answer, accepted or refused
pub beyond-zero : (n : ℕ) (text : List ℕ) (i : ℕ) → n ≤ i → get_or (coefficients_of (typed_row n text)) i (pos 0) ≡ pos 0
beyond-zero n text i h = (typed-only n (typed-is n text)).beyond i h
