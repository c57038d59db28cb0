-- What is refused as 17 stands in the spelling of the tree that is worked out. Assumes nothing.
use mathlib.Core.Path.{◌≡◌, refl, sym}
use mathlib.Core.Bool.{Bool, true, false, cond, ◌&&◌}
use Prim.Native.Nat.{ℕ, suc, ◌+◌, ◌^◌, ◌≤◌, ◌<◌}
use native.Mathlib.Omega.{arith}
use lib.Dec.{ltb}
use lib.IntN.{ℤ, pos, negsuc}
use lib.ListN.{length, length-append}
use Rattle.farkas.specs.Lists.{every}
use Rattle.typed.specs.declared.signs.Sign.TheVariants.{Plus, Minus, Times}
use Rattle.typed.specs.declared.forms.Form.{Form}
use Rattle.std.specs.Prelude.{Ok, Err}
use Rattle.typed.specs.Text.{Expression, term, sum, difference, Term, factor, product, Factor, number, variable, bracket, negative, blanks, spell, spell_term, spell_factor, Comparison, spell_row}
use Rattle.typed.specs.Forms.{Reading, s32, reaches, refused, fit, next, zero_form, combined, collected, joined, varies, multiplied, variable_at, number_at, collected_at}
use Rattle.typed.specs.Forms as forms
use Rattle.typed.specs.Values.{decimal_of, work_expression, work_term, work_factor, work_row}
use Rattle.typed.specs.Following.{FaultBelow}
use Rattle.typed.proofs.PlaceLaws.{no, same_fault}
use Rattle.typed.proofs.StandLaws.{length-blanks}
use Rattle.typed.proofs.EndLaws.{operand-length, bracket-length, expression-end, term-end, row-length}

-- a result that was tested is refused at its own place
module _ (end : ℕ) where
  chosen-below : (b : Bool) (p q : ℕ) (x : Form) → p < end → FaultBelow end (cond b (reaches q x) (refused p))
  chosen-below true p q x h = record { place = λ r e. no (sym e) }
  chosen-below false p q x h = record { place = λ r e. let z : p ≡ r = same_fault e in omega arith }

  fit-below : (p q : ℕ) (x : Form) → p < end → FaultBelow end (fit p q x)
  unfolding fit
  fit-below p q x h = chosen-below (every s32 x.coefficients && s32 x.number) p q x h

  product-below : (p q : ℕ) (a b : Form) → p < end → FaultBelow end (forms.product p q a b)
  unfolding forms.product
  product-below p q a b h = go (varies a) (varies b)
    where
      go : (s t : Bool) → FaultBelow end (cond s (cond t (refused p) (fit p q (combined zero_form b.number a))) (fit p q (combined zero_form a.number b)))
      go true true = chosen-below false p q zero_form h
      go true false = fit-below p q (combined zero_form b.number a) h
      go false t = fit-below p q (combined zero_form a.number b) h

  next-below : (w : Reading) (f : ℕ → Form → Reading) → FaultBelow end w → ((q : ℕ) (x : Form) → w ≡ reaches q x → FaultBelow end (f q x)) → FaultBelow end (next w f)
  unfolding next
  next-below (Ok w) f h k = k w.next w.form refl
  next-below (Err e) f h k = h

  joined-below : (p : ℕ) (a : Form) (m : ℤ) (w : Reading) → p < end → FaultBelow end w → FaultBelow end (joined p a m w)
  unfolding joined
  joined-below p a m w h k = next-below w (λ q b. fit p q (combined a m b)) k (λ q b e. fit-below p q (combined a m b) h)

  multiplied-below : (p : ℕ) (a : Form) (w : Reading) → p < end → FaultBelow end w → FaultBelow end (multiplied p a w)
  unfolding multiplied
  multiplied-below p a w h k = next-below w (λ q b. forms.product p q a b) k (λ q b e. product-below p q a b h)

  collected-below : (p : ℕ) (a : Form) (w : Reading) → p < end → FaultBelow end w → FaultBelow end (collected_at p a w)
  unfolding collected_at
  collected-below p a w h k = next-below w (λ q b. fit p q (collected a b)) k (λ q b e. fit-below p q (collected a b) h)

  mutual
    unfolding work_expression spell variable_at number_at

    expression-below : (e : Expression) (n p : ℕ) → p + length (spell e) ≤ end → FaultBelow end (work_expression n p e)
    expression-below (term t) n p h = term-below t n p h
    expression-below (sum e i j t) n p h =
        let l = operand-length (spell e) (spell_term t) i j Plus in
        next-below (work_expression n p e) (λ q x. joined (q + i) x (pos 1) (work_term n (q + i + 1 + j) t)) (expression-below e n p (omega arith)) λ q x r.
        let b = expression-end e n p q x r in
        joined-below (q + i) x (pos 1) (work_term n (q + i + 1 + j) t) (omega arith) (term-below t n (q + i + 1 + j) (omega arith))
    expression-below (difference e i j t) n p h =
        let l = operand-length (spell e) (spell_term t) i j Minus in
        next-below (work_expression n p e) (λ q x. joined (q + i) x (negsuc 0) (work_term n (q + i + 1 + j) t)) (expression-below e n p (omega arith)) λ q x r.
        let b = expression-end e n p q x r in
        joined-below (q + i) x (negsuc 0) (work_term n (q + i + 1 + j) t) (omega arith) (term-below t n (q + i + 1 + j) (omega arith))

    term-below : (t : Term) (n p : ℕ) → p + length (spell_term t) ≤ end → FaultBelow end (work_term n p t)
    term-below (factor f) n p h = factor-below f n p h
    term-below (product t i j f) n p h =
        let l = operand-length (spell_term t) (spell_factor f) i j Times in
        next-below (work_term n p t) (λ q x. multiplied (q + i) x (work_factor n (q + i + 1 + j) f)) (term-below t n p (omega arith)) λ q x r.
        let b = term-end t n p q x r in
        multiplied-below (q + i) x (work_factor n (q + i + 1 + j) f) (omega arith) (factor-below f n (q + i + 1 + j) (omega arith))

    factor-below : (f : Factor) (n p : ℕ) → p + length (spell_factor f) ≤ end → FaultBelow end (work_factor n p f)
    factor-below (number d ds) n p h = chosen-below (ltb (decimal_of d ds) (2 ^ 31)) p (p + suc (length ds)) _ (omega arith)
    factor-below (variable v) n p h = chosen-below (ltb v n) p (p + 1) _ (omega arith)
    factor-below (bracket i e j) n p h =
        next-below (work_expression n (p + 1 + i) e) (λ q x. reaches (q + j + 1) x) (expression-below e n (p + 1 + i) (omega (arith, bracket-length (spell e) i j))) λ q x r.
        chosen-below true p (q + j + 1) _ (omega arith)
    factor-below (negative i f) n p h =
        joined-below p zero_form (negsuc 0) (work_factor n (p + 1 + i) f) (omega arith) (factor-below f n (p + 1 + i) (omega (arith, length-append (blanks i) (spell_factor f), length-blanks i)))

  pub row_below : (n : ℕ) (c : Comparison) → length (spell_row c) ≤ end → FaultBelow end (work_row n c)
  unfolding work_row
  row_below n c h =
      let l = c.left in
      let o = c.right in
      let whole = row-length c in
      next-below (work_expression n c.before l) _ (expression-below l n c.before (omega arith)) λ q x r.
      let b = expression-end l n c.before q x r in
      collected-below (q + c.between) x (work_expression n (q + c.between + 2 + c.beyond) o) (omega arith) (expression-below o n (q + c.between + 2 + c.beyond) (omega arith))
