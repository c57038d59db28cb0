-- Where what was worked out ends: after an operator where its right operand ends, after a sign one further. Assumes nothing.
use mathlib.Core.Path.{◌≡◌, refl, sym, ap, ◌∙◌, subst}
use mathlib.Core.Logic.{◌⊎◌, inl, inr, ⊎_elim}
use mathlib.Core.Bool.{Bool, true, false, cond, ◌&&◌}
use mathlib.Core.List.{List, [], ◌∷◌}
use Prim.Native.Nat.{ℕ, suc, ◌+◌, ◌^◌, ◌≤◌, ◌<◌}
use native.Mathlib.Omega.{arith}
use lib.Dec.{T, ltb}
use lib.IntN.{ℤ}
use lib.ListN.{length, drop, length-drop}
use Rattle.farkas.specs.Lists.{every}
use Rattle.typed.specs.declared.signs.Sign.{Sign}
use Rattle.typed.specs.declared.signs.Sign.TheVariants.{Blank, Digit, Letter, Open, Close, Plus, Minus, Times, Less, Equal, Other}
use Rattle.typed.specs.declared.forms.Form.{Form}
use Rattle.std.specs.Prelude.{Ok, Err, is_err}
use Rattle.typed.specs.Signs.{signs, sign_at}
use Rattle.typed.specs.Turns.{by_close}
use Rattle.typed.specs.Forms.{Reading, reaches, refused, s32, fit, next, combined, joined, varies, zero_form, product, multiplied, variable_at, number_at}
use Rattle.typed.specs.Working.{skip, on_digit, digit_count, decimal, whole_at, closed_at}
use Rattle.typed.proofs.SignLaws.{signs-length, sign-past, signs-from}
use Rattle.farkas.proofs.Order.{compare}
use Rattle.typed.proofs.ReadLaws.{skip-from}

-- what was worked out and what was refused
pub no : {A : Type 0} {p q : ℕ} {x : Form} → refused p ≡ reaches q x → A
no {p = p} {q = q} {x = x} e = absurd (subst (λ w. T (is_err w)) e tt)

abbrev place_in : Reading → ℕ
place_in (Ok w) = w.next
place_in (Err e) = e.place

abbrev form_in : Reading → Form
form_in (Ok w) = w.form
form_in (Err e) = zero_form

pub same : {p q : ℕ} {x y : Form} → reaches p x ≡ reaches q y → p ≡ q
same e = ap place_in e

pub same_form : {p q : ℕ} {x y : Form} → reaches p x ≡ reaches q y → x ≡ y
same_form e = ap form_in e

pub same_fault : {p q : ℕ} → refused p ≡ refused q → p ≡ q
same_fault e = ap place_in e

-- a sign other than none stands in the text
unfoldable pub stands : Sign → Bool
stands Blank = true
stands (Digit d) = true
stands (Letter v) = true
stands Open = true
stands Close = true
stands Plus = true
stands Minus = true
stands Times = true
stands Less = true
stands Equal = true
stands Other = false

-- a plus or a minus does
pub sum-stands : (s : Sign) → ((s ≡ Plus) ⊎ (s ≡ Minus)) → T (stands s)
unfolding stands
sum-stands s (inl e) = subst (λ z. T (stands z)) (sym e) tt
sum-stands s (inr e) = subst (λ z. T (stands z)) (sym e) tt

pub inside : (text : List ℕ) (p : ℕ) (x : Sign) → sign_at text p ≡ x → T (stands x) → p < length text
unfolding stands
inside text p x e t = ⊎_elim (λ h. h) (λ h. absurd (subst (λ s. T (stands s)) (sym e ∙ sign-past text p h) t)) (compare p (length text))

-- a result that was tested ends where it would have
pub chosen : (b : Bool) (p q r : ℕ) (x y : Form) → cond b (reaches q x) (refused p) ≡ reaches r y → q ≡ r
chosen true p q r x y e = same e
chosen false p q r x y e = no e

fit-place : (p q : ℕ) (x : Form) (r : ℕ) (y : Form) → fit p q x ≡ reaches r y → q ≡ r
unfolding fit
fit-place p q x r y e = chosen (every s32 x.coefficients && s32 x.number) p q r x y e

product-place : (p q : ℕ) (a b : Form) (r : ℕ) (y : Form) → product p q a b ≡ reaches r y → q ≡ r
unfolding product
product-place p q a b r y = go (varies a) (varies b)
  where
    go : (s t : Bool) → cond s (cond t (refused p) (fit p q (combined zero_form b.number a))) (fit p q (combined zero_form a.number b)) ≡ reaches r y → q ≡ r
    go true true e = no e
    go true false e = fit-place p q (combined zero_form b.number a) r y e
    go false t e = fit-place p q (combined zero_form a.number b) r y e

-- what is worked out next ends at a place of its own, or not at all
pub record Passed (w : Reading) (f : ℕ → Form → Reading) (r : ℕ) (y : Form) : Type 0 where
  pub at : ℕ
  pub form : Form
  pub was : w ≡ reaches at form
  pub then : f at form ≡ reaches r y

pub passed : (w : Reading) (f : ℕ → Form → Reading) (r : ℕ) (y : Form) → next w f ≡ reaches r y → Passed w f r y
unfolding next
passed (Ok w) f r y h = record { at = w.next; form = w.form; was = refl; then = h }
passed (Err e) f r y h = no h

-- where an operator's right operand ends
pub record Ends (w : Reading) (r : ℕ) : Type 0 where
  pub form : Form
  pub is : w ≡ reaches r form

pub joined-place : (p : ℕ) (a : Form) (m : ℤ) (w : Reading) (r : ℕ) (y : Form) → joined p a m w ≡ reaches r y → Ends w r
unfolding joined
joined-place p a m w r y e =
    let n = passed w (λ q b. fit p q (combined a m b)) r y e in
    record { form = n.form; is = n.was ∙ ap (λ q. reaches q n.form) (fit-place p n.at (combined a m n.form) r y n.then) }

pub multiplied-place : (p : ℕ) (a : Form) (w : Reading) (r : ℕ) (y : Form) → multiplied p a w ≡ reaches r y → Ends w r
unfolding multiplied
multiplied-place p a w r y e =
    let n = passed w (λ q b. product p q a b) r y e in
    record { form = n.form; is = n.was ∙ ap (λ q. reaches q n.form) (product-place p n.at a n.form r y n.then) }

pub variable-place : (n p v r : ℕ) (y : Form) → variable_at n p v ≡ reaches r y → r ≡ p + 1
unfolding variable_at
variable-place n p v r y e = sym (chosen (ltb v n) p (p + 1) r _ y e)

by-close : (s : Sign) (p r : ℕ) (x y : Form) → by_close s (reaches (p + 1) x) (refused p) ≡ reaches r y → (s ≡ Close) × (r ≡ p + 1)
unfolding by_close
by-close Blank p r x y e = no e
by-close (Digit d) p r x y e = no e
by-close (Letter v) p r x y e = no e
by-close Open p r x y e = no e
by-close Close p r x y e = (refl, sym (same e))
by-close Plus p r x y e = no e
by-close Minus p r x y e = no e
by-close Times p r x y e = no e
by-close Less p r x y e = no e
by-close Equal p r x y e = no e
by-close Other p r x y e = no e

pub closed-place : (text : List ℕ) (w : Reading) (least r : ℕ) (y : Form) → ((q : ℕ) (x : Form) → w ≡ reaches q x → (least ≤ q) × (q ≤ length text)) → closed_at text w ≡ reaches r y → (least ≤ r) × (r ≤ length text)
unfolding closed_at stands
closed-place text w least r y h e =
    let n = passed w (λ q x. by_close (sign_at text (skip text q)) (reaches (skip text q + 1) x) (refused (skip text q))) r y e in
    let c = by-close (sign_at text (skip text n.at)) (skip text n.at) r n.form y n.then in
    let i = inside text (skip text n.at) Close c.0 tt in
    let f = skip-from text n.at in
    let b = h n.at n.form n.was in
    let g = c.1 in
    (omega arith, omega arith)

digits-within : (xs : List Sign) → digit_count xs ≤ length xs
unfolding digit_count on_digit
digits-within [] = omega arith
digits-within (Blank ∷ xs) = omega arith
digits-within (Digit d ∷ xs) = omega (arith, digits-within xs)
digits-within (Letter v ∷ xs) = omega arith
digits-within (Open ∷ xs) = omega arith
digits-within (Close ∷ xs) = omega arith
digits-within (Plus ∷ xs) = omega arith
digits-within (Minus ∷ xs) = omega arith
digits-within (Times ∷ xs) = omega arith
digits-within (Less ∷ xs) = omega arith
digits-within (Equal ∷ xs) = omega arith
digits-within (Other ∷ xs) = omega arith

pub whole-place : (text : List ℕ) (p d r : ℕ) (y : Form) → sign_at text p ≡ Digit d → whole_at text p ≡ reaches r y → (p + 1 ≤ r) × (r ≤ length text)
unfolding whole_at number_at stands digit_count on_digit
whole-place text p d r y e h =
    let i = inside text p (Digit d) e tt in
    let xs = signs (drop (p + 1) text) in
    let q : p + digit_count (signs (drop p text)) ≡ r = chosen (ltb (decimal 0 (signs (drop p text))) (2 ^ 31)) p (p + digit_count (signs (drop p text))) r _ y h in
    let f : digit_count (signs (drop p text)) ≡ suc (digit_count xs) = ap digit_count (signs-from text p i ∙ ap (λ s. s ∷ xs) e) in
    (omega arith, omega (arith, digits-within xs, signs-length (drop (p + 1) text), length-drop (p + 1) text))
