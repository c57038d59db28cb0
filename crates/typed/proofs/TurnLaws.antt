-- One turn of each reader, by the sign that it finds. Assumes nothing.
use mathlib.Core.Path.{◌≡◌, refl, sym, ap, ◌∙◌}
use mathlib.Core.Logic.{◌⊎◌, inl, inr}
use mathlib.Core.List.{List}
use Prim.Native.Nat.{ℕ, suc, ◌+◌}
use lib.IntN.{pos, negsuc}
use Rattle.typed.specs.declared.signs.Sign.{Sign}
use Rattle.typed.specs.declared.signs.Sign.TheVariants.{Blank, Digit, Letter, Open, Close, Plus, Minus, Times, Less, Equal, Other}
use Rattle.typed.specs.declared.forms.Form.{Form}
use Rattle.typed.specs.Signs.{sign_at}
use Rattle.typed.specs.Turns.{by_sum, sense_of, by_product, by_close, by_factor}
use Rattle.typed.specs.Forms.{Reading, reaches, refused, next, joined, multiplied, variable_at, zero_form}
use Rattle.typed.specs.Working.{skip, whole_at, closed_at, expression_at, sums_at, term_at, products_at, factor_at}

-- what a match that names some signs says of the sign: a plus or a minus, and neither
pub is_sum : {A : Type 0} (s : Sign) (x y : A) → ((s ≡ Plus) ⊎ (s ≡ Minus)) → by_sum s x y ≡ x
unfolding by_sum
is_sum s x y (inl e) = ap (λ z. by_sum z x y) e
is_sum s x y (inr e) = ap (λ z. by_sum z x y) e

pub no-sum : {A : Type 0} (s : Sign) (x y : A) → (s ≡ Plus → ⊥) → (s ≡ Minus → ⊥) → by_sum s x y ≡ y
unfolding by_sum
no-sum Blank x y h k = refl
no-sum (Digit d) x y h k = refl
no-sum (Letter v) x y h k = refl
no-sum Open x y h k = refl
no-sum Close x y h k = refl
no-sum Plus x y h k = absurd (h refl)
no-sum Minus x y h k = absurd (k refl)
no-sum Times x y h k = refl
no-sum Less x y h k = refl
no-sum Equal x y h k = refl
no-sum Other x y h k = refl

-- no times
pub no-product : {A : Type 0} (s : Sign) (x y : A) → (s ≡ Times → ⊥) → by_product s x y ≡ y
unfolding by_product
no-product Blank x y h = refl
no-product (Digit d) x y h = refl
no-product (Letter v) x y h = refl
no-product Open x y h = refl
no-product Close x y h = refl
no-product Plus x y h = refl
no-product Minus x y h = refl
no-product Times x y h = absurd (h refl)
no-product Less x y h = refl
no-product Equal x y h = refl
no-product Other x y h = refl

-- no closing bracket
pub no-close : {A : Type 0} (s : Sign) (x y : A) → (s ≡ Close → ⊥) → by_close s x y ≡ y
unfolding by_close
no-close Blank x y h = refl
no-close (Digit d) x y h = refl
no-close (Letter v) x y h = refl
no-close Open x y h = refl
no-close Close x y h = absurd (h refl)
no-close Plus x y h = refl
no-close Minus x y h = refl
no-close Times x y h = refl
no-close Less x y h = refl
no-close Equal x y h = refl
no-close Other x y h = refl

-- no factor begins so
pub no-factor : {A : Type 0} (s : Sign) (x : A) (f : ℕ → A) (y z w : A) → ((d : ℕ) → s ≡ Digit d → ⊥) → ((v : ℕ) → s ≡ Letter v → ⊥) → (s ≡ Open → ⊥) → (s ≡ Minus → ⊥) → by_factor s x f y z w ≡ w
unfolding by_factor
no-factor Blank x f y z w h k l m = refl
no-factor (Digit d) x f y z w h k l m = absurd (h d refl)
no-factor (Letter v) x f y z w h k l m = absurd (k v refl)
no-factor Open x f y z w h k l m = absurd (l refl)
no-factor Close x f y z w h k l m = refl
no-factor Plus x f y z w h k l m = refl
no-factor Minus x f y z w h k l m = absurd (m refl)
no-factor Times x f y z w h k l m = refl
no-factor Less x f y z w h k l m = refl
no-factor Equal x f y z w h k l m = refl
no-factor Other x f y z w h k l m = refl

-- what is worked out next, by what was reached
pub next-at : (w : Reading) (f : ℕ → Form → Reading) (q : ℕ) (x : Form) → w ≡ reaches q x → next w f ≡ f q x
unfolding next
next-at w f q x e = ap (λ v. next v f) e

pub next-fault : (w : Reading) (f : ℕ → Form → Reading) (p : ℕ) → w ≡ refused p → next w f ≡ w
unfolding next
next-fault w f p e = ap (λ v. next v f) e ∙ sym e

module _ (n : ℕ) (text : List ℕ) (w : Reading) (j : ℕ) where
  -- the sums and products after a place
  module _ (q place : ℕ) (x : Form) (s : Sign) (e : w ≡ reaches q x) (f : place ≡ skip text q) (g : s ≡ sign_at text place) where
    pub sum-turn : sums_at (suc j) n text w ≡ by_sum s (sums_at j n text (joined place x (sense_of s) (term_at j n text (place + 1)))) w
    unfolding sums_at
    sum-turn =
        next-at w _ q x e
        ∙ ap (λ p. by_sum (sign_at text p) (sums_at j n text (joined p x (sense_of (sign_at text p)) (term_at j n text (p + 1)))) w) (sym f)
        ∙ ap (λ z. by_sum z (sums_at j n text (joined place x (sense_of z) (term_at j n text (place + 1)))) w) (sym g)

    pub sum_goes : ((s ≡ Plus) ⊎ (s ≡ Minus)) → sums_at (suc j) n text w ≡ sums_at j n text (joined place x (sense_of s) (term_at j n text (place + 1)))
    sum_goes h = sum-turn ∙ is_sum s _ w h

    pub sum-plus : s ≡ Plus → sums_at (suc j) n text w ≡ sums_at j n text (joined place x (pos 1) (term_at j n text (place + 1)))
    unfolding by_sum sense_of
    sum-plus h = sum-turn ∙ ap (λ z. by_sum z (sums_at j n text (joined place x (sense_of z) (term_at j n text (place + 1)))) w) h

    pub sum-minus : s ≡ Minus → sums_at (suc j) n text w ≡ sums_at j n text (joined place x (negsuc 0) (term_at j n text (place + 1)))
    unfolding by_sum sense_of
    sum-minus h = sum-turn ∙ ap (λ z. by_sum z (sums_at j n text (joined place x (sense_of z) (term_at j n text (place + 1)))) w) h

    pub sum-ends : (s ≡ Plus → ⊥) → (s ≡ Minus → ⊥) → sums_at (suc j) n text w ≡ w
    sum-ends h k = sum-turn ∙ no-sum s _ w h k

    pub product-turn : products_at (suc j) n text w ≡ by_product s (products_at j n text (multiplied place x (factor_at j n text (place + 1)))) w
    unfolding products_at
    product-turn =
        next-at w _ q x e
        ∙ ap (λ p. by_product (sign_at text p) (products_at j n text (multiplied p x (factor_at j n text (p + 1)))) w) (sym f)
        ∙ ap (λ z. by_product z (products_at j n text (multiplied place x (factor_at j n text (place + 1)))) w) (sym g)

    pub product-times : s ≡ Times → products_at (suc j) n text w ≡ products_at j n text (multiplied place x (factor_at j n text (place + 1)))
    unfolding by_product
    product-times h = product-turn ∙ ap (λ z. by_product z (products_at j n text (multiplied place x (factor_at j n text (place + 1)))) w) h

    pub product-ends : (s ≡ Times → ⊥) → products_at (suc j) n text w ≡ w
    product-ends h = product-turn ∙ no-product s _ w h

  pub sum-fault : (p : ℕ) → w ≡ refused p → sums_at (suc j) n text w ≡ w
  unfolding sums_at
  sum-fault p e = next-fault w _ p e

  pub product-fault : (p : ℕ) → w ≡ refused p → products_at (suc j) n text w ≡ w
  unfolding products_at
  product-fault p e = next-fault w _ p e

-- a factor at a place
module _ (n : ℕ) (text : List ℕ) (j at place : ℕ) (s : Sign) (f : place ≡ skip text at) (g : s ≡ sign_at text place) where
  factor_by : Sign → Reading
  factor_by x = by_factor x (whole_at text place) (variable_at n place) (closed_at text (expression_at j n text (place + 1))) (joined place zero_form (negsuc 0) (factor_at j n text (place + 1))) (refused place)

  factor-turn : factor_at (suc j) n text at ≡ factor_by s
  unfolding factor_at factor_by
  factor-turn =
      ap (λ p. by_factor (sign_at text p) (whole_at text p) (variable_at n p) (closed_at text (expression_at j n text (p + 1))) (joined p zero_form (negsuc 0) (factor_at j n text (p + 1))) (refused p)) (sym f)
      ∙ ap factor_by (sym g)

  pub factor-number : (d : ℕ) → s ≡ Digit d → factor_at (suc j) n text at ≡ whole_at text place
  unfolding by_factor factor_by
  factor-number d h = factor-turn ∙ ap factor_by h

  pub factor-letter : (v : ℕ) → s ≡ Letter v → factor_at (suc j) n text at ≡ variable_at n place v
  unfolding by_factor factor_by
  factor-letter v h = factor-turn ∙ ap factor_by h

  pub factor-bracket : s ≡ Open → factor_at (suc j) n text at ≡ closed_at text (expression_at j n text (place + 1))
  unfolding by_factor factor_by
  factor-bracket h = factor-turn ∙ ap factor_by h

  pub factor-minus : s ≡ Minus → factor_at (suc j) n text at ≡ joined place zero_form (negsuc 0) (factor_at j n text (place + 1))
  unfolding by_factor factor_by
  factor-minus h = factor-turn ∙ ap factor_by h

  pub factor-none : ((d : ℕ) → s ≡ Digit d → ⊥) → ((v : ℕ) → s ≡ Letter v → ⊥) → (s ≡ Open → ⊥) → (s ≡ Minus → ⊥) → factor_at (suc j) n text at ≡ refused place
  unfolding factor_by
  factor-none h k l m = factor-turn ∙ no-factor s _ _ _ _ (refused place) h k l m
