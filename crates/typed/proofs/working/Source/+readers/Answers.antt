-- The readers of expression, term and factor: an operand and what follows it, an operator with its right operand and what follows that,
-- and the four kinds of factor. Assumes nothing.
use mathlib.Core.Path.{◌≡◌, refl, sym, ap, ◌∙◌}
use mathlib.Core.List.{List}
use mathlib.Core.Logic.{◌⊎◌}
use Prim.Native.Nat.{ℕ, suc, ◌+◌, ◌*◌, ◌-◌, ◌≤◌, ◌<◌}
use native.Mathlib.Omega.{arith}
use lib.Dec.{T}
use lib.ListN.{length}
use lib.IntN.{ℤ, negsuc}
use mir.Facts.{to_z-of_z}
use mir.Syntax.{w32}
use mir.Val.{SFits, to_z, of_z}
use Rattle.std.specs.Prelude.{Ok}
use Rattle.typed.specs.declared.signs.Sign.{Sign}
use Rattle.typed.specs.declared.signs.Sign.TheVariants.{Letter, Open, Plus, Minus, Times}
use Rattle.typed.specs.declared.forms.Worked.{Worked}
use Rattle.typed.specs.declared.forms.Form.{Form}
use Rattle.typed.specs.Signs.{sign_at}
use Rattle.typed.specs.Turns.{sense_of}
use Rattle.typed.specs.Forms.{Reading, refused, next, zero_form, joined, multiplied}
use Rattle.typed.specs.Working.{skip, closed_at, expression_at, sums_at, term_at, products_at, factor_at}
use Rattle.typed.specs.Following.{Follows}
use Rattle.typed.proofs.FollowLaws as follow
use Rattle.typed.proofs.ReadLaws.{skip-from}
use Rattle.typed.proofs.PlaceLaws.{same, stands, sum-stands, inside, joined-place, multiplied-place, variable-place, closed-place, whole-place}
use Rattle.typed.proofs.TurnLaws as turn
use Rattle.typed.proofs.TreeLaws.{products-fault, sums-fault}
use Rattle.typed.proofs.working.Source.+readers.Goals as goal

-- the sign after the blanks, further on in the text
module _ (text : List ℕ) (at place : ℕ) (f : place ≡ skip text at) where
  far : at ≤ place
  far = omega (arith, f, skip-from text at)

module _ (text : List ℕ) (place : ℕ) (s : Sign) (g : s ≡ sign_at text place) where
  there : (x : Sign) → s ≡ x → T (stands x) → place < length text
  there x e h = inside text place x (sym g ∙ e) h

-- a product and a sum that go on after a place: their right operand or the operator is refused, or what follows is read
module _ (n : ℕ) (text : List ℕ) (left : Worked) (place : ℕ) (s : Sign) (f : place ≡ skip text left.next) (g : s ≡ sign_at text place) where
  module _ (e : s ≡ Times) {right : Reading} (h : Follows (3 * (length text - (place + 1)) + 1) (place + 1 + 1) (length text) (λ k. factor_at k n text (place + 1)) right) where
    factor-times : (j : ℕ) → products_at (suc j) n text (Ok left) ≡ products_at j n text (multiplied place left.form (factor_at j n text (place + 1)))
    factor-times j = turn.product-times n text (Ok left) j left.next place left.form s refl f g e

    times-there : place < length text
    unfolding stands
    times-there = there text place s g Times e tt

    products-refused : (p : ℕ) {r : Reading} → multiplied place left.form right ≡ refused p → r ≡ refused p → Follows (3 * (length text - left.next) + 1) left.next (length text) (λ k. products_at k n text (Ok left)) r
    products-refused p i r =
        follow.operator-refused (length text) left.next place (3 * (length text - (place + 1)) + 1) (λ k. factor_at k n text (place + 1)) (multiplied place left.form) (λ k w. products_at k n text w) (λ k. products_at k n text (Ok left))
        factor-times (far text left.next place f) times-there (omega arith) h p i (λ j. products-fault n text j p (refused p) refl) r

    products-end : (both : Worked) → multiplied place left.form right ≡ Ok both → (place + 1 + 1 ≤ both.next) × (both.next ≤ length text)
    products-end both i = let o = multiplied-place place left.form right both.next both.form i in h.place both.next o.form o.is

    products-go : (both : Worked) {r : Reading} → multiplied place left.form right ≡ Ok both → Follows (3 * (length text - both.next) + 1) both.next (length text) (λ k. products_at k n text (Ok both)) r → Follows (3 * (length text - left.next) + 1) left.next (length text) (λ k. products_at k n text (Ok left)) r
    products-go both i r =
        follow.operator (length text) left.next place (3 * (length text - (place + 1)) + 1) (λ k. factor_at k n text (place + 1)) (multiplied place left.form) (λ k w. products_at k n text w) (λ k. products_at k n text (Ok left))
        factor-times (far text left.next place f) times-there (omega arith) h both.next both.form i (products-end both i) r

  module _ (e : (s ≡ Plus) ⊎ (s ≡ Minus)) {right : Reading} (h : Follows (3 * (length text - (place + 1)) + 2) (place + 1 + 1) (length text) (λ k. term_at k n text (place + 1)) right) where
    term-joins : (j : ℕ) → sums_at (suc j) n text (Ok left) ≡ sums_at j n text (joined place left.form (sense_of s) (term_at j n text (place + 1)))
    term-joins j = turn.sum_goes n text (Ok left) j left.next place left.form s refl f g e

    sign-there : place < length text
    sign-there = there text place s g s refl (sum-stands s e)

    sums-refused : (p : ℕ) {r : Reading} → joined place left.form (sense_of s) right ≡ refused p → r ≡ refused p → Follows (3 * (length text - left.next) + 1) left.next (length text) (λ k. sums_at k n text (Ok left)) r
    sums-refused p i r =
        follow.operator-refused (length text) left.next place (3 * (length text - (place + 1)) + 2) (λ k. term_at k n text (place + 1)) (joined place left.form (sense_of s)) (λ k w. sums_at k n text w) (λ k. sums_at k n text (Ok left))
        term-joins (far text left.next place f) sign-there (omega arith) h p i (λ j. sums-fault n text j p (refused p) refl) r

    sums-end : (both : Worked) → joined place left.form (sense_of s) right ≡ Ok both → (place + 1 + 1 ≤ both.next) × (both.next ≤ length text)
    sums-end both i = let o = joined-place place left.form (sense_of s) right both.next both.form i in h.place both.next o.form o.is

    sums-go : (both : Worked) {r : Reading} → joined place left.form (sense_of s) right ≡ Ok both → Follows (3 * (length text - both.next) + 1) both.next (length text) (λ k. sums_at k n text (Ok both)) r → Follows (3 * (length text - left.next) + 1) left.next (length text) (λ k. sums_at k n text (Ok left)) r
    sums-go both i r =
        follow.operator (length text) left.next place (3 * (length text - (place + 1)) + 2) (λ k. term_at k n text (place + 1)) (joined place left.form (sense_of s)) (λ k w. sums_at k n text w) (λ k. sums_at k n text (Ok left))
        term-joins (far text left.next place f) sign-there (omega arith) h both.next both.form i (sums-end both i) r

-- what was joined, with the sense that the sign has
sense-joined : (p : ℕ) (a : Form) (s : Sign) (m : ℤ) (w : Worked) {r v : Reading} → v ≡ Ok w → r ≡ joined p a (to_z w32 (of_z w32 m)) (Ok w) → SFits w32 m → m ≡ sense_of s → joined p a (sense_of s) v ≡ r
sense-joined p a s m w i e f g = ap (joined p a (sense_of s)) i ∙ sym (e ∙ ap (λ z. joined p a z (Ok w)) (to_z-of_z {w = w32} f ∙ g))

pub expression-sums-requires : goal.expression-sums-requires
expression-sums-requires t c =
    let l = c.in-Ok.read in
    let b = c.term-left.ensures.place l.next l.form c.in-Ok.is in
    (omega arith, b.1)

pub term-products-requires : goal.term-products-requires
term-products-requires t c =
    let l = c.in-Ok.read in
    let b = c.factor-left.ensures.place l.next l.form c.in-Ok.is in
    (omega arith, b.1)

pub expression-returns-in-Err : goal.expression-returns-in-Err
unfolding expression_at
expression-returns-in-Err t c =
    let a = c.args in
    let p = c.in-Err.fault.place in
    let is : c.term-left.result ≡ refused p = c.in-Err.is in
    follow.operand-refused (length a.self.now.text.now) a.at (3 * (length a.self.now.text.now - a.at) + 2) (3 * (length a.self.now.text.now - a.at) + 3) p
    (λ k. term_at k a.self.now.n a.self.now.text.now a.at)
    (λ k w. sums_at k a.self.now.n a.self.now.text.now w)
    (λ k. expression_at k a.self.now.n a.self.now.text.now a.at)
    (λ j. refl) (λ j. sums-fault a.self.now.n a.self.now.text.now j p (refused p) refl) (omega arith) c.term-left.ensures is refl

pub expression-returns-in-Ok : goal.expression-returns-in-Ok
unfolding expression_at
expression-returns-in-Ok t c =
    let a = c.args in
    let l = c.in-Ok.read in
    follow.operand (length a.self.now.text.now) a.at (3 * (length a.self.now.text.now - a.at) + 2) (3 * (length a.self.now.text.now - a.at) + 3) l.next l.form
    (λ k. term_at k a.self.now.n a.self.now.text.now a.at)
    (λ k w. sums_at k a.self.now.n a.self.now.text.now w)
    (λ k. expression_at k a.self.now.n a.self.now.text.now a.at)
    (λ j. refl) (omega arith) (omega arith) c.term-left.ensures c.in-Ok.is c.sums.ensures

pub term-returns-in-Err : goal.term-returns-in-Err
unfolding term_at
term-returns-in-Err t c =
    let a = c.args in
    let p = c.in-Err.fault.place in
    let is : c.factor-left.result ≡ refused p = c.in-Err.is in
    follow.operand-refused (length a.self.now.text.now) a.at (3 * (length a.self.now.text.now - a.at) + 1) (3 * (length a.self.now.text.now - a.at) + 2) p
    (λ k. factor_at k a.self.now.n a.self.now.text.now a.at)
    (λ k w. products_at k a.self.now.n a.self.now.text.now w)
    (λ k. term_at k a.self.now.n a.self.now.text.now a.at)
    (λ j. refl) (λ j. products-fault a.self.now.n a.self.now.text.now j p (refused p) refl) (omega arith) c.factor-left.ensures is refl

pub term-returns-in-Ok : goal.term-returns-in-Ok
unfolding term_at
term-returns-in-Ok t c =
    let a = c.args in
    let l = c.in-Ok.read in
    follow.operand (length a.self.now.text.now) a.at (3 * (length a.self.now.text.now - a.at) + 1) (3 * (length a.self.now.text.now - a.at) + 2) l.next l.form
    (λ k. factor_at k a.self.now.n a.self.now.text.now a.at)
    (λ k w. products_at k a.self.now.n a.self.now.text.now w)
    (λ k. term_at k a.self.now.n a.self.now.text.now a.at)
    (λ j. refl) (omega arith) (omega arith) c.factor-left.ensures c.in-Ok.is c.products.ensures

pub factor-variable-requires : goal.factor-variable-requires
unfolding stands
factor-variable-requires t c = (c.args.self.now.few, let i = there c.args.self.now.text.now c.skip-place.result c.sign_at-sign.result c.sign_at-sign.ensures (Letter c.in-Letter.letter) c.in-Letter.is tt in omega arith)

pub factor-overflow_add-place : goal.factor-overflow_add-place
unfolding stands
factor-overflow_add-place t c = let i = there c.args.self.now.text.now c.skip-place.result c.sign_at-sign.result c.sign_at-sign.ensures Open c.in-Open.is tt in omega arith

pub factor-expression-inner-requires : goal.factor-expression-inner-requires
unfolding stands
factor-expression-inner-requires t c =
    let l = far c.args.self.now.text.now c.args.at c.skip-place.result c.skip-place.ensures in
    let i = there c.args.self.now.text.now c.skip-place.result c.sign_at-sign.result c.sign_at-sign.ensures Open c.in-Open.is tt in
    (omega arith, tt)

pub factor-overflow_add-place-in-Minus : goal.factor-overflow_add-place-in-Minus
unfolding stands
factor-overflow_add-place-in-Minus t c = let i = there c.args.self.now.text.now c.skip-place.result c.sign_at-sign.result c.sign_at-sign.ensures Minus c.in-Minus.is tt in omega arith

pub factor-factor-requires : goal.factor-factor-requires
unfolding stands
factor-factor-requires t c =
    let l = far c.args.self.now.text.now c.args.at c.skip-place.result c.skip-place.ensures in
    let i = there c.args.self.now.text.now c.skip-place.result c.sign_at-sign.result c.sign_at-sign.ensures Minus c.in-Minus.is tt in
    (omega arith, tt)

pub factor-returns-in-Digit : goal.factor-returns-in-Digit
factor-returns-in-Digit t c =
    let a = c.args in
    let text = a.self.now.text.now in
    let p = c.skip-place.result in
    let s = c.sign_at-sign in
    let d = c.in-Digit.field-0 in
    let l = far text a.at p c.skip-place.ensures in
    follow.turn (length text) (3 * (length text - a.at) + 1) (a.at + 1) (λ k. factor_at k a.self.now.n text a.at)
    (λ j h. turn.factor-number a.self.now.n text j a.at p s.result c.skip-place.ensures s.ensures d c.in-Digit.is ∙ sym c.number.ensures)
    (λ z y h. let b = whole-place text p d z y (sym s.ensures ∙ c.in-Digit.is) (sym c.number.ensures ∙ h) in (omega arith, b.1))

pub factor-returns-in-Letter : goal.factor-returns-in-Letter
unfolding stands
factor-returns-in-Letter t c =
    let a = c.args in
    let text = a.self.now.text.now in
    let p = c.skip-place.result in
    let s = c.sign_at-sign in
    let v = c.in-Letter.letter in
    let l = far text a.at p c.skip-place.ensures in
    let i = there text p s.result s.ensures (Letter v) c.in-Letter.is tt in
    follow.turn (length text) (3 * (length text - a.at) + 1) (a.at + 1) (λ k. factor_at k a.self.now.n text a.at)
    (λ j h. turn.factor-letter a.self.now.n text j a.at p s.result c.skip-place.ensures s.ensures v c.in-Letter.is ∙ sym c.variable.ensures)
    (λ z y h. let b = variable-place a.self.now.n p v z y (sym c.variable.ensures ∙ h) in (omega arith, omega arith))

pub factor-returns-in-Err : goal.factor-returns-in-Err
unfolding closed_at next stands
factor-returns-in-Err t c =
    let a = c.args in
    let text = a.self.now.text.now in
    let p = c.skip-place.result in
    let s = c.sign_at-sign in
    let l = far text a.at p c.skip-place.ensures in
    let i = there text p s.result s.ensures Open c.in-Open.is tt in
    follow.turn (length text) (3 * (length text - a.at) + 1) (a.at + 1) (λ k. factor_at k a.self.now.n text a.at)
    (λ j h. turn.factor-bracket a.self.now.n text j a.at p s.result c.skip-place.ensures s.ensures c.in-Open.is ∙ ap (closed_at text) (sym (c.expression-inner.ensures.same j (omega arith)) ∙ c.in-Err.is))
    (follow.refused-lies {p = c.in-Err.fault.place} refl)

pub factor-returns-in-Ok : goal.factor-returns-in-Ok
unfolding stands
factor-returns-in-Ok t c =
    let a = c.args in
    let text = a.self.now.text.now in
    let p = c.skip-place.result in
    let s = c.sign_at-sign in
    let f = c.expression-inner.ensures in
    let inner = c.in-Ok.read in
    let l = far text a.at p c.skip-place.ensures in
    let i = there text p s.result s.ensures Open c.in-Open.is tt in
    follow.turn (length text) (3 * (length text - a.at) + 1) (a.at + 1) (λ k. factor_at k a.self.now.n text a.at)
    (λ j h. turn.factor-bracket a.self.now.n text j a.at p s.result c.skip-place.ensures s.ensures c.in-Open.is ∙ ap (closed_at text) (sym (f.same j (omega arith)) ∙ c.in-Ok.is) ∙ sym c.close_bracket.ensures)
    (λ z y h. let b = closed-place text (Ok inner) (p + 1 + 1) z y (λ q x e. f.place q x (c.in-Ok.is ∙ e)) (sym c.close_bracket.ensures ∙ h) in (omega arith, b.1))

pub factor-returns-in_err-right-in-Minus : goal.factor-returns-in_err-right-in-Minus
unfolding joined next stands
factor-returns-in_err-right-in-Minus t c =
    let a = c.args in
    let text = a.self.now.text.now in
    let p = c.skip-place.result in
    let s = c.sign_at-sign in
    let l = far text a.at p c.skip-place.ensures in
    let i = there text p s.result s.ensures Minus c.in-Minus.is tt in
    let is : c.from_residual.result ≡ refused c.in_err-right-in-Minus.field-0.0.place = grind arith in
    follow.turn (length text) (3 * (length text - a.at) + 1) (a.at + 1) (λ k. factor_at k a.self.now.n text a.at)
    (λ j h. turn.factor-minus a.self.now.n text j a.at p s.result c.skip-place.ensures s.ensures c.in-Minus.is ∙ ap (joined p zero_form (negsuc 0)) (sym (c.factor.ensures.same j (omega arith)) ∙ c.in_err-right-in-Minus.was) ∙ sym is)
    (follow.refused-lies is)

pub factor-returns-in_ok-right-in-Minus : goal.factor-returns-in_ok-right-in-Minus
unfolding stands
factor-returns-in_ok-right-in-Minus t c =
    let a = c.args in
    let text = a.self.now.text.now in
    let p = c.skip-place.result in
    let s = c.sign_at-sign in
    let f = c.factor.ensures in
    let right = c.in_ok-right-in-Minus.right in
    let l = far text a.at p c.skip-place.ensures in
    let i = there text p s.result s.ensures Minus c.in-Minus.is tt in
    let g = c.join.ensures ∙ ap (λ x. joined p x (negsuc 0) (Ok right)) c.zero_form.ensures in
    follow.turn (length text) (3 * (length text - a.at) + 1) (a.at + 1) (λ k. factor_at k a.self.now.n text a.at)
    (λ j h. turn.factor-minus a.self.now.n text j a.at p s.result c.skip-place.ensures s.ensures c.in-Minus.is ∙ ap (joined p zero_form (negsuc 0)) (sym (f.same j (omega arith)) ∙ c.in_ok-right-in-Minus.was) ∙ sym g)
    (λ z y h.
    let o = joined-place p zero_form (negsuc 0) (Ok right) z y (sym g ∙ h) in
    let b = f.place z o.form (c.in_ok-right-in-Minus.was ∙ o.is) in
    (omega arith, b.1))

pub factor-returns-in_default : goal.factor-returns-in_default
factor-returns-in_default t c =
    let a = c.args in
    let text = a.self.now.text.now in
    let s = c.sign_at-sign in
    let d = c.in_default in
    follow.turn (length text) (3 * (length text - a.at) + 1) (a.at + 1) (λ k. factor_at k a.self.now.n text a.at)
    (λ j h. turn.factor-none a.self.now.n text j a.at c.skip-place.result s.result c.skip-place.ensures s.ensures d.not-Digit d.not-Letter d.not-Open d.not-Minus)
    (follow.refused-lies {p = c.skip-place.result} refl)

pub products-returns-in_default : goal.products-returns-in_default
products-returns-in_default t c =
    let a = c.args in
    let text = a.self.now.text.now in
    let s = c.sign_at in
    let l = a.left.now in
    follow.turn (length text) (3 * (length text - l.next) + 1) l.next (λ k. products_at k a.self.now.n text (Ok l))
    (λ j h. turn.product-ends a.self.now.n text (Ok l) j l.next c.skip-place.result l.form s.result refl c.skip-place.ensures s.ensures c.in_default.not-Times)
    (λ z y h. let e : l.next ≡ z = same {x = l.form} {y = y} h in (omega arith, omega (arith, c.requires)))

pub products-overflow_add-place : goal.products-overflow_add-place
unfolding stands
products-overflow_add-place t c = let i = there c.args.self.now.text.now c.skip-place.result c.sign_at.result c.sign_at.ensures Times c.in-Times.is tt in omega arith

pub products-factor-requires : goal.products-factor-requires
unfolding stands
products-factor-requires t c =
    let text = c.args.self.now.text.now in
    let l = far text c.args.left.now.next c.skip-place.result c.skip-place.ensures in
    let i = there text c.skip-place.result c.sign_at.result c.sign_at.ensures Times c.in-Times.is tt in
    (omega arith, tt)

pub products-returns-in_err-right : goal.products-returns-in_err-right
unfolding multiplied next
products-returns-in_err-right t c =
    let a = c.args in
    let e = c.in_err-right in
    let is : c.from_residual.result ≡ refused e.field-0.0.place = grind arith in
    products-refused a.self.now.n a.self.now.text.now a.left.now c.skip-place.result c.sign_at.result c.skip-place.ensures c.sign_at.ensures c.in-Times.is c.factor.ensures e.field-0.0.place (ap (multiplied c.skip-place.result a.left.now.form) e.was) is

pub products-returns-in_err-both : goal.products-returns-in_err-both
products-returns-in_err-both t c =
    let a = c.args in
    let e = c.in_err-both in
    let is : c.from_residual-in_err-both.result ≡ refused e.field-0.0.place = grind arith in
    products-refused a.self.now.n a.self.now.text.now a.left.now c.skip-place.result c.sign_at.result c.skip-place.ensures c.sign_at.ensures c.in-Times.is c.factor.ensures e.field-0.0.place
    (ap (multiplied c.skip-place.result a.left.now.form) c.in_ok-right.was ∙ sym c.multiply.ensures ∙ e.was) is

pub products-products-requires : goal.products-products-requires
products-products-requires t c =
    let a = c.args in
    let p = c.skip-place.result in
    let l = far a.self.now.text.now a.left.now.next p c.skip-place.ensures in
    let b = products-end a.self.now.n a.self.now.text.now a.left.now p c.sign_at.result c.skip-place.ensures c.sign_at.ensures c.in-Times.is c.factor.ensures c.in_ok-both.both (ap (multiplied p a.left.now.form) c.in_ok-right.was ∙ sym c.multiply.ensures ∙ c.in_ok-both.was) in
    (omega arith, b.1)

pub products-returns : goal.products-returns
products-returns t c =
    let a = c.args in
    let p = c.skip-place.result in
    products-go a.self.now.n a.self.now.text.now a.left.now p c.sign_at.result c.skip-place.ensures c.sign_at.ensures c.in-Times.is c.factor.ensures c.in_ok-both.both
    (ap (multiplied p a.left.now.form) c.in_ok-right.was ∙ sym c.multiply.ensures ∙ c.in_ok-both.was) c.products.ensures

pub sums-overflow_add-place : goal.sums-overflow_add-place
sums-overflow_add-place t c = let i = there c.args.self.now.text.now c.skip-place.result c.sign_at-sign.result c.sign_at-sign.ensures c.sign_at-sign.result refl (sum-stands c.sign_at-sign.result c.in-Plus.is) in omega arith

pub sums-term-requires : goal.sums-term-requires
sums-term-requires t c =
    let text = c.args.self.now.text.now in
    let l = far text c.args.left.now.next c.skip-place.result c.skip-place.ensures in
    let i = there text c.skip-place.result c.sign_at-sign.result c.sign_at-sign.ensures c.sign_at-sign.result refl (sum-stands c.sign_at-sign.result c.in-Plus.is) in
    (omega arith, tt)

pub sums-returns-in_err-right-in-Plus : goal.sums-returns-in_err-right-in-Plus
unfolding joined next
sums-returns-in_err-right-in-Plus t c =
    let a = c.args in
    let s = c.sign_at-sign in
    let e = c.in_err-right-in-Plus in
    let is : c.from_residual.result ≡ refused e.field-0.0.place = grind arith in
    sums-refused a.self.now.n a.self.now.text.now a.left.now c.skip-place.result s.result c.skip-place.ensures s.ensures c.in-Plus.is c.term.ensures e.field-0.0.place (ap (joined c.skip-place.result a.left.now.form (sense_of s.result)) e.was) is

pub sums-returns-in_err-both-in-Plus : goal.sums-returns-in_err-both-in-Plus
sums-returns-in_err-both-in-Plus t c =
    let a = c.args in
    let p = c.skip-place.result in
    let s = c.sign_at-sign in
    let e = c.in_err-both-in-Plus in
    let is : c.from_residual-in_err-both-in-Plus.result ≡ refused e.field-0.0.place = grind arith in
    sums-refused a.self.now.n a.self.now.text.now a.left.now p s.result c.skip-place.ensures s.ensures c.in-Plus.is c.term.ensures e.field-0.0.place
    (sense-joined p a.left.now.form s.result c.sense.result c.in_ok-right-in-Plus.right c.in_ok-right-in-Plus.was c.join.ensures (record { sfits = c.sense.type_inv }) c.sense.ensures ∙ e.was) is

pub sums-sums-requires : goal.sums-sums-requires
sums-sums-requires t c =
    let a = c.args in
    let p = c.skip-place.result in
    let s = c.sign_at-sign in
    let l = far a.self.now.text.now a.left.now.next p c.skip-place.ensures in
    let i = there a.self.now.text.now p s.result s.ensures s.result refl (sum-stands s.result c.in-Plus.is) in
    let b =
    sums-end a.self.now.n a.self.now.text.now a.left.now p s.result c.skip-place.ensures s.ensures c.in-Plus.is c.term.ensures c.in_ok-both-in-Plus.both
    (sense-joined p a.left.now.form s.result c.sense.result c.in_ok-right-in-Plus.right c.in_ok-right-in-Plus.was c.join.ensures (record { sfits = c.sense.type_inv }) c.sense.ensures ∙ c.in_ok-both-in-Plus.was) in
    (omega arith, b.1)

pub sums-returns-in_ok-both-in-Plus : goal.sums-returns-in_ok-both-in-Plus
sums-returns-in_ok-both-in-Plus t c =
    let a = c.args in
    let p = c.skip-place.result in
    let s = c.sign_at-sign in
    sums-go a.self.now.n a.self.now.text.now a.left.now p s.result c.skip-place.ensures s.ensures c.in-Plus.is c.term.ensures c.in_ok-both-in-Plus.both
    (sense-joined p a.left.now.form s.result c.sense.result c.in_ok-right-in-Plus.right c.in_ok-right-in-Plus.was c.join.ensures (record { sfits = c.sense.type_inv }) c.sense.ensures ∙ c.in_ok-both-in-Plus.was) c.sums.ensures

pub sums-returns-in_default : goal.sums-returns-in_default
sums-returns-in_default t c =
    let a = c.args in
    let text = a.self.now.text.now in
    let s = c.sign_at-sign in
    let l = a.left.now in
    follow.turn (length text) (3 * (length text - l.next) + 1) l.next (λ k. sums_at k a.self.now.n text (Ok l))
    (λ j h. turn.sum-ends a.self.now.n text (Ok l) j l.next c.skip-place.result l.form s.result refl c.skip-place.ensures s.ensures c.in_default.not-Plus c.in_default.not-Minus)
    (λ z y h. let e : l.next ≡ z = same {x = l.form} {y = y} h in (omega arith, omega (arith, c.requires)))
