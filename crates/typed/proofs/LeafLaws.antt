-- The cases of a product, of a whole number, of a letter and of a bracket's end. Assumes nothing.
use mathlib.Core.Path.{◌≡◌, sym, ap, ◌∙◌}
use mathlib.Core.Logic.{⊎_elim}
use mathlib.Core.Bool.{true, false, cond}
use mathlib.Core.List.{List}
use Prim.Native.Nat.{ℕ, ◌+◌, ◌^◌, ◌≤◌, ◌<◌}
use native.Mathlib.Omega.{arith}
use lib.IntN.{pos}
use lib.ListN.{drop}
use borrow.Author.Tests.{lt-ltb, le-ltb}
use Rattle.typed.specs.declared.signs.Sign.{Sign}
use Rattle.typed.specs.declared.signs.Sign.TheVariants.{Close}
use Rattle.typed.specs.declared.forms.Form.{Form}
use Rattle.typed.specs.declared.reading.Digits.{Digits}
use Rattle.std.specs.Prelude.{Ok}
use Rattle.typed.specs.declared.forms.Worked.{Worked}
use Rattle.typed.specs.Signs.{signs, sign_at}
use Rattle.typed.specs.Turns.{by_close}
use Rattle.typed.specs.Forms.{zero_form, constant, combined, fit, reaches, refused, next, varies, product, number_at}
use Rattle.typed.specs.Working.{skip, capped, decimal, digit_count, digits_at, whole_at, closed_at}
use Rattle.farkas.proofs.Order.{compare}
use Rattle.typed.proofs.ReadLaws.{capped_small, capped-large}
use Rattle.typed.proofs.TurnLaws.{no-close}

-- a product, by which of its factors vary
module _ (p q : ℕ) (a b : Form) where
  pub product-both : varies a ≡ true → varies b ≡ true → product p q a b ≡ refused p
  unfolding product
  product-both e f = rw (e, f)

  pub product-left : varies a ≡ true → varies b ≡ false → product p q a b ≡ fit p q (combined zero_form b.number a)
  unfolding product
  product-left e f = rw (e, f)

  pub product-right : varies a ≡ false → product p q a b ≡ fit p q (combined zero_form a.number b)
  unfolding product
  product-right e = rw e

-- a whole number, from its digits cut at 2 ^ 31
module _ (text : List ℕ) (p : ℕ) (d : Digits) (e : d ≡ digits_at text p) where
  value-is : d.value ≡ capped (decimal 0 (signs (drop p text)))
  unfolding digits_at
  value-is = ap (λ x. x.value) e

  next-is : d.next ≡ p + digit_count (signs (drop p text))
  unfolding digits_at
  next-is = ap (λ x. x.next) e

  pub whole-small : d.value < 2 ^ 31 → reaches d.next (constant (pos d.value)) ≡ whole_at text p
  unfolding whole_at number_at
  whole-small h =
      let v = decimal 0 (signs (drop p text)) in
      ⊎_elim
      (λ l. (λ k. reaches (next-is k) (constant (pos ((value-is ∙ capped_small v l) k)))) ∙ sym (ap (λ t. cond t (reaches (p + digit_count (signs (drop p text))) (constant (pos v))) (refused p)) (lt-ltb v (2 ^ 31) l)))
      (λ g. absurd (omega (arith, value-is, capped-large v g)))
      (compare v (2 ^ 31))

  pub whole-large : 2 ^ 31 ≤ d.value → refused p ≡ whole_at text p
  unfolding whole_at number_at
  whole-large h =
      let v = decimal 0 (signs (drop p text)) in
      ⊎_elim
      (λ l. absurd (omega (arith, value-is, capped_small v l)))
      (λ g. sym (ap (λ t. cond t (reaches (p + digit_count (signs (drop p text))) (constant (pos v))) (refused p)) (le-ltb v (2 ^ 31) g)))
      (compare v (2 ^ 31))

-- the end of a bracket
module _ (text : List ℕ) (w : Worked) (place : ℕ) (s : Sign) (f : place ≡ skip text w.next) (g : s ≡ sign_at text place) where
  close-turn : closed_at text (Ok w) ≡ by_close s (reaches (place + 1) w.form) (refused place)
  unfolding closed_at next
  close-turn =
      ap (λ p. by_close (sign_at text p) (reaches (p + 1) w.form) (refused p)) (sym f)
      ∙ ap (λ x. by_close x (reaches (place + 1) w.form) (refused place)) (sym g)

  pub bracket-closed : s ≡ Close → closed_at text (Ok w) ≡ reaches (place + 1) w.form
  unfolding by_close
  bracket-closed h = close-turn ∙ ap (λ x. by_close x (reaches (place + 1) w.form) (refused place)) h

  pub bracket-open : (s ≡ Close → ⊥) → closed_at text (Ok w) ≡ refused place
  bracket-open h = close-turn ∙ no-close s _ (refused place) h
