-- Blanks and digits, read one byte at a time. Assumes nothing.
use mathlib.Core.Path.{◌≡◌, refl, sym, ap, ◌∙◌}
use mathlib.Core.Logic.{⊎_elim}
use mathlib.Core.Bool.{cond}
use mathlib.Core.List.{List, [], ◌∷◌}
use Prim.Native.Nat.{ℕ, zero, suc, ◌+◌, ◌*◌, ◌^◌, ◌≤◌, ◌<◌, min}
use native.Mathlib.Omega.{arith}
use lib.ListN.{length, drop, drop_of_length-le}
use borrow.Author.Tests.{lt-ltb, le-ltb}
use Rattle.farkas.proofs.Order.{compare}
use Rattle.typed.specs.declared.signs.Sign.{Sign}
use Rattle.typed.specs.declared.signs.Sign.TheVariants.{Blank, Digit, Letter, Open, Close, Plus, Minus, Times, Less, Equal, Other}
use Rattle.typed.specs.declared.reading.Digits.{Digits}
use Rattle.typed.specs.Signs.{signs, sign_at}
use Rattle.typed.specs.Working.{lead_by, lead, skip, on_digit, digit_count, decimal, capped, digits_at}
use Rattle.typed.proofs.SignLaws.{signs-from}

-- the arm of a match that names no blank, or no digit
not-blank : (s : Sign) (n : ℕ) → (s ≡ Blank → ⊥) → lead_by s n ≡ zero
unfolding lead_by
not-blank Blank n h = absurd (h refl)
not-blank (Digit d) n h = refl
not-blank (Letter v) n h = refl
not-blank Open n h = refl
not-blank Close n h = refl
not-blank Plus n h = refl
not-blank Minus n h = refl
not-blank Times n h = refl
not-blank Less n h = refl
not-blank Equal n h = refl
not-blank Other n h = refl

not_digit_lem : {A : Type 0} (s : Sign) (f : ℕ → A) (x : A) → ((d : ℕ) → s ≡ Digit d → ⊥) → on_digit s f x ≡ x
unfolding on_digit
not_digit_lem Blank f x h = refl
not_digit_lem (Digit d) f x h = absurd (h d refl)
not_digit_lem (Letter v) f x h = refl
not_digit_lem Open f x h = refl
not_digit_lem Close f x h = refl
not_digit_lem Plus f x h = refl
not_digit_lem Minus f x h = refl
not_digit_lem Times f x h = refl
not_digit_lem Less f x h = refl
not_digit_lem Equal f x h = refl
not_digit_lem Other f x h = refl

-- blanks
module _ (text : List ℕ) (p : ℕ) where
  pub skip-more : (s : Sign) → s ≡ sign_at text p → p < length text → s ≡ Blank → skip text p ≡ skip text (p + 1)
  unfolding skip lead lead_by
  skip-more s e h f = ap (λ xs. p + lead xs) (signs-from text p h) ∙ ap (λ x. p + lead_by x (lead (signs (drop (p + 1) text)))) (sym e ∙ f) ∙ omega arith

  pub skip_stop : (s : Sign) → s ≡ sign_at text p → p < length text → (s ≡ Blank → ⊥) → skip text p ≡ p
  unfolding skip lead
  skip_stop s e h k = ap (λ xs. p + lead xs) (signs-from text p h) ∙ ap (λ x. p + lead_by x (lead (signs (drop (p + 1) text)))) (sym e) ∙ ap (λ n. p + n) (not-blank s (lead (signs (drop (p + 1) text))) k) ∙ omega arith

  pub skip-end : length text ≤ p → skip text p ≡ p
  unfolding skip lead signs
  skip-end h = ap (λ xs. p + lead (signs xs)) (drop_of_length-le text h) ∙ omega arith

  pub skip-from : p ≤ skip text p
  unfolding skip
  skip-from = omega arith

-- digits. A number cut at 2 ^ 31 is as good as the number: one digit more, and it is cut to the same
pub capped_small : (v : ℕ) → v < 2 ^ 31 → capped v ≡ v
unfolding capped
capped_small v h = ap (λ t. cond t v (2 ^ 31)) (lt-ltb v (2 ^ 31) h)

pub capped-large : (v : ℕ) → 2 ^ 31 ≤ v → capped v ≡ 2 ^ 31
unfolding capped
capped-large v h = ap (λ t. cond t v (2 ^ 31)) (le-ltb v (2 ^ 31) h)

pub capped-least : (v : ℕ) → v ≤ 2 ^ 31 → capped v ≡ v
capped-least v h = ⊎_elim (λ l. capped_small v l) (λ g. let e : v ≡ 2 ^ 31 = omega arith in capped-large v g ∙ sym e) (compare v (2 ^ 31))

pub capped-bound : (v : ℕ) → capped v ≤ 2 ^ 31
capped-bound v = ⊎_elim (λ l. omega (arith, capped_small v l)) (λ g. omega (arith, capped-large v g)) (compare v (2 ^ 31))

capped-step : (v d : ℕ) → capped (10 * v + d) ≡ capped (10 * capped v + d)
capped-step v d =
    ⊎_elim (λ l. ap (λ n. capped (10 * n + d)) (sym (capped_small v l)))
    (λ g. let e = capped-large v g in capped-large (10 * v + d) (omega arith) ∙ sym (capped-large (10 * capped v + d) (omega arith)))
    (compare v (2 ^ 31))

again : (v : ℕ) → capped v ≡ capped (capped v)
again v = sym (capped-least (capped v) (capped-bound v))

capped-decimal : (xs : List Sign) (v : ℕ) → capped (decimal v xs) ≡ capped (decimal (capped v) xs)
unfolding decimal on_digit
capped-decimal [] v = again v
capped-decimal (Blank ∷ xs) v = again v
capped-decimal (Digit d ∷ xs) v =
    capped-decimal xs (10 * v + d) ∙ ap (λ n. capped (decimal n xs)) (capped-step v d) ∙ sym (capped-decimal xs (10 * capped v + d))
capped-decimal (Letter l ∷ xs) v = again v
capped-decimal (Open ∷ xs) v = again v
capped-decimal (Close ∷ xs) v = again v
capped-decimal (Plus ∷ xs) v = again v
capped-decimal (Minus ∷ xs) v = again v
capped-decimal (Times ∷ xs) v = again v
capped-decimal (Less ∷ xs) v = again v
capped-decimal (Equal ∷ xs) v = again v
capped-decimal (Other ∷ xs) v = again v

-- the digits from a place on, after a number that was read
unfoldable pub digits_on : List ℕ → ℕ → ℕ → Digits
digits_on text v p = record { value = capped (decimal v (signs (drop p text))); next = p + digit_count (signs (drop p text)) }

pub digits-begin : (text : List ℕ) (p : ℕ) → digits_at text p ≡ digits_on text 0 p
unfolding digits_at digits_on
digits-begin text p = refl

module _ (text : List ℕ) (v p : ℕ) where
  digits_from : (xs : List Sign) → signs (drop p text) ≡ xs → digits_on text v p ≡ record { value = capped (decimal v xs); next = p + digit_count xs }
  unfolding digits_on
  digits_from xs e = ap (λ ys. record { value = capped (decimal v ys); next = p + digit_count ys }) e

  pub digits_more : (s : Sign) (d w : ℕ) → s ≡ sign_at text p → p < length text → s ≡ Digit d → w ≡ capped (10 * v + d) → digits_on text v p ≡ digits_on text w (p + 1)
  unfolding digits_on decimal digit_count on_digit
  digits_more s d w e h f g =
      let xs = signs (drop (p + 1) text) in
      let z : p + suc (digit_count xs) ≡ p + 1 + digit_count xs = omega arith in
      digits_from (Digit d ∷ xs) (signs-from text p h ∙ ap (λ x. x ∷ xs) (sym e ∙ f))
      ∙ λ k. record { value = (capped-decimal xs (10 * v + d) ∙ ap (λ n. capped (decimal n xs)) (sym g)) k; next = z k }

  pub digits-stop : (s : Sign) → s ≡ sign_at text p → p < length text → ((d : ℕ) → s ≡ Digit d → ⊥) → v ≤ 2 ^ 31 → digits_on text v p ≡ record { value = v; next = p }
  unfolding decimal digit_count
  digits-stop s e h k b =
      let xs = signs (drop (p + 1) text) in
      let z : p + on_digit s (λ d. suc (digit_count xs)) zero ≡ p = omega (arith, not_digit_lem s (λ d. suc (digit_count xs)) zero k) in
      digits_from (s ∷ xs) (signs-from text p h ∙ ap (λ x. x ∷ xs) (sym e))
      ∙ λ i. record { value = (ap capped (not_digit_lem s (λ d. decimal (10 * v + d) xs) v k) ∙ capped-least v b) i; next = z i }

  pub digits-end : v ≤ 2 ^ 31 → length text ≤ p → digits_on text v p ≡ record { value = v; next = p }
  unfolding decimal digit_count signs
  digits-end b h =
      let z : p + zero ≡ p = omega arith in
      digits_from [] (ap signs (drop_of_length-le text h)) ∙ λ i. record { value = capped-least v b i; next = z i }

-- a number that was cut
pub capped-min : {s t w : ℕ} → w ≡ min s (2 ^ 31) → s ≡ t → w ≡ capped t
capped-min {s} {t} {w} f e =
    ⊎_elim (λ l. let z : w ≡ t = omega arith in z ∙ sym (capped_small t l))
    (λ g. let z : w ≡ 2 ^ 31 = omega arith in z ∙ sym (capped-large t g))
    (compare t (2 ^ 31))
