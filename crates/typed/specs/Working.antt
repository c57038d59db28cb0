-- Working a typed row out from the text (02, order 1), as the code goes: operands before their operator, left before right. Each reader
-- takes a number of steps that bounds how deep the calls go. proofs/RowLaws.antt shows that a text that spells a row is worked out to what
-- Values says of it. Assumes nothing.
use Rattle.std.specs.Prelude.{cond, List, [], ◌∷◌, ℕ, zero, suc, ◌+◌, ◌*◌, ◌^◌, negsuc, ltb, length, drop}
use Rattle.typed.specs.declared.signs.Sign.{Sign}
use Rattle.typed.specs.declared.signs.Sign.TheVariants.{Blank, Digit, Letter, Open, Close, Plus, Minus, Times, Less, Equal, Other}
use Rattle.typed.specs.declared.reading.Digits.{Digits}
use Rattle.typed.specs.Signs.{signs, sign_at}
use Rattle.typed.specs.Turns.{by_sum, sense_of, by_product, by_close, by_factor}
use Rattle.typed.specs.Forms.{Reading, zero_form, reaches, refused, next, joined, multiplied, variable_at, number_at, collected_at}

-- how many blanks a text begins with
unfoldable pub lead_by : Sign → ℕ → ℕ
lead_by Blank n = suc n
lead_by (Digit d) n = zero
lead_by (Letter v) n = zero
lead_by Open n = zero
lead_by Close n = zero
lead_by Plus n = zero
lead_by Minus n = zero
lead_by Times n = zero
lead_by Less n = zero
lead_by Equal n = zero
lead_by Other n = zero

unfoldable pub lead : List Sign → ℕ
lead [] = zero
lead (x ∷ xs) = lead_by x (lead xs)

-- the place after the blanks
unfoldable pub skip : List ℕ → ℕ → ℕ
skip text p = p + lead (signs (drop p text))

-- the digits that a text begins with: how many, and what they are as a decimal number, of any size
unfoldable pub on_digit : {A : Type 0} → Sign → (ℕ → A) → A → A
on_digit Blank f x = x
on_digit (Digit d) f x = f d
on_digit (Letter v) f x = x
on_digit Open f x = x
on_digit Close f x = x
on_digit Plus f x = x
on_digit Minus f x = x
on_digit Times f x = x
on_digit Less f x = x
on_digit Equal f x = x
on_digit Other f x = x

unfoldable pub digit_count : List Sign → ℕ
digit_count [] = zero
digit_count (x ∷ xs) = on_digit x (λ d. suc (digit_count xs)) zero

unfoldable pub decimal : ℕ → List Sign → ℕ
decimal v [] = v
decimal v (x ∷ xs) = on_digit x (λ d. decimal (10 * v + d) xs) v

unfoldable pub whole_at : List ℕ → ℕ → Reading
whole_at text p = number_at p (p + digit_count (signs (drop p text))) (decimal 0 (signs (drop p text)))

-- the same as the code holds it: cut at 2 ^ 31, where it is refused
unfoldable pub capped : ℕ → ℕ
capped v = cond (ltb v (2 ^ 31)) v (2 ^ 31)

unfoldable pub digits_at : List ℕ → ℕ → Digits
digits_at text p = record { value = capped (decimal 0 (signs (drop p text))); next = p + digit_count (signs (drop p text)) }

-- a bracket's end
unfoldable pub closed_at : List ℕ → Reading → Reading
closed_at text w = next w (λ q x. by_close (sign_at text (skip text q)) (reaches (skip text q + 1) x) (refused (skip text q)))

unfoldable mutual
  pub expression_at : ℕ → ℕ → List ℕ → ℕ → Reading
  expression_at zero n text p = refused p
  expression_at (suc k) n text p = sums_at k n text (term_at k n text p)

  pub sums_at : ℕ → ℕ → List ℕ → Reading → Reading
  sums_at zero n text w = w
  sums_at (suc k) n text w =
      next w (λ q x.
      by_sum (sign_at text (skip text q))
      (sums_at k n text (joined (skip text q) x (sense_of (sign_at text (skip text q))) (term_at k n text (skip text q + 1))))
      w)

  pub term_at : ℕ → ℕ → List ℕ → ℕ → Reading
  term_at zero n text p = refused p
  term_at (suc k) n text p = products_at k n text (factor_at k n text p)

  pub products_at : ℕ → ℕ → List ℕ → Reading → Reading
  products_at zero n text w = w
  products_at (suc k) n text w =
      next w (λ q x.
      by_product (sign_at text (skip text q))
      (products_at k n text (multiplied (skip text q) x (factor_at k n text (skip text q + 1))))
      w)

  pub factor_at : ℕ → ℕ → List ℕ → ℕ → Reading
  factor_at zero n text p = refused p
  factor_at (suc k) n text p =
      by_factor (sign_at text (skip text p))
      (whole_at text (skip text p))
      (variable_at n (skip text p))
      (closed_at text (expression_at k n text (skip text p + 1)))
      (joined (skip text p) zero_form (negsuc 0) (factor_at k n text (skip text p + 1)))
      (refused (skip text p))

-- a whole row in so many steps: both sides, then the collecting at the `<`
unfoldable pub row_in : ℕ → ℕ → List ℕ → Reading
row_in k n text =
    next (expression_at k n text 0) (λ q x.
    collected_at (skip text q) x (expression_at k n text (skip text q + 2)))

-- three steps to a byte suffice
unfoldable pub enough : List ℕ → ℕ
enough text = 3 * length text + 4

unfoldable pub row_at : ℕ → List ℕ → Reading
row_at n text = row_in (enough text) n text
