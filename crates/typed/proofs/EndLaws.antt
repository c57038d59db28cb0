-- Where a tree's value ends, and how many steps it takes: both by its spelling. Assumes nothing.
use mathlib.Core.Path.{◌≡◌, refl, ap}
use mathlib.Core.List.{List, [], ◌∷◌, ◌++◌}
use Prim.Native.Nat.{ℕ, zero, suc, ◌+◌, ◌*◌, ◌^◌, ◌≤◌}
use native.Mathlib.Omega.{arith}
use lib.Dec.{ltb}
use lib.IntN.{pos, negsuc}
use lib.ListN.{length, length-append}
use Rattle.typed.specs.declared.signs.Sign.{Sign}
use Rattle.typed.specs.declared.signs.Sign.TheVariants.{Close, Plus, Minus, Times}
use Rattle.typed.specs.declared.forms.Form.{Form}
use Rattle.std.specs.Prelude.{Ok, Err}
use Rattle.typed.specs.Text.{Expression, term, sum, difference, Term, factor, product, Factor, number, variable, bracket, negative, blanks, digits, spell, spell_term, spell_factor, Comparison, spell_row}
use Rattle.typed.specs.Forms.{Reading, reaches, next, zero_form, joined, multiplied, number_at}
use Rattle.typed.specs.Values.{decimal_of, work_expression, work_term, work_factor}
use Rattle.typed.proofs.PlaceLaws.{same, chosen, passed, joined-place, multiplied-place, variable-place}
use Rattle.typed.proofs.StandLaws.{length-blanks}

pub next-same : (w : Reading) (f g : ℕ → Form → Reading) → ((q : ℕ) (x : Form) → w ≡ reaches q x → f q x ≡ g q x) → next w f ≡ next w g
unfolding next
next-same (Ok w) f g h = h w.next w.form refl
next-same (Err e) f g h = refl

-- a tree's value ends where its spelling does
pub digits-length : (ds : List ℕ) → length (digits ds) ≡ length ds
unfolding digits
digits-length [] = refl
digits-length (d ∷ ds) = ap suc (digits-length ds)

pub operand-length : (xs ys : List Sign) (i j : ℕ) (s : Sign) → length (xs ++ (blanks i ++ (s ∷ (blanks j ++ ys)))) ≡ length xs + i + 1 + j + length ys
operand-length xs ys i j s = simp (length-append, length-blanks) (omega (arith, length-blanks i, length-blanks j))

number-end : (p d : ℕ) (ds : List ℕ) (q : ℕ) (y : Form) → number_at p (p + suc (length ds)) (decimal_of d ds) ≡ reaches q y → p + suc (length ds) ≡ q
unfolding number_at
number-end p d ds q y h = chosen (ltb (decimal_of d ds) (2 ^ 31)) p (p + suc (length ds)) q _ y h

pub bracket-length : (xs : List Sign) (i j : ℕ) → length (blanks i ++ (xs ++ (blanks j ++ (Close ∷ [])))) ≡ i + length xs + j + 1
bracket-length xs i j = simp length-append (omega (arith, length-blanks i, length-blanks j))

mutual
  unfolding work_expression spell

  pub expression-end : (e : Expression) (n p q : ℕ) (y : Form) → work_expression n p e ≡ reaches q y → q ≡ p + length (spell e)
  expression-end (term t) n p q y h = term-end t n p q y h
  expression-end (sum e i j t) n p q y h =
      let a = passed (work_expression n p e) (λ q x. joined (q + i) x (pos 1) (work_term n (q + i + 1 + j) t)) q y h in
      let b = expression-end e n p a.at a.form a.was in
      let o = joined-place (a.at + i) _ (pos 1) _ q y a.then in
      let c = term-end t n (a.at + i + 1 + j) q o.form o.is in
      omega (arith, operand-length (spell e) (spell_term t) i j Plus)
  expression-end (difference e i j t) n p q y h =
      let a = passed (work_expression n p e) (λ q x. joined (q + i) x (negsuc 0) (work_term n (q + i + 1 + j) t)) q y h in
      let b = expression-end e n p a.at a.form a.was in
      let o = joined-place (a.at + i) _ (negsuc 0) _ q y a.then in
      let c = term-end t n (a.at + i + 1 + j) q o.form o.is in
      omega (arith, operand-length (spell e) (spell_term t) i j Minus)

  pub term-end : (t : Term) (n p q : ℕ) (y : Form) → work_term n p t ≡ reaches q y → q ≡ p + length (spell_term t)
  term-end (factor f) n p q y h = factor-end f n p q y h
  term-end (product t i j f) n p q y h =
      let a = passed (work_term n p t) (λ q x. multiplied (q + i) x (work_factor n (q + i + 1 + j) f)) q y h in
      let b = term-end t n p a.at a.form a.was in
      let o = multiplied-place (a.at + i) _ _ q y a.then in
      let c = factor-end f n (a.at + i + 1 + j) q o.form o.is in
      omega (arith, operand-length (spell_term t) (spell_factor f) i j Times)

  pub factor-end : (f : Factor) (n p q : ℕ) (y : Form) → work_factor n p f ≡ reaches q y → q ≡ p + length (spell_factor f)
  factor-end (number d ds) n p q y h = omega (arith, number-end p d ds q y h, digits-length ds)
  factor-end (variable v) n p q y h = variable-place n p v q y h
  factor-end (bracket i e j) n p q y h =
      let a = passed (work_expression n (p + 1 + i) e) (λ q x. reaches (q + j + 1) x) q y h in
      let b = expression-end e n (p + 1 + i) a.at a.form a.was in
      omega (arith, same a.then, bracket-length (spell e) i j)
  factor-end (negative i f) n p q y h =
      let o = joined-place p zero_form (negsuc 0) _ q y h in
      let c = factor-end f n (p + 1 + i) q o.form o.is in
      omega (arith, length-append (blanks i) (spell_factor f), length-blanks i)

-- how many operators a sum or a product has, and how many steps its parts may take
unfoldable pub sum_count : Expression → ℕ
sum_count (term t) = zero
sum_count (sum e i j t) = suc (sum_count e)
sum_count (difference e i j t) = suc (sum_count e)

unfoldable pub product_count : Term → ℕ
product_count (factor f) = zero
product_count (product t i j f) = suc (product_count t)

unfoldable mutual
  pub expression_steps : Expression → ℕ
  expression_steps (term t) = 2 + term_steps t + product_count t
  expression_steps (sum e i j t) = expression_steps e + (2 + term_steps t + product_count t)
  expression_steps (difference e i j t) = expression_steps e + (2 + term_steps t + product_count t)

  pub term_steps : Term → ℕ
  term_steps (factor f) = factor_steps f
  term_steps (product t i j f) = term_steps t + factor_steps f

  pub factor_steps : Factor → ℕ
  factor_steps (number d ds) = 1
  factor_steps (variable v) = 1
  factor_steps (bracket i e j) = 3 + expression_steps e + sum_count e
  factor_steps (negative i f) = 1 + factor_steps f

-- three steps to a sign suffice
mutual
  unfolding expression_steps sum_count product_count spell

  pub expression-few : (e : Expression) → expression_steps e + sum_count e ≤ 3 * length (spell e)
  expression-few (term t) = omega (arith, term_few t)
  expression-few (sum e i j t) = omega (arith, expression-few e, term_few t, operand-length (spell e) (spell_term t) i j Plus)
  expression-few (difference e i j t) = omega (arith, expression-few e, term_few t, operand-length (spell e) (spell_term t) i j Minus)

  term_few : (t : Term) → 2 + term_steps t + product_count t ≤ 3 * length (spell_term t)
  term_few (factor f) = omega (arith, factor-few f)
  term_few (product t i j f) = omega (arith, term_few t, factor-few f, operand-length (spell_term t) (spell_factor f) i j Times)

  factor-few : (f : Factor) → 2 + factor_steps f ≤ 3 * length (spell_factor f)
  factor-few (number d ds) = omega arith
  factor-few (variable v) = omega arith
  factor-few (bracket i e j) = omega (arith, expression-few e, bracket-length (spell e) i j)
  factor-few (negative i f) = omega (arith, factor-few f, length-append (blanks i) (spell_factor f))

-- how long a row is
pub row-length : (c : Comparison) → length (spell_row c) ≡ c.before + length (spell c.left) + c.between + 2 + c.beyond + length (spell c.right) + c.after
unfolding spell_row
row-length c = simp length-append (omega (arith, length-blanks c.before, length-blanks c.between, length-blanks c.beyond, length-blanks c.after))
