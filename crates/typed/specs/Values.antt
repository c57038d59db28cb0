-- What a typed row is worth (02, order 1): a tree that stands at a place of the text, worked out operands before their operator, left
-- before right. Every result is tested where it arises (`fit`, in Forms). Assumes nothing.
use Rattle.std.specs.Prelude.{List, [], ◌∷◌, ℕ, suc, ◌+◌, ◌*◌, pos, negsuc, length}
use Rattle.typed.specs.Text.{Expression, term, sum, difference, Term, factor, product, Factor, number, variable, bracket, negative, Comparison}
use Rattle.typed.specs.Forms.{Reading, reaches, zero_form, next, joined, multiplied, variable_at, number_at, collected_at}

-- a whole number of any size
unfoldable pub decimal_of : ℕ → List ℕ → ℕ
decimal_of v [] = v
decimal_of v (d ∷ ds) = decimal_of (10 * v + d) ds

unfoldable mutual
  -- `+` and `-`, from the left: the left operand, the right one, then the operator at its place
  pub work_expression : ℕ → ℕ → Expression → Reading
  work_expression n p (term t) = work_term n p t
  work_expression n p (sum e i j t) =
      next (work_expression n p e) (λ q x. joined (q + i) x (pos 1) (work_term n (q + i + 1 + j) t))
  work_expression n p (difference e i j t) =
      next (work_expression n p e) (λ q x. joined (q + i) x (negsuc 0) (work_term n (q + i + 1 + j) t))

  -- `*`, from the left
  pub work_term : ℕ → ℕ → Term → Reading
  work_term n p (factor f) = work_factor n p f
  work_term n p (product t i j f) =
      next (work_term n p t) (λ q x. multiplied (q + i) x (work_factor n (q + i + 1 + j) f))

  -- a number, a letter, a bracket, a minus before a factor
  pub work_factor : ℕ → ℕ → Factor → Reading
  work_factor n p (number d ds) = number_at p (p + suc (length ds)) (decimal_of d ds)
  work_factor n p (variable v) = variable_at n p v
  work_factor n p (bracket i e j) = next (work_expression n (p + 1 + i) e) (λ q x. reaches (q + j + 1) x)
  work_factor n p (negative i f) = joined p zero_form (negsuc 0) (work_factor n (p + 1 + i) f)

-- both sides, then the collecting at the `<`
unfoldable pub work_row : ℕ → Comparison → Reading
work_row n c =
    next (work_expression n c.before c.left) (λ q x.
    collected_at (q + c.between) x (work_expression n (q + c.between + 2 + c.beyond) c.right))
