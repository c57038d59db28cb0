-- What a typed row says (02, order 1): its two sides at whole values of the variables, by plain arithmetic, and where the row that is
-- returned holds. proofs/MeaningLaws.antt shows that these are the same values. Assumes nothing.
use Rattle.std.specs.Prelude.{List, ℤ, pos, neg_ℤ, ◌+ℤ◌, ◌*ℤ◌, ◌≤ℤ◌}
use Rattle.farkas.specs.Rows.{item, dot}
use Rattle.typed.specs.declared.TypedRow.{TypedRow}
use Rattle.typed.specs.Text.{Expression, term, sum, difference, Term, factor, product, Factor, number, variable, bracket, negative, Comparison}
use Rattle.typed.specs.Values.{decimal_of}

unfoldable mutual
  pub value_of : List ℤ → Expression → ℤ
  value_of xs (term t) = term_value xs t
  value_of xs (sum e i j t) = value_of xs e +ℤ term_value xs t
  value_of xs (difference e i j t) = value_of xs e +ℤ neg_ℤ (term_value xs t)

  pub term_value : List ℤ → Term → ℤ
  term_value xs (factor f) = factor_value xs f
  term_value xs (product t i j f) = term_value xs t *ℤ factor_value xs f

  pub factor_value : List ℤ → Factor → ℤ
  factor_value xs (number d ds) = pos (decimal_of d ds)
  factor_value xs (variable v) = item xs v
  factor_value xs (bracket i e j) = value_of xs e
  factor_value xs (negative i f) = neg_ℤ (factor_value xs f)

abbrev pub Says : Comparison → List ℤ → Type 0
Says c xs = value_of xs c.left ≤ℤ value_of xs c.right

abbrev pub Holds : TypedRow → List ℤ → Type 0
Holds r xs = dot r.coefficients xs ≤ℤ r.bound
