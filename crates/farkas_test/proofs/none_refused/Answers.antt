-- Farkas' test of sums of 0 with k 0 computes to 11, against 0 ≤ 0 and against a row of zeros in bytes. Assumes nothing.
use Rattle.std.proofs.Common.{◌≡◌, ◌∙◌, refl, pos, ℕ, false, List, [], ◌∷◌, eq-eqb}
use Rattle.farkas.specs.Lists.{every}
use Rattle.farkas.specs.Rows.{row_of, strictly, compared, zero_row, onward}
use Rattle.farkas.specs.Words.{big_endian, signed, signed_at, numbers_at, row_in}
use Rattle.farkas.specs.Farkas.{same_z, coefficients_agree, bound_passes, sums_test}
use Rattle.farkas_test.proofs.none_refused.Goals as goal

no_goal : sums_test 0 (row_of (pos 0 ∷ []) (pos 0)) zero_row ≡ 11
unfolding zero_row sums_test coefficients_agree same_z every bound_passes compared
no_goal = refl

abbrev zeros : List ℕ
zeros = 0 ∷ 0 ∷ 0 ∷ 0 ∷ 0 ∷ 0 ∷ 0 ∷ 0 ∷ []

zero_goal : sums_test 0 (row_of (pos 0 ∷ []) (pos 0)) (onward 0 (strictly false (row_in zeros 0 1))) ≡ 11
unfolding onward row_in numbers_at signed_at signed big_endian sums_test coefficients_agree same_z every bound_passes compared
zero_goal = refl

pub expect-requires : goal.expect-requires
expect-requires c = eq-eqb c.number.result 11 (c.number.ensures ∙ c.judge_zero.ensures.result_value ∙ no_goal)

pub expect-requires-2 : goal.expect-requires-2
expect-requires-2 c = eq-eqb c.number-2.result 11 (c.number-2.ensures ∙ c.judge.ensures.result_value ∙ zero_goal)
