-- Each answer is the arm of `sums_test` that the two tests pick; with no goal, the sums agree where all are 0. Assumes nothing.
use mathlib.Core.Path.{◌≡◌, sym, ap, ◌∙◌}
use mathlib.Core.Bool.{true, false}
use mathlib.Core.List.{[]}
use borrow.Author.Rules.{rules}
use lib.IntN.{pos}
use mir.Syntax.{w64}
use mir.Val.{SFits}
use mir.Facts.{to_z-of_z}
use Rattle.farkas.specs.Rows.{zero_row}
use Rattle.farkas.specs.Farkas.{coefficients_agree, bound_passes, sums_test, number_of}
use Rattle.farkas.proofs.SumTest.{rest-zero, zeros-are}
use Rattle.farkas.proofs.judge_zero.Goals.{After-all_zero, After-bound_passes}
use Rattle.farkas.proofs.judge_zero.Goals as goal

agreed : (c : After-all_zero) → coefficients_agree 0 c.args.sums.now [] ≡ c.all_zero.result
agreed c = rest-zero 0 c.args.sums.now ∙ sym c.all_zero.ensures

value-fits : (c : After-bound_passes) → SFits w64 c.args.bound.value
value-fits c = search rules

tested : (c : After-bound_passes) → bound_passes 0 c.args.bound.value c.args.bound.strict (pos 0) false ≡ c.bound_passes.result
tested c = sym (c.bound_passes.ensures ∙ ap (λ z. bound_passes 0 z c.args.bound.strict (pos 0) false) (to_z-of_z (value-fits c)))

passed : (c : After-bound_passes) → coefficients_agree 0 c.args.sums.now [] ≡ true
passed c = agreed (goal.at.After-bound_passes c).After-all_zero ∙ c.if-not-all_zero.false

pub returns-then-not-all_zero-clause-result_value : goal.returns-then-not-all_zero-clause-result_value
unfolding sums_test number_of zero_row
returns-then-not-all_zero-clause-result_value c = rw (agreed (goal.at.returns-then-not-all_zero-clause-result_value c).After-all_zero ∙ c.if-not-all_zero.true)

pub returns-then-not-bound_passes-clause-result_value : goal.returns-then-not-bound_passes-clause-result_value
unfolding sums_test number_of zero_row
returns-then-not-bound_passes-clause-result_value c =
    let after = (goal.at.returns-then-not-bound_passes-clause-result_value c).After-bound_passes in
    rw (passed after, tested after ∙ c.if-not-bound_passes.true)

pub returns-clause-result_value : goal.returns-clause-result_value
unfolding sums_test number_of zero_row
returns-clause-result_value c =
    let after = (goal.at.returns-clause-result_value c).After-bound_passes in
    rw (passed after, tested after ∙ c.if-not-bound_passes.false)

pub returns-clause-sums_value : goal.returns-clause-sums_value
returns-clause-sums_value c = λ e. zeros-are c.args.sums.now (sym c.all_zero.ensures ∙ c.if-not-all_zero.false)
