-- Each answer is the arm of `sums_test` that the two tests pick. Assumes nothing.
use mathlib.Core.Path.{◌≡◌, sym, ap₂, ◌∙◌}
use mathlib.Core.Bool.{true}
use mathlib.Core.List.{◌++◌}
use Prim.Native.Nat.{◌+◌, ◌*◌}
use borrow.Author.Rules.{rules}
use lib.IntN.{pos}
use lib.ListN.{replicate}
use mir.Syntax.{w64}
use mir.Val.{SFits}
use mir.Facts.{to_z-of_z}
use Rattle.farkas.specs.Rows.{onward}
use Rattle.farkas.specs.Words.{signed_at, numbers_at, row_in}
use Rattle.farkas.specs.Farkas.{coefficients_agree, bound_passes, sums_test, number_of}
use Rattle.farkas.proofs.judge.Goals.{After-bound_passes}
use Rattle.farkas.proofs.judge.Goals as goal

agreed : (c : After-bound_passes) → coefficients_agree c.args.k c.args.sums.now (replicate c.args.shift (pos 0) ++ numbers_at c.args.words.now c.args.at c.args.count) ≡ true
agreed c = sym c.agree.ensures.value ∙ c.if-not-agree.false

value-fits : (c : After-bound_passes) → SFits w64 c.args.bound.value
value-fits c = search rules

tested : (c : After-bound_passes) → c.bound_passes.result ≡ bound_passes c.args.k c.args.bound.value c.args.bound.strict (signed_at c.args.words.now (c.args.at + 4 * c.args.count)) c.args.must
tested c =
    let k = c.signed_word-goal in
    let a = c.args in
    c.bound_passes.ensures
    ∙ ap₂ (λ sum goal. bound_passes a.k sum a.bound.strict goal a.must) (to_z-of_z (value-fits c)) (to_z-of_z {w = w64} {z = k.result} (record { sfits = k.type_inv }) ∙ k.ensures.value)

pub returns-then-not-agree-clause-result_value : goal.returns-then-not-agree-clause-result_value
unfolding sums_test number_of onward row_in
returns-then-not-agree-clause-result_value c = rw (sym c.agree.ensures.value ∙ c.if-not-agree.true)

pub returns-then-not-bound_passes-clause-result_value : goal.returns-then-not-bound_passes-clause-result_value
unfolding sums_test number_of onward row_in
returns-then-not-bound_passes-clause-result_value c =
    let after = (goal.at.returns-then-not-bound_passes-clause-result_value c).After-bound_passes in
    rw (agreed after, sym (tested after) ∙ c.if-not-bound_passes.true)

pub returns-clause-result_value : goal.returns-clause-result_value
unfolding sums_test number_of onward row_in
returns-clause-result_value c =
    let after = (goal.at.returns-clause-result_value c).After-bound_passes in
    rw (agreed after, sym (tested after) ∙ c.if-not-bound_passes.false)
