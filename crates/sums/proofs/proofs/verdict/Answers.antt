-- The goal is no row, or a row at a place. Assumes nothing.
use mathlib.Core.Path.{sym, ap, ap₂, ◌∙◌}
use Prim.Native.Nat.{ℕ}
use native.Mathlib.Omega.{arith}
use lib.IntN.{ℤ}
use mathlib.Core.Bool.{Bool}
use Rattle.farkas.specs.Rows.{Row, row_of, strictly, zero_row, onward}
use Rattle.farkas.specs.Words.{row_in}
use Rattle.farkas.specs.Farkas.{sums_test}
use Rattle.sums.proofs.RowLaws.{goal-none, goal-row, sent}
use Rattle.formats.proofs.Versions.{numbers-within}
use Rattle.sums.proofs.proofs.verdict.Goals as goal

pub returns-then-group : goal.returns-then-group
returns-then-group c =
    let a = c.args in
    let sums = a.sums.now in
    let zero = c.if-group.true in record {
      result_value = c.judge_zero.ensures.result_value
          ∙ ap (λ (z : ℤ). sums_test 0 (strictly a.strict (row_of sums z)) zero_row) (sent a.bound c.ranges.bound)
          ∙ ap₂ (λ (k : ℕ) (r : Row). sums_test k (strictly a.strict (row_of sums a.bound)) r) (sym (c.requires.n_in_bounds.1 zero)) (sym (goal-none a.second.now a.n a.group a.goal zero));
      sums_after = λ e. c.judge_zero.ensures.sums_value e;
    }

pub judge-requires : goal.judge-requires
judge-requires c = record { count_in_bounds = c.requires.second_len_bound.1.1; numbers_in = (numbers-within c.args.group.version c.args.n c.args.goal _ (c.requires.n_in_bounds.0 c.if-group.false), omega (arith, c.requires.second_len_bound.0)) }

pub returns : goal.returns
returns c =
    let a = c.args in
    let sums = a.sums.now in record {
      result_value = c.judge.ensures.result_value
          ∙ ap₂ (λ (z : ℤ) (r : Row). sums_test a.k (strictly a.strict (row_of sums z)) r) (sent a.bound c.ranges.bound)
          (ap (λ (must : Bool). onward a.group.shift (strictly must (row_in a.second.now a.goal a.n))) c.is_strict-must.ensures ∙ sym (goal-row a.second.now a.n a.group a.goal c.if-group.false));
      sums_after = λ e. c.judge.ensures.sums_after e;
    }
