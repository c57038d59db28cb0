-- The three tests are the parts of the definition's test: before the goal's unknowns, at them, and past them. Assumes nothing.
use mathlib.Core.Path.{◌≡◌, refl, sym, ap, ◌∙◌}
use mathlib.Core.Bool.{true, false}
use mathlib.Core.List.{List}
use Prim.Native.Nat.{ℕ, ◌+◌, ◌≤◌}
use native.Mathlib.Omega.{arith}
use lib.IntN.{ℤ, pos}
use lib.ListN.{length, take, drop, replicate}
use Rattle.farkas.specs.Lists.{every}
use Rattle.farkas.specs.Words.{numbers_at}
use Rattle.farkas.specs.Sums.{is_zero, agrees_at, cleared}
use Rattle.farkas.proofs.SumLaws.{numbers-length}
use Rattle.farkas.proofs.SumTest.{first-fails, second-fails, third-tells, cleared-length, cleared-past, cleared-zero, zeros-are, whole_part}
use Rattle.farkas.proofs.agree.Goals.{Start, After-all_zero-then-take_goal, then-all_zero, else-all_zero}
use Rattle.farkas.proofs.agree.Goals as goal

abbrev goal_row : Start → List ℤ
goal_row s = numbers_at s.args.words.now s.args.at s.args.count

as_many : (s : Start) → length (goal_row s) ≡ s.args.count
as_many s = numbers-length s.args.words.now s.args.at s.args.count

wide : (s : Start) → s.args.shift + length (goal_row s) ≤ length s.args.sums.now
wide s = omega (arith, s.requires.count_in_bounds, as_many s)

never : {A : Type 0} → false ≡ true → A
never e = absurd (let z : ◌≡◌ {A = ℕ} 0 1 = cc in omega arith)

-- where the first two tests pass, the sums are as they were but for the goal's unknowns, where they are 0
record Passed (s : Start) (sums : List ℤ) : Type 0 where
  first : every is_zero (take s.args.shift s.args.sums.now) ≡ true
  second : agrees_at s.args.k s.args.shift s.args.sums.now (goal_row s) ≡ true
  taken : sums ≡ cleared s.args.shift s.args.count s.args.sums.now

passed : (c : After-all_zero-then-take_goal) → Passed (goal.at.After-all_zero-then-take_goal c).Start c.if-all_zero.sums
passed c =
    elim c.if-all_zero.branch [
      | then-all_zero w ↦ let yes = sym w.value-is ∙ c.if-take_goal.true in record { first = sym c.all_zero.ensures ∙ w.if-all_zero.true; second = sym w.take_goal.ensures.value ∙ yes; taken = w.sums-is ∙ w.take_goal.ensures.sums_after yes }
      | else-all_zero w ↦ never (sym w.if-all_zero.false ∙ sym w.value-is ∙ c.if-take_goal.true)
    ]

past : (c : After-all_zero-then-take_goal) → c.all_zero-then-take_goal.result ≡ every is_zero (drop (c.args.shift + c.args.count) c.args.sums.now)
past c =
    let n = c.args.shift + c.args.count in
    c.all_zero-then-take_goal.ensures
    ∙ ap (every is_zero) (whole_part c.if-all_zero.sums n)
    ∙ ap (λ (ys : List ℤ). every is_zero (drop n ys)) (passed c).taken
    ∙ ap (every is_zero) (cleared-past c.args.shift c.args.count c.args.sums.now n refl)

pub returns-then-take_goal : goal.returns-then-take_goal
returns-then-take_goal c =
    let old = c.args.sums.now in
    let p = passed c in
    let s = (goal.at.returns-then-take_goal c).Start in
    let clear = cleared c.args.shift c.args.count old in record {
      value = past c
          ∙ ap (λ (n : ℕ). every is_zero (drop (c.args.shift + n) old)) (sym (as_many s))
          ∙ sym (third-tells c.args.k c.args.shift old (goal_row s) (wide s) p.first p.second);
      sums_after = λ e.
          p.taken
          ∙ zeros-are clear (cleared-zero c.args.shift c.args.count old (c.args.shift + c.args.count) refl p.first (sym (past c) ∙ e))
          ∙ ap (λ (n : ℕ). replicate n (pos 0)) (cleared-length c.args.shift c.args.count old);
    }

pub returns-else-take_goal-clause-value : goal.returns-else-take_goal-clause-value
returns-else-take_goal-clause-value c =
    let s = (goal.at.returns-else-take_goal-clause-value c).Start in
    c.if-take_goal.false
    ∙ sym
    (elim c.if-all_zero.branch [
      | then-all_zero w ↦ second-fails c.args.k c.args.shift c.args.sums.now (goal_row s) (wide s) (sym c.all_zero.ensures ∙ w.if-all_zero.true) (sym w.take_goal.ensures.value ∙ sym w.value-is ∙ c.if-take_goal.false)
      | else-all_zero w ↦ first-fails c.args.k c.args.shift c.args.sums.now (goal_row s) (wide s) (sym c.all_zero.ensures ∙ w.if-all_zero.false)
    ])
