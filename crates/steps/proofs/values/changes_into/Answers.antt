-- So many changes stand behind the values, which are as they were. Assumes nothing.
use mathlib.Core.Path.{◌≡◌, ap, ap₂, ◌∙◌}
use mathlib.Core.List.{List}
use Prim.Native.Nat.{ℕ, ◌+◌, ◌*◌, ◌^◌, ◌<◌, ◌≤◌}
use native.Mathlib.Omega.{arith}
use lib.IntN.{ℤ, pos, nat_abs, ◌-ℤ◌}
use lib.ListN.{get_or, set}
use mir.Syntax.{w64}
use mir.Val.{to_z, of_z}
use Rattle.farkas.specs.Rows.{item}
use Rattle.steps.proofs.SliceLaws.{difference-fits, difference-read, changes-more, changes-apart}
use Rattle.steps.proofs.values.changes_into.Goals.{At-loop-i}
use Rattle.steps.proofs.values.changes_into.Goals as goal

-- the values are as they were
as_it_was : (c : At-loop-i) (j : ℕ) → j < 2 * c.args.n → get_or c.loop-i.state j (pos 0) ≡ get_or c.args.state.now j (pos 0)
as_it_was c j h =
    ap (λ (xs : List ℤ). get_or xs j (pos 0)) c.loop-i.invariant ∙ changes-apart c.args.n c.args.state.now c.requires.1 c.loop-i.i j (omega arith) h

small : (c : At-loop-i) (j : ℕ) → j < 2 * c.args.n → nat_abs (get_or c.loop-i.state j (pos 0)) ≤ 2 ^ 27
unfolding item
small c j h = rw (as_it_was c j h) (c.requires.0.small j h)

pub overflow_sub-state : goal.overflow_sub-state
overflow_sub-state c =
    let n = c.args.n in
    let i = c.loop-i.i in
    difference-fits (get_or c.loop-i.state (n + i) (pos 0)) (get_or c.loop-i.state i (pos 0)) (small (goal.at.overflow_sub-state c).At-loop-i (n + i) (omega arith)) (small (goal.at.overflow_sub-state c).At-loop-i i (omega arith))

pub loop-i-preserved : goal.loop-i-preserved
loop-i-preserved c =
    let n = c.args.n in
    let old = c.args.state.now in
    let i = c.loop-i.i in
    let x = get_or c.loop-i.state (n + i) (pos 0) in
    let y = get_or c.loop-i.state i (pos 0) in
    let change : to_z w64 (of_z w64 (to_z w64 (of_z w64 x) -ℤ to_z w64 (of_z w64 y))) ≡ get_or old (n + i) (pos 0) -ℤ get_or old i (pos 0) =
    difference-read x y (small (goal.at.loop-i-preserved c).At-loop-i (n + i) (omega arith)) (small (goal.at.loop-i-preserved c).At-loop-i i (omega arith)) ∙ ap₂ (λ (v w : ℤ). v -ℤ w) (as_it_was (goal.at.loop-i-preserved c).At-loop-i (n + i) (omega arith)) (as_it_was (goal.at.loop-i-preserved c).At-loop-i i (omega arith)) in
    ap₂ (λ (xs : List ℤ) (v : ℤ). set xs (2 * n + i) v) c.loop-i.invariant change ∙ changes-more n old c.requires.1 i c.loop-i-test.true
