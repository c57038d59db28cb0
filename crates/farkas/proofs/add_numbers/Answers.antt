-- Each turn adds one more number of the sheet; what is still to come is as it was. Assumes nothing.
use mathlib.Core.Path.{◌≡◌, sym, ap, ap₂, ◌∙◌}
use mathlib.Core.List.{List}
use Prim.Native.Nat.{ℕ, ◌+◌, ◌*◌, ◌^◌, ◌<◌}
use native.Mathlib.Omega.{arith}
use lib.IntN.{ℤ, pos, nat_abs, ◌+ℤ◌, ◌*ℤ◌}
use lib.ListN.{get_or, set}
use mir.Syntax.{w64}
use mir.Val.{to_z, of_z}
use mir.Facts.{to_z-of_z}
use Rattle.farkas.specs.Rows.{item}
use Rattle.farkas.specs.Words.{signed_at, numbers_at}
use Rattle.farkas.specs.Sums.{plus_from}
use Rattle.farkas.proofs.SumLaws.{room-bits, sum-bits, plus_none, plus-read, plus-store, numbers-length, numbers_more}
use Rattle.farkas.proofs.add_numbers.Goals.{At-loop-i, In-loop-i}
use Rattle.farkas.proofs.add_numbers.Goals as goal

-- in a turn, what stands there is as it was
as_it_was : (c : At-loop-i) → get_or c.loop-i.sums (c.args.to + c.loop-i.i) (pos 0) ≡ get_or c.args.sums.now (c.args.to + c.loop-i.i) (pos 0)
as_it_was c =
    let a = c.args in
    let xs = numbers_at a.words.now a.at c.loop-i.i in
    ap (λ (ys : List ℤ). get_or ys (a.to + c.loop-i.i) (pos 0)) c.loop-i.invariant
    ∙ plus-read a.to (to_z w64 (of_z w64 a.m)) a.sums.now xs (a.to + c.loop-i.i) (ap (λ (n : ℕ). a.to + n) (sym (numbers-length a.words.now a.at c.loop-i.i)))

-- and there is room for what is added
room-here : (c : In-loop-i) → nat_abs (get_or c.args.sums.now (c.args.to + c.loop-i.i) (pos 0)) + nat_abs c.args.m * 2 ^ 31 < 2 ^ 63
unfolding item
room-here c = c.requires.count_in_bounds.1.room c.loop-i.i (omega arith)

pub loop-i-preserved : goal.loop-i-preserved
loop-i-preserved c =
    let a = c.args in
    let i = c.loop-i.i in
    let x = get_or c.loop-i.sums (a.to + i) (pos 0) in
    let y = c.signed_word.result in
    let m = to_z w64 (of_z w64 a.m) in
    let old = a.sums.now in
    let xs = numbers_at a.words.now a.at i in
    let told : to_z w64 (of_z w64 c.multiply_add.result) ≡ get_or old (a.to + i) (pos 0) +ℤ m *ℤ signed_at a.words.now (a.at + 4 * i)
    = to_z-of_z {w = w64} {z = c.multiply_add.result} (record { sfits = c.multiply_add.type_inv })
    ∙ c.multiply_add.ensures
    ∙ sum-bits x a.m y c.ranges.m (rw (as_it_was (goal.at.loop-i-preserved c).At-loop-i) (room-here (goal.at.loop-i-preserved c).In-loop-i)) c.signed_word.ensures.result_bound
    ∙ ap₂ (λ (v k : ℤ). v +ℤ k *ℤ y) (as_it_was (goal.at.loop-i-preserved c).At-loop-i) (sym (to_z-of_z c.ranges.m))
    ∙ ap (λ (z : ℤ). get_or old (a.to + i) (pos 0) +ℤ m *ℤ z) c.signed_word.ensures.value in
    ap₂ (λ (ys : List ℤ) (v : ℤ). set ys (a.to + i) v) c.loop-i.invariant told
    ∙ plus-store a.to m old xs (signed_at a.words.now (a.at + 4 * i)) (a.to + i) (ap (λ (n : ℕ). a.to + n) (sym (numbers-length a.words.now a.at i))) (omega arith)
    ∙ ap (plus_from a.to m old) (numbers_more a.words.now a.at i)

pub loop-i-init : goal.loop-i-init
unfolding numbers_at
loop-i-init c = plus_none c.args.to _ c.args.sums.now

pub multiply_add-requires : goal.multiply_add-requires
multiply_add-requires c =
    let i = c.args.to + c.loop-i.i in
    room-bits (get_or c.loop-i.sums i (pos 0)) c.args.m c.signed_word.result c.ranges.m
    (rw (as_it_was (goal.at.multiply_add-requires c).At-loop-i) (room-here (goal.at.multiply_add-requires c).In-loop-i)) c.signed_word.ensures.result_bound
