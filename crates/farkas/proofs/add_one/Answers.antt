-- One number more, m times 1, at one unknown. Assumes nothing.
use mathlib.Core.Path.{◌≡◌, ap₂, ◌∙◌}
use mathlib.Core.List.{List, []}
use Prim.Native.Nat.{ℕ, ◌+◌, ◌*◌, ◌^◌, ◌<◌}
use native.Mathlib.Omega.{arith}
use lib.IntN.{ℤ, pos, nat_abs, ◌+ℤ◌, ◌*ℤ◌}
use lib.ListN.{get_or, set}
use mir.Syntax.{w64}
use mir.Val.{to_z, of_z}
use mir.Facts.{to_z-of_z}
use Rattle.farkas.specs.Rows.{item}
use Rattle.farkas.proofs.Bits.{read_back}
use Rattle.farkas.proofs.SumLaws.{plus_none, plus-store}
use Rattle.farkas.proofs.add_one.Goals.{Start}
use Rattle.farkas.proofs.add_one.Goals as goal

-- the sum there, its room, and its bits
room : (c : Start) → nat_abs (get_or c.args.sums.now c.args.unknown (pos 0)) + nat_abs c.args.m * 2 ^ 31 < 2 ^ 63
unfolding item
room c = rw (here c.args.unknown) (c.requires.1.room 0 (omega arith))
  where
    here : (n : ℕ) → n ≡ n + 0
    here n = omega arith

bits : (c : Start) → to_z w64 (of_z w64 (get_or c.args.sums.now c.args.unknown (pos 0))) ≡ get_or c.args.sums.now c.args.unknown (pos 0)
bits c = read_back (get_or c.args.sums.now c.args.unknown (pos 0)) (omega (arith, room c))

pub multiply_add-requires : goal.multiply_add-requires
multiply_add-requires c = rw (bits (goal.at.multiply_add-requires c).Start, to_z-of_z c.ranges.m) (omega (arith, room (goal.at.multiply_add-requires c).Start))

pub returns : goal.returns
returns c =
    let a = c.args in
    let old = a.sums.now in
    let told : to_z w64 (of_z w64 c.multiply_add.result) ≡ get_or old a.unknown (pos 0) +ℤ a.m *ℤ pos 1
    = to_z-of_z {w = w64} {z = c.multiply_add.result} (record { sfits = c.multiply_add.type_inv })
    ∙ c.multiply_add.ensures
    ∙ ap₂ (λ (x m : ℤ). x +ℤ m *ℤ pos 1) (bits (goal.at.returns c).Start) (to_z-of_z c.ranges.m) in
    ap₂ (λ (ys : List ℤ) (v : ℤ). set ys a.unknown v) (plus_none a.unknown a.m old) told
    ∙ plus-store a.unknown a.m old [] (pos 1) a.unknown (here a.unknown) c.requires.0
  where
    here : (n : ℕ) → n ≡ n + 0
    here n = omega arith
