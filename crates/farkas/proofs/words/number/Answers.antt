-- The four bytes, each below 256, with the first highest. Assumes nothing.
use mathlib.Core.Path.{sym, ap, ◌∙◌}
use Prim.Native.Nat.{◌+◌}
use native.Mathlib.Omega.{arith}
use lib.ListN.{get_or}
use mir.Syntax.{w32}
use Rattle.std.specs.Int.{swap_bytes}
use Rattle.farkas.proofs.WordLaws.{four-at, swapped-four}
use Rattle.farkas.proofs.words.number.Goals as goal

pub returns : goal.returns
returns c =
    let s = c.args.s.now in
    let at = c.args.at in
    c.swap_bytes.ensures
    ∙ ap (swap_bytes w32) c.from_le_bytes.ensures
    ∙ swapped-four (get_or s at 0) (get_or s (at + 1) 0) (get_or s (at + 2) 0) (get_or s (at + 3) 0) (omega (arith, c.type_inv.s at)) (omega (arith, c.type_inv.s (at + 1))) (omega (arith, c.type_inv.s (at + 2))) (omega (arith, c.type_inv.s (at + 3)))
    ∙ sym (four-at s at c.requires)
