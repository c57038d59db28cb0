-- A word's bytes are those that it was made of. Assumes nothing.
use mathlib.Core.Path.{ap, ◌∙◌}
use mathlib.Core.List.{List}
use Prim.Native.Nat.{ℕ, ◌/◌, ◌%◌, ◌<◌}
use native.Mathlib.Omega.{arith}
use borrow.Author.Rules.{rules}
use mir.Syntax.{w8}
use mir.Val.{Fits}
use lib.ListN.{get_or}
use Rattle.joint_lists.proofs.PackLaws.{unpacked-packed, four}
use Rattle.joint_lists.proofs.records.packed.Goals as goal

pub returns : goal.returns
returns c =
    let a = c.args in
    let ws = a.landing.switches in
    let bytes : (i : ℕ) → get_or ws i 0 < 256 = λ i. let h : Fits w8 (get_or ws i 0) = search rules in omega (arith, h.fits) in
    unpacked-packed (a.at / 16) (a.at % 16) (get_or ws 0 0) (get_or ws 1 0) (get_or ws 2 0) (get_or ws 3 0) a.landing.target (omega (arith, c.requires.0)) (omega arith) (bytes 0) (bytes 1) (bytes 2) (bytes 3) c.requires.1 c.from_le_bytes.result c.from_le_bytes.ensures
    ∙ ap (λ (xs : List ℕ). record { source = a.at / 16; event = a.at % 16; switches = xs; target = a.landing.target }) (four ws (search rules))
