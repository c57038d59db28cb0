-- The bytes so far are written over the buffer; each turn writes one more. Assumes nothing.
use mathlib.Core.Path.{sym, ap, ◌∙◌}
use Prim.Native.Nat.{ℕ, ◌+◌}
use lib.ListN.{get_or}
use mathlib.Core.List.{List, [], ◌∷◌}
use Rattle.buffers.specs.Over.{over}
use Rattle.buffers.proofs.OverLaws.{over_nothing, over-next}
use Rattle.buffers.proofs.put_bytes.Goals as goal

pub loop-i-init : goal.loop-i-init
loop-i-init c = sym (over_nothing _ _)

pub loop-i-preserved : goal.loop-i-preserved
loop-i-preserved c =
    let a = c.args in
    let loop = c.loop-i in
    c.put_byte.ensures.1 ∙ ap (λ (l : List ℕ). over l (a.at + loop.i) (get_or a.bytes.now loop.i 0 ∷ [])) loop.invariant ∙ over-next a.out.now a.at a.bytes.now loop.i c.loop-i-test.true
