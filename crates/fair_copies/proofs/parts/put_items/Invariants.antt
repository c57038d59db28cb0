use Prim.Native.Nat.{◌+◌, ◌*◌}
use Rattle.fair_copies.specs.Items.{item_bytes}
use Rattle.fair_copies.proofs.EachPut.{EachPut}
use Rattle.fair_copies.proofs.parts.put_items.Given as goal

abbrev pub invariant-loop-i : goal.invariant-loop-i
invariant-loop-i l =
    EachPut (λ j. item_bytes l.model l.index l.items (l.items.first + l.items.step * j)) 1639 l.initial.out l.at l.items.count l.out l.next l.i
