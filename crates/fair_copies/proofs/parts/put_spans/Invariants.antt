use Prim.Native.Nat.{◌+◌, ◌*◌}
use Rattle.fair_copies.specs.Items.{span_bytes}
use Rattle.fair_copies.proofs.EachPut.{EachPut}
use Rattle.fair_copies.proofs.parts.put_spans.Given as goal

abbrev pub invariant-loop-i : goal.invariant-loop-i
invariant-loop-i l =
    EachPut (λ j. span_bytes l.model l.index l.items.n (l.place + 2 * j)) 545 l.initial.out l.at l.items.spans l.out l.next l.i
