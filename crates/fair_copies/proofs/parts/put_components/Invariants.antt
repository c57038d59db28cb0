use Rattle.fair_copies.specs.Copyable.{component_bytes}
use Rattle.fair_copies.proofs.EachPut.{EachPut}
use Rattle.fair_copies.proofs.parts.put_components.Given as goal

abbrev pub invariant-loop-k : goal.invariant-loop-k
invariant-loop-k l =
    EachPut (component_bytes l.model l.index) 104900 l.initial.out l.at l.count l.out l.next l.k
