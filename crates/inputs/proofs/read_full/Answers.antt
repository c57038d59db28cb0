-- What a turn reads comes after what was read before it. Assumes nothing.
use Rattle.std.proofs.Common.{rules}
use Rattle.inputs.proofs.Parts.{read_on}
use Rattle.inputs.proofs.read_full.Goals as goal

pub loop-at-preserved : goal.loop-at-preserved
loop-at-preserved g c =
    let before = c.loop-at.invariant in
    let read = c.in_ok-n.ensures in
    (search rules, search rules, read_on _ _ _ c.loop-at.at c.in_ok-n.n _ c.loop-at.buffer c.read_some.new.part before.1 read.bound.0 before.2 read.bytes.0)
