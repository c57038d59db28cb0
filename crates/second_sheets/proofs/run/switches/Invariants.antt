use Prim.Native.Nat.{◌≤◌}
use Rattle.second_sheets.proofs.RunLaws.{Front, BytesRead}
use Rattle.second_sheets.proofs.run.switches.Given as goal

abbrev pub invariant-loop-k : goal.invariant-loop-k
invariant-loop-k l =
    (l.k ≤ l.components) × (Front 255 4 l.bytes l.k × BytesRead l.index l.s l.at l.bytes l.k l.place)
