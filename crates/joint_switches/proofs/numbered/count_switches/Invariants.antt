use Prim.Native.Nat.{ℕ, ◌*◌, ◌<◌}
use Rattle.joint_switches.specs.Numbered.{NumberedAt}
use Rattle.joint_switches.specs.Tables.{Blank}
use Rattle.joint_switches.proofs.numbered.count_switches.Given as goal

abbrev pub invariant-loop-k : goal.invariant-loop-k
invariant-loop-k l = ((j : ℕ) → j < l.k → NumberedAt l.by.width l.by.step l.s l.index j l.table) × Blank (l.by.width * l.k) l.table
