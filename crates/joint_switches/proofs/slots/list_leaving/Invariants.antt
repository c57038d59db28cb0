use Rattle.joint_switches.proofs.LineLaws.{Listing}
use Rattle.joint_switches.proofs.slots.list_leaving.Given as goal

abbrev pub invariant-loop-i : goal.invariant-loop-i
invariant-loop-i l = Listing l.s l.index l.part l.from l.i l.at l.initial.ways l.ways
