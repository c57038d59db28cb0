-- One number is put in place of 255. Assumes nothing.
use borrow.Author.Rules.{rules}
use Rattle.formats.specs.Joint.{stays}
use Rattle.joint_switches.proofs.slots.alone.Goals as goal

pub returns : goal.returns
unfolding stays
returns c = search rules
