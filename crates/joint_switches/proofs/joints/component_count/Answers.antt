-- The number that an index keeps. Assumes nothing.
use borrow.Author.Rules.{rules}
use Rattle.models.specs.Index.{entry}
use Rattle.joint_switches.proofs.joints.component_count.Goals as goal

pub returns : goal.returns
unfolding entry
returns c = search rules
