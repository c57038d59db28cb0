-- The number that an index keeps. Assumes nothing.
use mathlib.Core.Path.{sym, ◌∙◌}
use Rattle.models.specs.Index.{entry, component_place}
use Rattle.models.proofs.GoodIndexLaws.{switch-length}
use Rattle.joint_switches.proofs.joints.switch_count.Goals as goal

pub returns : goal.returns
unfolding entry component_place
returns c =
    let a = c.args in
    c.from.ensures ∙ sym (switch-length a.s.now a.index.now a.k)
