-- The number that the table has. Assumes nothing.
use mathlib.Core.Path.{◌∙◌}
use Rattle.joint_switches.proofs.NumberedLaws.{labels-told}
use Rattle.joint_switches.proofs.totals.Labels.labelled.Goals as goal

pub returns : goal.returns
returns c =
    let a = c.args in
    c.from.ensures ∙ labels-told a.self.now.told a.k a.e c.requires.0 c.requires.1
