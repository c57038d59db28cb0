-- The byte, then the test. Assumes nothing.
use mathlib.Core.Path.{ap, ◌∙◌}
use lib.Dec.{ltb}
use Rattle.formats.specs.Reading.{passing, must, below}
use Rattle.fields.proofs.fields.byte_below.Goals as goal

pub returns : goal.returns
unfolding below must
returns c =
    let a = c.args in
    c.under.ensures ∙ ap (λ g. passing (λ v. ltb v a.count) 5 a.at g) c.byte.ensures
