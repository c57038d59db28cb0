-- The field, then its range. Assumes nothing.
use mathlib.Core.Path.{ap, ◌∙◌}
use mathlib.Core.Bool.{◌&&◌}
use lib.Dec.{leb}
use Rattle.formats.specs.Reading.{passing, must, within}
use Rattle.fields.proofs.fields.byte_within.Goals as goal

pub returns : goal.returns
unfolding within must
returns c =
    let a = c.args in
    c.in_range.ensures ∙ ap (λ g. passing (λ v. leb a.least v && leb v a.most) 5 a.at g) c.byte.ensures
