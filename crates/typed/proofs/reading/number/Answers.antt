-- The number cut at 2 ^ 31 is the number itself or is refused. Assumes nothing.
use mathlib.Core.Path.{ap, ◌∙◌}
use mir.Syntax.{w32}
use mir.ValLaws.{to_z_pos}
use Rattle.typed.specs.Forms.{reaches, constant}
use Rattle.typed.proofs.LeafLaws.{whole-small, whole-large}
use Rattle.typed.proofs.reading.number.Goals as goal

pub returns-then-digits-ge-NUMBER_LIMIT : goal.returns-then-digits-ge-NUMBER_LIMIT
returns-then-digits-ge-NUMBER_LIMIT c = let d = c.read_digits-digits in whole-large _ _ d.result d.ensures c.if-digits-ge-NUMBER_LIMIT.true

pub returns : goal.returns
returns c = let d = c.read_digits-digits in ap (λ z. reaches d.result.next (constant z)) (to_z_pos w32 d.result.value c.if-digits-ge-NUMBER_LIMIT.false) ∙ whole-small _ _ d.result d.ensures c.if-digits-ge-NUMBER_LIMIT.false
