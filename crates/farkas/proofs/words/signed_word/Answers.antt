-- What the four bytes are read as, in 64 bits. Assumes nothing.
use mathlib.Core.Path.{ap, ◌∙◌}
use mir.Syntax.{w32, w64}
use mir.Facts.{to_z-of_z}
use Rattle.farkas.specs.Words.{signed, signed_at}
use Rattle.farkas.proofs.WordLaws.{signed-read}
use Rattle.farkas.proofs.words.signed_word.Goals as goal

pub returns-clause-value : goal.returns-clause-value
unfolding signed_at
returns-clause-value c =
    to_z-of_z {w = w64} {z = c.from.result} (record { sfits = c.from.type_inv })
    ∙ c.from.ensures
    ∙ to_z-of_z {w = w32} {z = c.cast_signed.result} (record { sfits = c.cast_signed.type_inv })
    ∙ c.cast_signed.ensures
    ∙ signed-read c.number.result
    ∙ ap signed c.number.ensures
