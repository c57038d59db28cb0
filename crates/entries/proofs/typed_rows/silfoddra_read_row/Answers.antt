-- The numbers of the row, or those of the refusal, whose place fits. Assumes nothing.
use mathlib.Core.Path.{◌≡◌, sym, ap, ◌∙◌}
use native.Mathlib.Omega.{arith}
use borrow.Author.Rules.{rules}
use lib.IntN.{pos}
use lib.ListN.{replicate}
use mir.Facts.{to_z-of_z}
use mir.Syntax.{w32}
use mir.Val.{SFits}
use Rattle.typed.specs.Typed.{place_of}
use Rattle.typed.proofs.TypedLaws.{place-within}
use Rattle.rules.specs.Marking.{answer}
use Rattle.entries.specs.ReadRow.{handed_back, read_row}
use Rattle.entries.proofs.typed_rows.silfoddra_read_row.Goals as goal

pub overflow_cast-place : goal.overflow_cast-place
overflow_cast-place c =
    let is : c.place.result ≡ place_of c.read_row.result = c.place.ensures ∙ sym (ap place_of c.in-Err.is) in
    omega (arith, is, ap place_of c.read_row.ensures.value, place-within c.args.variables c.args.text.now)

pub returns-in-Ok : goal.returns-in-Ok
unfolding read_row answer
returns-in-Ok c =
    let row = c.in-Ok.row in
    let fits : SFits w32 row.bound = search rules in
    (λ k. record { answer = c.answered.ensures k; coefficients = row.coefficients; bound = to_z-of_z fits k })
    ∙ ap handed_back (sym c.in-Ok.is ∙ c.read_row.ensures.value)

pub returns-in-Err : goal.returns-in-Err
unfolding read_row
returns-in-Err c =
    (λ k. record { answer = (c.answered-in-Err.ensures ∙ (λ j. answer (c.number.ensures j) 2 (c.place.ensures j) 0 0)) k; coefficients = replicate 8 (pos 0); bound = pos 0 })
    ∙ ap handed_back (sym c.in-Err.is ∙ c.read_row.ensures.value)
