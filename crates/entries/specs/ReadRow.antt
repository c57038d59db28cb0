-- The answer to a typed row, as C has it: the row's number and place, sheet 2, done and score 0 (02, order 1). Assumes nothing.
use Rattle.std.specs.Prelude.{List, ℕ}
use Rattle.rules.specs.Marking.{answer}
use Rattle.typed.specs.Typed.{Answered, number_of, place_of, coefficients_of, bound_of, typed_row}
use Rattle.entries.specs.declared.ReadRow.{ReadRow}

abbrev pub handed_back : Answered → ReadRow
handed_back a = record { answer = answer (number_of a) 2 (place_of a) 0 0; coefficients = coefficients_of a; bound = bound_of a }

unfoldable pub read_row : ℕ → List ℕ → ReadRow
read_row n text = handed_back (typed_row n text)
