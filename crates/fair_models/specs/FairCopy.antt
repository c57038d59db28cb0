-- The fair copy of a model (02, order 4), and what the call that writes it hands back. Assumes nothing.
use Rattle.std.specs.Prelude.{Bool, true, false, List, map, ℕ, leb, length}
use Rattle.fair_rows.specs.FairRows.{fair_rows}
use Rattle.formats.specs.Rows.{Condition}
use Rattle.formats.specs.Model.{Model}
use Rattle.formats.specs.declared.Limits.{Limits}
use Rattle.writing.specs.Changed.{unplaced, changed}
use Rattle.writing.specs.Writing.{write_model}
use Rattle.buffers.specs.Over.{over}
use Rattle.rules.specs.declared.Answer.{Answer}
use Rattle.rules.specs.Opening.{ModelOpened, opens, shut, open_model}
use Rattle.rules.specs.Marking.{answer, with_model}

-- each condition by itself; its place among the others stays
unfoldable pub fair_condition : Condition → Condition
fair_condition rows = map unplaced (fair_rows (map (λ r. r.row) rows))

unfoldable pub fair_model : Model → Model
fair_model m = changed fair_condition m

-- "A writer copies an accepted model into a lent buffer": the bytes of the copy
unfoldable pub fair_copy : Model → List ℕ
fair_copy m = write_model (fair_model m)

-- "Done is the bytes written. A short buffer is refused as 15 with the length needed": by whether the copy fits
unfoldable pub copy_answer : ℕ → ℕ → Bool → Answer
copy_answer handed copied true = answer 0 0 handed copied 0
copy_answer handed copied false = answer 15 2 copied 0 0

-- the answer: the limits and the model are refused as in every call, 15 after them
unfoldable pub fair_answer : Limits → List ℕ → ℕ → Answer
fair_answer limits model room =
    with_model (open_model limits model) (λ m. copy_answer (length model) (length (fair_copy m)) (leb (length (fair_copy m)) room))

-- the buffer after it: "Bytes past the copy stay", and after a refusal all of them
unfoldable pub copy_over : List ℕ → List ℕ → Bool → List ℕ
copy_over buffer copy true = over buffer 0 copy
copy_over buffer copy false = buffer

unfoldable pub buffer_by : List ℕ → ModelOpened → List ℕ
buffer_by buffer (shut number sheet at) = buffer
buffer_by buffer (opens m) = copy_over buffer (fair_copy m) (leb (length (fair_copy m)) (length buffer))

unfoldable pub buffer_after : Limits → List ℕ → List ℕ → List ℕ
buffer_after limits model buffer = buffer_by buffer (open_model limits model)
