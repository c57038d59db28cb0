-- Beside the marking (01): the joint list, show row and its sister. Assumes nothing.
use Rattle.std.specs.Prelude.{true, false, cond, ◌&&◌, List, [], ◌++◌, map, ℕ, zero, suc, leb, ltb, length, get_or, take, drop}
use Rattle.rules.specs.declared.Answer.{Answer}
use Rattle.rules.specs.declared.Joint.{Joint}
use Rattle.farkas.specs.Rows.{zero_row}
use Rattle.formats.specs.Reading.{Got, got, refused, ◌>>◌}
use Rattle.formats.specs.Rows.{Condition}
use Rattle.formats.specs.Model.{Component, Model}
use Rattle.formats.specs.Joint.{JointSwitch, joints, four_switches}
use Rattle.formats.specs.declared.Limits.{Limits}
use Rattle.formats.specs.Certificate.{read_regions}
use Rattle.rules.specs.Opening.{opens, shut, open_model, open_second}
use Rattle.rules.specs.Obligations.{Hypothesis, nowhere, Obligation, after_flow, obligations}
use Rattle.rules.specs.Marking.{answer, with_model}

-- "A record is the source location, event, four switch numbers .. and target location"
unfoldable pub record_of : JointSwitch → Joint
record_of j = record { source = j.source; event = j.event; switches = four_switches j.switches; target = j.target }

-- the joint list's answer: "with only one sheet handed over sheet 0 and its length", done the records written; 15, "table too short":
-- "sheet 2, count needed"
unfoldable pub list_of : List Component → ℕ → ℕ → Answer
list_of components size lent =
    cond (leb (length (joints components)) lent)
    (answer 0 0 size (length (joints components)) 0)
    (answer 15 2 (length (joints components)) 0 0)

unfoldable pub list_answer : Limits → List ℕ → ℕ → Answer
list_answer limits model lent = with_model (open_model limits model) (λ m. list_of m.components (length model) lent)

-- the table afterwards: the list "in order; later records keep their content"; "A refusal writes nothing"
unfoldable pub filled : List JointSwitch → List Joint → List Joint
filled list table =
    elim (leb (length list) (length table)) [ true ↦ map record_of list ++ drop (length list) table | false ↦ table ]

unfoldable pub table_after : Limits → List ℕ → List Joint → List Joint
table_after limits model table =
    elim (open_model limits model) [ opens m ↦ filled (joints m.components) table | shut number sheet at ↦ table ]

-- Show row. What is found: a hypothesis, or a refusal with its number, sheet and place
pub data Found : Type 0 where
  found : Hypothesis → Found
  unfound : ℕ → ℕ → ℕ → Found

unfoldable pub no_obligation : Obligation
no_obligation = record { kind = after_flow; subject = 0; line = 0; hypotheses = []; goal = zero_row }

-- "It takes an obligation's and a hypothesis's number, both from 0, tested after the regions": 5, "arguments: sheet 2, 0"
unfoldable pub find_in : List Obligation → ℕ → ℕ → Found
find_in all o h =
    elim (ltb o (length all) && ltb h (length (get_or all o no_obligation).hypotheses)) [
      | true ↦ found (get_or (get_or all o no_obligation).hypotheses h (nowhere zero_row))
      | false ↦ unfound 5 2 0
    ]

unfoldable pub find_after : Model → ℕ → ℕ → Got (List Condition) → Found
find_after m o h (refused number at) = unfound number 1 at
find_after m o h (got regions next) = find_in (obligations m regions) o h

-- "once the model and all regions read well"
unfoldable pub find_hypothesis : Limits → List ℕ → List ℕ → ℕ → ℕ → Found
find_hypothesis limits model second o h =
    elim (open_model limits model) [
      | opens m ↦ find_after m o h ((open_second 2 m >> read_regions m) second 0)
      | shut number sheet at ↦ unfound number sheet at
    ]

-- "A sister call on the same arguments gives the number, with the row's sheet and offset (2 and 0 for a row in no sheet)"
unfoldable pub found_answer : Found → Answer
found_answer (found h) = answer 0 h.sheet h.place 0 0
found_answer (unfound number sheet place) = answer number sheet place 0 0

unfoldable pub show_answer : Limits → List ℕ → List ℕ → ℕ → ℕ → Answer
show_answer limits model second o h = found_answer (find_hypothesis limits model second o h)

-- "the bytes of one hypothesis in whichever sheet holds it"; "an empty part for −d ≤ 0, staying rows and refusals"
unfoldable pub sheet_of : List ℕ → List ℕ → ℕ → List ℕ
sheet_of model second zero = model
sheet_of model second (suc zero) = second
sheet_of model second (suc (suc n)) = []

unfoldable pub part_of : List ℕ → List ℕ → Found → List ℕ
part_of model second (found h) = take h.size (drop h.place (sheet_of model second h.sheet))
part_of model second (unfound number sheet place) = []

unfoldable pub show_part : Limits → List ℕ → List ℕ → ℕ → ℕ → List ℕ
show_part limits model second o h = part_of model second (find_hypothesis limits model second o h)
