-- How a paper opens: the stated limits and the model go first, then the second sheet up to its own fields, which stand behind its paper number
-- where it has one. Assumes nothing.
use Rattle.std.specs.Prelude.{Result, Ok, Err, List, ◌≡◌, ℕ, ◌≤◌, length}
use Rattle.formats.specs.declared.Limits.{Limits}
use Rattle.formats.specs.Reading.{Got, got, refused}
use Rattle.models.specs.Index.{model_from}
use Rattle.rules.specs.declared.Answer.{Answer}
use Rattle.rules.specs.Opening.{opens, open_model, open_second}
use Rattle.rules.specs.Marking.{answer, with_model}
use Rattle.papers.specs.Paper.{Accepted}

-- what refuses a call before anything but its limits and its model is looked at; number 0 where nothing does
unfoldable pub opened_model : Limits → List ℕ → Answer
opened_model limits model = with_model (open_model limits model) (λ m. answer 0 0 0 0 0)

-- the answer that a result stands for: where nothing refuses, number 0
unfoldable pub model_answer : Result (Unit {0}) Answer → Answer
model_answer (Ok done) = answer 0 0 0 0 0
model_answer (Err a) = a

-- a model that is open: it was read under these limits, into this index
pub record ModelOpen (limits : Limits) (model index : List ℕ) : Type 0 where
  pub opened : open_model limits model ≡ opens (model_from model index)
  pub accepted : Accepted model index

-- the second sheet up to its own fields: number 0 and the place where they begin, or the refusal
unfoldable pub opened_second : Got ℕ → Answer
opened_second (refused number at) = answer number 1 at 0 0
opened_second (got version body) = answer 0 1 body 0 0

-- "The model goes first": what refuses a paper before its second sheet's own fields; number 0 where nothing does
unfoldable pub opened : Limits → ℕ → List ℕ → List ℕ → Answer
opened limits kind model second = with_model (open_model limits model) (λ m. opened_second (open_second kind m second 0))

-- the answer that a result stands for: where nothing refuses, number 0 and the place where the second sheet's own fields begin
unfoldable pub paper_answer : Result ℕ Answer → Answer
paper_answer (Ok body) = answer 0 1 body 0 0
paper_answer (Err a) = a

-- a paper that is open: its model is, and its second sheet's own fields begin at this place
pub record Open (limits : Limits) (kind : ℕ) (model index second : List ℕ) (body : ℕ) : Type 0 where
  pub first : ModelOpen limits model index
  pub version : ℕ
  pub headed : open_second kind (model_from model index) second 0 ≡ got version body
  pub bodied : body ≤ length second
  pub brief : length second ≤ 32768
