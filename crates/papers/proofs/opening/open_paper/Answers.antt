-- The model, then the second sheet. Assumes nothing.
use Rattle.std.proofs.Common.{rules, ◌≡◌, Err, sym, ap, ◌∙◌}
use mathlib.Core.List.{List}
use Prim.Native.Nat.{ℕ}
use Rattle.fields.specs.Causes.{number_of}
use Rattle.formats.specs.Reading.{got, refused}
use Rattle.formats.specs.Model.{Model}
use Rattle.models.specs.Index.{model_from}
use Rattle.rules.specs.Opening.{open_second}
use Rattle.fields.proofs.AnswerLaws.{field-value, field-refused}
use Rattle.papers.specs.Opening.{ModelOpen, model_answer, paper_answer}
use Rattle.papers.proofs.SecondLaws.{second-number, second-placed}
use Rattle.papers.proofs.OpenLaws.{has-number, numbered, opened-model, opened-second, opened_both, is_open}
use Rattle.papers.proofs.opening.open_paper.Goals.{After-open_second, In-Err, In-Ok}
use Rattle.papers.proofs.opening.open_paper.Goals as goal

pub returns-in_err-open_model-clause-value : goal.returns-in_err-open_model-clause-value
unfolding model_answer paper_answer
returns-in_err-open_model-clause-value c =
    let a = c.args in
    let same : c.from_residual.result ≡ Err c.in_err-open_model.field-0.0 = search rules in
    let told = c.in_err-open_model.ensures in
    ap paper_answer same ∙ told.value ∙ opened-model a.limits a.kind a.model.now a.second.now (numbered told.value told.refused)

-- the model is open, and the second sheet is read beside it
module _ (c : After-open_second) where
  abbrev kind : ℕ
  kind = c.args.kind

  abbrev model : List ℕ
  model = c.args.model.now

  abbrev second : List ℕ
  second = c.args.second.now

  abbrev index : List ℕ
  index = c.open_model.new.index

  abbrev m : Model
  m = model_from model index

  opens : ModelOpen c.args.limits model index
  opens = c.in_ok-open_model.ensures.model_open

-- it is refused
module _ (c : In-Err) where
  abbrev before : After-open_second
  before = (goal.at.In-Err c).After-open_second

  refusal : open_second (kind before) (m before) (second before) 0 ≡ refused (number_of c.in-Err.refusal.0) c.in-Err.refusal.1
  refusal = sym (c.open_second.ensures (model before)) ∙ field-refused c.in-Err.is

-- it has a body
module _ (c : In-Ok) where
  abbrev open_at : After-open_second
  open_at = (goal.at.In-Ok c).After-open_second

  headed : open_second (kind open_at) (m open_at) (second open_at) 0 ≡ got c.in-Ok.field-0-0 c.in-Ok.body
  headed = sym (c.open_second.ensures (model open_at)) ∙ field-value c.in-Ok.is

pub second_refused-requires : goal.second_refused-requires
second_refused-requires c = second-placed _ _ _ _ _ (refusal c)

pub returns-in-Ok-clause-value : goal.returns-in-Ok-clause-value
unfolding paper_answer
returns-in-Ok-clause-value c =
    let b = (goal.at.returns-in-Ok-clause-value c).After-open_second in
    opened_both _ _ (model b) (second b) (m b) c.in-Ok.field-0-0 c.in-Ok.body (opens b).opened (headed c)

pub returns-in-Ok-clause-open : goal.returns-in-Ok-clause-open
returns-in-Ok-clause-open c =
    let b = (goal.at.returns-in-Ok-clause-open c).After-open_second in
    is_open _ (kind b) (model b) (second b) (index b) c.in-Ok.field-0-0 c.in-Ok.body (opens b) (headed c)

pub returns-in-Err-clause-value : goal.returns-in-Err-clause-value
unfolding paper_answer
returns-in-Err-clause-value c =
    let b = (goal.at.returns-in-Err-clause-value c).After-open_second in
    c.second_refused.ensures ∙ opened-second _ _ (model b) (second b) (m b) (number_of c.in-Err.refusal.0) c.in-Err.refusal.1 (opens b).opened (refusal (goal.at.returns-in-Err-clause-value c).In-Err)

pub returns-in-Err-clause-refused : goal.returns-in-Err-clause-refused
returns-in-Err-clause-refused c =
    let w = c.in-Err.refusal in
    has-number (number_of w.0) 1 w.1 0 0 c.second_refused.ensures (second-number _ _ _ (number_of w.0) w.1 (refusal (goal.at.returns-in-Err-clause-refused c).In-Err))
