-- The limits, then the model. Assumes nothing.
use Rattle.std.proofs.Common.{◌≡◌, sym, ◌∙◌, subst}
use native.Mathlib.Omega.{arith}
use lib.Dec.{T}
use Rattle.fields.specs.Causes.{number_of}
use Rattle.formats.specs.Reading.{got, refused}
use Rattle.formats.specs.ModelSheet.{read_model}
use Rattle.models.specs.Index.{model_from}
use Rattle.fields.proofs.ChainLaws.{told_at, told-refused}
use Rattle.papers.specs.Opening.{model_answer, ModelOpen}
use Rattle.papers.proofs.PaperLaws.{model-placed}
use Rattle.papers.proofs.OpenLaws.{has-number, model-unfit, model-unread, model-opens, model-open, model-number}
use Rattle.papers.proofs.opening.open_model.Goals.{In-Ok, In-Err}
use Rattle.papers.proofs.opening.open_model.Goals as goal

pub returns-then-not-limits_fit-clause-value : goal.returns-then-not-limits_fit-clause-value
unfolding model_answer
returns-then-not-limits_fit-clause-value c =
    let a = c.args in
    c.limits_refused.ensures ∙ model-unfit a.limits a.model.now (sym c.limits_fit.ensures ∙ c.if-not-limits_fit.true)

pub returns-then-not-limits_fit-clause-refused : goal.returns-then-not-limits_fit-clause-refused
returns-then-not-limits_fit-clause-refused c = has-number 5 2 0 0 0 c.limits_refused.ensures (omega arith)

pub model_into-requires : goal.model_into-requires
model_into-requires c =
    subst T (sym (sym c.limits_fit.ensures ∙ c.if-not-limits_fit.false)) tt

-- the model was refused
module _ (c : In-Err) where
  unread : read_model c.args.limits c.args.model.now ≡ refused (number_of c.in-Err.refusal.0) c.in-Err.refusal.1
  unread = told-refused (model_from c.args.model.now c.model_into.new.index) (read_model c.args.limits c.args.model.now) c.model_into.ensures.result_after c.in-Err.is

pub model_refused-requires : goal.model_refused-requires
model_refused-requires c = model-placed c.args.limits c.args.model.now (number_of c.in-Err.refusal.0) c.in-Err.refusal.1 (unread c)

pub returns-in-Err-clause-value : goal.returns-in-Err-clause-value
unfolding model_answer
returns-in-Err-clause-value c =
    let a = c.args in
    let t = subst T (sym (sym c.limits_fit.ensures ∙ c.if-not-limits_fit.false)) tt in
    c.model_refused.ensures ∙ model-unread a.limits a.model.now (number_of c.in-Err.refusal.0) c.in-Err.refusal.1 t (unread (goal.at.returns-in-Err-clause-value c).In-Err)

pub returns-in-Err-clause-refused : goal.returns-in-Err-clause-refused
returns-in-Err-clause-refused c =
    has-number (number_of c.in-Err.refusal.0) 0 c.in-Err.refusal.1 0 0 c.model_refused.ensures (model-number c.args.limits c.args.model.now (number_of c.in-Err.refusal.0) c.in-Err.refusal.1 (unread (goal.at.returns-in-Err-clause-refused c).In-Err))

-- the model was read
module _ (c : In-Ok) where
  open_now : ModelOpen c.args.limits c.args.model.now c.model_into.new.index
  open_now =
      let a = c.args in
      let index = c.model_into.new.index in
      let t = subst T (sym (sym c.limits_fit.ensures ∙ c.if-not-limits_fit.false)) tt in
      let e : read_model a.limits a.model.now ≡ got (model_from a.model.now index) c.in-Ok.field-0 = told_at (model_from a.model.now index) (read_model a.limits a.model.now) c.model_into.ensures.result_after c.in-Ok.is in
      model-open a.limits a.model.now index c.in-Ok.field-0 t e (c.model_into.ensures.counted_after c.in-Ok.field-0 c.in-Ok.is)

pub returns-in-Ok-clause-value : goal.returns-in-Ok-clause-value
unfolding model_answer
returns-in-Ok-clause-value c =
    model-opens c.args.limits c.args.model.now (model_from c.args.model.now c.model_into.new.index) (open_now c).opened

pub returns-in-Ok-clause-model_open : goal.returns-in-Ok-clause-model_open
returns-in-Ok-clause-model_open c = open_now c
