-- The model, then the count of its joint switches; the index is the sheet's. Assumes nothing.
use mathlib.Core.Path.{◌∙◌}
use Rattle.models.specs.Index.{model_from}
use Rattle.joint_lists.proofs.ListLaws.{list-refused, list_read, index_of}
use Rattle.joint_lists.proofs.list.answer_into.Goals as goal

pub count_answer-requires : goal.count_answer-requires
unfolding model_from
count_answer-requires c = let w = c.in-Ok.ensures.model_open.accepted in record { counted = w.counted; model_len_bound = (w.short, w.joined) }

pub returns-in-Ok : goal.returns-in-Ok
unfolding model_from
returns-in-Ok c =
    let a = c.args in
    let told = c.open_model.ensures in
    let index = c.open_model.new.index in record { value = c.count_answer.ensures ∙ list_read a.limits a.model.now a.records (model_from a.model.now index) c.in-Ok.ensures.model_open.opened; sheet_index = index_of a.limits a.model.now index c.open_model.result told.value told.model_open told.refused }

pub returns-in-Err : goal.returns-in-Err
returns-in-Err c =
    let a = c.args in
    let told = c.open_model.ensures in
    let refused = c.in-Err.ensures in record { value = list-refused a.limits a.model.now a.records c.in-Err.answer refused.value refused.refused; sheet_index = index_of a.limits a.model.now c.open_model.new.index c.open_model.result told.value told.model_open told.refused }
