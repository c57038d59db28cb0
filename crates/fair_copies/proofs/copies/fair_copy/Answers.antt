-- Refused as every call is, or copied. Assumes nothing.
use mathlib.Core.Path.{◌∙◌}
use lib.ListN.{length}
use Rattle.models.specs.Index.{model_from}
use Rattle.fair_copies.proofs.CopyLaws.{copyable, open-short, shut-answer, shut-buffer, open-answer, open-buffer}
use native.Mathlib.Omega.{arith}
use Rattle.fair_copies.proofs.copies.fair_copy.Goals as goal

pub returns-in-Err : goal.returns-in-Err
returns-in-Err c =
    let a = c.args in
    let e = c.in-Err.ensures in record { value = shut-answer a.limits a.model.now (length a.copy.now) c.in-Err.answer e.value e.refused; copy_after = shut-buffer a.limits a.model.now a.copy.now c.in-Err.answer e.value e.refused }

pub copy_open-requires : goal.copy_open-requires
copy_open-requires c =
    let a = c.args in
    let index = c.open_model.new.index in
    let opened = c.in-Ok.ensures.model_open in record { copyable = copyable a.limits a.model.now index (λ i. omega (arith, c.type_inv.model i)) opened; index_in_bounds = open-short a.limits a.model.now index (λ i. omega (arith, c.type_inv.model i)) opened }

pub returns-in-Ok : goal.returns-in-Ok
returns-in-Ok c =
    let a = c.args in
    let m = model_from a.model.now c.open_model.new.index in
    let opened = c.in-Ok.ensures.model_open.opened in record { value = c.copy_open.ensures.value ∙ open-answer a.limits a.model.now (length a.copy.now) m opened; copy_after = c.copy_open.ensures.copy_after ∙ open-buffer a.limits a.model.now a.copy.now m opened }
