-- A model that reads well has a good index. Assumes nothing.
use Rattle.std.proofs.Common.{◌≡◌, List, ℕ}
use Rattle.std.specs.Prelude.{Ok}
use Rattle.fields.proofs.AnswerLaws.{Next}
use Rattle.models.specs.Index.{model_from, GoodIndex}
use Rattle.fields.specs.Answers.{got_as}
use Rattle.formats.specs.declared.Limits.{Limits}
use Rattle.formats.specs.ModelSheet.{read_model}
use Rattle.models.proofs.GoodIndexLaws.{index-good}
use Rattle.fields.proofs.ChainLaws.{told_at}
use Rattle.sheets_test.proofs.try_beside.Goals as goal

good : (limits : Limits) {s index : List ℕ} {x : Next} {p : ℕ} → got_as (model_from s index) x ≡ read_model limits s → x ≡ Ok p → GoodIndex s index
good limits {s} {index} {x} {p} e h = index-good limits s index p (told_at (model_from s index) (read_model limits s) e h)

pub try_regions-requires : goal.try_regions-requires
try_regions-requires g c = good _ c.model_into.ensures.result_after c.in-Ok.is

pub try_opening-requires : goal.try_opening-requires
try_opening-requires g c = good _ c.model_into.ensures.result_after c.in-Ok.is

pub try_step-requires : goal.try_step-requires
try_step-requires g c = good _ c.model_into.ensures.result_after c.in-Ok.is
