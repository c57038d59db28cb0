-- Every region's count is looked at. Assumes nothing.
use Rattle.std.proofs.Common.{rules, tests, ◌∙◌, refl, arith}
use Rattle.std.proofs.lemmas.Iterator.{YieldsList-from_range}
use Rattle.std.proofs.lemmas.Iterator.Search.{all_from_yields_List}
use Rattle.models.specs.Index.{entry}
use Rattle.certificates.specs.Passed.{rowless}
use Rattle.certificates.proofs.RowlessLaws.{all-counted}
use Rattle.certificates.proofs.obligations.no_rows.Goals as goal

pub returns : goal.returns
unfolding rowless entry
returns c =
    let a = c.args in
    let test = rowless a.regions.now in
    all_from_yields_List test _ _ c.all.result c.all.ensures.ran (YieldsList-from_range 0 a.locations a.locations refl (omega arith)) (λ x b q k. search (rules, tests))
    ∙ all-counted test 0 a.locations
