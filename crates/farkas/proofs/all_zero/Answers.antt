-- The chain tests each sum. Assumes nothing.
use Rattle.std.proofs.Common.{rules, ◌∙◌, tests}
use Rattle.std.proofs.lemmas.Iterator.{YieldsList-from_slice}
use Rattle.std.proofs.lemmas.Iterator.Search.{all_from_yields_List}
use Rattle.farkas.specs.Sums.{is_zero}
use Rattle.farkas.proofs.SumTest.{all-every}
use Rattle.farkas.proofs.all_zero.Goals as goal

pub returns : goal.returns
returns c =
    all_from_yields_List is_zero _ _ c.all.result c.all.ensures.ran (YieldsList-from_slice c.args.sums.now cc) (λ x b q k. search (rules, tests))
    ∙ all-every is_zero c.args.sums.now
