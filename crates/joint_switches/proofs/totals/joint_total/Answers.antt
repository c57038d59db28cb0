-- The sum of what the totals are. Assumes nothing.
use mathlib.Core.Path.{◌≡◌, ◌∙◌}
use Prim.Native.Nat.{◌^◌, ◌<◌}
use borrow.Author.Rules.{rules}
use Rattle.std.specs.List.{sum}
use Rattle.joint_switches.proofs.TotalLaws.{totals-few, totals-summed}
use Rattle.joint_switches.proofs.totals.joint_total.Goals as goal

pub sum-requires-clause-fits : goal.sum-requires-clause-fits
sum-requires-clause-fits c =
    let few : sum c.args.totals < 2 ^ 32 = totals-few c.requires.good_index c.requires.totals_value in
    search rules

pub returns : goal.returns
returns c =
    let all : c.sum.result ≡ sum c.args.totals = search rules in
    all ∙ totals-summed c.requires.good_index c.requires.totals_value
