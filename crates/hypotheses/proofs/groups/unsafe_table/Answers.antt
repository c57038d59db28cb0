-- Region and invariants, then the condition's rows. Assumes nothing.
use Prim.Native.Nat.{◌≤◌}
use native.Mathlib.Omega.{arith}
use borrow.Author.Rules.{rules}
use lib.ListN.{length}
use Rattle.models.specs.Index.{unsafe_place}
use Rattle.hypotheses.specs.Listing.{unsafe_lines}
use Rattle.hypotheses.proofs.TableLaws.{pushed, pushed_then, as-promised}
use borrow.Author.Rules.{rules}
use Rattle.hypotheses.proofs.groups.unsafe_table.Goals as goal

pub returns : goal.returns
unfolding unsafe_lines unsafe_place
returns c = let both = as-promised (pushed_then (pushed (c.push_here-here.ensures.result_after, c.push_here-here.ensures.onto)) (pushed (c.push_kept.ensures.result_after, c.push_kept.ensures.onto)) (omega arith)) in record { result_after = both.0; onto = both.1 }

pub push_kept-requires : goal.push_kept-requires
unfolding unsafe_place
push_kept-requires c =
    let k = c.push_here-here in
    let long : 1004 ≤ length c.args.paper.index.now = search rules in
    let few = (c.args.paper.good.good.unsafe c.args.u c.requires.u_bound.0).few in record { kept_in_bounds = (omega (arith, c.requires.u_bound.0, c.args.paper.good.good.conditions, long), omega (arith, few)); in_bounds = (omega (arith, k.auto.table, c.requires.u_bound.1.0), (omega (arith, k.ensures.onto.few), k.ensures.onto.stacked)) }
