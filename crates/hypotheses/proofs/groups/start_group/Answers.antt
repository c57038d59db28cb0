-- Nothing where the region has no rows or a mode is no start mode, else the region's rows. Assumes nothing.
use Rattle.std.proofs.Common.{rules}
use Prim.Native.Nat.{ℕ}
use mathlib.Core.Path.{◌≡◌}
use mathlib.Core.Bool.{not}
use mathlib.Core.Path.{sym, ◌∙◌, ap}
use Prim.Native.Nat.{◌≤◌}
use native.Mathlib.Omega.{arith}
use lib.ListN.{length}
use Rattle.models.specs.Index.{entry}
use Rattle.rules.proofs.ListFacts.{test-passed, test-failed}
use Rattle.hypotheses.specs.Listing.{region_group}
use Rattle.hypotheses.proofs.TableLaws.{pushed, lines_start}
use Rattle.hypotheses.proofs.GoodLines.{start_fine}
use Rattle.hypotheses.proofs.GroupLaws.{same-group, start-tasks, start_none, no-rows-start, empty-good, region-good}
use Rattle.hypotheses.proofs.groups.start_group.Goals.{Start}
use Rattle.hypotheses.proofs.groups.start_group.Goals as goal

-- there is a mode for each component
long : (s : Start) → entry s.args.paper.index.now 1 ≤ length s.args.modes
unfolding entry
long s =
    let four : ◌≡◌ {A = ℕ} (length s.args.modes) 4 = search rules in
    omega (arith, s.args.paper.good.good.few, four)

pub returns : goal.returns
unfolding entry
returns c =
    let p = c.requires in
    let k = c.start_table-segments in
    let lines = lines_start (pushed (k.ensures.result_after, k.ensures.onto)) in
    let all = c.all_start in
    let told = c.region_group.ensures ∙ ap (region_group (entry c.args.paper.index.now 11) c.args.paper.regions.now c.args.location k.new.table k.result 0) c.from.ensures in
    let both = same-group _ _ _ _ told (start-tasks _ _ _ _ c.args.modes _ (long (goal.at.returns c).Start) p.stands.0 _ k.result _ lines (sym (test-passed all.result (ap not c.if-not-all_start.false) all.ensures)))
    (region-good _ _ _ _ _ _ k.result _ _ _ c.args.paper.good p.stands.0.below k.ensures.onto.stacked (omega (arith, k.ensures.onto.few)) lines (start_fine _ _ c.args.paper.second.now c.args.paper.regions.now _ c.args.location (long (goal.at.returns c).Start) p.stands.0.known c.args.paper.good) (omega arith) (omega (arith, c.args.paper.good.good.most))) in record { result_after = both.0; good_group = both.1 }

pub returns-then-region_rows-eq0 : goal.returns-then-region_rows-eq0
returns-then-region_rows-eq0 c = let p = c.requires in let both = same-group _ _ _ _ c.no_group.ensures (no-rows-start _ _ _ _ _ _ p.stands.0.below (sym c.region_rows.ensures ∙ c.if-region_rows-eq0.true)) (empty-good _ _ _ _ c.args.paper.good.good.most p.stands.1.1) in record { result_after = both.0; good_group = both.1 }

pub returns-then-not-all_start : goal.returns-then-not-all_start
returns-then-not-all_start c =
    let all = c.all_start in let both = same-group _ _ _ _ c.no_group-then-not-all_start.ensures (start_none _ _ _ _ c.args.modes _ (long (goal.at.returns-then-not-all_start c).Start) c.requires.stands.0 _ (sym (test-failed all.result (ap not c.if-not-all_start.true) all.ensures))) (empty-good _ _ _ _ c.args.paper.good.good.most c.requires.stands.1.1) in record { result_after = both.0; good_group = both.1 }
