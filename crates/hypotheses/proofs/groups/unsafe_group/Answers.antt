-- Nothing where the modes do not fit, else the proof that has no goal. Assumes nothing.
use Rattle.std.proofs.Common.{rules}
use Prim.Native.Nat.{ℕ}
use mathlib.Core.Path.{◌≡◌}
use mathlib.Core.Bool.{not}
use mathlib.Core.Path.{sym, ap}
use Prim.Native.Nat.{◌≤◌}
use native.Mathlib.Omega.{arith}
use lib.ListN.{length}
use Rattle.models.specs.Index.{entry}
use Rattle.rules.proofs.ListFacts.{test-passed, test-failed}
use Rattle.hypotheses.specs.Listing.{unsafe_group}
use Rattle.hypotheses.proofs.TableLaws.{pushed, lines_start}
use Rattle.hypotheses.proofs.GoodLines.{unsafe-fine}
use Rattle.hypotheses.proofs.GroupLaws.{same-group, unsafe-tasks, unsafe-none, empty-good, unsafe-good}
use Rattle.hypotheses.proofs.groups.unsafe_group.Goals.{Start}
use Rattle.hypotheses.proofs.groups.unsafe_group.Goals as goal

-- there is a mode for each component
long : (s : Start) → entry s.args.paper.index.now 1 ≤ length s.args.modes
unfolding entry
long s =
    let four : ◌≡◌ {A = ℕ} (length s.args.modes) 4 = search rules in
    omega (arith, s.args.paper.good.good.few, four)

pub returns : goal.returns
unfolding entry unsafe_group
returns c =
    let p = c.requires in
    let k = c.unsafe_table-segments in
    let lines = lines_start (pushed (k.ensures.result_after, k.ensures.onto)) in
    let fits = c.modes_fit in
    let fine = unsafe-fine c.args.paper.model.now c.args.paper.index.now c.args.paper.second.now c.args.paper.regions.now c.args.modes c.args.location (long (goal.at.returns c).Start) p.stands.0.known c.args.paper.good p.stands.0.below c.args.u p.stands.1.0 in
    record {
      result_after = rw (c.lines-hypotheses.ensures, c.version_of-version.ensures, c.from.ensures) (unsafe-tasks _ _ _ _ c.args.modes _ (long (goal.at.returns c).Start) p.stands.0 _ k.result _ c.args.u p.stands.1.0 lines (sym (test-passed fits.result (ap not c.if-not-modes_fit.false) fits.ensures)));
      good_group = rw (c.lines-hypotheses.ensures, c.version_of-version.ensures, c.from.ensures) (unsafe-good _ c.args.paper.index.now _ _ k.result _ _ k.ensures.onto.stacked (omega (arith, k.ensures.onto.few)) lines fine (omega arith) (omega (arith, c.args.paper.good.good.most)));
    }

pub returns-then-not-modes_fit : goal.returns-then-not-modes_fit
returns-then-not-modes_fit c =
    let fits = c.modes_fit in let both = same-group _ _ _ _ c.no_group.ensures (unsafe-none _ _ _ _ c.args.modes _ (long (goal.at.returns-then-not-modes_fit c).Start) c.requires.stands.0 _ c.args.u c.requires.stands.1.0 (sym (test-failed fits.result (ap not c.if-not-modes_fit.true) fits.ensures))) (empty-good _ _ _ _ c.args.paper.good.good.most c.requires.stands.1.1.1) in record { result_after = both.0; good_group = both.1 }
