-- What was pushed, with the modes from this component on, is the whole. Assumes nothing.
use mathlib.Core.Path.{◌≡◌, sym, ap, subst}
use Prim.Native.Nat.{ℕ, ◌+◌, ◌≤◌, ◌<◌}
use native.Mathlib.Omega.{arith}
use borrow.Author.Rules.{rules}
use lib.ListN.{length, get_or}
use Rattle.models.specs.Index.{entry, component_place, mode_place}
use Rattle.hypotheses.specs.Listing.{kept_lines}
use Rattle.hypotheses.proofs.TableLaws.{pushed, pushed-as, as-promised, pushing-on, pushing-end}
use Rattle.hypotheses.proofs.ModeLines.{mode-within, modes-next, modes-end}
use Rattle.hypotheses.proofs.tables.push_modes.Goals.{In-loop-k, Start}
use Rattle.hypotheses.proofs.tables.push_modes.Goals as goal

-- a component's number is one of the index's, and small
among : (c : In-loop-k) → c.loop-k.k < entry c.args.index.now 1
unfolding entry
among c = omega (arith, c.loop-k-test.true, c.from-k-end.ensures)

below : (c : In-loop-k) → c.loop-k.k < 4
below c = omega (arith, among c, c.requires.few_rows.components)

-- there is a mode for each component
long : (s : Start) → entry s.args.index.now 1 ≤ length s.args.modes
unfolding entry
long s = omega (arith, s.requires.few_rows.components, s.well_formed.1.0.1.0.1)

pub loop-k-preserved : goal.loop-k-preserved
loop-k-preserved c =
    let k = c.push_kept-to in
    let at = goal.at.loop-k-preserved c in
    pushing-on c.loop-k.invariant (λ u. modes-next _ _ _ _ (long at.Start) _ (among at.In-loop-k)) (pushed-as (ap (kept_lines c.args.form c.loop-k.k c.args.index.now) c.mode_place.ensures) (pushed (k.ensures.result_after, k.ensures.onto)))

pub returns : goal.returns
unfolding entry
returns c =
    let n = c.requires.few_rows.components in
    let end = c.from-k-end.ensures in
    let both = as-promised (pushing-end c.loop-k.invariant tt (modes-end _ _ _ _ (long (goal.at.returns c).Start) _ (omega (arith, end, c.loop-k-test.false))) (omega (arith, n, end, c.loop-k.auto.k-end))) in record { result_after = both.0; onto = both.1 }

pub bounds-modes-k : goal.bounds-modes-k
bounds-modes-k c = omega (arith, below (goal.at.bounds-modes-k c).In-loop-k)

pub mode_place-requires : goal.mode_place-requires
mode_place-requires c = (omega (arith, below (goal.at.mode_place-requires c).In-loop-k), c.requires.few_rows.within)

pub push_kept-to-requires : goal.push_kept-to-requires
unfolding entry
push_kept-to-requires c =
    let index = c.args.index.now in
    let l = c.loop-k in
    let h = among (goal.at.push_kept-to-requires c).In-loop-k in
    let e : c.mode_place.result ≡ mode_place (component_place l.k) (get_or c.args.modes l.k 0) + c.args.offset = c.mode_place.ensures in
    let long : 1004 ≤ length index = search rules in
    let fits = mode-within l.k (get_or c.args.modes l.k 0) c.args.offset (omega (arith, below (goal.at.push_kept-to-requires c).In-loop-k)) (c.requires.few_rows.small l.k h) c.requires.few_rows.within in
    let few : entry index (c.mode_place.result + 1) ≤ 8 = subst (λ (p : ℕ). entry index (p + 1) ≤ 8) (sym e) (c.requires.few_rows.few l.k h) in record { kept_in_bounds = (omega (arith, e, fits, long), omega (arith, few)); in_bounds = (omega (arith, l.auto.table, c.requires.in_bounds.0), (omega (arith, l.invariant.pushed.onto.few, c.requires.in_bounds.1.0, below (goal.at.push_kept-to-requires c).In-loop-k), l.invariant.pushed.onto.stacked)) }
