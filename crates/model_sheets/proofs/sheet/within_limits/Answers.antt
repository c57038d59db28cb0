-- By the two counts; those of a model within the limits are kept. Assumes nothing.
use mathlib.Core.Path.{refl, sym, subst}
use Prim.Native.Nat.{ℕ, ◌<◌, ◌≤◌}
use native.Mathlib.Omega.{arith}
use borrow.Author.Rules.{rules}
use Rattle.formats.specs.Locations.{location_count}
use Rattle.models.specs.Index.{components_from}
use Rattle.fields.specs.Answers.{got_as}
use Rattle.model_sheets.proofs.SheetLaws.{limits-seven, limits-eight}
use Rattle.formats.proofs.ModelSheet.{Low, fit_low, tests-pass}
use Rattle.model_sheets.proofs.LimitLaws.{counts-small, no-counts, refused-uncounted, counted}
use Rattle.model_sheets.proofs.sheet.within_limits.Goals as goal

pub returns-then-limits-locations : goal.returns-then-limits-locations
unfolding got_as
returns-then-limits-locations c =
    let a = c.args in
    let s = a.s.now in
    let components = components_from s a.index.now in record { result_value = sym (limits-seven a.limits components a.body s a.next (subst (λ (n : ℕ). a.limits.locations < n) c.location_count-locations.ensures c.if-limits-locations.true)); only_counts = (no-counts a.index.now, refused-uncounted s a.index.now refl) }

pub returns-then-limits-joints : goal.returns-then-limits-joints
unfolding got_as
returns-then-limits-joints c =
    let a = c.args in
    let s = a.s.now in
    let components = components_from s a.index.now in
    let few : location_count components ≤ a.limits.locations = subst (λ (n : ℕ). n ≤ a.limits.locations) c.location_count-locations.ensures c.if-limits-locations.false in record { result_value = sym (limits-eight a.limits components a.body s a.next few (omega (arith, c.if-limits-joints.true, c.joint_total-joints.ensures))); only_counts = (no-counts a.index.now, refused-uncounted s a.index.now refl) }

pub keep_counts-requires : goal.keep_counts-requires
keep_counts-requires c =
    let low : Low c.args.limits = fit_low c.args.limits c.requires.t in
    (search rules, counts-small c.requires.good_index c.event_totals-totals.result c.joint_total-joints.result c.location_count-locations.result c.event_totals-totals.ensures c.joint_total-joints.ensures (omega (arith, c.if-limits-joints.false, low.joints)) (omega (arith, c.if-limits-locations.false, low.locations)))

pub returns : goal.returns
unfolding got_as
returns c =
    let a = c.args in
    let s = a.s.now in
    let components = components_from s a.index.now in
    let few : location_count components ≤ a.limits.locations = subst (λ (n : ℕ). n ≤ a.limits.locations) c.location_count-locations.ensures c.if-limits-locations.false in
    let kept = c.keep_counts.ensures in record { result_value = sym (tests-pass a.limits components a.body s a.next (record { locations = few; joined = omega (arith, c.if-limits-joints.false, c.joint_total-joints.ensures) })); only_counts = (kept.only_counts, λ end e. counted c.requires.good_index c.event_totals-totals.result c.joint_total-joints.result c.location_count-locations.result c.event_totals-totals.ensures c.joint_total-joints.ensures c.location_count-locations.ensures kept.standing kept.only_counts.same) }
