-- What is still to come from here on is the whole answer. Each sign opens at most one bracket, so that their number fits. Assumes nothing.
use mathlib.Core.Path.{◌≡◌, sym, ap, ◌∙◌}
use native.Mathlib.Omega.{arith}
use lib.ListN.{length}
use Rattle.std.specs.Prelude.{Some, None}
use Rattle.typed.specs.Signs.{sign_at}
use Rattle.typed.specs.Scan.{depth_of, step, start, breaks_at}
use Rattle.typed.proofs.ScanLaws.{scan-begin, turn-dead, turn-next, turn_end, depth}
use Rattle.typed.proofs.scan.scan.Goals.{After-advance}
use Rattle.typed.proofs.scan.scan.Goals as goal

-- what a turn leads to
stepped : (c : After-advance) → c.advance.result ≡ step (Some c.loop-place.live) (sign_at c.args.text.now c.loop-place.place)
unfolding sign_at
stepped c = c.advance.ensures ∙ ap (step (Some c.loop-place.live)) c.sign_of.ensures

pub loop-place-init : goal.loop-place-init
unfolding start
loop-place-init c = record { few = omega arith; rest = scan-begin _ }

pub returns-in_err-live : goal.returns-in_err-live
returns-in_err-live c =
    let l = c.loop-place in
    let none : c.advance.result ≡ None = grind arith in
    let r : c.from_residual.result ≡ breaks_at l.place = grind arith in
    r ∙ sym (l.invariant.rest ∙ turn-dead _ l.place (Some l.live) _ c.loop-place-test.true (stepped (goal.at.returns-in_err-live c).After-advance) none)

pub loop-place-preserved : goal.loop-place-preserved
loop-place-preserved c =
    let l = c.loop-place in
    let e = stepped (goal.at.loop-place-preserved c).After-advance in
    let some : c.advance.result ≡ Some c.in_ok-live.live = grind arith in
    record {
      few = omega (arith, depth (Some l.live) (sign_at c.args.text.now l.place), ap depth_of (sym some ∙ e), l.invariant.few);
      rest = l.invariant.rest ∙ turn-next _ l.place (Some l.live) _ c.in_ok-live.live c.loop-place-test.true e some;
    }

pub returns-then-accepts : goal.returns-then-accepts
returns-then-accepts c = let l = c.loop-place in sym (l.invariant.rest ∙ turn_end _ l.place (Some l.live) _ c.loop-place-test.false (sym c.accepts.ensures ∙ c.if-accepts.true))

pub returns-else-accepts : goal.returns-else-accepts
returns-else-accepts c =
    let l = c.loop-place in
    let end : length c.args.text.now ≡ l.place = omega (arith, c.loop-place-test.false, l.auto.place-end) in
    ap breaks_at end ∙ sym (l.invariant.rest ∙ turn_end _ l.place (Some l.live) _ c.loop-place-test.false (sym c.accepts.ensures ∙ c.if-accepts.false))
