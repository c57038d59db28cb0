-- The digits from here on, after the number so far, are all of them. Assumes nothing.
use mathlib.Core.Path.{◌≡◌, sym, ◌∙◌}
use Prim.Native.Nat.{◌+◌, ◌*◌}
use native.Mathlib.Omega.{arith}
use Rattle.typed.specs.Signs.{sign_at}
use Rattle.typed.specs.Working.{capped}
use Rattle.typed.proofs.ReadLaws.{digits-begin, digits_more, digits-stop, digits-end, capped-bound, capped-min}
use Rattle.typed.proofs.reading.read_digits.Goals as goal

pub loop-place-init : goal.loop-place-init
loop-place-init c = record { few = omega arith; rest = digits-begin _ _; end = omega arith }

pub returns-in_default : goal.returns-in_default
unfolding sign_at
returns-in_default c = let l = c.loop-place in sym (l.invariant.rest ∙ digits-stop _ _ _ c.sign_of.result c.sign_of.ensures c.loop-place-test.true c.in_default.not-Digit l.invariant.few)

pub loop-place-preserved : goal.loop-place-preserved
unfolding sign_at
loop-place-preserved c =
    let l = c.loop-place in
    let d = c.in-Digit.digit in
    let s : l.value * 10 + c.from.result ≡ 10 * l.value + d = omega (arith, c.from.ensures) in
    let w : c.min-value.result ≡ capped (10 * l.value + d) = capped-min c.min-value.ensures s in
    record {
      few = omega (arith, capped-bound (10 * l.value + d));
      rest = l.invariant.rest ∙ digits_more _ _ _ c.sign_of.result d _ c.sign_of.ensures c.loop-place-test.true c.in-Digit.is w;
      end = omega (arith, c.loop-place-test.true);
    }

pub returns : goal.returns
returns c =
    let l = c.loop-place in
    let end : c.max-next.result ≡ l.place = omega (arith, c.max-next.ensures, l.invariant.end, l.auto.place, c.loop-place-test.false) in
    (λ k. record { value = l.value; next = end k }) ∙ sym (l.invariant.rest ∙ digits-end _ _ _ l.invariant.few c.loop-place-test.false)
