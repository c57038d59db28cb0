-- Coefficients all zero, with a bound that is not below 0 and with one that is; then any other row. Assumes nothing.
use mathlib.Core.Path.{◌≡◌, sym, ap, ◌∙◌, subst}
use Prim.Native.Nat.{ℕ, ◌+◌, ◌*◌}
use lib.IntN.{pos, nat_abs}
use lib.Signed.{le_z}
use Rattle.farkas.specs.Words.{signed, signed_at}
use Rattle.fair_conditions.specs.Held.{Common}
use Rattle.fair_conditions.proofs.NumberLaws.{sign_low, sign_high}
use Rattle.fair_conditions.proofs.CommonLaws.{divisor-dropped, divisor-below, divisor-found}
use native.Mathlib.Omega.{arith}
use Rattle.fair_conditions.proofs.divisors.row_divisor.Goals as goal

pub returns-then-bound-lt-SIGN_BIT : goal.returns-then-bound-lt-SIGN_BIT
unfolding signed_at
returns-then-bound-lt-SIGN_BIT c =
    let a = c.args in
    divisor-dropped a.s.now a.at a.n c.common_of-coefficients.result c.common_of-coefficients.ensures c.if-coefficients-eq0.true
    (ap (λ (n : ℕ). le_z (pos 0) (signed n)) (sym c.number-bound.ensures) ∙ sign_low c.number-bound.result (omega arith))

pub returns-then-coefficients-eq0 : goal.returns-then-coefficients-eq0
unfolding signed_at
returns-then-coefficients-eq0 c =
    let a = c.args in
    divisor-below a.s.now a.at a.n c.common_of-coefficients.result c.common_of-coefficients.ensures c.magnitude.result c.if-coefficients-eq0.true
    (ap (λ (n : ℕ). le_z (pos 0) (signed n)) (sym c.number-bound.ensures) ∙ sign_high c.number-bound.result (omega arith))
    (c.magnitude.ensures ∙ ap (λ (n : ℕ). nat_abs (signed n)) c.number-bound.ensures)

pub returns : goal.returns
unfolding signed_at
returns c =
    let a = c.args in
    let size : c.magnitude-2.result ≡ nat_abs (signed_at a.s.now (a.at + 4 * a.n)) = c.magnitude-2.ensures ∙ ap (λ (n : ℕ). nat_abs (signed n)) c.number-bound.ensures in
    divisor-found a.s.now a.at a.n c.common_of-coefficients.result c.common_of-coefficients.ensures c.common.result c.if-coefficients-eq0.false
    (subst (λ (k : ℕ). Common c.common_of-coefficients.result k c.common.result) size c.common.ensures)
