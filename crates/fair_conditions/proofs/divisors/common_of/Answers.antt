-- The common divisors of the numbers from place i on. Assumes nothing.
use mathlib.Core.Path.{◌≡◌, sym, ap, ◌∙◌, subst}
use mathlib.Core.List.{List}
use Prim.Native.Nat.{ℕ, ◌+◌, ◌*◌, ◌-◌}
use lib.IntN.{ℤ, nat_abs}
use Rattle.farkas.specs.Words.{signed, signed_at}
use Rattle.fair_conditions.specs.Held.{Common, CommonOf}
use Rattle.fair_conditions.proofs.CommonLaws.{common-none, common-turn, numbers-none}
use native.Mathlib.Omega.{arith}
use Rattle.fair_conditions.proofs.divisors.common_of.Goals as goal

pub loop-i-init : goal.loop-i-init
loop-i-init c =
    let a = c.args in
    subst (λ (xs : List ℤ). CommonOf xs 0) (sym (numbers-none a.s.now (a.at + 4 * a.count) a.count)) common-none

pub loop-i-preserved : goal.loop-i-preserved
unfolding signed_at
loop-i-preserved c =
    let a = c.args in
    let l = c.loop-i in
    let size : c.magnitude.result ≡ nat_abs (signed_at a.s.now (a.at + 4 * (l.i - 1))) = c.magnitude.ensures ∙ ap (λ (n : ℕ). nat_abs (signed n)) c.number.ensures in
    common-turn a.s.now a.at a.count l.i (l.i - 1) l.divisor c.common-divisor.result (omega arith) (omega arith) l.invariant (subst (λ (k : ℕ). Common l.divisor k c.common-divisor.result) size c.common-divisor.ensures)
