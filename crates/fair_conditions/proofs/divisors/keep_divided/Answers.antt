-- The numbers from place i on are kept divided. Assumes nothing.
use mathlib.Core.Path.{ap, ◌∙◌}
use Prim.Native.Nat.{ℕ, ◌-◌}
use Rattle.farkas.specs.Words.{signed, signed_at}
use Rattle.fair_rows.specs.FairRows.{quotient}
use Rattle.fair_conditions.proofs.KeptLaws.{kept-starts, kept-goes-on}
use native.Mathlib.Omega.{arith}
use Rattle.fair_conditions.proofs.divisors.keep_divided.Goals as goal

pub loop-i-init : goal.loop-i-init
loop-i-init c = kept-starts _ _ _ _ _ _

pub loop-i-preserved : goal.loop-i-preserved
unfolding signed_at
loop-i-preserved c =
    let a = c.args in
    let l = c.loop-i in
    kept-goes-on a.s.now a.at a.count a.divisor a.base a.kept.now l.kept l.i (l.i - 1) c.raised_quotient.result (omega arith) c.requires.1.1 (c.raised_quotient.ensures ∙ ap (λ (n : ℕ). quotient a.divisor (signed n)) c.number.ensures) l.invariant
