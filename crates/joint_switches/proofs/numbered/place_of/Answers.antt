-- The target and the label that an index keeps. Assumes nothing.
use mathlib.Core.Path.{ap, ap₂, ◌∙◌}
use Prim.Native.Nat.{ℕ, ◌+◌, ◌*◌}
use native.Mathlib.Omega.{arith}
use Rattle.models.specs.Index.{entry}
use Rattle.joint_switches.specs.Numbered.{Wide}
use Rattle.joint_switches.proofs.TableLaws.{switch-within}
use Rattle.joint_switches.proofs.NumberedLaws.{number-kept}
use Rattle.joint_switches.proofs.numbered.place_of.Goals as goal

pub overflow_mul-at-2 : goal.overflow_mul-at-2
overflow_mul-at-2 c = omega (arith, switch-within c.requires.good_index c.args.k c.args.i c.requires.k_bound.0 c.requires.k_bound.1)

pub overflow_add-at-3 : goal.overflow_add-at-3
overflow_add-at-3 c = omega (arith, switch-within c.requires.good_index c.args.k c.args.i c.requires.k_bound.0 c.requires.k_bound.1)

pub overflow_add-at-4 : goal.overflow_add-at-4
overflow_add-at-4 c = omega (arith, switch-within c.requires.good_index c.args.k c.args.i c.requires.k_bound.0 c.requires.k_bound.1)

pub offset_bounds-index-at : goal.offset_bounds-index-at
offset_bounds-index-at c = omega (arith, switch-within c.requires.good_index c.args.k c.args.i c.requires.k_bound.0 c.requires.k_bound.1)

pub bounds-index-at : goal.bounds-index-at
bounds-index-at c = omega (arith, switch-within c.requires.good_index c.args.k c.args.i c.requires.k_bound.0 c.requires.k_bound.1)

pub overflow_add-at-5 : goal.overflow_add-at-5
overflow_add-at-5 c = omega (arith, switch-within c.requires.good_index c.args.k c.args.i c.requires.k_bound.0 c.requires.k_bound.1)

pub offset_bounds-index-at-2 : goal.offset_bounds-index-at-2
offset_bounds-index-at-2 c = omega (arith, switch-within c.requires.good_index c.args.k c.args.i c.requires.k_bound.0 c.requires.k_bound.1)

pub bounds-index-at-2 : goal.bounds-index-at-2
bounds-index-at-2 c = omega (arith, switch-within c.requires.good_index c.args.k c.args.i c.requires.k_bound.0 c.requires.k_bound.1)

pub returns : goal.returns
unfolding entry
returns c =
    let a = c.args in
    let p = c.requires in
    let fits : Wide a.by.width a.by.step = record { enough = a.by.enough; few = a.by.few } in
    ap (λ (n : ℕ). a.by.width * a.k + n)
    (ap₂ (λ (t e : ℕ). a.by.step * t + e) c.from.ensures c.from-2.ensures ∙ number-kept p.good_index fits a.k a.i p.k_bound.0 p.k_bound.1)
