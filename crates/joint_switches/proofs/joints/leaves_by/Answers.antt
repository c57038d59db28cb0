-- The label and the source that an index keeps. Assumes nothing.
use mathlib.Core.Path.{sym, ap, ◌∙◌}
use mathlib.Core.Bool.{◌&&◌}
use Prim.Native.Nat.{◌+◌, ◌<◌}
use native.Mathlib.Omega.{arith}
use borrow.Author.Tests.{eq-eqb, ne_eqb}
use lib.Dec.{eqb}
use Rattle.models.specs.Index.{entry, component_place, switch_place}
use Rattle.models.proofs.GoodIndexLaws.{switch-length, leaves_at}
use Rattle.joint_switches.proofs.TableLaws.{switch-within}
use Rattle.joint_switches.proofs.joints.leaves_by.Goals as goal

pub overflow_mul-place-2 : goal.overflow_mul-place-2
overflow_mul-place-2 c = omega (arith, switch-within c.requires.good_index c.args.k c.args.i c.requires.k_bound c.requires.i_in_bounds)

pub overflow_add-place-3 : goal.overflow_add-place-3
overflow_add-place-3 c = omega (arith, switch-within c.requires.good_index c.args.k c.args.i c.requires.k_bound c.requires.i_in_bounds)

pub overflow_add-place-4 : goal.overflow_add-place-4
overflow_add-place-4 c = omega (arith, switch-within c.requires.good_index c.args.k c.args.i c.requires.k_bound c.requires.i_in_bounds)

pub offset_bounds-index-place : goal.offset_bounds-index-place
offset_bounds-index-place c = omega (arith, switch-within c.requires.good_index c.args.k c.args.i c.requires.k_bound c.requires.i_in_bounds)

pub bounds-index-place : goal.bounds-index-place
bounds-index-place c = omega (arith, switch-within c.requires.good_index c.args.k c.args.i c.requires.k_bound c.requires.i_in_bounds)

pub offset_bounds-index-place-then-from-e : goal.offset_bounds-index-place-then-from-e
offset_bounds-index-place-then-from-e c = omega (arith, switch-within c.requires.good_index c.args.k c.args.i c.requires.k_bound c.requires.i_in_bounds)

pub bounds-index-place-then-from-e : goal.bounds-index-place-then-from-e
bounds-index-place-then-from-e c = omega (arith, switch-within c.requires.good_index c.args.k c.args.i c.requires.k_bound c.requires.i_in_bounds)

pub returns-then-from-e : goal.returns-then-from-e
unfolding entry component_place switch_place
returns-then-from-e c =
    let a = c.args in
    let l : a.i < entry a.index.now (component_place a.k + 2) = omega (arith, switch-length a.s.now a.index.now a.k, c.requires.i_in_bounds) in
    let source = entry a.index.now (switch_place (component_place a.k) a.i) in
    ap (eqb source) c.from-then-from-e.ensures
    ∙ sym (leaves_at a.s.now a.index.now a.k a.i a.mode a.e l ∙ ap (λ b. b && eqb source a.mode) (eq-eqb _ _ (sym c.from.ensures ∙ c.if-from-e.true)))

pub returns-else-from-e : goal.returns-else-from-e
unfolding entry component_place switch_place
returns-else-from-e c =
    let a = c.args in
    let l : a.i < entry a.index.now (component_place a.k + 2) = omega (arith, switch-length a.s.now a.index.now a.k, c.requires.i_in_bounds) in
    let source = eqb (entry a.index.now (switch_place (component_place a.k) a.i)) a.mode in
    ne_eqb _ _ c.if-from-e.false
    ∙ sym (leaves_at a.s.now a.index.now a.k a.i a.mode a.e l ∙ ap (λ b. b && source) (ne_eqb _ _ (λ h. c.if-from-e.false (c.from.ensures ∙ h))))
