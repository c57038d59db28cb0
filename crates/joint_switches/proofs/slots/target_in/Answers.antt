-- The target that an index keeps. Assumes nothing.
use mathlib.Core.Path.{◌∙◌}
use native.Mathlib.Omega.{arith}
use Rattle.models.specs.Index.{entry}
use Rattle.joint_switches.proofs.TableLaws.{target_at, switch-within}
use Rattle.joint_switches.proofs.slots.target_in.Goals as goal

pub overflow_mul-i : goal.overflow_mul-i
overflow_mul-i c = omega (arith, switch-within c.requires.good_index c.args.k c.args.i c.requires.k_bound.0 c.requires.k_bound.1)

pub overflow_add-k-3 : goal.overflow_add-k-3
overflow_add-k-3 c = omega (arith, switch-within c.requires.good_index c.args.k c.args.i c.requires.k_bound.0 c.requires.k_bound.1)

pub overflow_add-k-4 : goal.overflow_add-k-4
overflow_add-k-4 c = omega (arith, switch-within c.requires.good_index c.args.k c.args.i c.requires.k_bound.0 c.requires.k_bound.1)

pub offset_bounds-index-k : goal.offset_bounds-index-k
offset_bounds-index-k c = omega (arith, switch-within c.requires.good_index c.args.k c.args.i c.requires.k_bound.0 c.requires.k_bound.1)

pub bounds-index-k : goal.bounds-index-k
bounds-index-k c = omega (arith, switch-within c.requires.good_index c.args.k c.args.i c.requires.k_bound.0 c.requires.k_bound.1)

pub returns : goal.returns
unfolding entry
returns c =
    let a = c.args in
    let p = c.requires in
    c.from.ensures ∙ target_at p.good_index a.k a.i p.k_bound.0 p.k_bound.1
