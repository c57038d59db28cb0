-- By cases: the component stays, or its switch tells the mode. Assumes nothing.
use mathlib.Core.Path.{sym, ap, ◌∙◌}
use mathlib.Core.Bool.{cond}
use Prim.Native.Nat.{ℕ, ◌+◌, ◌<◌}
use native.Mathlib.Omega.{arith}
use borrow.Author.Tests.{eq-eqb, ne_eqb}
use Rattle.formats.specs.Joint.{stays, switch_of}
use Rattle.models.specs.Index.{entry, component_place, switch_place}
use Rattle.models.specs.Counts.{component_at}
use Rattle.models.proofs.GoodIndexLaws.{switch-length, target_at, good-component}
use Rattle.joint_switches.proofs.joints.mode_after.Goals as goal

pub bounds-index-k : goal.bounds-index-k
unfolding stays
bounds-index-k c =
    let a = c.args in
    let g = c.requires.good_index in
    let moves = c.requires.i_in_bounds (ne_eqb a.i stays c.if-i-eq255.false) in
    omega (arith, moves, (good-component g a.k c.requires.k_bound).few, c.requires.k_bound, g.few)

pub returns-then-i-eq255 : goal.returns-then-i-eq255
unfolding stays
returns-then-i-eq255 c =
    let a = c.args in
    sym (ap (λ b. cond b a.mode (switch_of (component_at a.s.now a.index.now a.k) a.i).target) (eq-eqb a.i stays c.if-i-eq255.true))

pub overflow_cast-result : goal.overflow_cast-result
unfolding stays entry component_place switch_place
overflow_cast-result c =
    let a = c.args in
    let g = c.requires.good_index in
    let moves = c.requires.i_in_bounds (ne_eqb a.i stays c.if-i-eq255.false) in
    let l : c.from.result < entry a.index.now (component_place a.k + 2) = omega (arith, c.from.ensures, switch-length a.s.now a.index.now a.k, moves) in
    let b = g.blocks a.k c.requires.k_bound in
    omega (arith, (b.switches c.from.result l).target, b.most)

pub returns-else-i-eq255 : goal.returns-else-i-eq255
unfolding stays entry component_place switch_place
returns-else-i-eq255 c =
    let a = c.args in
    let component = component_at a.s.now a.index.now a.k in
    let moves = c.requires.i_in_bounds (ne_eqb a.i stays c.if-i-eq255.false) in
    let l : a.i < entry a.index.now (component_place a.k + 2) = omega (arith, switch-length a.s.now a.index.now a.k, moves) in
    ap (λ (i : ℕ). entry a.index.now (switch_place (component_place a.k) i + 1)) c.from.ensures
    ∙ sym (ap (λ b. cond b a.mode (switch_of component a.i).target) (ne_eqb a.i stays c.if-i-eq255.false) ∙ target_at a.s.now a.index.now a.k a.i l)
