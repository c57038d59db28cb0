-- The digits that are taken off are those of the components from here on. Assumes nothing.
use mathlib.Core.Path.{refl, sym, subst}
use mathlib.Core.List.{List, [], ◌∷◌}
use Prim.Native.Nat.{ℕ, ◌+◌, ◌*◌, ◌-◌, ◌/◌, ◌%◌, ◌≤◌, ◌<◌}
use native.Mathlib.Nat.{mod-lt}
use native.Mathlib.Omega.{arith}
use lib.ListN.{get_or, set, length-set}
use Rattle.formats.specs.Joint.{stays}
use Rattle.models.specs.Index.{entry}
use Rattle.joint_switches.specs.Slots.{no_way, Digits}
use Rattle.joint_switches.proofs.DigitLaws.{Taking, taking-starts, taking-goes-on, taking-ends}
use Rattle.joint_switches.proofs.slots.together_at.Goals as goal

pub loop-k-init : goal.loop-k-init
unfolding entry stays
loop-k-init c =
    let a = c.args in
    let few = c.requires.index_bound.0 in
    (omega (arith, few), refl, subst (λ (k : ℕ). Taking a.counts a.ways.now (entry a.index.now 1) a.x k a.x (stays ∷ stays ∷ stays ∷ stays ∷ []) 0) (sym c.from-k.ensures) (taking-starts a.counts a.ways.now (entry a.index.now 1) a.x few))

-- a digit is below 32
module _ {index counts : List ℕ} (digits : Digits index counts) (few : entry index 1 ≤ 4) {k : ℕ} (h : 0 < k) (bound : k ≤ entry index 1) where
  some : 0 < get_or counts (k - 1) 0
  some = digits.some (k - 1) (omega arith)

  room : (left : ℕ) → 32 * (k - 1) + left % get_or counts (k - 1) 0 < 128
  room left = omega (arith, mod-lt left some, digits.most (k - 1) (omega arith))

pub nonzero_rem-way : goal.nonzero_rem-way
unfolding entry
nonzero_rem-way c = omega (arith, some c.requires.digits c.requires.index_bound.0 c.loop-k-test.true (omega arith))

pub bounds-ways-way : goal.bounds-ways-way
unfolding entry
bounds-ways-way c = omega (arith, room c.requires.digits c.requires.index_bound.0 c.loop-k-test.true (omega arith) c.loop-k.left)

pub bounds-ways-way-in-loop-k : goal.bounds-ways-way-in-loop-k
unfolding entry
bounds-ways-way-in-loop-k c = omega (arith, room c.requires.digits c.requires.index_bound.0 c.loop-k-test.true (omega arith) c.loop-k.left)

pub nonzero_div-left : goal.nonzero_div-left
unfolding entry
nonzero_div-left c = omega (arith, some c.requires.digits c.requires.index_bound.0 c.loop-k-test.true (omega arith))

pub loop-k-preserved : goal.loop-k-preserved
unfolding entry
loop-k-preserved c =
    let a = c.args in
    let l = c.loop-k in
    let h = c.loop-k-test.true in
    let switches = set l.switches (l.k - 1) (get_or a.ways.now (32 * (l.k - 1) + l.left % get_or a.counts (l.k - 1) 0) no_way).switch in (
      omega arith,
      simp length-set l.invariant.1,
      subst (λ (n : ℕ). Taking a.counts a.ways.now (entry a.index.now 1) a.x (l.k - 1) (l.left / get_or a.counts (l.k - 1) 0) switches (l.target + n)) (sym c.from-target.ensures)
          (taking-goes-on a.counts a.ways.now (entry a.index.now 1) a.x l.k l.left l.switches l.target h (omega (arith, c.requires.index_bound.0)) l.invariant.2),
    )

pub returns : goal.returns
returns c =
    let a = c.args in
    let l = c.loop-k in
    taking-ends a.counts a.ways.now a.index.now a.x l.k l.left l.switches l.target c.loop-k-test.false l.invariant.2
