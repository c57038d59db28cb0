-- The ways of the components from here on stand in the table, and their product is counted. Assumes nothing.
use mathlib.Core.Path.{◌≡◌, refl, sym, ◌∙◌}
use Prim.Native.Nat.{◌*◌, ◌-◌, ◌≤◌}
use native.Mathlib.Omega.{arith}
use lib.ListN.{length, get_or, set, length-set}
use Rattle.formats.specs.Locations.{location_count}
use Rattle.models.specs.Index.{entry, components_from}
use Rattle.models.specs.Counts.{per_component}
use Rattle.joint_switches.specs.declared.slots.Part.{Part}
use Rattle.joint_switches.specs.Slots.{together_in}
use Rattle.formats.proofs.JointCounts.{none-later}
use Rattle.joint_switches.proofs.JointLoops.{components_on, numbers_on, together_on, count-starts, count-goes-on, count-few, together-starts, together-goes-on, together-few}
use Rattle.joint_switches.proofs.SlotLaws.{part-is, known-below, part-fits, parts-go-on, listed-none, listed-together}
use Rattle.joint_switches.proofs.slots.list_together.Goals.{After-mode_count-unit, After-list_part-n, In-loop-k}
use Rattle.joint_switches.proofs.slots.list_together.Goals as goal

pub loop-k-init : goal.loop-k-init
loop-k-init c =
    let a = c.args in
    let g = c.requires.good_index.0 in
    let long : entry a.index.now 1 ≤ length a.modes = omega (arith, g.few, c.well_formed.1.1.0.1.0.1) in
    let e = c.component_count-k.ensures in (
      refl,
      rw e (count-starts g),
      omega arith,
      rw e (together-starts g a.modes long a.e),
      λ j h l. absurd (omega (arith, h, l, e)),
    )

-- the part of the component, as the laws have it
module _ (c : In-loop-k) where
  part : Part
  part =
      let a = c.args in
      let l = c.loop-k in
      record { k = l.k - 1; mode = get_or a.modes (l.k - 1) 0; e = a.e; rest = 0; unit = l.unit }

pub list_part-n-requires-clause-good_index : goal.list_part-n-requires-clause-good_index
unfolding part
list_part-n-requires-clause-good_index c =
    let l = c.loop-k in
    let a = c.args in
    let p = c.requires in
    let h = c.loop-k-test.true in
    let is = part-is a.s.now a.index.now a.modes a.e l.k l.unit h l.invariant.1 in
    (p.good_index.0, part-fits p.good_index.0 a.modes a.e l.k h (omega arith) (part (goal.at.list_part-n-requires-clause-good_index c).In-loop-k) is p.index_bound.0)

pub list_part-n-requires-clause-mode_in_bounds : goal.list_part-n-requires-clause-mode_in_bounds
list_part-n-requires-clause-mode_in_bounds c =
    let p = c.requires in
    (known-below p.good_index.0 p.good_index.1 (c.loop-k.k - 1) (omega arith), p.index_bound.1.1)

-- a turn: how many there are from here on
module _ (c : After-list_part-n) where
  next : c.list_part-n.result * c.loop-k.count ≡ length (together_on c.args.s.now c.args.index.now c.args.modes c.args.e (c.loop-k.k - 1))
  next =
      let l = c.loop-k in
      let a = c.args in
      let g = c.requires.good_index.0 in
      let long : entry a.index.now 1 ≤ length a.modes = omega (arith, g.few, c.well_formed.1.1.0.1.0.1) in
      together-goes-on g a.modes long a.e l.k c.list_part-n.result l.count c.loop-k-test.true (omega arith) c.list_part-n.ensures.value l.invariant.3

pub overflow_mul-count : goal.overflow_mul-count
overflow_mul-count c =
    let l = c.loop-k in
    omega (arith, next (goal.at.overflow_mul-count c).After-list_part-n, together-few c.requires.good_index.0 (l.k - 1) (numbers_on c.args.index.now c.args.modes (l.k - 1)) c.args.e)

pub returns-then-count-eq0 : goal.returns-then-count-eq0
returns-then-count-eq0 c =
    let l = c.loop-k in
    let a = c.args in
    let p = c.requires in
    let components = components_from a.s.now a.index.now in
    let none = none-later components (per_component a.index.now a.modes) a.e (l.k - 1) (sym c.if-count-eq0.true ∙ next (goal.at.returns-then-count-eq0 c).After-list_part-n) in
    listed-none p.good_index.0 (together_in a.s.now a.index.now a.modes a.e) a.modes a.e (set l.counts (l.k - 1) c.list_part-n.result) c.list_part-n.new.ways (omega arith) none

-- and how many locations
module _ (c : After-mode_count-unit) where
  units : c.mode_count-unit.result * c.loop-k.unit ≡ location_count (components_on c.args.s.now c.args.index.now (c.loop-k.k - 1))
  units =
      let l = c.loop-k in
      count-goes-on c.requires.good_index.0 l.k c.mode_count-unit.result l.unit c.loop-k-test.true (omega arith) c.mode_count-unit.ensures l.invariant.1

pub overflow_mul-unit : goal.overflow_mul-unit
overflow_mul-unit c =
    omega (arith, units c, count-few c.requires.good_index.0 (c.loop-k.k - 1))

pub loop-k-preserved : goal.loop-k-preserved
unfolding part
loop-k-preserved c =
    let told = c.list_part-n in
    let l = c.loop-k in
    let a = c.args in
    let g = c.requires.good_index.0 in
    let h = c.loop-k-test.true in
    let is = part-is a.s.now a.index.now a.modes a.e l.k l.unit h l.invariant.1 in (
      simp length-set l.invariant.0,
      units c,
      omega (arith, c.if-count-eq0.false),
      next (goal.at.loop-k-preserved c).After-list_part-n,
      parts-go-on g a.modes a.e l.k h (omega arith) (part (goal.at.loop-k-preserved c).In-loop-k) is told.result l.counts l.ways told.new.ways (omega (arith, l.invariant.0, g.few)) told.ensures.value told.ensures.ways_at told.ensures.other_lines l.invariant.4,
    )

pub returns : goal.returns
returns c =
    let l = c.loop-k in
    let a = c.args in
    let p = c.requires in
    let g = p.good_index.0 in
    let long : entry a.index.now 1 ≤ length a.modes = omega (arith, g.few, c.well_formed.1.1.0.1.0.1) in
    listed-together g a.modes long a.e p.index_bound.1.0 l.count l.k l.counts l.ways (omega arith) c.loop-k-test.false l.invariant.2 l.invariant.3 l.invariant.4
