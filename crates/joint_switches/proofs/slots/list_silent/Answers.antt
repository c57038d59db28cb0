-- The components before this one have their lines. Assumes nothing.
use mathlib.Core.Path.{◌≡◌, ap, ◌∙◌}
use Prim.Native.Nat.{ℕ, ◌+◌, ◌*◌, ◌-◌, ◌/◌, ◌≤◌, ◌<◌}
use native.Mathlib.Omega.{arith}
use lib.ListN.{length, get_or, replicate}
use Rattle.formats.specs.Locations.{location_count}
use Rattle.models.specs.Index.{entry}
use Rattle.joint_switches.specs.declared.slots.Part.{Part}
use Rattle.models.proofs.GoodIndexLaws.{good-component}
use Rattle.joint_switches.proofs.JointLoops.{components_on}
use Rattle.joint_switches.proofs.SilentLaws.{passed_none, unit-goes-on, mode-part, silent-fits, passed_on, listed-silent}
use Rattle.joint_switches.proofs.slots.list_silent.Goals.{After-from, After-mode_count-unit}
use Rattle.joint_switches.proofs.slots.list_silent.Goals as goal

pub loop-k-init : goal.loop-k-init
unfolding entry
loop-k-init c =
    let a = c.args in
    (c.from-unit.ensures ∙ c.requires.good_index.1.located, passed_none a.s.now a.index.now a.modes a.ways.now)

-- one component
module _ (c : After-mode_count-unit) where
  inside : c.loop-k.k < entry c.args.index.now 1
  inside = omega arith

  long : entry c.args.index.now 1 ≤ length c.args.modes
  long =
      omega (arith, c.requires.good_index.0.few, c.well_formed.1.1.1.0.1.0.1)

  unit : c.loop-k.unit / c.mode_count-unit.result ≡ location_count (components_on c.args.s.now c.args.index.now (c.loop-k.k + 1))
  unit =
      let l = c.loop-k in
      unit-goes-on c.requires.good_index.0 c.args.modes long l.k c.mode_count-unit.result l.unit inside c.mode_count-unit.ensures l.invariant.0

  low : get_or c.args.modes c.loop-k.k 0 * (c.loop-k.unit / c.mode_count-unit.result) ≤ c.args.location
  low =
      let a = c.args in
      let p = c.requires in
      let k = c.loop-k.k in
      let part = mode-part p.good_index.0 a.modes long a.location p.location_bound.0 p.location_bound.1 k inside in
      omega (arith, part, ap (λ (u : ℕ). get_or a.modes k 0 * u) unit)

-- its part, as the laws have it
module _ (c : After-from) where
  part : Part
  part =
      let l = c.loop-k in
      let u = l.unit / c.mode_count-unit.result in
      record { k = l.k; mode = get_or c.args.modes l.k 0; e = 0; rest = c.args.location - c.from.result * u; unit = u }

  is : ◌≡◌ {A = Part} part (record { k = c.loop-k.k; mode = get_or c.args.modes c.loop-k.k 0; e = 0; rest = c.args.location - get_or c.args.modes c.loop-k.k 0 * location_count (components_on c.args.s.now c.args.index.now (c.loop-k.k + 1)); unit = location_count (components_on c.args.s.now c.args.index.now (c.loop-k.k + 1)) })
  unfolding part
  is =
      let a = c.args in
      let k = c.loop-k.k in
      let told = unit (goal.at.After-from c).After-mode_count-unit in
      λ i. record { k = k; mode = get_or a.modes k 0; e = 0; rest = a.location - c.from.ensures i * told i; unit = told i }

  -- what the component gives to the location's number
  below : c.from.result * (c.loop-k.unit / c.mode_count-unit.result) ≤ c.args.location
  below =
      omega (arith, low (goal.at.After-from c).After-mode_count-unit, ap (λ (m : ℕ). m * (c.loop-k.unit / c.mode_count-unit.result)) c.from.ensures)

pub nonzero_div-unit : goal.nonzero_div-unit
nonzero_div-unit c =
    omega (arith, c.mode_count-unit.ensures, (good-component c.requires.good_index.0 c.loop-k.k (inside c)).least)

pub overflow_mul-part : goal.overflow_mul-part
overflow_mul-part c = omega (arith, below c, c.ranges.location)

pub overflow_sub-part : goal.overflow_sub-part
overflow_sub-part c = omega (arith, below c)

pub list_leaving-at-requires-clause-good_index : goal.list_leaving-at-requires-clause-good_index
unfolding part
list_leaving-at-requires-clause-good_index c =
    let a = c.args in
    let p = c.requires in
    let here = (goal.at.list_leaving-at-requires-clause-good_index c).After-mode_count-unit in
    let now = (goal.at.list_leaving-at-requires-clause-good_index c).After-from in
    (p.good_index.0, silent-fits p.good_index.0 a.modes (long here) a.location p.location_bound.0 p.location_bound.1 c.loop-k.k (inside here) (part now) (is now) p.index_bound)

pub loop-k-preserved : goal.loop-k-preserved
unfolding part
loop-k-preserved c =
    let told = c.list_leaving-at in
    let here = (goal.at.loop-k-preserved c).After-mode_count-unit in
    let now = (goal.at.loop-k-preserved c).After-from in
    let a = c.args in
    let p = c.requires in
    let l = c.loop-k in (
      unit here,
      passed_on p.good_index.0 a.modes (long here) a.location p.location_bound.0 p.location_bound.1 l.k (inside here) (part now) (is now) l.at l.ways told.new.ways l.invariant.1 told.ensures.ways_at told.ensures.movers_at told.ensures.other_lines told.result told.ensures.value,
    )

pub returns : goal.returns
returns c =
    let a = c.args in
    let p = c.requires in
    let l = c.loop-k in
    let wide : entry a.index.now 1 ≤ length a.modes = omega (arith, p.good_index.0.few, c.well_formed.1.1.1.0.1.0.1) in
    listed-silent p.good_index.0 a.modes wide l.k l.at l.ways (replicate 4 0) (omega arith) (omega arith) l.invariant.1
