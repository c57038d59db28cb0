-- By cases: in the scope or not. Assumes nothing.
use mathlib.Core.Path.{◌≡◌, sym, ap}
use mathlib.Core.List.{[], ◌∷◌}
use Prim.Native.Nat.{ℕ, ◌+◌, ◌*◌, ◌≤◌}
use native.Mathlib.Omega.{arith}
use lib.ListN.{length}
use Rattle.formats.specs.Joint.{stays}
use Rattle.models.specs.Counts.{component_at}
use Rattle.joint_switches.specs.Slots.{leaving_by, parts_by}
use Rattle.formats.proofs.JointCounts.{leaving-few, parts-member, parts-other}
use Rattle.models.proofs.GoodIndexLaws.{good-component}
use Rattle.joint_switches.proofs.LineLaws.{ways-same, stays-ways, others-line}
use Rattle.joint_switches.proofs.slots.list_part.Goals as goal

pub overflow_cast-result : goal.overflow_cast-result
overflow_cast-result c =
    let a = c.args in
    let p = c.requires in
    omega (arith, c.list_leaving.ensures.value, leaving-few (component_at a.s.now a.index.now a.part.k) a.part.mode a.part.e, (good-component p.good_index.0 a.part.k p.good_index.1.inside).few)

pub returns-then-in_scope : goal.returns-then-in_scope
returns-then-in_scope c =
    let a = c.args in
    let told = c.list_leaving.ensures in
    let same : parts_by a.s.now a.index.now a.part ≡ leaving_by a.s.now a.index.now a.part = parts-member (component_at a.s.now a.index.now a.part.k) a.part.mode a.part.e c.in_scope.ensures c.if-in_scope.true in record { value = omega (arith, told.value, ap length same); ways_at = ways-same same told.ways_at; other_lines = told.other_lines }

pub returns : goal.returns
unfolding stays
returns c =
    let a = c.args in
    let p = c.requires in
    let s = a.s.now in
    let index = a.index.now in
    let same : parts_by s index a.part ≡ stays ∷ [] = parts-other (component_at s index a.part.k) a.part.mode a.part.e c.in_scope.ensures c.if-in_scope.false in
    let inside : a.part.k + 1 ≤ 4 = omega (arith, p.good_index.0.few, p.good_index.1.inside) in
    let landing = a.part.rest + c.from.result * a.part.unit in
    let is : landing ≡ a.part.rest + a.part.mode * a.part.unit = ap (λ (m : ℕ). a.part.rest + m * a.part.unit) c.from.ensures in record { value = sym (ap length same); ways_at = ways-same same (stays-ways s index a.part landing a.ways.now (omega (arith, inside)) p.in_bounds is); other_lines = others-line (32 * a.part.k) (32 * a.part.k) (record { switch = stays; landing = landing; mover = a.part.k }) a.ways.now (omega arith) (omega arith) }
