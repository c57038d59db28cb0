-- Both cases of the test. Assumes nothing.
use mathlib.Core.Path.{◌≡◌, refl, ap}
use mathlib.Core.Bool.{false}
use Prim.Native.Nat.{ℕ, ◌+◌, ◌*◌, ◌<◌}
use borrow.Author.Tests.{eq-eqb, ne_eqb}
use lib.Dec.{eqb}
use Rattle.formats.specs.Joint.{stays}
use Rattle.models.specs.Index.{entry, component_place}
use Rattle.steps.specs.Held.{move_holds}
use Rattle.steps.proofs.ValueLaws.{first-true, point-for, switch-place, switch-span, switch-told}
use Rattle.steps.proofs.values.move_holds.Goals.{After-switch_place-place, Else-i-eq255}
use Rattle.steps.proofs.values.move_holds.Goals as goal

pub returns-then-i-eq255 : goal.returns-then-i-eq255
unfolding move_holds stays
returns-then-i-eq255 c =
    let a = c.args in
    first-true (eqb a.i 255) _ (eq-eqb _ _ c.if-i-eq255.true)

-- the component moves by one of its switches
moves : (c : Else-i-eq255) → eqb c.args.i stays ≡ false
unfolding stays
moves c = ne_eqb _ _ c.if-i-eq255.false

known : (c : Else-i-eq255) → c.args.i < entry c.args.index.now (component_place c.args.k + 2)
known c = c.requires.k_bound.1 (moves c)

room : (c : After-switch_place-place) → c.switch_place-place.result + 1 < 1004
room c =
    switch-place c.requires.good_index.0 (entry c.args.index.now 0) c.args.k c.args.i c.switch_place-place.result c.requires.k_bound.0 (known (goal.at.After-switch_place-place c).Else-i-eq255) refl c.switch_place-place.ensures

pub condition_holds-requires : goal.condition_holds-requires
condition_holds-requires c =
    let w = switch-span c.requires.good_index.0 c.number_at.result c.args.k c.args.i c.switch_place-place.result c.requires.k_bound.0 (known (goal.at.condition_holds-requires c).Else-i-eq255) c.number_at.ensures c.switch_place-place.ensures in record { s_len_bound = (c.requires.good_index.1, (room (goal.at.condition_holds-requires c).After-switch_place-place, w)); small_point = (point-for (ap (λ (m : ℕ). 2 * m) c.number_at.ensures) c.requires.small_point.0, c.requires.small_point.1) }

pub returns : goal.returns
returns c =
    let n = c.number_at in
    switch-told c.requires.good_index.0 n.result c.args.k c.args.i c.switch_place-place.result c.requires.k_bound.0 (known (goal.at.returns c).Else-i-eq255) n.ensures c.switch_place-place.ensures c.args.q c.args.state.now c.condition_holds.result (moves (goal.at.returns c).Else-i-eq255) c.condition_holds.ensures
