-- The location that it leaves, then where it lands, as its event's table lists it. Assumes nothing.
use mathlib.Core.Path.{◌≡◌, ap, ap₂, ◌∙◌}
use mathlib.Core.List.{List, ◌++◌}
use Prim.Native.Nat.{ℕ, ◌≤◌, ◌<◌}
use native.Mathlib.Omega.{arith}
use lib.ListN.{length}
use Rattle.formats.specs.Joint.{JointSwitch, joint_from}
use Rattle.formats.specs.Locations.{location_count}
use Rattle.models.specs.Index.{entry, components_from}
use Rattle.models.specs.Counts.{per_component, KnownSwitches}
use Rattle.joint_switches.specs.declared.Landing.{Landing}
use Rattle.joint_switches.specs.Slots.{Listed}
use Rattle.papers.specs.Standing.{Stands}
use Rattle.papers.proofs.StandingLaws.{stands_at_lem}
use Rattle.hypotheses.specs.Tables.{TableLine, lines_in}
use Rattle.hypotheses.specs.Listing.{landing_lines, jump_lines}
use Rattle.hypotheses.proofs.TableLaws.{pushed, lines_start}
use Rattle.queries.specs.Finding.{joint_here}
use Rattle.queries.proofs.HeldLaws.{jump-held}
use Rattle.papers.proofs.LandedLaws.{landed-count, landed-target, landed-below, landed-known, landed-first}
use borrow.Author.Rules.{rules}
use Rattle.queries.proofs.rows.joint_table.Goals.{After-landing_at-landing, After-modes_at-modes, After-modes_at-targets}
use Rattle.queries.proofs.rows.joint_table.Goals as goal

-- the location that the joint switch leaves
stands : (c : After-modes_at-modes) → Stands c.args.paper.model.now c.args.paper.index.now c.args.location c.modes_at-modes.result
stands c =
    let p = c.requires in
    stands_at_lem _ _ _ _ _ c.args.paper.good.good p.location_bound.0 c.modes_at-modes.ensures

-- where it lands, as the table tells it
module _ (c : After-landing_at-landing) where
  abbrev model : List ℕ
  model = c.args.paper.model.now

  abbrev index : List ℕ
  index = c.args.paper.index.now

  abbrev lands : Landing
  lands = c.landing_at-landing.result

  abbrev here : Stands model index c.args.location c.modes_at-modes.result
  here = stands (goal.at.After-landing_at-landing c).After-modes_at-modes

  abbrev listed : Listed model index c.modes_at-modes.result c.args.e c.list_slot-slot.new.ways c.list_slot-slot.result
  listed = c.list_slot-slot.ensures

  below : lands.target < location_count (components_from model index)
  below = landed-below c.args.paper.good.good here c.requires.location_bound.1.0 listed c.args.x c.requires.location_bound.1.1 c.landing_at-landing.ensures

  known : KnownSwitches index lands.switches
  known = landed-known c.args.paper.good.good here c.requires.location_bound.1.0 listed c.args.x c.requires.location_bound.1.1 c.landing_at-landing.ensures

  switches-length : length lands.switches ≡ 4
  switches-length = search rules

  same : record { source = c.args.location; event = c.args.e; switches = per_component index lands.switches; target = lands.target } ≡ joint_here model index c.args.location c.args.e c.args.x
  unfolding joint_here joint_from
  same =
      ap₂ {C = JointSwitch} (λ (t : ℕ) (ws : List ℕ). record { source = c.args.location; event = c.args.e; switches = ws; target = t })
      (landed-target c.args.paper.good.good here c.requires.location_bound.1.0 listed c.args.x c.requires.location_bound.1.1 c.landing_at-landing.ensures)
      (landed-first c.args.paper.good.good here c.requires.location_bound.1.0 listed c.args.x c.requires.location_bound.1.1 c.landing_at-landing.ensures)

there : (c : After-modes_at-targets) → Stands (model (goal.at.After-modes_at-targets c).After-landing_at-landing) (index (goal.at.After-modes_at-targets c).After-landing_at-landing) (lands (goal.at.After-modes_at-targets c).After-landing_at-landing).target c.modes_at-targets.result
there c =
    let s = (goal.at.After-modes_at-targets c).After-landing_at-landing in
    stands_at_lem _ _ _ _ _ c.args.paper.good.good (below s) c.modes_at-targets.ensures

pub list_slot-slot-requires-clause-location_bound : goal.list_slot-slot-requires-clause-location_bound
list_slot-slot-requires-clause-location_bound c = let p = c.requires in (p.location_bound.0, (stands (goal.at.list_slot-slot-requires-clause-location_bound c).After-modes_at-modes).here)

pub landing_at-landing-requires : goal.landing_at-landing-requires
landing_at-landing-requires c =
    let p = c.requires in
    let listed = c.list_slot-slot.ensures in
    (listed.ready, omega (arith, p.location_bound.1.1, landed-count c.args.paper.good.good (stands (goal.at.landing_at-landing-requires c).After-modes_at-modes) p.location_bound.1.0 listed))

pub modes_at-targets-requires-clause-location_bound : goal.modes_at-targets-requires-clause-location_bound
modes_at-targets-requires-clause-location_bound c = below (goal.at.modes_at-targets-requires-clause-location_bound c).After-landing_at-landing

pub push_here-here-requires-clause-location_bound : goal.push_here-here-requires-clause-location_bound
push_here-here-requires-clause-location_bound c = let p = c.requires in (p.location_bound.0, (stands (goal.at.push_here-here-requires-clause-location_bound c).After-modes_at-modes).known)

pub jump_table-requires-clause-good_index : goal.jump_table-requires-clause-good_index
jump_table-requires-clause-good_index c =
    (c.args.paper.good.good, (c.args.paper.good.short, ((there (goal.at.jump_table-requires-clause-good_index c).After-modes_at-targets).known, known (goal.at.jump_table-requires-clause-good_index c).After-landing_at-landing)))

pub returns-clause-joint_held : goal.returns-clause-joint_held
unfolding entry jump_lines
returns-clause-joint_held c =
    let s = (goal.at.returns-clause-joint_held c).After-landing_at-landing in
    let a = c.args in
    let good = c.args.paper.good.good in
    let modes = c.modes_at-modes in
    let targets = c.modes_at-targets in
    let pushed-here = c.push_here-here in
    let made = c.jump_table in
    let long : entry (index s) 1 ≤ length modes.result = omega (arith, good.few, modes.type_inv) in
    let wide : entry (index s) 1 ≤ length targets.result = omega (arith, good.few, targets.type_inv) in
    let broad : entry (index s) 1 ≤ length (lands s).switches = omega (arith, good.few, switches-length s) in
    let lines : lines_in _ made.result ≡ jump_lines (model s) (index s) a.paper.regions.now a.location (per_component (index s) modes.result) (per_component (index s) targets.result) (lands s).switches =
    made.ensures.result_after ∙ ap (λ (ls : List TableLine). ls ++ landing_lines (model s) (index s) (per_component (index s) targets.result) (lands s).switches) (lines_start (pushed (pushed-here.ensures.result_after, pushed-here.ensures.onto))) in
    let held = jump-held (model s) (index s) a.paper.second.now a.paper.regions.now modes.result a.location long (here s) _ made.result (lands s).target a.e targets.result (lands s).switches wide (there (goal.at.returns-clause-joint_held c).After-modes_at-targets) broad (known s) good lines _ (same s) in held
