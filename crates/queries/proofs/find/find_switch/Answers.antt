-- What is left of the event's joint switches begins with the one that the search stands at. Assumes nothing.
use mathlib.Core.Path.{◌≡◌, ap, ◌∙◌, subst}
use mathlib.Core.List.{List}
use Prim.Native.Nat.{ℕ, ◌+◌, ◌<◌}
use native.Mathlib.Omega.{arith}
use lib.ListN.{length}
use Rattle.formats.specs.Rows.{Condition}
use Rattle.formats.specs.Locations.{location_count, modes_at}
use Rattle.formats.specs.Joint.{joint_from, joints_of}
use Rattle.models.specs.Index.{components_from}
use Rattle.papers.specs.Paper.{regions_of}
use Rattle.queries.specs.Finding.{joint_here, SoughtInFor}
use Rattle.std.specs.declared.ops.ControlFlow.TheVariants.{Continue}
use Rattle.papers.specs.Standing.{Stands}
use Rattle.papers.proofs.LandedLaws.{stands-there, landed-count, landed-target, landed-below}
use Rattle.queries.proofs.FindLaws.{event_size, each-starts, each_on_lem, each-found, in-none}
use Rattle.queries.proofs.find.find_switch.Goals.{After-landing_at-landing, After-region_rows-goals, Start}
use Rattle.queries.proofs.find.find_switch.Goals as goal

-- the joint switches that the table lists
module _ (s : Start) where
  abbrev model : List ℕ
  model = s.args.paper.model.now

  abbrev index : List ℕ
  index = s.args.paper.index.now

  abbrev region_at : ℕ → Condition
  region_at = regions_of model index s.args.paper.second.now s.args.paper.regions.now

  abbrev size : ℕ
  size = event_size model index s.args.location s.args.slot.e

  stands : Stands model index s.args.location (modes_at (components_from model index) s.args.location)
  stands = stands-there s.args.paper.good.good s.args.location s.requires.location_bound.0

  counted : s.args.slot.count ≡ size
  counted = landed-count s.args.paper.good.good stands s.requires.e_bound.0 s.requires.location_bound.1

-- the one that a turn looks at
module _ (c : After-landing_at-landing) where
  abbrev at : ℕ
  at = c.loop-at.at

  here : at < size (goal.at.After-landing_at-landing c).Start
  here = omega (arith, c.loop-at-test.true, counted (goal.at.After-landing_at-landing c).Start)

  below : c.landing_at-landing.result.target < location_count (components_from (model (goal.at.After-landing_at-landing c).Start) (index (goal.at.After-landing_at-landing c).Start))
  below = landed-below c.args.paper.good.good (stands (goal.at.After-landing_at-landing c).Start) c.requires.e_bound.0 c.requires.location_bound.1 at here c.landing_at-landing.ensures

  leads : c.landing_at-landing.result.target ≡ (joint_here (model (goal.at.After-landing_at-landing c).Start) (index (goal.at.After-landing_at-landing c).Start) c.args.location c.args.slot.e at).target
  unfolding joint_here joint_from
  leads = landed-target c.args.paper.good.good (stands (goal.at.After-landing_at-landing c).Start) c.requires.e_bound.0 c.requires.location_bound.1 at here c.landing_at-landing.ensures

-- how many obligations it has
goals : (c : After-region_rows-goals) → c.region_rows-goals.result ≡ length (region_at (goal.at.After-region_rows-goals c).Start (joint_here (model (goal.at.After-region_rows-goals c).Start) (index (goal.at.After-region_rows-goals c).Start) c.args.location c.args.slot.e (at (goal.at.After-region_rows-goals c).After-landing_at-landing)).target)
goals c =
    let s = (goal.at.After-region_rows-goals c).Start in
    c.region_rows-goals.ensures ∙ ap (λ (t : ℕ). length (region_at s t)) (leads (goal.at.After-region_rows-goals c).After-landing_at-landing)

pub loop-at-init : goal.loop-at-init
loop-at-init c =
    let s = (goal.at.loop-at-init c).Start in
    (omega arith, each-starts (model s) (index s) (region_at s) c.args.location c.args.slot.e c.args.from.at c.args.from.left)

pub region_rows-goals-requires : goal.region_rows-goals-requires
region_rows-goals-requires c = record { location_bound = (below c) }

pub returns-then-left-goals : goal.returns-then-left-goals
returns-then-left-goals c =
    each-found _ _ _ _ (at (goal.at.returns-then-left-goals c).After-landing_at-landing) (here (goal.at.returns-then-left-goals c).After-landing_at-landing) c.loop-at.invariant.1 (goals (goal.at.returns-then-left-goals c).After-region_rows-goals) c.requires.location_bound.0 c.requires.e_bound.0 c.if-left-goals.true

pub loop-at-preserved : goal.loop-at-preserved
loop-at-preserved c =
    let h = here (goal.at.loop-at-preserved c).After-landing_at-landing in
    (omega (arith, h), each_on_lem _ _ _ _ (at (goal.at.loop-at-preserved c).After-landing_at-landing) h c.loop-at.invariant.1 (goals (goal.at.loop-at-preserved c).After-region_rows-goals) c.if-left-goals.false)

pub returns : goal.returns
returns c =
    let l = c.loop-at in
    let a = c.args in
    let all : l.at ≡ a.slot.count = omega (arith, l.invariant.0, c.loop-at-test.false) in
    subst (λ (k : ℕ). SoughtInFor a.paper.model.now a.paper.index.now a.paper.second.now a.paper.regions.now (joints_of (components_from a.paper.model.now a.paper.index.now) a.location a.slot.e) a.from (Continue (record { at = a.from.at + k; left = l.left }))) all
    (in-none _ _ _ (size (goal.at.returns c).Start) _ (omega (arith, c.loop-at-test.false, counted (goal.at.returns c).Start)) l.invariant.1)
