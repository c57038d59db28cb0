-- The joint switches that are left, marked from here, are the whole. Assumes nothing.
use Rattle.std.proofs.Common.{rules, Err, ◌≡◌, refl, sym, ap, ◌∙◌}
use mathlib.Core.List.{List, ◌++◌}
use Prim.Native.Nat.{ℕ, ◌+◌, ◌<◌}
use native.Mathlib.Omega.{arith}
use lib.ListN.{length}
use Rattle.formats.specs.Locations.{location_count, modes_at}
use Rattle.models.specs.Index.{components_from, model_from}
use Rattle.models.proofs.IndexLaws.{kept-none, kept_then}
use Rattle.models.specs.Counts.{per_component}
use Rattle.papers.specs.Paper.{regions_of}
use Rattle.certificates.specs.declared.Leaving.{Leaving}
use Rattle.formats.specs.Rows.{Condition}
use Rattle.formats.specs.Joint.{switches_of, joints_of}
use Rattle.models.specs.Counts.{KnownSwitches}
use Rattle.hypotheses.specs.Listing.{Task, jump_tasks, joint_tasks_for, mark_tasks}
use Rattle.certificates.specs.Passed.{marked_from, Ready}
use Rattle.certificates.proofs.MarkLoops.{Comes, comes-same}
use Rattle.papers.proofs.LandedLaws.{landed-count, landed-known, landed-below}
use Rattle.certificates.proofs.JointMarks.{jumps_left, jumps-start, jumps-end, landing-next, part-on, part-stops, marked-end, ready-again}
use Rattle.certificates.proofs.joint_marks.mark_switches.Goals.{After-landing_at-landing, Start}
use Rattle.certificates.proofs.joint_marks.mark_switches.Goals as goal

ready : (s : Start) → Ready s.args.paper.model.now s.args.paper.index.now s.args.paper.second.now s.args.paper.regions.now s.args.listing.from s.args.table.now s.args.sums.now
ready s = s.requires.ready

-- how many joint switches there are
all : (s : Start) → s.args.listing.slot.count ≡ length (switches_of (components_from s.args.paper.model.now s.args.paper.index.now) (modes_at (components_from s.args.paper.model.now s.args.paper.index.now) s.args.listing.from.location) s.args.listing.slot.e)
all s = landed-count s.args.paper.good.good s.requires.stands.0 s.requires.stands.1.1 s.requires.stands.1.0

-- they are those of the event
event : (s : Start) → marked_from (jumps_left s.args.paper.model.now s.args.paper.index.now (regions_of s.args.paper.model.now s.args.paper.index.now s.args.paper.second.now s.args.paper.regions.now) s.args.listing.from.location s.args.listing.slot.e 0) s.args.paper.second.now s.args.listing.from.marking ≡ marked_from (joint_tasks_for s.args.paper.model.now s.args.paper.index.now s.args.paper.second.now s.args.paper.regions.now (joints_of (components_from s.args.paper.model.now s.args.paper.index.now) s.args.listing.from.location s.args.listing.slot.e)) s.args.paper.second.now s.args.listing.from.marking
event s = ap (λ (ts : List Task). marked_from ts s.args.paper.second.now s.args.listing.from.marking) (sym (jumps-start _ _ _ _ _))

pub loop-x-init : goal.loop-x-init
loop-x-init c =
    (omega arith, (ready (goal.at.loop-x-init c).Start, (refl, (kept-none _ 96 c.args.table.now, refl))))

pub landing_at-landing-requires : goal.landing_at-landing-requires
landing_at-landing-requires c = (c.requires.stands.1.0.ready, c.loop-x-test.true)

-- the joint switch that a turn finds
module _ (c : After-landing_at-landing) where
  abbrev model : List ℕ
  model = c.args.paper.model.now

  abbrev index : List ℕ
  index = c.args.paper.index.now

  abbrev at : Leaving
  at = c.args.listing.from

  abbrev e : ℕ
  e = c.args.listing.slot.e

  abbrev x : ℕ
  x = c.loop-x.x

  short : x < length (switches_of (components_from model index) (modes_at (components_from model index) at.location) e)
  short = omega (arith, c.loop-x-test.true, all (goal.at.After-landing_at-landing c).Start)

  known : KnownSwitches index c.landing_at-landing.result.switches
  known = landed-known c.args.paper.good.good c.requires.stands.0 c.requires.stands.1.1 c.requires.stands.1.0 x short c.landing_at-landing.ensures

  below : c.landing_at-landing.result.target < location_count (components_from model index)
  below = landed-below c.args.paper.good.good c.requires.stands.0 c.requires.stands.1.1 c.requires.stands.1.0 x short c.landing_at-landing.ensures

  abbrev region_at : ℕ → Condition
  region_at = regions_of model index c.args.paper.second.now c.args.paper.regions.now

  abbrev mine : List Task
  mine = jump_tasks (model_from model index) region_at at.location (per_component index c.landing_at-landing.result.switches) c.landing_at-landing.result.target

  come : Comes c.args.paper.second.now (mark_tasks (jumps_left model index region_at at.location e 0) c.args.paper.second.now at.marking.place at.marking.done) (mine ++ jumps_left model index region_at at.location e (x + 1)) c.loop-x.marking.place c.loop-x.marking.done
  come = comes-same _ _ _ _ (landing-next c.args.paper.good.good c.requires.stands.0 c.requires.stands.1.1 c.requires.stands.1.0 x short c.landing_at-landing.ensures region_at) c.loop-x.invariant.1.1.1.1

pub mark_switch-requires-clause-target_bound : goal.mark_switch-requires-clause-target_bound
mark_switch-requires-clause-target_bound c =
    let found = (goal.at.mark_switch-requires-clause-target_bound c).After-landing_at-landing in
    (below found, known found)

pub returns-in_err-marking-clause-value : goal.returns-in_err-marking-clause-value
returns-in_err-marking-clause-value c =
    let found = (goal.at.returns-in_err-marking-clause-value c).After-landing_at-landing in
    let same : c.from_residual.result ≡ Err c.in_err-marking.field-0.0 = search rules in
    part-stops (mine found) c.loop-x.invariant.1.0.underway c.mark_switch.ensures.value _ (come found) c.in_err-marking.was same ∙ event (goal.at.returns-in_err-marking-clause-value c).Start

pub returns-in_err-marking-clause-kept : goal.returns-in_err-marking-clause-kept
returns-in_err-marking-clause-kept c = kept_then c.loop-x.invariant.1.1.1.0 c.mark_switch.ensures.kept

pub loop-x-preserved : goal.loop-x-preserved
loop-x-preserved c =
    let found = (goal.at.loop-x-preserved c).After-landing_at-landing in
    let i = c.loop-x.invariant.1 in
    let k = c.mark_switch in
    let was = c.in_ok-marking.was in
    let same = k.auto.table in
    (omega (arith, c.loop-x-test.true), (ready-again (mine found) i.0 same k.ensures.kept c.in_ok-marking.ensures.fresh k.ensures.value was, (same ∙ i.1.0, (kept_then i.1.1.0 k.ensures.kept, part-on (mine found) i.0.underway k.ensures.value _ (come found) was))))

pub returns-clause-value : goal.returns-clause-value
returns-clause-value c =
    let s = (goal.at.returns-clause-value c).Start in
    marked-end _ _ (jumps-end _ _ _ _ _ c.loop-x.x (omega (arith, c.loop-x-test.false, all s))) c.loop-x.invariant.1.1.1.1 ∙ event s

pub returns-clause-fresh : goal.returns-clause-fresh
returns-clause-fresh c = c.loop-x.invariant.1.0.fresh

pub returns-clause-kept : goal.returns-clause-kept
returns-clause-kept c = c.loop-x.invariant.1.1.1.0
