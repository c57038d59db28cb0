-- The locations' proofs, then those of the joint switches, of which there may be none. Assumes nothing.
use Rattle.std.proofs.Common.{rules, Ok, Err}
use mathlib.Core.Path.{◌≡◌, refl, sym, ◌∙◌}
use mathlib.Core.List.{List, [], ◌++◌}
use native.Mathlib.Omega.{arith}
use Rattle.models.specs.Index.{entry, components_from, model_from}
use Rattle.papers.specs.Paper.{regions_of}
use Rattle.formats.specs.Joint.{count_up, join_all, joints}
use Rattle.hypotheses.specs.Listing.{Task, location_tasks, joint_tasks_for}
use Rattle.rules.specs.Marking.{Marked, mark_proofs}
use Rattle.papers.specs.Paper.{obligations_for}
use Rattle.certificates.specs.Passed.{stands_at, Underway}
use Rattle.certificates.specs.declared.Marking.{Marking}
use Rattle.certificates.proofs.FreshLaws.{no-segments}
use Rattle.certificates.proofs.MarkLoops.{Comes}
use Rattle.certificates.proofs.JointMarks.{all_come, part-on, part-stops, part-underway, marked-end}
use Rattle.certificates.proofs.RowlessLaws.{nothing_left, no-joints}
use Rattle.certificates.proofs.obligations.mark_obligations.Goals.{In_ok-marked, Start}
use Rattle.certificates.proofs.obligations.mark_obligations.Goals as goal

-- marking begins with nothing proved, and what it has to do is the locations' part and the rest
module _ (s : Start) where
  begins : Underway s.args.paper.second.now (record { place = s.args.at; done = 0 })
  begins = record { within = s.requires.locations_value.1; few = omega arith }

  abbrev first : List Task
  first = join_all (location_tasks (model_from s.args.paper.model.now s.args.paper.index.now) (regions_of s.args.paper.model.now s.args.paper.index.now s.args.paper.second.now s.args.paper.regions.now)) (count_up 0 s.args.locations)

  abbrev rest : List Task
  rest = joint_tasks_for s.args.paper.model.now s.args.paper.index.now s.args.paper.second.now s.args.paper.regions.now (joints (components_from s.args.paper.model.now s.args.paper.index.now))

  abbrev whole : Marked (Unit {0})
  whole = mark_proofs (obligations_for s.args.paper.model.now s.args.paper.index.now s.args.paper.second.now s.args.paper.regions.now s.args.locations) s.args.paper.second.now s.args.at 0

  all : Comes s.args.paper.second.now whole (first ++ rest) s.args.at 0
  all = all_come _ _ _ _ _ _ s.requires.locations_value.0

-- once the locations' proofs have passed, the rest comes
module _ (c : In_ok-marked) where
  abbrev k : Marking
  k = c.in_ok-marked.marked

  abbrev s : Start
  s = (goal.at.In_ok-marked c).Start

  rest-comes : Comes s.args.paper.second.now (whole s) (rest s) k.place k.done
  rest-comes = part-on (first s) (begins s) c.mark_locations.ensures.value (rest s) (all s) c.in_ok-marked.was

  over : rest s ≡ [] → stands_at (Ok k) ≡ whole s
  over e = marked-end _ k e rest-comes

pub mark_locations-requires-clause-in_bounds : goal.mark_locations-requires-clause-in_bounds
unfolding entry
mark_locations-requires-clause-in_bounds c = (omega arith, (no-segments _ refl, record { zeros = refl }))

pub returns-in_err-marked : goal.returns-in_err-marked
returns-in_err-marked c =
    let s = (goal.at.returns-in_err-marked c).Start in
    let same : c.from_residual.result ≡ Err c.in_err-marked.field-0.0 = search rules in
    part-stops _ (begins s) c.mark_locations.ensures.value _ (all s) c.in_err-marked.was same

pub returns-then-paper-eq0 : goal.returns-then-paper-eq0
unfolding entry
returns-then-paper-eq0 c =
    over (goal.at.returns-then-paper-eq0 c).In_ok-marked (no-joints _ _ _ _ (sym c.args.paper.good.counted.joined ∙ c.if-paper-eq0.true))

pub returns-then-no_rows : goal.returns-then-no_rows
returns-then-no_rows c =
    over (goal.at.returns-then-no_rows c).In_ok-marked (nothing_left _ _ c.args.paper.good.good c.args.locations c.requires.locations_value.0 (sym c.no_rows.ensures ∙ c.if-no_rows.true))

pub mark_joints-requires-clause-locations_value : goal.mark_joints-requires-clause-locations_value
mark_joints-requires-clause-locations_value c =
    (c.requires.locations_value.0, (part-underway _ (begins (goal.at.mark_joints-requires-clause-locations_value c).Start) c.mark_locations.ensures.value c.in_ok-marked.was, c.in_ok-marked.ensures.stacked.1))

pub returns : goal.returns
returns c = c.mark_joints.ensures ∙ rest-comes (goal.at.returns c).In_ok-marked
