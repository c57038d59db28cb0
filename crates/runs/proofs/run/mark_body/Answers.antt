-- The opening is read, its state tested, then the steps and the end. Assumes nothing.
use mathlib.Core.Bool.{not}
use mathlib.Core.Path.{◌≡◌, sym, ap, ◌∙◌}
use Prim.Native.Nat.{ℕ, ◌+◌, ◌*◌, ◌-◌, ◌≤◌}
use native.Mathlib.Omega.{arith}
use lib.ListN.{length, take, replicate}
use Rattle.std.specs.Prelude.{Result}
use Rattle.fields.specs.Causes.{number_of}
use Rattle.formats.specs.Reading.{got, refused}
use Rattle.models.specs.Index.{entry, model_from}
use Rattle.formats.specs.RunSheet.{read_opening}
use Rattle.papers.specs.Standing.{Stands}
use Rattle.steps.specs.Held.{state_in}
use Rattle.rules.specs.Marking.{close_run}
use Rattle.rules.proofs.MarkedRanges.{opening-place}
use Rattle.rules.proofs.ListFacts.{test-failed, test-passed}
use Rattle.papers.proofs.StandingLaws.{stands_at_lem}
use Rattle.second_sheets.proofs.StepLaws.{opening_of}
use Rattle.runs.specs.RunHeld.{marked_as, marked_body}
use Rattle.runs.specs.declared.RunMarked.{RunMarked}
use Rattle.runs.specs.declared.Stopped.{Stopped}
use Rattle.runs.proofs.RunCodeRead.{OpeningHeld, opening-known, opening-placed, opening-read, opening-refused, first-state}
use Rattle.runs.proofs.RunCode.{close-stopped, opening-stops, opening-fails, opening-runs}
use Rattle.runs.proofs.run.mark_body.Goals.{After-modes_at-modes, After-opening, After-mark_steps, In-Err, In-Ok}
use Rattle.runs.proofs.run.mark_body.Goals as goal

-- the opening was refused
cut : (c : In-Err) → read_opening (model_from c.args.model.now c.args.index.now) c.args.s.now c.args.body ≡ refused (number_of c.in-Err.refusal.0) c.in-Err.refusal.1
cut c =
    let a = c.args in
    let index = a.index.now in
    opening-refused index a.body (read_opening (model_from a.model.now index) a.s.now a.body) c.opening.new.values c.in-Err.refusal (c.in-Err.ensures.result_after ∙ opening_of a.model.now index a.s.now a.body c.location_count.result c.location_count.ensures)

pub second_refused-requires : goal.second_refused-requires
second_refused-requires c =
    omega (arith, opening-placed (model_from c.args.model.now c.args.index.now) c.args.s.now c.args.body _ c.in-Err.refusal.1 c.requires.body_in_bounds.0 (cut c), c.requires.body_in_bounds.1)

pub returns-in-Err : goal.returns-in-Err
returns-in-Err c =
    let a = c.args in
    let m = model_from a.model.now a.index.now in
    c.second_refused.ensures ∙ opening-stops m a.s.now (read_opening m a.s.now a.body) (number_of c.in-Err.refusal.0) c.in-Err.refusal.1 (cut (goal.at.returns-in-Err c).In-Err)

-- the opening that was read: its values are the first numbers of the slice, and it is in its ranges
reads : (c : In-Ok) → read_opening (model_from c.args.model.now c.args.index.now) c.args.s.now c.args.body ≡ got (record { q = c.in-Ok.read.0.q; steps = c.in-Ok.read.0.steps; place = c.args.body + 6; location = c.in-Ok.read.0.location; values = take (entry c.args.index.now 0) c.opening.new.values }) c.in-Ok.read.1
reads c =
    let a = c.args in
    let index = a.index.now in
    opening-read index a.body (read_opening (model_from a.model.now index) a.s.now a.body) c.opening.new.values c.in-Ok.read (c.in-Ok.ensures.result_after ∙ opening_of a.model.now index a.s.now a.body c.location_count.result c.location_count.ensures)

room : (c : After-opening) → 3 * entry c.args.index.now 0 ≤ length c.opening.new.values
room c =
    let p = c.requires in
    omega (arith, c.opening.auto.values, p.accepted.1, p.accepted.0.good.most)

held : (c : In-Ok) → OpeningHeld c.args.model.now c.args.index.now c.args.s.now c.opening.new.values c.in-Ok.read.0.q c.in-Ok.read.0.steps c.in-Ok.read.0.location c.in-Ok.read.1
held c =
    opening-known c.args.model.now c.args.index.now c.args.s.now c.args.body c.opening.new.values c.in-Ok.read.0.q c.in-Ok.read.0.steps (c.args.body + 6) c.in-Ok.read.0.location c.in-Ok.read.1 c.requires.body_in_bounds.0 (omega (arith, room (goal.at.In-Ok c).After-opening)) (reads c)

pub modes_at-modes-requires-clause-location_bound : goal.modes_at-modes-requires-clause-location_bound
modes_at-modes-requires-clause-location_bound c = (held (goal.at.modes_at-modes-requires-clause-location_bound c).In-Ok).located

-- the first location, with its modes
standing : (c : After-modes_at-modes) → Stands c.args.model.now c.args.index.now c.in-Ok.read.0.location c.modes_at-modes.result
standing c =
    let index = c.args.index.now in
    let rest = replicate {A = ℕ} (4 - entry index 1) 0 in
    stands_at_lem c.args.model.now index c.in-Ok.read.0.location c.modes_at-modes.result rest c.requires.accepted.0.good (held (goal.at.After-modes_at-modes c).In-Ok).located c.modes_at-modes.ensures

pub start_allowed-requires : goal.start_allowed-requires
start_allowed-requires c =
    let w = c.requires.accepted.0 in
    let k = held (goal.at.start_allowed-requires c).In-Ok in record { located = record { good = w.good; short = w.short; known = (standing c).known }; small_values = (k.small, k.below) }

-- the location byte stands in the sheet
pub second_refused-requires-then-not-start_allowed : goal.second_refused-requires-then-not-start_allowed
second_refused-requires-then-not-start_allowed c =
    omega (arith, opening-place _ _ _ _ _ c.requires.body_in_bounds.0 (reads (goal.at.second_refused-requires-then-not-start_allowed c).In-Ok), c.requires.body_in_bounds.1)

pub returns-then-not-start_allowed : goal.returns-then-not-start_allowed
returns-then-not-start_allowed c =
    let a = c.args in
    let model = a.model.now in
    let index = a.index.now in
    let m = model_from model index in
    let xs = c.opening.new.values in
    let read = c.in-Ok.read in
    let fails = test-failed c.start_allowed.result (ap not c.if-not-start_allowed.true) c.start_allowed.ensures in
    c.second_refused-then-not-start_allowed.ensures
    ∙ opening-fails m a.s.now (read_opening m a.s.now a.body) read.0.q read.0.steps (a.body + 6) read.0.location read.1 (take (entry index 0) xs) (reads (goal.at.returns-then-not-start_allowed c).In-Ok) (state_in model index c.modes_at-modes.result xs) (first-state read.0.location c.modes_at-modes.result xs c.requires.accepted.0.good (standing (goal.at.returns-then-not-start_allowed c).After-modes_at-modes)) fails

pub mark_steps-requires : goal.mark_steps-requires
mark_steps-requires c =
    let p = c.requires in
    let k = held (goal.at.mark_steps-requires c).In-Ok in record { accepted = (p.accepted.0, p.body_in_bounds.1); run_stands = record { known = (standing (goal.at.mark_steps-requires c).After-modes_at-modes).known; small = k.small; room = room (goal.at.mark_steps-requires c).After-opening; placed = k.placed }; q_bound = (k.below, omega (arith, k.few)) }

-- the steps and the end, whatever the steps come to
ends : (c : After-mark_steps) → close_run (model_from c.args.model.now c.args.index.now) c.in-Ok.read.0.q c.args.s.now (marked_as c.args.model.now c.args.index.now c.mark_steps.result c.mark_steps.new.state) ≡ marked_body c.args.model.now c.args.index.now c.args.s.now c.args.body
ends c =
    let a = c.args in
    let model = a.model.now in
    let index = a.index.now in
    let m = model_from model index in
    let xs = c.opening.new.values in
    let read = c.in-Ok.read in
    let passes = test-passed c.start_allowed.result (ap not c.if-not-start_allowed.false) c.start_allowed.ensures in
    ap (close_run m read.0.q a.s.now) c.mark_steps.ensures.state_after
    ∙ opening-runs m a.s.now (read_opening m a.s.now a.body) read.0.q read.0.steps (a.body + 6) read.0.location read.1 (take (entry index 0) xs) (reads (goal.at.After-mark_steps c).In-Ok) (state_in model index c.modes_at-modes.result xs) (first-state read.0.location c.modes_at-modes.result xs c.requires.accepted.0.good (standing (goal.at.After-mark_steps c).After-modes_at-modes)) passes

pub close_run-requires-clause-run_stands : goal.close_run-requires-clause-run_stands
close_run-requires-clause-run_stands c = (c.in-Ok-mark_steps.ensures.run_stands_2, (held (goal.at.close_run-requires-clause-run_stands c).In-Ok).below)

pub returns-in-Ok-mark_steps : goal.returns-in-Ok-mark_steps
returns-in-Ok-mark_steps c =
    let a = c.args in
    let m = model_from a.model.now a.index.now in
    c.close_run.ensures
    ∙ ap (λ (x : Result RunMarked Stopped). close_run m c.in-Ok.read.0.q a.s.now (marked_as a.model.now a.index.now x c.mark_steps.new.state)) (sym c.in-Ok-mark_steps.is)
    ∙ ends (goal.at.returns-in-Ok-mark_steps c).After-mark_steps

pub returns-in-Err-mark_steps : goal.returns-in-Err-mark_steps
returns-in-Err-mark_steps c =
    let a = c.args in
    let m = model_from a.model.now a.index.now in
    c.second_refused-in-Err-mark_steps.ensures
    ∙ close-stopped a.model.now a.index.now c.in-Ok.read.0.q a.s.now c.in-Err-mark_steps.stop c.mark_steps.new.state
    ∙ ap (λ (x : Result RunMarked Stopped). close_run m c.in-Ok.read.0.q a.s.now (marked_as a.model.now a.index.now x c.mark_steps.new.state)) (sym c.in-Err-mark_steps.is)
    ∙ ends (goal.at.returns-in-Err-mark_steps c).After-mark_steps
