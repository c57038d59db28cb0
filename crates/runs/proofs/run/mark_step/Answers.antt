-- The step is read behind the values before it, then tested, then its values take the place of those. Assumes nothing.
use mathlib.Core.Bool.{not}
use mathlib.Core.Path.{◌≡◌, sym, ap, ◌∙◌, subst}
use mathlib.Core.List.{List, ◌++◌}
use Prim.Native.Nat.{ℕ, ◌*◌, ◌-◌, ◌≤◌}
use native.Mathlib.Omega.{arith}
use borrow.Author.Rules.{rules}
use lib.IntN.{ℤ}
use lib.ListN.{length, take, drop, length-drop}
use Rattle.std.specs.Prelude.{Ok, Err}
use Rattle.fields.specs.declared.Refusal.{Refusal}
use Rattle.fields.specs.Causes.{number_of}
use Rattle.formats.specs.Reading.{got, refused}
use Rattle.models.specs.Index.{entry, model_from}
use Rattle.formats.specs.RunSheet.{read_step}
use Rattle.rules.specs.Runs.{State, after, step_allowed}
use Rattle.papers.specs.Standing.{KnownModes}
use Rattle.second_sheets.specs.RunAnswers.{step_of}
use Rattle.steps.specs.Held.{per_variable, SmallValues, state_in, KnownStep, step_with}
use Rattle.runs.specs.RunHeld.{StopStands}
use Rattle.rules.proofs.ListFacts.{test-failed, test-passed}
use Rattle.steps.proofs.JumpLaws.{next_known, step-leads}
use Rattle.steps.proofs.SliceLaws.{moved-taken}
use Rattle.runs.proofs.RunCodeRead.{step-known, step-read, step-refused, step_small}
use Rattle.runs.proofs.RunSlice.{Lent, lent_back, small-state, state-kept, kept-before, kept-after, small-first}
use Rattle.runs.proofs.RunCode.{mark-refused, refused-placed, step-placed, mark-failed, mark-passed}
use Rattle.runs.proofs.run.mark_step.Goals.{After-map_err, After-step_allowed, After-from_residual, In_ok-by, Start}
use Rattle.runs.proofs.run.mark_step.Goals as goal

modes-length : (c : Start) → length c.args.run.modes ≡ 4
modes-length c = search rules

long : (c : Start) → entry c.args.index.now 1 ≤ length c.args.run.modes
long c = omega (arith, modes-length c, c.requires.accepted.0.good.few)

-- the slice after the reading: the values before, and the part that was lent
abbrev between : After-map_err → List ℤ
between c =
    let old = c.args.state.now in
    let n = c.number_at-n.result in
    take n old ++ (c.step.new.values ++ drop (length old - n) (drop n old))

lent : (c : After-map_err) → Lent (entry c.args.index.now 0) c.args.state.now (between c) c.step.new.values
lent c =
    let n = c.number_at-n in
    lent_back (entry c.args.index.now 0) n.result c.args.state.now c.step.new.values n.ensures c.requires.run_stands.small.long c.step.auto.values

-- the step that was read, with its values behind those before
was-read : (c : In_ok-by) → c.step.result ≡ Ok (c.in_ok-by.by, c.in_ok-by.place)
was-read c = search rules

step_is : (c : In_ok-by) → read_step (model_from c.args.model.now c.args.index.now) c.args.s.now c.args.run.place ≡ got (step_with c.args.index.now c.in_ok-by.by (between (goal.at.In_ok-by c).After-map_err)) c.in_ok-by.place
step_is c =
    let a = c.args in
    let model = a.model.now in
    let index = a.index.now in
    let read = c.step in
    step-read index (read_step (model_from model index) a.s.now a.run.place) read.new.values (read.ensures.by_index model) (was-read c)
    ∙ ap (λ (xs : List ℤ). got (step_of (entry index 1) c.in_ok-by.by (per_variable index xs)) c.in_ok-by.place) (sym (lent (goal.at.In_ok-by c).After-map_err).rest)

known : (c : In_ok-by) → KnownStep c.args.index.now c.in_ok-by.by
known c =
    step-known c.requires.accepted.0.good c.args.s.now c.args.run.place (c.step.ensures.by_index_2 c.args.model.now) (was-read c)

young : (c : In_ok-by) → SmallValues (entry c.args.index.now 0) (drop (entry c.args.index.now 0) (between (goal.at.In_ok-by c).After-map_err))
young c =
    let a = c.args in
    let index = a.index.now in
    let n = entry index 0 in
    step_small a.model.now index a.s.now a.run.place c.in_ok-by.by (drop n (between (goal.at.In_ok-by c).After-map_err)) c.in_ok-by.place (step_is c) (omega (arith, length-drop n (between (goal.at.In_ok-by c).After-map_err), (lent (goal.at.In_ok-by c).After-map_err).whole, c.requires.run_stands.room))

pub modes_after-targets-requires : goal.modes_after-targets-requires
modes_after-targets-requires c = (c.requires.accepted.0.good, known (goal.at.modes_after-targets-requires c).In_ok-by)

pub step_allowed-requires : goal.step_allowed-requires
step_allowed-requires c =
    let p = c.requires in
    let stands = p.run_stands in
    let new = subst (SmallValues _) (lent (goal.at.step_allowed-requires c).After-map_err).rest (young (goal.at.step_allowed-requires c).In_ok-by) in record { located = (record { good = p.accepted.0.good; short = p.accepted.0.short; known = stands.known }, known (goal.at.step_allowed-requires c).In_ok-by); targets_value = c.modes_after-targets.ensures; small_state = (small-state (lent (goal.at.step_allowed-requires c).After-map_err) stands.small new stands.room, p.q_bound.0) }

-- the test of the step, from the values before
allowed : (c : After-step_allowed) → c.step_allowed.result ≡ step_allowed (model_from c.args.model.now c.args.index.now) c.args.q (state_in c.args.model.now c.args.index.now c.args.run.modes c.args.state.now) (step_with c.args.index.now c.in_ok-by.by (between (goal.at.After-step_allowed c).After-map_err))
allowed c =
    let a = c.args in
    let model = a.model.now in
    let index = a.index.now in
    let by = c.in_ok-by.by in
    c.step_allowed.ensures.value
    ∙ ap (λ (x : State). step_allowed (model_from model index) a.q x (step_with index by (between (goal.at.After-step_allowed c).After-map_err))) (state-kept model index a.run.modes (between (goal.at.After-step_allowed c).After-map_err) a.state.now (lent (goal.at.After-step_allowed c).After-map_err).front)

-- after a refusal the values before are still there
stopped : (c : After-map_err) (left : List ℤ) (refusal : Refusal) → take (entry c.args.index.now 0) left ≡ take (entry c.args.index.now 0) c.args.state.now → length left ≡ length c.args.state.now → refusal.1 ≤ length c.args.s.now → StopStands c.args.index.now c.args.s.now (record { refusal = refusal; done = c.args.run.done }) left
stopped c left refusal front same placed =
    let stands = c.requires.run_stands in record { small = small-first front (omega (arith, same, stands.small.long)) stands.small; room = omega (arith, same, stands.room); placed = placed }

pub returns-then-not-step_allowed : goal.returns-then-not-step_allowed
returns-then-not-step_allowed c =
    let a = c.args in
    let stands = c.requires.run_stands in
    let index = a.index.now in
    let before = (goal.at.returns-then-not-step_allowed c).After-map_err in
    let left = c.step_allowed.new.state in
    let fails = test-failed c.step_allowed.result (ap not c.if-not-step_allowed.true) (allowed (goal.at.returns-then-not-step_allowed c).After-step_allowed) in record {
      state_after = mark-failed a.model.now index a.q a.s.now a.run a.state.now (step_with index c.in_ok-by.by (between before)) c.in_ok-by.place (step_is (goal.at.returns-then-not-step_allowed c).In_ok-by) fails left;
      run_stands_2 = tt;
      stop_stands = stopped before left _ (kept-before (entry index 0) c.step_allowed.ensures.kept_values ∙ (lent before).front) (c.step_allowed.auto.state ∙ (lent before).whole) stands.placed;
    }

-- the step was refused
same : (c : After-from_residual) → c.from_residual.result ≡ Err (record { refusal = c.in_err-by.field-0.0.refusal; done = c.args.run.done })
same c = search rules

cut : (c : After-from_residual) → read_step (model_from c.args.model.now c.args.index.now) c.args.s.now c.args.run.place ≡ refused (number_of c.in_err-by.field-0.0.refusal.0) c.in_err-by.field-0.0.refusal.1
cut c =
    let a = c.args in
    let m = model_from a.model.now a.index.now in
    let was : c.step.result ≡ Err c.in_err-by.field-0.0.refusal = search rules in
    step-refused a.index.now (read_step m a.s.now a.run.place) c.step.new.values (c.step.ensures.by_index a.model.now) was

pub returns-in_err-by : goal.returns-in_err-by
returns-in_err-by c =
    let a = c.args in
    let stands = c.requires.run_stands in
    let before = (goal.at.returns-in_err-by c).After-map_err in
    let l = lent before in record {
      state_after = rw (same c) (mark-refused a.model.now a.index.now a.q a.s.now a.run a.state.now c.in_err-by.field-0.0.refusal (cut c) (between before));
      run_stands_2 = rw (same c) tt;
      stop_stands = rw (same c) (stopped before (between before) c.in_err-by.field-0.0.refusal l.front l.whole (refused-placed a.model.now a.index.now a.q a.s.now a.run a.state.now stands.placed (cut c)));
    }

pub returns : goal.returns
returns c =
    let a = c.args in
    let p = c.requires in
    let stands = p.run_stands in
    let model = a.model.now in
    let index = a.index.now in
    let n = entry index 0 in
    let modes = c.modes_after-targets in
    let left = c.step_allowed.new.state in
    let kept = c.keep_values in
    let last = kept.new.state in
    let same : length left ≡ length (between (goal.at.returns c).After-map_err) = c.step_allowed.auto.state in
    let room : 2 * n ≤ length (between (goal.at.returns c).After-map_err) = omega (arith, (lent (goal.at.returns c).After-map_err).whole, stands.room) in
    let moved : take n last ≡ take n (drop n (between (goal.at.returns c).After-map_err)) = ap (take n) kept.ensures ∙ moved-taken n left (omega (arith, same, room)) ∙ kept-after n c.step_allowed.ensures.kept_values room same in
    let whole : length last ≡ length a.state.now = kept.auto.state ∙ same ∙ (lent (goal.at.returns c).After-map_err).whole in
    let passes = test-passed c.step_allowed.result (ap not c.if-not-step_allowed.false) (allowed (goal.at.returns c).After-step_allowed) in
    let good = p.accepted.0.good in
    let step = step_with index c.in_ok-by.by (between (goal.at.returns c).After-map_err) in
    let leads : state_in model index modes.result last ≡ after (model_from model index) (state_in model index a.run.modes a.state.now) step =
    state-kept model index modes.result last (drop n (between (goal.at.returns c).After-map_err)) moved
    ∙ ap (λ (ms : List ℕ). state_in model index ms (drop n (between (goal.at.returns c).After-map_err))) modes.ensures
    ∙ step-leads good a.run.modes stands.known (long (goal.at.returns c).Start) c.in_ok-by.by (known (goal.at.returns c).In_ok-by) (between (goal.at.returns c).After-map_err)
    ∙ ap (λ (x : State). after (model_from model index) x step) (state-kept model index a.run.modes (between (goal.at.returns c).After-map_err) a.state.now (lent (goal.at.returns c).After-map_err).front) in record {
      state_after = mark-passed model index a.q a.s.now a.run a.state.now step c.in_ok-by.place (step_is (goal.at.returns c).In_ok-by) modes.result last passes leads;
      run_stands_2 = record {
        known = subst (KnownModes index) (sym modes.ensures) (next_known good a.run.modes stands.known (long (goal.at.returns c).Start) c.in_ok-by.by (known (goal.at.returns c).In_ok-by));
        small = small-first moved (omega (arith, whole, stands.small.long)) (young (goal.at.returns c).In_ok-by);
        room = omega (arith, whole, stands.room);
        placed = step-placed model index a.q a.s.now a.run a.state.now step c.in_ok-by.place stands.placed (step_is (goal.at.returns c).In_ok-by);
      };
      stop_stands = tt;
    }
