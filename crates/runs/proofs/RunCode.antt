-- Run sheets as the code marks them: one step and then the next, the end, the opening, and how the parts of an answer make the
-- whole. Assumes nothing.
use mathlib.Core.Path.{◌≡◌, refl, sym, ap, ◌∙◌, subst}
use mathlib.Core.Bool.{Bool, true, false, cond}
use mathlib.Core.List.{List}
use Prim.Native.Nat.{ℕ, zero, suc, ◌+◌, ◌≤◌}
use native.Mathlib.Numerals.{add-one}
use native.Mathlib.Omega.{arith}
use lib.Arith.{le-zero}
use lib.IntN.{ℤ}
use lib.ListN.{length}
use Rattle.formats.specs.Reading.{Got, got, refused, finished}
use Rattle.formats.specs.Model.{Model}
use Rattle.formats.specs.declared.Limits.{Limits}
use Rattle.formats.specs.RunSheet.{Step, Opening, read_opening, read_step}
use Rattle.formats.proofs.Placed.{Fine, placed-finished, placed-step}
use Rattle.rules.specs.declared.Answer.{Answer}
use Rattle.std.specs.Prelude.{Result, Ok, Err}
use Rattle.fields.specs.declared.Refusal.{Refusal}
use Rattle.fields.specs.declared.Cause.TheVariants as cause
use Rattle.fields.specs.Causes.{number_of}
use Rattle.fields.specs.Answers.{got_as}
use Rattle.runs.specs.declared.RunMarked.{RunMarked}
use Rattle.runs.specs.declared.Stopped.{Stopped}
use Rattle.rules.specs.Runs.{State, start_allowed, after, step_allowed, is_unsafe}
use Rattle.steps.specs.Held.{state_in}
use Rattle.runs.specs.RunHeld.{marked_as, steps_from}
use Rattle.rules.specs.Marking.{answer, Marked, passed, stopped, with_model, test_step, mark_step, mark_steps, close_run, first_state, mark_opening, mark_run}
use Rattle.papers.specs.Opening.{paper_answer, opened, Open}
use Rattle.models.specs.Index.{model_from}
use Rattle.rules.proofs.Calls.{run_by}
use Rattle.papers.proofs.OpenLaws.{numbered, open-refused, open-goes-on, opened-answer}

-- One step: what its test comes to, and the marking after it
unfoldable after_step : Model → State → ℕ → Got Step → Marked State
after_step m s done (got t next) = passed (after m s t) next (suc done)
after_step m s done (refused number at) = stopped number at done

unfoldable step_then : Model → ℕ → State → ℕ → List ℕ → ℕ → Got Step → Marked State
step_then m q s n sheet done (got t next) = mark_steps m q (after m s t) n sheet next (suc done)
step_then m q s n sheet done (refused number at) = stopped number at done

one-step : (m : Model) (q : ℕ) (s : State) (sheet : List ℕ) (place done : ℕ) → mark_steps m q s 1 sheet place done ≡ after_step m s done (mark_step m q s sheet place)
unfolding mark_steps after_step
one-step m q s sheet place done = go (mark_step m q s sheet place)
  where
    go : (g : Got Step) → (elim g as (λ _. Marked State) [ got t next ↦ mark_steps m q (after m s t) zero sheet next (suc done) | refused number at ↦ stopped number at done ]) ≡ after_step m s done g
    go (got t next) = refl
    go (refused number at) = refl

more-steps : (m : Model) (q : ℕ) (s : State) (n : ℕ) (sheet : List ℕ) (place done : ℕ) → mark_steps m q s (suc n) sheet place done ≡ step_then m q s n sheet done (mark_step m q s sheet place)
unfolding mark_steps step_then
more-steps m q s n sheet place done = go (mark_step m q s sheet place)
  where
    go : (g : Got Step) → (elim g as (λ _. Marked State) [ got t next ↦ mark_steps m q (after m s t) n sheet next (suc done) | refused number at ↦ stopped number at done ]) ≡ step_then m q s n sheet done g
    go (got t next) = refl
    go (refused number at) = refl

module _ (m : Model) (q : ℕ) (s : State) (sheet : List ℕ) (place : ℕ) where
  step-fine : {g : Got Step} → place ≤ length sheet → read_step m sheet place ≡ g → Fine sheet place g
  step-fine h e = subst (λ x. Fine sheet place x) e ((placed-step {least = 0} m).fine sheet place (omega arith) h)

  tested-refused : (number at : ℕ) → read_step m sheet place ≡ refused number at → mark_step m q s sheet place ≡ refused number at
  unfolding mark_step test_step
  tested-refused number at e = ap (test_step m q s place) e

  tested-failed : (t : Step) (next : ℕ) → read_step m sheet place ≡ got t next → false ≡ step_allowed m q s t → mark_step m q s sheet place ≡ refused 13 place
  unfolding mark_step test_step
  tested-failed t next e p = ap (test_step m q s place) e ∙ ap (λ b. cond b (got t next) (refused 13 place)) (sym p)

  tested-passed : (t : Step) (next : ℕ) → read_step m sheet place ≡ got t next → true ≡ step_allowed m q s t → mark_step m q s sheet place ≡ got t next
  unfolding mark_step test_step
  tested-passed t next e p = ap (test_step m q s place) e ∙ ap (λ b. cond b (got t next) (refused 13 place)) (sym p)

-- one step from where a run stands
module _ (model index : List ℕ) (q : ℕ) (sheet : List ℕ) (r : RunMarked) (state : List ℤ) where
  abbrev m : Model
  m = model_from model index

  abbrev Here : State
  Here = state_in model index r.modes state

  -- stopped there, whatever the slice has then
  stops : (w : Refusal) → mark_step m q Here sheet r.place ≡ refused (number_of w.0) w.1 → (left : List ℤ) → marked_as model index (Err (record { refusal = w; done = r.done })) left ≡ steps_from model index q r state 1 sheet
  unfolding after_step marked_as
  stops w e left = sym (one-step m q Here sheet r.place r.done ∙ ap (after_step m Here r.done) e)

  pub mark-refused : (w : Refusal) → read_step m sheet r.place ≡ refused (number_of w.0) w.1 → (left : List ℤ) → marked_as model index (Err (record { refusal = w; done = r.done })) left ≡ steps_from model index q r state 1 sheet
  mark-refused w e left = stops w (tested-refused m q Here sheet r.place (number_of w.0) w.1 e) left

  pub refused-placed : {number at : ℕ} → r.place ≤ length sheet → read_step m sheet r.place ≡ refused number at → at ≤ length sheet
  refused-placed h e = (step-fine m q Here sheet r.place h e).2

  pub step-placed : (t : Step) (next : ℕ) → r.place ≤ length sheet → read_step m sheet r.place ≡ got t next → next ≤ length sheet
  step-placed t next h e = (step-fine m q Here sheet r.place h e).1

  module _ (t : Step) (next : ℕ) (reads : read_step m sheet r.place ≡ got t next) where
    pub mark-failed : false ≡ step_allowed m q (state_in model index r.modes state) t → (left : List ℤ) → marked_as model index (Err (record { refusal = (cause.Step, r.place); done = r.done })) left ≡ steps_from model index q r state 1 sheet
    mark-failed p left = stops ((cause.Step, r.place)) (tested-failed m q Here sheet r.place t next reads p) left

    pub mark-passed : (modes : List ℕ) (left : List ℤ) → true ≡ step_allowed m q (state_in model index r.modes state) t → state_in model index modes left ≡ after m (state_in model index r.modes state) t → marked_as model index (Ok (record { place = next; done = r.done + 1; modes = modes })) left ≡ steps_from model index q r state 1 sheet
    unfolding after_step marked_as
    mark-passed modes left p e =
        ap (λ v. passed v next (r.done + 1)) e
        ∙ ap (λ (d : ℕ). passed (after m Here t) next d) (add-one r.done)
        ∙ sym (one-step m q Here sheet r.place r.done ∙ ap (after_step m Here r.done) (tested-passed m q Here sheet r.place t next reads p))

-- One step after the other
then-on : (m : Model) (q : ℕ) (s : State) (n : ℕ) (sheet : List ℕ) (done : ℕ) (g : Got Step) {t : State} {p d : ℕ} → after_step m s done g ≡ passed t p d → step_then m q s n sheet done g ≡ mark_steps m q t n sheet p d
unfolding after_step step_then
then-on m q s n sheet done (got x next) {t} {p} {d} w =
    let a : after m s x ≡ t = cc in
    let b : next ≡ p = cc in
    let c : suc done ≡ d = cc in
    λ i. mark_steps m q (a i) n sheet (b i) (c i)
then-on m q s n sheet done (refused number at) w = let z : ◌≡◌ {A = ℕ} 0 1 = cc in absurd (omega arith)

then-stop : (m : Model) (q : ℕ) (s : State) (n : ℕ) (sheet : List ℕ) (done : ℕ) (g : Got Step) {number at d : ℕ} → after_step m s done g ≡ stopped number at d → step_then m q s n sheet done g ≡ stopped number at d
unfolding after_step step_then
then-stop m q s n sheet done (got x next) w = let z : ◌≡◌ {A = ℕ} 0 1 = cc in absurd (omega arith)
then-stop m q s n sheet done (refused number at) w = w

-- a step that passed is one more
after_one : (m : Model) (s : State) (done : ℕ) (g : Got Step) {t : State} {p d : ℕ} → after_step m s done g ≡ passed t p d → d ≡ done + 1
unfolding after_step
after_one m s done (got x next) {d = d} w = let c : suc done ≡ d = cc in omega arith
after_one m s done (refused number at) w = let z : ◌≡◌ {A = ℕ} 0 1 = cc in absurd (omega arith)

-- what is still to come from where a run stands, one step and so many more, is what the whole comes to
module _ (model index : List ℕ) (q : ℕ) (sheet : List ℕ) {whole : Marked State} (before : RunMarked) (state : List ℤ) {left n : ℕ} (more : left ≡ suc n) (from : steps_from model index q before state left sheet ≡ whole) where
  abbrev stood : State
  stood = state_in model index before.modes state

  abbrev stepped : Got Step
  stepped = mark_step (model_from model index) q stood sheet before.place

  split : steps_from model index q before state left sheet ≡ step_then (model_from model index) q stood n sheet before.done stepped
  split =
      ap (λ (k : ℕ). steps_from model index q before state k sheet) more
      ∙ more-steps (model_from model index) q stood n sheet before.place before.done

  module _ (reached : List ℤ) where
    taken : (r : Result RunMarked Stopped) → marked_as model index r reached ≡ steps_from model index q before state 1 sheet → after_step (model_from model index) stood before.done stepped ≡ marked_as model index r reached
    taken r one = sym (one-step (model_from model index) q stood sheet before.place before.done) ∙ sym one

    pub steps-go-on : (r : RunMarked) → marked_as model index (Ok r) reached ≡ steps_from model index q before state 1 sheet → steps_from model index q r reached n sheet ≡ whole
    unfolding marked_as
    steps-go-on r one = sym (then-on (model_from model index) q stood n sheet before.done stepped (taken (Ok r) one)) ∙ sym split ∙ from

    pub steps-stop : (s : Stopped) → marked_as model index (Err s) reached ≡ steps_from model index q before state 1 sheet → marked_as model index (Err s) reached ≡ whole
    unfolding marked_as
    steps-stop s one = sym (then-stop (model_from model index) q stood n sheet before.done stepped (taken (Err s) one)) ∙ sym split ∙ from

    pub one-done : (r : RunMarked) → marked_as model index (Ok r) reached ≡ steps_from model index q before state 1 sheet → r.done ≡ before.done + 1
    unfolding marked_as
    one-done r one = after_one (model_from model index) stood before.done stepped (taken (Ok r) one)

pub steps-end : (model index : List ℕ) (q : ℕ) (sheet : List ℕ) {whole : Marked State} (r : RunMarked) (state : List ℤ) {left : ℕ} → left ≤ 0 → steps_from model index q r state left sheet ≡ whole → marked_as model index (Ok r) state ≡ whole
unfolding mark_steps marked_as
steps-end model index q sheet r state h from = sym (ap (λ (n : ℕ). steps_from model index q r state n sheet) (le-zero h)) ∙ from

-- The end of a run
unfoldable ended : Model → ℕ → State → List ℕ → ℕ → Got (Unit {0}) → Answer
ended m q s sheet done (got v next) = cond (is_unsafe m q s) (answer 0 1 (length sheet) done 100) (answer 14 1 (length sheet) done 0)
ended m q s sheet done (refused number at) = answer number 1 at done 0

close_passed : (m : Model) (q : ℕ) (sheet : List ℕ) (s : State) (place done : ℕ) → close_run m q sheet (passed s place done) ≡ ended m q s sheet done (finished sheet place)
unfolding close_run ended
close_passed m q sheet s place done = go (finished sheet place)
  where
    go : (g : Got (Unit {0})) → (elim g as (λ _. Answer) [ got v next ↦ cond (is_unsafe m q s) (answer 0 1 (length sheet) done 100) (answer 14 1 (length sheet) done 0) | refused number at ↦ answer number 1 at done 0 ]) ≡ ended m q s sheet done g
    go (got v next) = refl
    go (refused number at) = refl

pub close-stopped : (model index : List ℕ) (q : ℕ) (sheet : List ℕ) (stop : Stopped) (state : List ℤ) → answer (number_of stop.refusal.0) 1 stop.refusal.1 stop.done 0 ≡ close_run (model_from model index) q sheet (marked_as model index (Err stop) state)
unfolding close_run marked_as
close-stopped model index q sheet stop state = refl

module _ (model index : List ℕ) (q : ℕ) (sheet : List ℕ) (r : RunMarked) (state : List ℤ) where
  close-by : (g : Got (Unit {0})) → finished sheet r.place ≡ g → close_run (model_from model index) q sheet (marked_as model index (Ok r) state) ≡ ended (model_from model index) q (state_in model index r.modes state) sheet r.done g
  unfolding marked_as
  close-by g e =
      close_passed (model_from model index) q sheet (state_in model index r.modes state) r.place r.done
      ∙ ap (ended (model_from model index) q (state_in model index r.modes state) sheet r.done) e

  pub close-left : (w : Refusal) → got_as tt (Err w) ≡ finished sheet r.place → answer (number_of w.0) 1 w.1 r.done 0 ≡ close_run (model_from model index) q sheet (marked_as model index (Ok r) state)
  unfolding ended got_as
  close-left w e = sym (close-by (refused (number_of w.0) w.1) (sym e))

  pub left-placed : (w : Refusal) → r.place ≤ length sheet → got_as tt (Err w) ≡ finished sheet r.place → w.1 ≤ length sheet
  unfolding got_as
  left-placed w h e = (subst (λ x. Fine sheet r.place x) (sym e) ((placed-finished {least = 0}).fine sheet r.place (omega arith) h)).2

  module _ (next : ℕ) (end : got_as tt (Ok next) ≡ finished sheet r.place) where
    pub close-unsafe : true ≡ is_unsafe (model_from model index) q (state_in model index r.modes state) → answer 0 1 (length sheet) r.done 100 ≡ close_run (model_from model index) q sheet (marked_as model index (Ok r) state)
    unfolding ended got_as
    close-unsafe p =
        ap (λ b. cond b (answer 0 1 (length sheet) r.done 100) (answer 14 1 (length sheet) r.done 0)) p ∙ sym (close-by (got tt next) (sym end))

    pub close-safe : false ≡ is_unsafe (model_from model index) q (state_in model index r.modes state) → answer 14 1 (length sheet) r.done 0 ≡ close_run (model_from model index) q sheet (marked_as model index (Ok r) state)
    unfolding ended got_as
    close-safe p =
        ap (λ b. cond b (answer 0 1 (length sheet) r.done 100) (answer 14 1 (length sheet) r.done 0)) p ∙ sym (close-by (got tt next) (sym end))

-- The opening
unfoldable begun : Model → List ℕ → Opening → ℕ → Bool → Answer
begun m sheet o next true = close_run m o.q sheet (mark_steps m o.q (first_state o) o.steps sheet next 0)
begun m sheet o next false = answer 12 1 o.place 0 0

begins : (m : Model) (sheet : List ℕ) (o : Opening) (next : ℕ) → mark_opening m sheet (got o next) ≡ begun m sheet o next (start_allowed m o.q (first_state o))
unfolding mark_opening begun
begins m sheet o next = go (start_allowed m o.q (first_state o))
  where
    go : (b : Bool) → (elim b as (λ _. Answer) [ true ↦ close_run m o.q sheet (mark_steps m o.q (first_state o) o.steps sheet next 0) | false ↦ answer 12 1 o.place 0 0 ]) ≡ begun m sheet o next b
    go true = refl
    go false = refl

module _ (m : Model) (sheet : List ℕ) (g : Got Opening) where
  pub opening-stops : (number at : ℕ) → g ≡ refused number at → answer number 1 at 0 0 ≡ mark_opening m sheet g
  unfolding mark_opening
  opening-stops number at e = sym (ap (mark_opening m sheet) e)

  module _ (q steps place location next : ℕ) (values : List ℤ) (reads : g ≡ got (record { q = q; steps = steps; place = place; location = location; values = values }) next) (s : State) (first : s ≡ record { location = location; values = values }) where
    abbrev beginning : Opening
    beginning = record { q = q; steps = steps; place = place; location = location; values = values }

    pub opening-fails : false ≡ start_allowed m q s → answer 12 1 place 0 0 ≡ mark_opening m sheet g
    unfolding begun first_state
    opening-fails p =
        ap (begun m sheet beginning next) (p ∙ ap (start_allowed m q) first) ∙ sym (ap (mark_opening m sheet) reads ∙ begins m sheet beginning next)

    pub opening-runs : true ≡ start_allowed m q s → close_run m q sheet (mark_steps m q s steps sheet next 0) ≡ mark_opening m sheet g
    unfolding begun first_state
    opening-runs p =
        ap (λ x. close_run m q sheet (mark_steps m q x steps sheet next 0)) first
        ∙ ap (begun m sheet beginning next) (p ∙ ap (start_allowed m q) first) ∙ sym (ap (mark_opening m sheet) reads ∙ begins m sheet beginning next)

-- The whole, by how the model opens: a paper that does not open is refused so; one that is open is marked from its body on
module _ (limits : Limits) (model second : List ℕ) where
  pub run-refused : (a : Answer) → paper_answer (Err a) ≡ opened limits 3 model second → 1 ≤ a.number → a ≡ mark_run limits model second
  unfolding mark_run with_model paper_answer
  run-refused a e some =
      e
      ∙ opened-answer limits 3 model second
      ∙ open-refused limits 3 model second (λ n s p. answer n s p 0 0) read_opening (λ m. mark_opening m second) (run_by second)
      (λ m number at. opening-stops m second (refused number at) number at refl) (λ number sheet at. refl) (λ m. refl) (numbered e some)

  pub run-open : {index : List ℕ} {body : ℕ} → Open limits 3 model index second body → mark_opening (model_from model index) second (read_opening (model_from model index) second body) ≡ mark_run limits model second
  unfolding mark_run with_model
  run-open w =
      open-goes-on limits 3 model second (λ n s p. answer n s p 0 0) read_opening (λ m. mark_opening m second) (run_by second)
      (λ m number at. opening-stops m second (refused number at) number at refl) (λ number sheet at. refl) (λ m. refl) w
