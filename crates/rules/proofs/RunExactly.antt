-- Under limits that fit the marking accepts exactly the run sheets that read well and hold a run of the model that ends unsafe, and under
-- others none; an accepted sheet gives that run, and the state where it ends is one that it visits. Assumes nothing.
use mathlib.Core.Path.{◌≡◌, refl, sym, ap, ap₂, ◌∙◌, subst, subst₂}
use mathlib.Core.Logic.{◌↔◌}
use mathlib.Core.Bool.{Bool, true, false, cond}
use mathlib.Core.List.{List, [], ◌∷◌, Memᴰ}
use Prim.Native.Nat.{ℕ, zero, suc, ◌+◌, ◌≤◌}
use native.Mathlib.Omega.{arith}
use lib.Dec.{T}
use lib.ListN.{length}
use mir.Facts.{and_yes, yes_and}
use Rattle.formats.specs.Reading.{Got, got, refused, Reader, and_then, ◌>>=◌, ◌>>◌, give, passing, many, finished}
use Rattle.formats.specs.Model.{Model}
use Rattle.formats.specs.declared.Limits.{Limits}
use Rattle.formats.specs.ModelSheet.{limits_fit, read_model}
use Rattle.formats.specs.RunSheet.{Step, Opening, read_opening, read_step}
use Rattle.formats.proofs.Gives.{got-value, got-next, passes, Tested, tested, gives_then}
use Rattle.formats.proofs.Placed.{FineTo, Fine, placed-finished}
use Rattle.rules.specs.Opening.{open_second}
use Rattle.rules.specs.declared.Answer.{Answer}
use Rattle.rules.specs.Runs.{State, start_allowed, step_allowed, steps_allowed, after, Run, visited, end_of, is_unsafe}
use Rattle.rules.proofs.Opening.{read-opens, with-model}
use Rattle.rules.specs.Marking.{answer, Marked, passed, stopped, with_model, test_step, mark_step, mark_steps, close_run, first_state, mark_opening, mark_run}
use Rattle.rules.specs.ReadWell.{RunSheet, read_run_sheet, RunHolds}
use Rattle.rules.proofs.ListFacts.{is_true}
use Rattle.rules.proofs.MarkedRanges.{Marks, opening-fine, opening-gives, steps-mark}

-- one reading, then the next, where the first gave a value
module _ {A B : Type 0} (r : Reader A) {s : List ℕ} {p : ℕ} {a : A} {next : ℕ} (e : r s p ≡ got a next) where
  bind-got : (f : A → Reader B) → (r >>= f) s p ≡ f a s next
  unfolding ◌>>=◌ and_then
  bind-got f = ap (λ g. and_then g f s) e

  then-got : (t : Reader B) → (r >> t) s p ≡ t s next
  unfolding ◌>>◌ and_then
  then-got t = ap (λ g. and_then g (λ a. t) s) e

-- a step passes where it reads well and is allowed
step-tested : (m : Model) (q : ℕ) (v : State) (place : ℕ) (g : Got Step) → test_step m q v place g ≡ passing (step_allowed m q v) 13 place g
unfolding test_step passing
step-tested m q v place (got t next) = refl
step-tested m q v place (refused number at) = refl

-- steps that read well one after the other, and are allowed
pub record Stepped (m : Model) (q : ℕ) (sheet : List ℕ) (v : State) (n place : ℕ) (end : State) (next : ℕ) : Type 0 where
  pub steps : List Step
  pub read : many n (read_step m) sheet place ≡ got steps next
  pub allowed : T (steps_allowed m q v steps)
  pub ends : end ≡ end_of m v steps

module _ (m : Model) (q : ℕ) (sheet : List ℕ) where
  pub step-passed : (v : State) (place : ℕ) (t : Step) (next : ℕ) → mark_step m q v sheet place ≡ got t next → Tested (step_allowed m q v) (read_step m sheet place) t next
  unfolding mark_step
  step-passed v place t next e = tested _ 13 place (read_step m sheet place) t next (sym (step-tested m q v place (read_step m sheet place)) ∙ e)

  pub pass_step : (v : State) (place : ℕ) (t : Step) (next : ℕ) → read_step m sheet place ≡ got t next → T (step_allowed m q v t) → mark_step m q v sheet place ≡ got t next
  unfolding mark_step test_step
  pass_step v place t next e d = rw (e, is_true (step_allowed m q v t) d)

  pub many_more : (n place : ℕ) (t : Step) (mid : ℕ) (steps : List Step) (next : ℕ) → read_step m sheet place ≡ got t mid → many n (read_step m) sheet mid ≡ got steps next → many (suc n) (read_step m) sheet place ≡ got (t ∷ steps) next
  unfolding many give
  many_more n place t mid steps next e d = bind-got (read_step m) e _ ∙ bind-got (many n (read_step m)) d _

  -- a step that passes leads on, and one that does not stops the marking
  pub steps-onward : (v : State) (n place done : ℕ) (t : Step) (mid : ℕ) → mark_step m q v sheet place ≡ got t mid → mark_steps m q v (suc n) sheet place done ≡ mark_steps m q (after m v t) n sheet mid (suc done)
  unfolding mark_steps
  steps-onward v n place done t mid e = rw (e, mark_steps)

  pub steps-stop : (v : State) (n place done number at : ℕ) → mark_step m q v sheet place ≡ refused number at → mark_steps m q v (suc n) sheet place done ≡ stopped number at done
  unfolding mark_steps
  steps-stop v n place done number at e = rw (e, mark_steps)

  -- steps that passed are read and allowed; steps that are read and allowed pass
  pub steps-passed : (v : State) (n place done : ℕ) (end : State) (next count : ℕ) → mark_steps m q v n sheet place done ≡ passed end next count → Stepped m q sheet v n place end next
  unfolding mark_steps many give steps_allowed end_of
  steps-passed v zero place done end next count e = record { steps = []; read = cc; allowed = tt; ends = cc }
  steps-passed v (suc n) place done end next count e =
      go (mark_step m q v sheet place) refl (λ t mid d. steps-passed (after m v t) n mid (suc done) end next count d)
    where
      go : (g : Got Step) → mark_step m q v sheet place ≡ g → ((t : Step) (mid : ℕ) → mark_steps m q (after m v t) n sheet mid (suc done) ≡ passed end next count → Stepped m q sheet (after m v t) n mid end next) → Stepped m q sheet v (suc n) place end next
      go (got t mid) d later =
          let w = step-passed v place t mid d in
          let x = later t mid (sym (steps-onward v n place done t mid d) ∙ e) in
          record {
            steps = t ∷ x.steps;
            read = many_more n place t mid x.steps next w.read x.read;
            allowed = yes_and (step_allowed m q v t) _ w.passed x.allowed;
            ends = x.ends;
          }
      go (refused number at) d later =
          let f = sym (steps-stop v n place done number at d) ∙ e in
          let z : ◌≡◌ {A = ℕ} 0 1 = cc in
          absurd (omega arith)

  pub pass-steps : (v : State) (n place done total : ℕ) (steps : List Step) (next : ℕ) → done + n ≡ total → many n (read_step m) sheet place ≡ got steps next → T (steps_allowed m q v steps) → mark_steps m q v n sheet place done ≡ passed (end_of m v steps) next total
  unfolding mark_steps many give ◌>>=◌ steps_allowed end_of
  pass-steps v zero place done total steps next h e t =
      let c : done ≡ total = omega arith in
      rw (← (got-value e), ← (got-next e), c)
  pass-steps v (suc n) place done total steps next h e t =
      let w = passes (read_step m sheet place) _ sheet steps next e in
      let x = passes (many n (read_step m) sheet w.place) _ sheet steps next w.second in
      let f = got-value x.second in
      let k = and_yes (step_allowed m q v w.value) _ (subst (λ l. T (steps_allowed m q v l)) (sym f) t) in
      steps-onward v n place done w.value w.place (pass_step v place w.value w.place w.first k.0)
      ∙ (pass-steps (after m v w.value) n w.place (suc done) total x.value x.place (omega arith) x.first k.1
      ∙ ap₂ (λ l p. passed (end_of m v l) p total) f (got-next x.second))

-- a run sheet reads well where its parts do, one after the other
pub record RunParts (m : Model) (second : List ℕ) (sheet : RunSheet) (end : ℕ) : Type 0 where
  pub opening_end : ℕ
  pub opening : (open_second 3 m >> read_opening m) second 0 ≡ got sheet.opening opening_end
  pub steps_end : ℕ
  pub steps : many sheet.opening.steps (read_step m) second opening_end ≡ got sheet.steps steps_end
  pub finish : finished second steps_end ≡ got tt end

pub parts-read : (m : Model) (second : List ℕ) (sheet : RunSheet) (end : ℕ) → RunParts m second sheet end → read_run_sheet m second 0 ≡ got sheet end
unfolding read_run_sheet ◌>>◌ give
parts-read m second sheet end w =
    let h = passes (open_second 3 m second 0) _ second sheet.opening w.opening_end w.opening in
    then-got (open_second 3 m) h.first _
    ∙ (bind-got (read_opening m) h.second _
    ∙ (bind-got (many sheet.opening.steps (read_step m)) w.steps _ ∙ then-got finished w.finish _))

read-parts : (m : Model) (second : List ℕ) (sheet : RunSheet) (end : ℕ) → read_run_sheet m second 0 ≡ got sheet end → RunParts m second sheet end
unfolding read_run_sheet ◌>>◌ ◌>>=◌ give
read-parts m second sheet end e =
    let h = passes (open_second 3 m second 0) _ second sheet end e in
    let o = passes (read_opening m second h.place) _ second sheet end h.second in
    let s = passes (many o.value.steps (read_step m) second o.place) _ second sheet end o.second in
    let f = passes (finished second s.place) _ second sheet end s.second in
    subst₂ (RunParts m second) (got-value f.second) (got-next f.second)
    (record {
      opening_end = o.place;
      opening = then-got (open_second 3 m) h.first (read_opening m) ∙ o.first;
      steps_end = s.place;
      steps = s.first;
      finish = f.first;
    })

-- an accepted run: the answer in full
pub run-accepted : (limits : Limits) (model second : List ℕ) (h : RunHolds limits model second) → mark_run limits model second ≡ answer 0 1 (length second) h.sheet.opening.steps 100
unfolding mark_run with_model mark_opening close_run
run-accepted limits model second h =
    let m = h.m in
    let o = h.sheet.opening in
    let w = read-parts m second h.sheet h.second_end h.second_reads in
    let k = pass-steps m o.q second (first_state o) o.steps w.opening_end 0 o.steps h.sheet.steps w.steps_end (omega arith) w.steps h.allowed in
    let starts = is_true (start_allowed m o.q (first_state o)) h.starts in
    let ends = is_true (is_unsafe m o.q (end_of m (first_state o) h.sheet.steps)) h.ends in
    rw (read-opens limits model m h.model_end h.fit h.model_reads, w.opening, starts, k, w.finish, ends, mark_opening, close_run)

-- an end with number 0: the steps passed, nothing is left, and the state is unsafe
record RunClosed (m : Model) (q : ℕ) (second : List ℕ) (k : Marked State) : Type 0 where
  end : State
  place : ℕ
  done : ℕ
  next : ℕ
  steps : k ≡ passed end place done
  finish : finished second place ≡ got tt next
  unsafe : T (is_unsafe m q end)

run-closed : (m : Model) (q : ℕ) (second : List ℕ) (total : ℕ) (k : Marked State) → Marks second total k → (close_run m q second k).number ≡ 0 → RunClosed m q second k
unfolding close_run answer
run-closed m q second total (stopped number at done) w e = absurd (omega arith)
run-closed m q second total (passed v place done) w e =
    go (finished second place) refl ((placed-finished {least = 0}).fine second place (omega arith) w.0) e
  where
    verdict : (b : Bool) → (cond b (answer 0 1 (length second) done 100) (answer 14 1 (length second) done 0)).number ≡ 0 → T b
    verdict true h = tt
    verdict false h = absurd (omega arith)

    go : (g : Got (Unit {0})) → finished second place ≡ g → Fine second place g → (elim g as (λ x. Answer) [ got u next ↦ cond (is_unsafe m q v) (answer 0 1 (length second) done 100) (answer 14 1 (length second) done 0) | refused number at ↦ answer number 1 at done 0 ]).number ≡ 0 → RunClosed m q second (passed v place done)
    go (got u next) d x h =
        record { end = v; place = place; done = done; next = next; steps = refl; finish = d; unsafe = verdict (is_unsafe m q v) h }
    go (refused number at) d x h = absurd (omega arith)

opening-holds : (limits : Limits) (model second : List ℕ) (m : Model) (model_end : ℕ) (g : Got Opening) → T (limits_fit limits) → read_model limits model ≡ got m model_end → (open_second 3 m >> read_opening m) second 0 ≡ g → FineTo 18 second 0 g → (mark_opening m second g).number ≡ 0 → RunHolds limits model second
unfolding mark_opening answer
opening-holds limits model second m model_end (got o place) t e d w h = go (start_allowed m o.q (first_state o)) refl h
  where
    go : (b : Bool) → start_allowed m o.q (first_state o) ≡ b → (elim b as (λ x. Answer) [ true ↦ close_run m o.q second (mark_steps m o.q (first_state o) o.steps second place 0) | false ↦ answer 12 1 o.place 0 0 ]).number ≡ 0 → RunHolds limits model second
    go true f k =
        let c = run-closed m o.q second o.steps _ (steps-mark m o.q (first_state o) o.steps second place 0 o.steps w.1 (omega arith)) k in
        let s = steps-passed m o.q second (first_state o) o.steps place 0 c.end c.place c.done c.steps in
        let sheet : RunSheet = record { opening = o; steps = s.steps } in
        record {
          fit = t;
          m = m;
          model_end = model_end;
          model_reads = e;
          sheet = sheet;
          second_end = c.next;
          second_reads = parts-read m second sheet c.next (record { opening_end = place; opening = d; steps_end = c.place; steps = s.read; finish = c.finish });
          starts = subst T (sym f) tt;
          allowed = s.allowed;
          ends = subst (λ v. T (is_unsafe m o.q v)) s.ends c.unsafe;
        }
    go false f k = absurd (omega arith)
opening-holds limits model second m model_end (refused number at) t e d w h = absurd (omega arith)

run_holds : (limits : Limits) (model second : List ℕ) → (mark_run limits model second).number ≡ 0 → RunHolds limits model second
unfolding mark_run answer
run_holds limits model second =
    with-model (λ a. a.number ≡ 0 → RunHolds limits model second) limits model _
    (λ h. absurd (omega arith))
    (λ number at i j k h. absurd (omega arith))
    (λ m next t e. opening-holds limits model second m next _ t e refl (opening-fine m second))

pub run-exactly : (limits : Limits) (model second : List ℕ) → ((mark_run limits model second).number ≡ 0) ↔ RunHolds limits model second
unfolding answer
run-exactly limits model second = (run_holds limits model second, λ h. ap (λ a. a.number) (run-accepted limits model second h))

-- the run of an accepted sheet
pub q-whole : {limits : Limits} {model second : List ℕ} (h : RunHolds limits model second) → 1 ≤ h.sheet.opening.q
q-whole {second = second} h =
    let w = read-parts h.m second h.sheet h.second_end h.second_reads in
    ((gives_then (open_second 3 h.m) (opening-gives h.m)).holds second 0 h.sheet.opening w.opening_end w.opening).0

unfoldable pub run_of : {limits : Limits} {model second : List ℕ} (h : RunHolds limits model second) → Run h.m
run_of h =
    record {
      q = h.sheet.opening.q;
      first = first_state h.sheet.opening;
      steps = h.sheet.steps;
      whole = q-whole h;
      starts = h.starts;
      allowed = h.allowed;
    }

pub end-visited : (m : Model) (v : State) (steps : List Step) → Memᴰ (end_of m v steps) (visited m v steps)
unfolding end_of visited
end-visited m v [] = Memᴰ.head refl
end-visited m v (t ∷ steps) = Memᴰ.tail (end-visited m (after m v t) steps)

-- it visits an unsafe state: the one where it ends
pub record VisitsUnsafe {m : Model} (r : Run m) : Type 0 where
  pub state : State
  pub visits : Memᴰ state (visited m r.first r.steps)
  pub unsafe : T (is_unsafe m r.q state)

pub run-unsafe : {limits : Limits} {model second : List ℕ} (h : RunHolds limits model second) → VisitsUnsafe (run_of h)
unfolding run_of
run-unsafe h =
    let o = h.sheet.opening in
    record { state = end_of h.m (first_state o) h.sheet.steps; visits = end-visited h.m (first_state o) h.sheet.steps; unsafe = h.ends }
