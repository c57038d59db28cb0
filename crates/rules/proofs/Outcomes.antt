-- What every marking says (specs/Outcomes.antt): how it ended, what then holds of the two sheets, and all five numbers. So `done` counts
-- the proofs or steps that passed, in order, in refusals too, and the one after them is the one that fails. Assumes nothing.
use mathlib.Core.Path.{◌≡◌, refl, sym, ap, ap₂, ◌∙◌, subst}
use mathlib.Core.Logic.{◌↔◌}
use mathlib.Core.Bool.{Bool, true, false, cond}
use mathlib.Core.List.{List, [], ◌∷◌, ◌++◌}
use Prim.Native.Nat.{ℕ, zero, suc, ◌+◌, ◌-◌, ◌≤◌, ◌<◌}
use native.Mathlib.Omega.{arith}
use lib.Dec.{T}
use lib.ListN.{length}
use mir.Facts.{yes_and}
use Rattle.farkas.specs.Farkas.{Proof, Meets, farkas_test}
use Rattle.farkas.proofs.Promise.{zero-means}
use Rattle.formats.specs.Reading.{Got, got, refused, ◌>>◌, give, many, each, finished}
use Rattle.formats.specs.Rows.{Condition}
use Rattle.formats.specs.Model.{Model}
use Rattle.formats.specs.declared.Limits.{Limits}
use Rattle.formats.specs.ModelSheet.{limits_fit, read_model}
use Rattle.formats.specs.Certificate.{read_regions}
use Rattle.formats.specs.RunSheet.{Step, Opening, read_opening, read_step}
use Rattle.formats.proofs.Gives.{got-value, each-got}
use Rattle.rules.specs.declared.Answer.{Answer}
use Rattle.rules.specs.Runs.{State, start_allowed, step_allowed, steps_allowed, after, end_of, is_unsafe}
use Rattle.rules.specs.Obligations.{Obligation, obligations}
use Rattle.rules.proofs.Opening.{Begins, begins, read-opens}
use Rattle.rules.specs.Opening.{ModelOpened, open_model, open_second}
use Rattle.rules.specs.Marking.{answer, score_of, refused_score, Marked, passed, stopped, test_proof, mark_proof, mark_proofs, close_certificate, mark_regions, with_model, mark_certificate, test_step, mark_step, mark_steps, close_run, first_state, mark_opening, mark_run}
use Rattle.rules.specs.ReadWell.{read_proofs, rows_of, AllMeet, met-none, met-more, CertificateHolds, RunSheet}
use Rattle.rules.specs.Outcomes.{ProofFails, ProofsStop, StepFails, StepsStop, CertificateEnds, RunEnds}
use Rattle.rules.proofs.Scores.{full-score}
use Rattle.rules.proofs.CertificateExactly.{read_one, tested-proof, marked-read, read-marked, whole-certificate, parts-of}
use Rattle.rules.proofs.RunExactly.{parts-read, step-passed, many_more, steps-onward, steps-stop, steps-passed, pass-steps}

-- a proof that fails
test-fails : (o : Obligation) (s : List ℕ) (place : ℕ) (p : Proof) (next n number at : ℕ) → read_one o s place ≡ got p next → farkas_test (rows_of o) o.goal p ≡ n → ◌≡◌ {A = Got Proof} (elim n [ zero ↦ got p next | suc k ↦ refused (suc k) place ]) (refused number at) → ProofFails o s place number at
test-fails o s place p next zero number at r f e = let z : ◌≡◌ {A = ℕ} 0 1 = cc in absurd (omega arith)
test-fails o s place p next (suc n) number at r f e =
    let same : suc n ≡ number = cc in
    let there : place ≡ at = cc in
    ProofFails.unmet p next r (f ∙ same) (omega arith) (sym there)

proof-fails : (o : Obligation) (s : List ℕ) (place : ℕ) (g : Got Proof) (number at : ℕ) → read_one o s place ≡ g → test_proof o place g ≡ refused number at → ProofFails o s place number at
unfolding test_proof rows_of
proof-fails o s place (refused n p) number at r e = ProofFails.unreadable (r ∙ e)
proof-fails o s place (got p next) number at r e = test-fails o s place p next (farkas_test (rows_of o) o.goal p) number at r refl e

fail-proof : (o : Obligation) (s : List ℕ) (place number at : ℕ) → ProofFails o s place number at → mark_proof o s place ≡ refused number at
unfolding mark_proof test_proof rows_of
fail-proof o s place number at (ProofFails.unreadable r) = ap (test_proof o place) r
fail-proof o s place number at (ProofFails.unmet p next r f l e) =
    ap (test_proof o place) r ∙ go (farkas_test (rows_of o) o.goal p) (omega arith) ∙ ap₂ (λ (n : ℕ) (k : ℕ). refused n k) f (sym e)
  where
    go : (n : ℕ) → 1 ≤ n → ◌≡◌ {A = Got Proof} (elim n [ zero ↦ got p next | suc k ↦ refused (suc k) place ]) (refused n place)
    go zero h = absurd (omega arith)
    go (suc n) h = refl

-- such a proof does not meet the condition
pub not-met : (o : Obligation) (s : List ℕ) (place number at : ℕ) → ProofFails o s place number at → (p : Proof) (next : ℕ) → read_one o s place ≡ got p next → Meets (rows_of o) o.goal p → ⊥
not-met o s place number at (ProofFails.unreadable r) p next e h = let d = sym r ∙ e in let z : ◌≡◌ {A = ℕ} 0 1 = cc in absurd (omega arith)
not-met o s place number at (ProofFails.unmet w k r f l d) p next e h =
    let same : w ≡ p = got-value (sym r ∙ e) in
    let none : farkas_test (rows_of o) o.goal p ≡ 0 = (zero-means (rows_of o) o.goal p).1 h in
    let met : farkas_test (rows_of o) o.goal w ≡ 0 = ap (farkas_test (rows_of o) o.goal) same ∙ none in
    omega (arith, f, met)

-- marking that stopped: the proofs that passed, and the one that failed
record Stop (all : List Obligation) (s : List ℕ) (place number at done d : ℕ) : Type 0 where
  more : ℕ
  total : d ≡ done + more
  stop : ProofsStop all s place number at more

first-fails : (o : Obligation) (rest : List Obligation) (s : List ℕ) (place number at : ℕ) → ProofFails o s place number at → ProofsStop (o ∷ rest) s place number at 0
unfolding read_proofs each give
first-fails o rest s place number at f =
    record { first = []; failing = o; rest = rest; order = refl; count = refl; proofs = []; reached = place; read = refl; meet = met-none; fails = f }

later-fails : (o : Obligation) (rest : List Obligation) (s : List ℕ) (place k number at d : ℕ) (p : Proof) → read_one o s place ≡ got p k → Meets (rows_of o) o.goal p → ProofsStop rest s k number at d → ProofsStop (o ∷ rest) s place number at (suc d)
unfolding read_proofs
later-fails o rest s place k number at d p e h w =
    record {
      first = o ∷ w.first;
      failing = w.failing;
      rest = w.rest;
      order = ap (λ l. o ∷ l) w.order;
      count = ap suc w.count;
      proofs = p ∷ w.proofs;
      reached = w.reached;
      read = each-got read_one o w.first s place e w.read;
      meet = met-more h w.meet;
      fails = w.fails;
    }

stop_step : (o : Obligation) (rest : List Obligation) (s : List ℕ) (place done number at d : ℕ) (g : Got Proof) → mark_proof o s place ≡ g → ◌≡◌ {A = Marked (Unit {0})} (elim g [ got p k ↦ mark_proofs rest s k (suc done) | refused n k ↦ stopped n k done ]) (stopped number at d) → ((k : ℕ) → mark_proofs rest s k (suc done) ≡ stopped number at d → Stop rest s k number at (suc done) d) → Stop (o ∷ rest) s place number at done d
unfolding mark_proof
stop_step o rest s place done number at d (refused n k) e h later =
    let f : n ≡ number = cc in
    let g : k ≡ at = cc in
    let c : done ≡ d = cc in
    let there : test_proof o place (read_one o s place) ≡ refused number at = e ∙ ap₂ (λ (x : ℕ) (y : ℕ). refused x y) f g in
    record { more = 0; total = omega arith; stop = first-fails o rest s place number at (proof-fails o s place (read_one o s place) number at refl there) }
stop_step o rest s place done number at d (got p k) e h later =
    let w = tested-proof o place (read_one o s place) p k e in
    let v = later k h in
    record { more = suc v.more; total = omega (arith, v.total); stop = later-fails o rest s place k number at v.more p w.0 w.1 v.stop }

stopped-so : (all : List Obligation) (s : List ℕ) (place done number at d : ℕ) → mark_proofs all s place done ≡ stopped number at d → Stop all s place number at done d
unfolding mark_proofs
stopped-so [] s place done number at d e = let z : ◌≡◌ {A = ℕ} 0 1 = cc in absurd (omega arith)
stopped-so (o ∷ rest) s place done number at d e =
    stop_step o rest s place done number at d (mark_proof o s place) refl e (λ k h. stopped-so rest s k (suc done) number at d h)

-- and the other way
onward : (first ys : List Obligation) (s : List ℕ) (place done : ℕ) (u : Unit {0}) (k d : ℕ) → mark_proofs first s place done ≡ passed u k d → mark_proofs (first ++ ys) s place done ≡ mark_proofs ys s k d
unfolding mark_proofs
onward [] ys s place done u k d e =
    let f : place ≡ k = cc in
    let g : done ≡ d = cc in
    ap₂ (λ (x : ℕ) (y : ℕ). mark_proofs ys s x y) f g
onward (o ∷ first) ys s place done u k d e = go (mark_proof o s place) e (λ j h. onward first ys s j (suc done) u k d h)
  where
    go : (g : Got Proof) → ◌≡◌ {A = Marked (Unit {0})} (elim g [ got p j ↦ mark_proofs first s j (suc done) | refused n j ↦ stopped n j done ]) (passed u k d) → ((j : ℕ) → mark_proofs first s j (suc done) ≡ passed u k d → mark_proofs (first ++ ys) s j (suc done) ≡ mark_proofs ys s k d) → ◌≡◌ {A = Marked (Unit {0})} (elim g [ got p j ↦ mark_proofs (first ++ ys) s j (suc done) | refused n j ↦ stopped n j done ]) (mark_proofs ys s k d)
    go (got p j) h later = later j h
    go (refused n j) h later = let z : ◌≡◌ {A = ℕ} 0 1 = cc in absurd (omega arith)

one-stops : (o : Obligation) (rest : List Obligation) (s : List ℕ) (place done number at : ℕ) → mark_proof o s place ≡ refused number at → mark_proofs (o ∷ rest) s place done ≡ stopped number at done
unfolding mark_proofs
one-stops o rest s place done number at e =
    ap (λ g. elim g as (λ x. Marked (Unit {0})) [ got p k ↦ mark_proofs rest s k (suc done) | refused n k ↦ stopped n k done ]) e

so-stopped : (all : List Obligation) (s : List ℕ) (place number at d : ℕ) → ProofsStop all s place number at d → mark_proofs all s place 0 ≡ stopped number at d
so-stopped all s place number at d w =
    ap (λ l. mark_proofs l s place 0) w.order
    ∙ onward w.first (w.failing ∷ w.rest) s place 0 tt w.reached (0 + length w.first) (read-marked w.first s place 0 w.proofs w.reached w.read w.meet)
    ∙ one-stops w.failing w.rest s w.reached (0 + length w.first) number at (fail-proof w.failing s w.reached number at w.fails)
    ∙ ap (λ (n : ℕ). stopped number at n) (count (length w.first) ∙ w.count)
  where
    count : (n : ℕ) → 0 + n ≡ n
    count n = omega arith

-- Marking of proofs stops with d passed, a number and a place exactly where the first d proofs read and meet the condition and the next
-- one fails with this number at this place
pub proofs-stop-exactly : (all : List Obligation) (s : List ℕ) (place number at d : ℕ) → (mark_proofs all s place 0 ≡ stopped number at d) ↔ ProofsStop all s place number at d
proofs-stop-exactly all s place number at d = (there, so-stopped all s place number at d)
  where
    there : mark_proofs all s place 0 ≡ stopped number at d → ProofsStop all s place number at d
    there e =
        let w = stopped-so all s place 0 number at d e in
        let same : w.more ≡ d = omega (arith, w.total) in
        subst (λ (n : ℕ). ProofsStop all s place number at n) same w.stop

-- a step that fails
step-fails : (m : Model) (q : ℕ) (v : State) (s : List ℕ) (place : ℕ) (g : Got Step) (number at : ℕ) → read_step m s place ≡ g → test_step m q v place g ≡ refused number at → StepFails m q v s place number at
unfolding test_step
step-fails m q v s place (refused n p) number at r e = StepFails.unreadable (r ∙ e)
step-fails m q v s place (got t next) number at r e = go (step_allowed m q v t) refl e
  where
    go : (b : Bool) → step_allowed m q v t ≡ b → ◌≡◌ {A = Got Step} (cond b (got t next) (refused 13 place)) (refused number at) → StepFails m q v s place number at
    go true f h = let z : ◌≡◌ {A = ℕ} 0 1 = cc in absurd (omega arith)
    go false f h =
        let same : ◌≡◌ {A = ℕ} 13 number = cc in
        let there : place ≡ at = cc in
        StepFails.disallowed t next r f (sym same) (sym there)

fail-step : (m : Model) (q : ℕ) (v : State) (s : List ℕ) (place number at : ℕ) → StepFails m q v s place number at → mark_step m q v s place ≡ refused number at
unfolding mark_step test_step
fail-step m q v s place number at (StepFails.unreadable r) = ap (test_step m q v place) r
fail-step m q v s place number at (StepFails.disallowed t next r f n e) =
    ap (test_step m q v place) r ∙ ap (λ b. cond b (got t next) (refused 13 place)) f ∙ ap₂ (λ (x : ℕ) (y : ℕ). refused x y) (sym n) (sym e)

-- marking that stopped: the steps that passed, and the one that failed
module _ (m : Model) (q : ℕ) (s : List ℕ) where
  record Halt (v : State) (n place number at done d : ℕ) : Type 0 where
    more : ℕ
    total : d ≡ done + more
    stop : StepsStop m q v n s place number at more

  first_step : (v : State) (n place number at : ℕ) → StepFails m q v s place number at → StepsStop m q v (suc n) s place number at 0
  unfolding many give steps_allowed end_of
  first_step v n place number at f = record { fewer = omega arith; steps = []; reached = place; read = refl; allowed = tt; fails = f }

  later-step : (v : State) (n place k number at d : ℕ) (t : Step) → read_step m s place ≡ got t k → T (step_allowed m q v t) → StepsStop m q (after m v t) n s k number at d → StepsStop m q v (suc n) s place number at (suc d)
  unfolding steps_allowed end_of
  later-step v n place k number at d t e a w =
      record {
        fewer = omega (arith, w.fewer);
        steps = t ∷ w.steps;
        reached = w.reached;
        read = many_more m q s d place t k w.steps w.reached e w.read;
        allowed = yes_and (step_allowed m q v t) _ a w.allowed;
        fails = w.fails;
      }

  halted-so : (v : State) (n place done number at d : ℕ) → mark_steps m q v n s place done ≡ stopped number at d → Halt v n place number at done d
  unfolding mark_steps mark_step
  halted-so v zero place done number at d e = let z : ◌≡◌ {A = ℕ} 0 1 = cc in absurd (omega arith)
  halted-so v (suc n) place done number at d e =
      go (mark_step m q v s place) refl (λ t k h. halted-so (after m v t) n k (suc done) number at d h)
    where
      go : (g : Got Step) → mark_step m q v s place ≡ g → ((t : Step) (k : ℕ) → mark_steps m q (after m v t) n s k (suc done) ≡ stopped number at d → Halt (after m v t) n k number at (suc done) d) → Halt v (suc n) place number at done d
      go (refused x k) r later =
          let h : ◌≡◌ {A = Marked State} (stopped x k done) (stopped number at d) = sym (steps-stop m q s v n place done x k r) ∙ e in
          let f : x ≡ number = cc in
          let g : k ≡ at = cc in
          let c : done ≡ d = cc in
          let there : test_step m q v place (read_step m s place) ≡ refused number at = r ∙ ap₂ (λ (x : ℕ) (y : ℕ). refused x y) f g in
          record { more = 0; total = omega arith; stop = first_step v n place number at (step-fails m q v s place (read_step m s place) number at refl there) }
      go (got t k) r later =
          let w = step-passed m q s v place t k r in
          let x = later t k (sym (steps-onward m q s v n place done t k r) ∙ e) in
          record { more = suc x.more; total = omega (arith, x.total); stop = later-step v n place k number at x.more t w.read w.passed x.stop }

  -- steps that passed, then more
  steps_on : (v : State) (n more place done : ℕ) (end : State) (k d : ℕ) → mark_steps m q v n s place done ≡ passed end k d → mark_steps m q v (n + more) s place done ≡ mark_steps m q end more s k d
  unfolding mark_steps
  steps_on v zero more place done end k d e =
      let f : v ≡ end = cc in
      let g : place ≡ k = cc in
      let c : done ≡ d = cc in
      ap (λ (x : ℕ). mark_steps m q v x s place done) (none more)
      ∙ ap (λ x. mark_steps m q x more s place done) f
      ∙ ap₂ (λ (x : ℕ) (y : ℕ). mark_steps m q end more s x y) g c
    where
      none : (n : ℕ) → 0 + n ≡ n
      none n = omega arith
  steps_on v (suc n) more place done end k d e =
      ap (λ (x : ℕ). mark_steps m q v x s place done) (one n more)
      ∙ go (mark_step m q v s place) refl (λ t j h. steps_on (after m v t) n more j (suc done) end k d h)
    where
      one : (n more : ℕ) → suc n + more ≡ suc (n + more)
      one n more = omega arith

      go : (g : Got Step) → mark_step m q v s place ≡ g → ((t : Step) (j : ℕ) → mark_steps m q (after m v t) n s j (suc done) ≡ passed end k d → mark_steps m q (after m v t) (n + more) s j (suc done) ≡ mark_steps m q end more s k d) → mark_steps m q v (suc (n + more)) s place done ≡ mark_steps m q end more s k d
      go (got t j) r later =
          steps-onward m q s v (n + more) place done t j r ∙ later t j (sym (steps-onward m q s v n place done t j r) ∙ e)
      go (refused x j) r later =
          let h : ◌≡◌ {A = Marked State} (stopped x j done) (passed end k d) = sym (steps-stop m q s v n place done x j r) ∙ e in
          let z : ◌≡◌ {A = ℕ} 0 1 = cc in
          absurd (omega arith)

  so-halted : (v : State) (n place number at d : ℕ) → StepsStop m q v n s place number at d → mark_steps m q v n s place 0 ≡ stopped number at d
  so-halted v n place number at d w =
      ap (λ (x : ℕ). mark_steps m q v x s place 0) (counted n d w.fewer)
      ∙ steps_on v d (suc (n - suc d)) place 0 (end_of m v w.steps) w.reached d (pass-steps m q s v d place 0 d w.steps w.reached (omega arith) w.read w.allowed)
      ∙ steps-stop m q s (end_of m v w.steps) (n - suc d) w.reached d number at (fail-step m q (end_of m v w.steps) s w.reached number at w.fails)
    where
      counted : (n d : ℕ) → d < n → n ≡ d + suc (n - suc d)
      counted n d h = omega arith

  -- Marking of steps stops with d passed, a number and a place exactly where the first d steps read and are allowed and the next one fails
  -- with this number at this place
  pub steps-stop-exactly : (v : State) (n place number at d : ℕ) → (mark_steps m q v n s place 0 ≡ stopped number at d) ↔ StepsStop m q v n s place number at d
  steps-stop-exactly v n place number at d = (there, so-halted v n place number at d)
    where
      there : mark_steps m q v n s place 0 ≡ stopped number at d → StepsStop m q v n s place number at d
      there e =
          let w = halted-so v n place 0 number at d e in
          let same : w.more ≡ d = omega (arith, w.total) in
          subst (λ (x : ℕ). StepsStop m q v n s place number at x) same w.stop

-- an accepted certificate: the answer in full
pub certificate-accepted : (limits : Limits) (model second : List ℕ) (h : CertificateHolds limits model second) → mark_certificate limits model second ≡ answer 0 1 (length second) (length (obligations h.m h.certificate.regions)) 100
unfolding mark_certificate with_model mark_regions close_certificate
certificate-accepted limits model second w =
    let v = parts-of w.m second w.certificate w.second_end w.second_reads in
    let all = obligations w.m w.certificate.regions in
    let passes-all = read-marked all second v.place 0 w.certificate.proofs v.next v.proofs w.meet in
    ap (λ g. with_model g (λ m. mark_regions m second ((open_second 2 m >> read_regions m) second 0))) (read-opens limits model w.m w.model_end w.fit w.model_reads)
    ∙ ap (λ g. mark_regions w.m second g) v.regions
    ∙ ap (λ k. close_certificate (length all) second k) passes-all
    ∙ ap (λ g. elim g as (λ x. Answer) [ got u k ↦ answer 0 1 (length second) (0 + length all) (score_of (0 + length all) (length all)) | refused n at ↦ answer n 1 at (0 + length all) (refused_score (0 + length all) (length all)) ]) v.finishes
    ∙ ap (λ (n : ℕ). answer 0 1 (length second) n (score_of n (length all))) (count (length all))
    ∙ ap (λ (n : ℕ). answer 0 1 (length second) (length all) n) (full-score (length all))
  where
    count : (n : ℕ) → 0 + n ≡ n
    count n = omega arith

-- what every marking of a certificate says
module _ (limits : Limits) (model second : List ℕ) (m : Model) (end : ℕ) (fit : T (limits_fit limits)) (reads : read_model limits model ≡ got m end) where
  module _ (regions : List Condition) (place : ℕ) (regioned : (open_second 2 m >> read_regions m) second 0 ≡ got regions place) where
    abbrev all : List Obligation
    all = obligations m regions

    abbrev total : ℕ
    total = length all

    finish-ends : (proofs : List Proof) (next d : ℕ) → read_proofs all second place ≡ got proofs next → AllMeet all proofs → d ≡ 0 + total → (g : Got (Unit {0})) → finished second next ≡ g → CertificateEnds limits model second (elim g as (λ x. Answer) [ got v k ↦ answer 0 1 (length second) d (score_of d total) | refused n k ↦ answer n 1 k d (refused_score d total) ])
    finish-ends proofs next d p h c (got v k) f =
        let same : d ≡ total = omega arith in
        CertificateEnds.accepted
        (record { fit = fit; m = m; model_end = end; model_reads = reads; certificate = record { regions = regions; proofs = proofs }; second_end = k; second_reads = whole-certificate m second regions place next k proofs regioned p f; meet = h })
        (ap (λ (n : ℕ). answer 0 1 (length second) n (score_of n total)) same ∙ ap (λ (n : ℕ). answer 0 1 (length second) total n) (full-score total))
    finish-ends proofs next d p h c (refused n k) f =
        let same : d ≡ total = omega arith in
        CertificateEnds.bytes_left fit reads regioned p h f (ap (λ (x : ℕ). answer n 1 k x (refused_score x total)) same)

    proofs-end : (k : Marked (Unit {0})) → mark_proofs all second place 0 ≡ k → CertificateEnds limits model second (close_certificate total second k)
    unfolding close_certificate
    proofs-end (stopped number at d) e = CertificateEnds.proof-fails fit reads regioned ((proofs-stop-exactly all second place number at d).0 e) refl
    proofs-end (passed u next d) e =
        let w = marked-read all second place 0 u next d e in
        finish-ends w.0.proofs next d w.0.read w.0.meet w.1 (finished second next) refl

  regions-end : (g : Got (List Condition)) → (open_second 2 m >> read_regions m) second 0 ≡ g → CertificateEnds limits model second (mark_regions m second g)
  unfolding mark_regions
  regions-end (refused number at) e = CertificateEnds.regions-unread fit reads e refl
  regions-end (got regions place) e = proofs-end regions place e (mark_proofs (obligations m regions) second place 0) refl

pub certificate-ends : (limits : Limits) (model second : List ℕ) → CertificateEnds limits model second (mark_certificate limits model second)
unfolding mark_certificate with_model
certificate-ends limits model second = go (begins limits model)
  where
    ends : ModelOpened → Type 0
    ends g = CertificateEnds limits model second (with_model g (λ m. mark_regions m second ((open_second 2 m >> read_regions m) second 0)))

    go : Begins limits model (open_model limits model) → ends (open_model limits model)
    go (Begins.unfit e o) = subst ends (sym o) (CertificateEnds.limits-unfit e refl)
    go (Begins.unread number at t e o) = subst ends (sym o) (CertificateEnds.model-unread t e refl)
    go (Begins.begun m end t e o) = subst ends (sym o) (regions-end limits model second m end t e ((open_second 2 m >> read_regions m) second 0) refl)

-- what every marking of a run says
module _ (limits : Limits) (model second : List ℕ) (m : Model) (end : ℕ) (fit : T (limits_fit limits)) (reads : read_model limits model ≡ got m end) where
  module _ (o : Opening) (place : ℕ) (opened : (open_second 3 m >> read_opening m) second 0 ≡ got o place) (starts : T (start_allowed m o.q (first_state o))) where
    abbrev first : State
    first = first_state o

    verdict-ends : (steps : List Step) (next last d : ℕ) → many o.steps (read_step m) second place ≡ got steps next → T (steps_allowed m o.q first steps) → finished second next ≡ got tt last → d ≡ o.steps → (b : Bool) → is_unsafe m o.q (end_of m first steps) ≡ b → RunEnds limits model second (cond b (answer 0 1 (length second) d 100) (answer 14 1 (length second) d 0))
    verdict-ends steps next last d r a f c true u =
        let sheet : RunSheet = record { opening = o; steps = steps } in
        RunEnds.accepted
        (record { fit = fit; m = m; model_end = end; model_reads = reads; sheet = sheet; second_end = last; second_reads = parts-read m second sheet last (record { opening_end = place; opening = opened; steps_end = next; steps = r; finish = f }); starts = starts; allowed = a; ends = subst T (sym u) tt })
        (ap (λ (n : ℕ). answer 0 1 (length second) n 100) c)
    verdict-ends steps next last d r a f c false u = RunEnds.end-safe fit reads opened starts r a f u (ap (λ (n : ℕ). answer 14 1 (length second) n 0) c)

    close-ends : (v : State) (steps : List Step) (next d : ℕ) → many o.steps (read_step m) second place ≡ got steps next → T (steps_allowed m o.q first steps) → v ≡ end_of m first steps → d ≡ o.steps → (g : Got (Unit {0})) → finished second next ≡ g → RunEnds limits model second (elim g as (λ x. Answer) [ got u k ↦ cond (is_unsafe m o.q v) (answer 0 1 (length second) d 100) (answer 14 1 (length second) d 0) | refused n k ↦ answer n 1 k d 0 ])
    close-ends v steps next d r a e c (got u k) f =
        verdict-ends steps next k d r a f c (is_unsafe m o.q v) (ap (is_unsafe m o.q) (sym e))
    close-ends v steps next d r a e c (refused n k) f = RunEnds.bytes_left fit reads opened starts r a f (ap (λ (x : ℕ). answer n 1 k x 0) c)

    steps-end : (k : Marked State) → mark_steps m o.q first o.steps second place 0 ≡ k → RunEnds limits model second (close_run m o.q second k)
    unfolding close_run
    steps-end (stopped number at d) e = RunEnds.step-fails fit reads opened starts ((steps-stop-exactly m o.q second first o.steps place number at d).0 e) refl
    steps-end (passed v next d) e =
        let w = steps-passed m o.q second first o.steps place 0 v next d e in
        let again = sym e ∙ pass-steps m o.q second first o.steps place 0 o.steps w.steps next (omega arith) w.read w.allowed in
        let c : d ≡ o.steps = cc in
        close-ends v w.steps next d w.read w.allowed w.ends c (finished second next) refl

  opening-ends : (g : Got Opening) → (open_second 3 m >> read_opening m) second 0 ≡ g → RunEnds limits model second (mark_opening m second g)
  unfolding mark_opening
  opening-ends (refused number at) e = RunEnds.opening-unread fit reads e refl
  opening-ends (got o place) e = go (start_allowed m o.q (first_state o)) refl
    where
      go : (b : Bool) → start_allowed m o.q (first_state o) ≡ b → RunEnds limits model second (elim b as (λ x. Answer) [ true ↦ close_run m o.q second (mark_steps m o.q (first_state o) o.steps second place 0) | false ↦ answer 12 1 o.place 0 0 ])
      go true t = steps-end o place e (subst T (sym t) tt) (mark_steps m o.q (first_state o) o.steps second place 0) refl
      go false t = RunEnds.start-disallowed fit reads e t refl

pub run_ends : (limits : Limits) (model second : List ℕ) → RunEnds limits model second (mark_run limits model second)
unfolding mark_run with_model
run_ends limits model second = go (begins limits model)
  where
    ends : ModelOpened → Type 0
    ends g = RunEnds limits model second (with_model g (λ m. mark_opening m second ((open_second 3 m >> read_opening m) second 0)))

    go : Begins limits model (open_model limits model) → ends (open_model limits model)
    go (Begins.unfit e o) = subst ends (sym o) (RunEnds.limits-unfit e refl)
    go (Begins.unread number at t e o) = subst ends (sym o) (RunEnds.model-unread t e refl)
    go (Begins.begun m end t e o) = subst ends (sym o) (opening-ends limits model second m end t e ((open_second 3 m >> read_opening m) second 0) refl)
