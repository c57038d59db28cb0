-- What the five numbers say, for every pair of sheets: each way in which a marking can end, with what then holds of the sheets and the
-- answer in full. "done (proofs or steps passed ..)": the first `done` proofs or steps passed, in order, and where the marking stopped
-- early, the next one is the one that fails. Assumes nothing.
use Rattle.std.specs.Prelude.{◌≡◌, false, List, ◌∷◌, ◌++◌, ℕ, ◌≤◌, ◌<◌, T, length}
use Rattle.rules.specs.Opening.{open_second}
use Rattle.rules.specs.declared.Answer.{Answer}
use Rattle.farkas.specs.Farkas.{Proof, farkas_test}
use Rattle.formats.specs.Reading.{got, refused, ◌>>◌, many, finished}
use Rattle.formats.specs.Rows.{Condition}
use Rattle.formats.specs.Model.{Model}
use Rattle.formats.specs.declared.Limits.{Limits}
use Rattle.formats.specs.ModelSheet.{limits_fit, read_model}
use Rattle.formats.specs.Certificate.{read_regions, read_proof}
use Rattle.formats.specs.RunSheet.{Step, Opening, read_opening, read_step}
use Rattle.rules.specs.Runs.{State, start_allowed, step_allowed, steps_allowed, end_of, is_unsafe}
use Rattle.rules.specs.Obligations.{Obligation, zero_only, obligations}
use Rattle.rules.specs.Marking.{answer, refused_score, first_state}
use Rattle.rules.specs.ReadWell.{read_proofs, rows_of, AllMeet, CertificateHolds, RunHolds}

-- the proof at a place fails: it does not read, or it reads and Farkas' test gives a number, then at the proof's place
pub data ProofFails (o : Obligation) (s : List ℕ) (place number at : ℕ) : Type 0 where
  unreadable : read_proof (length o.hypotheses) (zero_only o.kind) s place ≡ refused number at → ProofFails o s place number at
  unmet : (p : Proof) (next : ℕ) → read_proof (length o.hypotheses) (zero_only o.kind) s place ≡ got p next → farkas_test (rows_of o) o.goal p ≡ number → 1 ≤ number → at ≡ place → ProofFails o s place number at

-- of these obligations the first `done` have proofs that read one after the other and meet the condition; the next one's fails
pub record ProofsStop (all : List Obligation) (s : List ℕ) (place number at done : ℕ) : Type 0 where
  pub first : List Obligation
  pub failing : Obligation
  pub rest : List Obligation
  pub order : all ≡ first ++ (failing ∷ rest)
  pub count : length first ≡ done
  pub proofs : List Proof
  pub reached : ℕ
  pub read : read_proofs first s place ≡ got proofs reached
  pub meet : AllMeet first proofs
  pub fails : ProofFails failing s reached number at

-- the step at a place fails: it does not read, or it reads and is not allowed, 13 at the step's place
pub data StepFails (m : Model) (q : ℕ) (v : State) (s : List ℕ) (place number at : ℕ) : Type 0 where
  unreadable : read_step m s place ≡ refused number at → StepFails m q v s place number at
  disallowed : (t : Step) (next : ℕ) → read_step m s place ≡ got t next → step_allowed m q v t ≡ false → number ≡ 13 → at ≡ place → StepFails m q v s place number at

-- of n steps the first `done` read one after the other and are allowed; the next one, from the state that they lead to, fails
pub record StepsStop (m : Model) (q : ℕ) (v : State) (n : ℕ) (s : List ℕ) (place number at done : ℕ) : Type 0 where
  pub fewer : done < n
  pub steps : List Step
  pub reached : ℕ
  pub read : many done (read_step m) s place ≡ got steps reached
  pub allowed : T (steps_allowed m q v steps)
  pub fails : StepFails m q (end_of m v steps) s reached number at

-- every end of a certificate's marking
pub data CertificateEnds (limits : Limits) (model second : List ℕ) (a : Answer) : Type 0 where
  limits-unfit : limits_fit limits ≡ false → a ≡ answer 5 2 0 0 0 → CertificateEnds limits model second a
  model-unread : {number at : ℕ} → T (limits_fit limits) → read_model limits model ≡ refused number at → a ≡ answer number 0 at 0 0 → CertificateEnds limits model second a
  regions-unread : {m : Model} {end number at : ℕ} → T (limits_fit limits) → read_model limits model ≡ got m end → (open_second 2 m >> read_regions m) second 0 ≡ refused number at → a ≡ answer number 1 at 0 0 → CertificateEnds limits model second a
  proof-fails : {m : Model} {end : ℕ} {regions : List Condition} {place number at done : ℕ} → T (limits_fit limits) → read_model limits model ≡ got m end → (open_second 2 m >> read_regions m) second 0 ≡ got regions place → ProofsStop (obligations m regions) second place number at done → a ≡ answer number 1 at done (refused_score done (length (obligations m regions))) → CertificateEnds limits model second a
  bytes_left : {m : Model} {end : ℕ} {regions : List Condition} {place : ℕ} {proofs : List Proof} {next number at : ℕ} → T (limits_fit limits) → read_model limits model ≡ got m end → (open_second 2 m >> read_regions m) second 0 ≡ got regions place → read_proofs (obligations m regions) second place ≡ got proofs next → AllMeet (obligations m regions) proofs → finished second next ≡ refused number at → a ≡ answer number 1 at (length (obligations m regions)) (refused_score (length (obligations m regions)) (length (obligations m regions))) → CertificateEnds limits model second a
  accepted : (h : CertificateHolds limits model second) → a ≡ answer 0 1 (length second) (length (obligations h.m h.certificate.regions)) 100 → CertificateEnds limits model second a

-- every end of a run's marking
pub data RunEnds (limits : Limits) (model second : List ℕ) (a : Answer) : Type 0 where
  limits-unfit : limits_fit limits ≡ false → a ≡ answer 5 2 0 0 0 → RunEnds limits model second a
  model-unread : {number at : ℕ} → T (limits_fit limits) → read_model limits model ≡ refused number at → a ≡ answer number 0 at 0 0 → RunEnds limits model second a
  opening-unread : {m : Model} {end number at : ℕ} → T (limits_fit limits) → read_model limits model ≡ got m end → (open_second 3 m >> read_opening m) second 0 ≡ refused number at → a ≡ answer number 1 at 0 0 → RunEnds limits model second a
  start-disallowed : {m : Model} {end : ℕ} {o : Opening} {place : ℕ} → T (limits_fit limits) → read_model limits model ≡ got m end → (open_second 3 m >> read_opening m) second 0 ≡ got o place → start_allowed m o.q (first_state o) ≡ false → a ≡ answer 12 1 o.place 0 0 → RunEnds limits model second a
  step-fails : {m : Model} {end : ℕ} {o : Opening} {place number at done : ℕ} → T (limits_fit limits) → read_model limits model ≡ got m end → (open_second 3 m >> read_opening m) second 0 ≡ got o place → T (start_allowed m o.q (first_state o)) → StepsStop m o.q (first_state o) o.steps second place number at done → a ≡ answer number 1 at done 0 → RunEnds limits model second a
  bytes_left : {m : Model} {end : ℕ} {o : Opening} {place : ℕ} {steps : List Step} {next number at : ℕ} → T (limits_fit limits) → read_model limits model ≡ got m end → (open_second 3 m >> read_opening m) second 0 ≡ got o place → T (start_allowed m o.q (first_state o)) → many o.steps (read_step m) second place ≡ got steps next → T (steps_allowed m o.q (first_state o) steps) → finished second next ≡ refused number at → a ≡ answer number 1 at o.steps 0 → RunEnds limits model second a
  end-safe : {m : Model} {end : ℕ} {o : Opening} {place : ℕ} {steps : List Step} {next last : ℕ} → T (limits_fit limits) → read_model limits model ≡ got m end → (open_second 3 m >> read_opening m) second 0 ≡ got o place → T (start_allowed m o.q (first_state o)) → many o.steps (read_step m) second place ≡ got steps next → T (steps_allowed m o.q (first_state o) steps) → finished second next ≡ got tt last → is_unsafe m o.q (end_of m (first_state o) steps) ≡ false → a ≡ answer 14 1 (length second) o.steps 0 → RunEnds limits model second a
  accepted : (h : RunHolds limits model second) → a ≡ answer 0 1 (length second) h.sheet.opening.steps 100 → RunEnds limits model second a
