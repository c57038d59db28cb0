-- Sheets that read well, whole, as demand 2 speaks of them: what they hold, and what acceptance then asks of it, as propositions.
-- The marking reads the same fields and tests between them; theorems say that it accepts exactly this. Assumes nothing.
use Rattle.std.specs.Prelude.{◌≡◌, List, [], ◌∷◌, map, ℕ, T, length}
use Rattle.farkas.specs.Rows.{Row}
use Rattle.farkas.specs.Farkas.{Proof, sum_at, bound_sum, PlainMeet, Meets}
use Rattle.formats.specs.Reading.{Reader, got, ◌>>=◌, ◌>>◌, give, many, each, finished}
use Rattle.formats.specs.Rows.{Condition}
use Rattle.formats.specs.Model.{Model}
use Rattle.formats.specs.declared.Limits.{Limits}
use Rattle.formats.specs.ModelSheet.{limits_fit, read_model}
use Rattle.formats.specs.Certificate.{read_regions, read_proof}
use Rattle.formats.specs.RunSheet.{Step, Opening, read_opening, read_step}
use Rattle.rules.specs.Opening.{open_second}
use Rattle.rules.specs.Runs.{start_allowed, steps_allowed, end_of, is_unsafe}
use Rattle.rules.specs.Obligations.{Obligation, zero_only, obligations}
use Rattle.rules.specs.Marking.{first_state}

-- a certificate: regions, then a proof per obligation
pub record Certificate : Type 0 where
  pub regions : List Condition
  pub proofs : List Proof

unfoldable pub read_proofs : List Obligation → Reader (List Proof)
read_proofs all = each (λ o. read_proof (length o.hypotheses) (zero_only o.kind)) all

unfoldable pub read_certificate : Model → Reader Certificate
read_certificate m = do
  open_second 2 m
  regions ← read_regions m
  proofs ← read_proofs (obligations m regions)
  finished
  give (record { regions = regions; proofs = proofs })

unfoldable pub rows_of : Obligation → List Row
rows_of o = map (λ h. h.row) o.hypotheses

-- every obligation's multipliers meet Farkas' condition
pub data AllMeet : List Obligation → List Proof → Type 0 where
  met-none : AllMeet [] []
  met-more : {o : Obligation} {p : Proof} {rest : List Obligation} {proofs : List Proof} → Meets (rows_of o) o.goal p → AllMeet rest proofs → AllMeet (o ∷ rest) (p ∷ proofs)

-- the same by Farkas' condition as 01 writes it, which knows of no strict rows: "The multiplied hypotheses must sum to k times the goal's
-- coefficients, at every unknown. The summed bound must be at most k times the goal's bound, or, at k = 0, below 0"
pub data AllMeetPlainly : List Obligation → List Proof → Type 0 where
  plainly-none : AllMeetPlainly [] []
  plainly-more : {o : Obligation} {p : Proof} {rest : List Obligation} {proofs : List Proof} → PlainMeet p.k (sum_at (rows_of o) p.entries) (bound_sum (rows_of o) p.entries) o.goal → AllMeetPlainly rest proofs → AllMeetPlainly (o ∷ rest) (p ∷ proofs)

-- demand 2 for certificates: both sheets read well, and the proofs meet what is asked of them
pub record CertificateMeets (Met : List Obligation → List Proof → Type 0) (limits : Limits) (model second : List ℕ) : Type 0 where
  pub fit : T (limits_fit limits)
  pub m : Model
  pub model_end : ℕ
  pub model_reads : read_model limits model ≡ got m model_end
  pub certificate : Certificate
  pub second_end : ℕ
  pub second_reads : read_certificate m second 0 ≡ got certificate second_end
  pub meet : Met (obligations m certificate.regions) certificate.proofs

abbrev pub CertificateHolds : Limits → List ℕ → List ℕ → Type 0
CertificateHolds = CertificateMeets AllMeet

-- a run sheet: its opening, then its steps
pub record RunSheet : Type 0 where
  pub opening : Opening
  pub steps : List Step

unfoldable pub read_run_sheet : Model → Reader RunSheet
read_run_sheet m = do
  open_second 3 m
  opening ← read_opening m
  steps ← many opening.steps (read_step m)
  finished
  give (record { opening = opening; steps = steps })

-- demand 2 for runs: a trajectory of the model that ends unsafe
pub record RunHolds (limits : Limits) (model second : List ℕ) : Type 0 where
  pub fit : T (limits_fit limits)
  pub m : Model
  pub model_end : ℕ
  pub model_reads : read_model limits model ≡ got m model_end
  pub sheet : RunSheet
  pub second_end : ℕ
  pub second_reads : read_run_sheet m second 0 ≡ got sheet second_end
  pub starts : T (start_allowed m sheet.opening.q (first_state sheet.opening))
  pub allowed : T (steps_allowed m sheet.opening.q (first_state sheet.opening) sheet.steps)
  pub ends : T (is_unsafe m sheet.opening.q (end_of m (first_state sheet.opening) sheet.steps))
