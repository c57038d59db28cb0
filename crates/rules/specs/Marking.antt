-- Marking (01, Certificate, Run sheet and What is handed back): the five numbers for any two sheets. Assumes nothing.
use Rattle.std.specs.Prelude.{true, false, cond, List, [], ◌∷◌, map, ℕ, zero, suc, ◌*◌, min, length}
use Rattle.rules.specs.declared.Answer.{Answer}
use Rattle.farkas.specs.Farkas.{Proof, farkas_test}
use Rattle.formats.specs.Reading.{Reader, Got, got, refused, ◌>>◌, finished}
use Rattle.formats.specs.Rows.{Condition}
use Rattle.formats.specs.Model.{Model}
use Rattle.formats.specs.declared.Limits.{Limits}
use Rattle.formats.specs.Certificate.{read_regions, read_proof}
use Rattle.formats.specs.RunSheet.{Step, Opening, read_opening, read_step}
use Rattle.rules.specs.Nearest.{nearest}
use Rattle.rules.specs.Opening.{ModelOpened, opens, shut, open_model, open_second}
use Rattle.rules.specs.Runs.{State, start_allowed, step_allowed, after, is_unsafe}
use Rattle.rules.specs.Obligations.{Obligation, zero_only, obligations}

unfoldable pub answer : ℕ → ℕ → ℕ → ℕ → ℕ → Answer
answer number sheet place done score =
    record { number = number; sheet = sheet; place = place; done = done; score = score }

-- "100·done over all obligations .. 100 if there are none"; where 01 rounds down, 02, order 5 rounds "to the nearest whole percent, a half
-- going to the even one"
unfoldable pub score_of : ℕ → ℕ → ℕ
score_of done zero = 100
score_of done (suc total) = nearest (100 * done) (suc total)

-- "at most 99 when refused"; 02, order 5: "The cap of 99 on a refused paper stays", after the rounding
unfoldable pub refused_score : ℕ → ℕ → ℕ
refused_score done total = min 99 (score_of done total)

-- a marking that went on to a place, with so many proofs or steps passed, or stopped with a number and a place
pub data Marked (A : Type 0) : Type 0 where
  passed : A → ℕ → ℕ → Marked A
  stopped : ℕ → ℕ → ℕ → Marked A

-- "a proof is read, then 10, then 11": the proof of an obligation, from its place on
unfoldable pub test_proof : Obligation → ℕ → Got Proof → Got Proof
test_proof o place (refused number at) = refused number at
test_proof o place (got p next) =
    elim (farkas_test (map (λ h. h.row) o.hypotheses) o.goal p) [
      | zero ↦ got p next
      | suc n ↦ refused (suc n) place
    ]

unfoldable pub mark_proof : Obligation → Reader Proof
mark_proof o s place = test_proof o place (read_proof (length o.hypotheses) (zero_only o.kind) s place)

-- "Marking stops at the first proof or step that fails"
unfoldable pub mark_proofs : List Obligation → List ℕ → ℕ → ℕ → Marked (Unit {0})
mark_proofs [] s place done = passed tt place done
mark_proofs (o ∷ rest) s place done =
    elim (mark_proof o s place) [
      | got p next ↦ mark_proofs rest s next (suc done)
      | refused number at ↦ stopped number at done
    ]

-- after the last proof: "bytes left", then acceptance, "sheet 1 and its length"
unfoldable pub close_certificate : ℕ → List ℕ → Marked (Unit {0}) → Answer
close_certificate total s (stopped number at done) = answer number 1 at done (refused_score done total)
close_certificate total s (passed u place done) =
    elim (finished s place) [
      | got v next ↦ answer 0 1 (length s) done (score_of done total)
      | refused number at ↦ answer number 1 at done (refused_score done total)
    ]

-- the score is "0 until its regions are read"
unfoldable pub mark_regions : Model → List ℕ → Got (List Condition) → Answer
mark_regions m s (refused number at) = answer number 1 at 0 0
mark_regions m s (got regions place) =
    let all : List Obligation = obligations m regions in
    close_certificate (length all) s (mark_proofs all s place 0)

-- "The model goes first"
unfoldable pub with_model : ModelOpened → (Model → Answer) → Answer
with_model (shut number sheet at) f = answer number sheet at 0 0
with_model (opens m) f = f m

unfoldable pub mark_certificate : Limits → List ℕ → List ℕ → Answer
mark_certificate limits model second =
    with_model (open_model limits model) (λ m. mark_regions m second ((open_second 2 m >> read_regions m) second 0))

-- "a step once read": 13 at the step's first byte
unfoldable pub test_step : Model → ℕ → State → ℕ → Got Step → Got Step
test_step m q s place (refused number at) = refused number at
test_step m q s place (got t next) = cond (step_allowed m q s t) (got t next) (refused 13 place)

unfoldable pub mark_step : Model → ℕ → State → Reader Step
mark_step m q s sheet place = test_step m q s place (read_step m sheet place)

unfoldable pub mark_steps : Model → ℕ → State → ℕ → List ℕ → ℕ → ℕ → Marked State
mark_steps m q s zero sheet place done = passed s place done
mark_steps m q s (suc n) sheet place done =
    elim (mark_step m q s sheet place) [
      | got t next ↦ mark_steps m q (after m s t) n sheet next (suc done)
      | refused number at ↦ stopped number at done
    ]

-- "bytes left precede 14"; of 14 the place is "the sheet's length"; "An accepted run scores 100; the rest 0"
unfoldable pub close_run : Model → ℕ → List ℕ → Marked State → Answer
close_run m q sheet (stopped number at done) = answer number 1 at done 0
close_run m q sheet (passed s place done) =
    elim (finished sheet place) [
      | got v next ↦ cond (is_unsafe m q s) (answer 0 1 (length sheet) done 100) (answer 14 1 (length sheet) done 0)
      | refused number at ↦ answer number 1 at done 0
    ]

unfoldable pub first_state : Opening → State
first_state o = record { location = o.location; values = o.values }

-- "Start is tested once read": 12 at "the location byte"
unfoldable pub mark_opening : Model → List ℕ → Got Opening → Answer
mark_opening m sheet (refused number at) = answer number 1 at 0 0
mark_opening m sheet (got o next) =
    elim (start_allowed m o.q (first_state o)) [
      | true ↦ close_run m o.q sheet (mark_steps m o.q (first_state o) o.steps sheet next 0)
      | false ↦ answer 12 1 o.place 0 0
    ]

unfoldable pub mark_run : Limits → List ℕ → List ℕ → Answer
mark_run limits model second =
    with_model (open_model limits model) (λ m. mark_opening m second ((open_second 3 m >> read_opening m) second 0))
