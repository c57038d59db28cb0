-- Every answer's fields stay in their ranges: number, sheet, place within the sheet that it names, done and score. And the row that
-- show row finds stands within the sheet that it names. Assumes nothing.
use mathlib.Core.Path.{◌≡◌, refl, subst, sym}
use mathlib.Core.Logic.{⊎_elim}
use mathlib.Core.Bool.{Bool, true, false, cond, ◌&&◌}
use mathlib.Core.List.{List, [], ◌∷◌, map}
use Prim.Native.Nat.{ℕ, zero, suc, ◌+◌, ◌-◌, ◌^◌, ◌≤◌, ◌<◌}
use native.Mathlib.Omega.{arith}
use lib.Dec.{leb, ltb}
use lib.ListN.{length, get_or}
use borrow.Author.Tests.{leb-true, leb-false}
use Rattle.farkas.specs.Lists.{All, none}
use Rattle.farkas.specs.Rows.{Row, zero_row}
use Rattle.farkas.specs.Farkas.{Proof, farkas_test}
use Rattle.farkas.proofs.All.{all-at}
use Rattle.farkas.proofs.Promise.{only-three}
use Rattle.formats.specs.Reading.{Got, got, refused, ◌>>=◌, ◌>>◌, u8, u16, u32, within, below, and_then, give, here, finished}
use Rattle.formats.specs.Rows.{Condition}
use Rattle.formats.specs.Model.{Model}
use Rattle.formats.specs.Locations.{location_count}
use Rattle.formats.specs.Joint.{joints}
use Rattle.formats.specs.declared.Limits.{Limits}
use Rattle.formats.specs.ModelSheet.{read_model}
use Rattle.formats.specs.Certificate.{read_regions}
use Rattle.formats.specs.RunSheet.{Step, Opening, read_values, read_opening}
use Rattle.formats.proofs.Gives.{Gives, passes, gives-bind, gives_then, gives-give, gives-any, gives-within}
use Rattle.formats.proofs.Placed.{FineTo, Fine, placed-up, placed-then, placed-within, placed-u16, placed-u32, placed-finished, placed-regions, placed-proof, placed-opening, placed-step, model-fine}
use Rattle.formats.proofs.Members.{all-members}
use Rattle.formats.proofs.RowPlaces.{EndsWithin, RowsWithin, ModelWithin, rows-within, regions-within}
use Rattle.rules.specs.declared.Answer.{Answer}
use Rattle.rules.specs.Runs.{State, start_allowed, step_allowed, after, is_unsafe}
use Rattle.rules.specs.Obligations.{Hypothesis, nowhere, standing, time_row, staying_rows, Obligation, zero_only, obligations}
use Rattle.rules.proofs.Calls.{found_by}
use Rattle.rules.proofs.Opening.{Begins, begins, with-model, placed-second}
use Rattle.rules.specs.Opening.{open_model, open_second}
use Rattle.rules.specs.Marking.{answer, score_of, refused_score, Marked, passed, stopped, test_proof, mark_proof, mark_proofs, close_certificate, mark_regions, mark_certificate, test_step, mark_step, mark_steps, close_run, first_state, mark_opening, mark_run}
use Rattle.rules.specs.Beside.{list_answer, Found, found, unfound, no_obligation, find_in, find_after, find_hypothesis, found_answer, show_answer, sheet_of, list_of}
use Rattle.rules.proofs.Hypotheses.{all_so}
use Rattle.rules.proofs.Scores.{score-fits, refused-score-fits}
use Rattle.rules.proofs.EveryHypothesis.{Serves, every-obligation}

-- the fields of an answer on these two sheets, all but done, whose bound is each call's own
pub record AnswerRange (model second : List ℕ) (a : Answer) : Type 0 where
  pub number : a.number ≤ 18
  pub sheet : a.sheet ≤ 2
  pub in_model : a.sheet ≡ 0 → a.place ≤ length model
  pub in_second : a.sheet ≡ 1 → a.place ≤ length second
  pub score : a.score ≤ 100
  pub refused : 1 ≤ a.number → a.score ≤ 99

-- a proof or step once tested: a value ends within the sheet; a refusal has a number, and a place within the sheet
abbrev Judged : {A : Type 0} → List ℕ → Got A → Type 0
Judged s (got a next) = next ≤ length s
Judged s (refused number at) = (1 ≤ number) × (number ≤ 13) × (at ≤ length s)

-- the same of a marking, of so many proofs or steps
abbrev pub Marks : {A : Type 0} → List ℕ → ℕ → Marked A → Type 0
Marks s all (passed a place done) = (place ≤ length s) × (done ≡ all)
Marks s all (stopped number at done) = (1 ≤ number) × (number ≤ 13) × (at ≤ length s) × (done ≤ all)

-- one proof or step, then the others
marks-next : {A B : Type 0} (s : List ℕ) (all done : ℕ) (g : Got A) (rest : A → ℕ → Marked B) → done ≤ all → Judged s g → ((a : A) (next : ℕ) → next ≤ length s → Marks s all (rest a next)) → Marks {A = B} s all (elim g [ got a next ↦ rest a next | refused number at ↦ stopped number at done ])
marks-next s all done (got a next) rest h j k = k a next j
marks-next s all done (refused number at) rest h j k = omega arith

farkas-number : (hypotheses : List Row) (goal : Row) (p : Proof) → farkas_test hypotheses goal p ≤ 11
farkas-number hypotheses goal p =
    ⊎_elim (λ e. omega arith) (λ d. ⊎_elim (λ e. omega arith) (λ e. omega arith) d) (only-three hypotheses goal p)

proof-judged : (o : Obligation) (s : List ℕ) (p : ℕ) (g : Got Proof) → p ≤ length s → Fine s p g → Judged s (test_proof o p g)
unfolding test_proof
proof-judged o s p (got x next) h w = go (farkas_test (map (λ h. h.row) o.hypotheses) o.goal x) (farkas-number _ _ x)
  where
    go : (n : ℕ) → n ≤ 11 → Judged {A = Proof} s (elim n [ zero ↦ got x next | suc n ↦ refused (suc n) p ])
    go zero l = w.1
    go (suc n) l = omega arith
proof-judged o s p (refused number at) h w = omega arith

pub proofs-mark : (all : List Obligation) (s : List ℕ) (p done total : ℕ) → p ≤ length s → done + length all ≡ total → Marks s total (mark_proofs all s p done)
unfolding mark_proofs mark_proof
proofs-mark [] s p done total h e = omega arith
proofs-mark (o ∷ rest) s p done total h e =
    marks-next s total done (mark_proof o s p) (λ a next. mark_proofs rest s next (suc done)) (omega arith)
    (proof-judged o s p _ h ((placed-proof {least = 0} (length o.hypotheses) (zero_only o.kind)).fine s p (omega arith) h))
    (λ a next l. proofs-mark rest s next (suc done) total l (omega arith))

-- in range, with at most so many done
abbrev Within : List ℕ → List ℕ → ℕ → Answer → Type 0
Within model second most a = AnswerRange model second a × (a.done ≤ most)

close-certificate : (model second : List ℕ) (total : ℕ) (k : Marked (Unit {0})) → Marks second total k → Within model second total (close_certificate total second k)
unfolding close_certificate answer
close-certificate model second total (stopped number at done) w =
    let l = refused-score-fits done total in omega arith
close-certificate model second total (passed u place done) w =
    go (finished second place) ((placed-finished {least = 0}).fine second place (omega arith) w.0)
  where
    go : (g : Got (Unit {0})) → Fine second place g → Within model second total (elim g [ got v next ↦ answer 0 1 (length second) done (score_of done total) | refused number at ↦ answer number 1 at done (refused_score done total) ])
    go (got v next) x = let l = score-fits done total (omega arith) in omega arith
    go (refused number at) x = let l = refused-score-fits done total in omega arith

-- the second sheet up to its regions
pub regions-fine : (m : Model) (s : List ℕ) → FineTo 18 s 0 ((open_second 2 m >> read_regions m) s 0)
regions-fine m s = (placed-then {least = 0} (placed-second 2 m) (placed-up (omega arith) (placed-regions m))).fine s 0 (omega arith) (omega arith)

-- proofs done: none, or, once the regions are read, at most one for each obligation
pub data ProofsDone (limits : Limits) (model second : List ℕ) (done : ℕ) : Type 0 where
  before-proofs : done ≡ 0 → ProofsDone limits model second done
  of-obligations : {m : Model} {model_end : ℕ} {regions : List Condition} {place : ℕ} → read_model limits model ≡ got m model_end → (open_second 2 m >> read_regions m) second 0 ≡ got regions place → done ≤ length (obligations m regions) → ProofsDone limits model second done

abbrev CertificateRange : Limits → List ℕ → List ℕ → Answer → Type 0
CertificateRange limits model second a = AnswerRange model second a × ProofsDone limits model second a.done

regions-marked : (limits : Limits) (model second : List ℕ) (m : Model) (model_end : ℕ) (g : Got (List Condition)) → read_model limits model ≡ got m model_end → (open_second 2 m >> read_regions m) second 0 ≡ g → FineTo 18 second 0 g → CertificateRange limits model second (mark_regions m second g)
unfolding mark_regions answer
regions-marked limits model second m model_end (got regions place) e d w =
    let all : List Obligation = obligations m regions in
    let h = close-certificate model second (length all) (mark_proofs all second place 0) (proofs-mark all second place 0 (length all) w.1 (omega arith)) in
    (h.0, of-obligations e d h.1)
regions-marked limits model second m model_end (refused number at) e d w = (omega arith, before-proofs refl)

certificate-ranges : (limits : Limits) (model second : List ℕ) → CertificateRange limits model second (mark_certificate limits model second)
unfolding mark_certificate answer
certificate-ranges limits model second =
    with-model (CertificateRange limits model second) limits model _
    (omega arith, before-proofs refl)
    (λ number at i j k. (omega arith, before-proofs refl))
    (λ m next t e. regions-marked limits model second m next _ e refl (regions-fine m second))

pub certificate-in-range : (limits : Limits) (model second : List ℕ) → AnswerRange model second (mark_certificate limits model second)
certificate-in-range limits model second = (certificate-ranges limits model second).0

pub certificate-done : (limits : Limits) (model second : List ℕ) → ProofsDone limits model second (mark_certificate limits model second).done
certificate-done limits model second = (certificate-ranges limits model second).1

-- a run sheet up to its opening
pub opening-fine : (m : Model) (s : List ℕ) → FineTo 18 s 0 ((open_second 3 m >> read_opening m) s 0)
opening-fine m s = (placed-then {least = 0} (placed-second 3 m) (placed-up (omega arith) (placed-opening m))).fine s 0 (omega arith) (omega arith)

pub opening-gives : (m : Model) → Gives (λ o. (1 ≤ o.q) × (o.steps ≤ 4095)) (read_opening m)
unfolding read_opening
opening-gives m =
    gives-bind (gives-within 1 (2 ^ 24 - 1) u32)
    (λ q i.
    gives-bind (gives-within 0 4095 u16)
    (λ steps j. gives-bind gives-any (λ place u. gives-bind gives-any (λ location u. gives-bind gives-any (λ values u. gives-give _ (i.0, j.1))))))

got-fine : {A : Type 0} (most : ℕ) (s : List ℕ) (p : ℕ) (g : Got A) (a : A) (next : ℕ) → FineTo most s p g → g ≡ got a next → next ≤ length s
got-fine most s p g a next w e = (subst (λ x. FineTo most s p x) e w).1

-- the place of its location stands within the sheet
opening-rest : (m : Model) (q steps place : ℕ) → Gives {A = Opening} (λ o. o.place ≡ place) (below (location_count m.components) u8 >>= λ location. read_values m.variables >>= λ values. give (record { q = q; steps = steps; place = place; location = location; values = values }))
opening-rest m q steps place = gives-bind gives-any (λ location u. gives-bind gives-any (λ values u. gives-give _ refl))

pub opening-place : (m : Model) (s : List ℕ) (p : ℕ) (o : Opening) (next : ℕ) → p ≤ length s → read_opening m s p ≡ got o next → o.place ≤ length s
unfolding read_opening ◌>>=◌ and_then here
opening-place m s p o next h e =
    let w = passes (within 1 (2 ^ 24 - 1) u32 s p) _ s o next e in
    let i = got-fine 9 s p _ _ _ ((placed-within {least = 0} 1 (2 ^ 24 - 1) placed-u32).fine s p (omega arith) h) w.first in
    let v = passes (within 0 4095 u16 s w.place) _ s o next w.second in
    let j = got-fine 9 s w.place _ _ _ ((placed-within {least = 0} 0 4095 placed-u16).fine s w.place (omega arith) i) v.first in
    let k = (opening-rest m w.value v.value v.place).holds s v.place o next v.second in
    omega arith

-- steps
step-judged : (m : Model) (q : ℕ) (v : State) (s : List ℕ) (p : ℕ) (g : Got Step) → p ≤ length s → Fine s p g → Judged s (test_step m q v p g)
unfolding test_step
step-judged m q v s p (got t next) h w = go (step_allowed m q v t)
  where
    go : (b : Bool) → Judged s (cond b (got t next) (refused 13 p))
    go true = w.1
    go false = omega arith
step-judged m q v s p (refused number at) h w = omega arith

pub steps-mark : (m : Model) (q : ℕ) (v : State) (n : ℕ) (s : List ℕ) (p done total : ℕ) → p ≤ length s → done + n ≡ total → Marks s total (mark_steps m q v n s p done)
unfolding mark_steps mark_step
steps-mark m q v zero s p done total h e = omega arith
steps-mark m q v (suc n) s p done total h e =
    marks-next s total done (mark_step m q v s p) (λ t next. mark_steps m q (after m v t) n s next (suc done)) (omega arith)
    (step-judged m q v s p _ h ((placed-step {least = 0} m).fine s p (omega arith) h))
    (λ t next l. steps-mark m q (after m v t) n s next (suc done) total l (omega arith))

close-run : (model second : List ℕ) (m : Model) (q total : ℕ) (k : Marked State) → Marks second total k → Within model second total (close_run m q second k)
unfolding close_run answer
close-run model second m q total (stopped number at done) w = omega arith
close-run model second m q total (passed v place done) w =
    go (finished second place) ((placed-finished {least = 0}).fine second place (omega arith) w.0)
  where
    verdict : (b : Bool) → Within model second total (cond b (answer 0 1 (length second) done 100) (answer 14 1 (length second) done 0))
    verdict true = omega arith
    verdict false = omega arith

    go : (g : Got (Unit {0})) → Fine second place g → Within model second total (elim g [ got u next ↦ cond (is_unsafe m q v) (answer 0 1 (length second) done 100) (answer 14 1 (length second) done 0) | refused number at ↦ answer number 1 at done 0 ])
    go (got u next) x = verdict (is_unsafe m q v)
    go (refused number at) x = omega arith

-- steps done: none, or, once the opening is read, at most as many as it says
pub data StepsDone (limits : Limits) (model second : List ℕ) (done : ℕ) : Type 0 where
  before-steps : done ≡ 0 → StepsDone limits model second done
  of-opening : {m : Model} {model_end : ℕ} {o : Opening} {place : ℕ} → read_model limits model ≡ got m model_end → (open_second 3 m >> read_opening m) second 0 ≡ got o place → done ≤ o.steps → StepsDone limits model second done

abbrev RunRange : Limits → List ℕ → List ℕ → Answer → Type 0
RunRange limits model second a = AnswerRange model second a × StepsDone limits model second a.done

opening-marked : (limits : Limits) (model second : List ℕ) (m : Model) (model_end : ℕ) (g : Got Opening) → read_model limits model ≡ got m model_end → (open_second 3 m >> read_opening m) second 0 ≡ g → FineTo 18 second 0 g → RunRange limits model second (mark_opening m second g)
unfolding mark_opening answer ◌>>◌
opening-marked limits model second m model_end (got o place) e d w = go (start_allowed m o.q (first_state o))
  where
    go : (b : Bool) → RunRange limits model second (elim b [ true ↦ close_run m o.q second (mark_steps m o.q (first_state o) o.steps second place 0) | false ↦ answer 12 1 o.place 0 0 ])
    go true =
        let h = close-run model second m o.q o.steps _ (steps-mark m o.q (first_state o) o.steps second place 0 o.steps w.1 (omega arith)) in
        (h.0, of-opening e d h.1)
    go false =
        let v = passes (open_second 3 m second 0) _ second o place d in
        let i = got-fine 18 second 0 _ _ _ ((placed-second {least = 0} 3 m).fine second 0 (omega arith) (omega arith)) v.first in
        let j = opening-place m second v.place o place i v.second in
        (omega arith, before-steps refl)
opening-marked limits model second m model_end (refused number at) e d w = (omega arith, before-steps refl)

run-ranges : (limits : Limits) (model second : List ℕ) → RunRange limits model second (mark_run limits model second)
unfolding mark_run answer
run-ranges limits model second =
    with-model (RunRange limits model second) limits model _
    (omega arith, before-steps refl)
    (λ number at i j k. (omega arith, before-steps refl))
    (λ m next t e. opening-marked limits model second m next _ e refl (opening-fine m second))

pub run-in-range : (limits : Limits) (model second : List ℕ) → AnswerRange model second (mark_run limits model second)
run-in-range limits model second = (run-ranges limits model second).0

pub run-done : (limits : Limits) (model second : List ℕ) → StepsDone limits model second (mark_run limits model second).done
run-done limits model second = (run-ranges limits model second).1

steps-few : (limits : Limits) (model second : List ℕ) (done : ℕ) → StepsDone limits model second done → done ≤ 4095
steps-few limits model second done (before-steps e) = omega arith
steps-few limits model second done (of-opening {m = m} {o = o} {place = place} e d h) =
    let k = (gives_then (open_second 3 m) (opening-gives m)).holds second 0 o place d in
    omega arith

pub run-few : (limits : Limits) (model second : List ℕ) → (mark_run limits model second).done ≤ 4095
run-few limits model second = steps-few limits model second _ (run-done limits model second)

-- the joint list: a table too short is told, with sheet 2, how many records it needs
pub record Needs (limits : Limits) (model : List ℕ) (lent : ℕ) (a : Answer) : Type 0 where
  pub m : Model
  pub model_end : ℕ
  pub model_reads : read_model limits model ≡ got m model_end
  pub sheet : a.sheet ≡ 2
  pub place : a.place ≡ length (joints m.components)
  pub short : lent < a.place

pub record ListRange (limits : Limits) (model second : List ℕ) (lent : ℕ) (a : Answer) : Type 0 where
  pub range : AnswerRange model second a
  pub number : a.number ≤ 15
  pub done : a.done ≤ lent
  pub needs : a.number ≡ 15 → Needs limits model lent a

pub list-in-range : (limits : Limits) (model second : List ℕ) (lent : ℕ) → ListRange limits model second lent (list_answer limits model lent)
unfolding list_answer list_of answer
list-in-range limits model second lent =
    with-model (ListRange limits model second lent) limits model _
    (record { range = omega arith; number = omega arith; done = omega arith; needs = λ e. absurd (omega arith) })
    (λ number at i j k. record { range = omega arith; number = omega arith; done = omega arith; needs = λ e. absurd (omega arith) })
    (λ m next t e. go m next e (leb (length (joints m.components)) lent) refl)
  where
    go : (m : Model) (next : ℕ) → read_model limits model ≡ got m next → (b : Bool) → leb (length (joints m.components)) lent ≡ b → ListRange limits model second lent (cond b (answer 0 0 (length model) (length (joints m.components)) 0) (answer 15 2 (length (joints m.components)) 0 0))
    go m next e true d = record { range = omega arith; number = omega arith; done = leb-true _ lent d; needs = λ h. absurd (omega arith) }
    go m next e false d =
        record {
          range = omega arith;
          number = omega arith;
          done = omega arith;
          needs = λ h. record { m = m; model_end = next; model_reads = e; sheet = refl; place = refl; short = leb-false _ lent d };
        }

-- a hypothesis stands within the sheet that it names; one in no sheet has no bytes
pub record RowStands (model second : List ℕ) (h : Hypothesis) : Type 0 where
  pub sheet : h.sheet ≤ 2
  pub ends : h.place + h.size ≤ length (sheet_of model second h.sheet)

-- every hypothesis of an obligation does, of a model and regions whose rows lie within their sheets
abbrev Standing : List ℕ → List ℕ → Obligation → Type 0
Standing model second o = All (RowStands model second) o.hypotheses

module _ (model second : List ℕ) where
  nowhere-stands : (r : Row) → RowStands model second (nowhere r)
  unfolding nowhere sheet_of
  nowhere-stands r = record { sheet = omega arith; ends = omega arith }

  rows-serve : Serves (EndsWithin model) (EndsWithin second) (RowStands model second) (λ goal. Unit {0})
  unfolding standing sheet_of
  rows-serve =
      record {
        before = λ r w. record { sheet = omega arith; ends = w };
        after = λ n r w. record { sheet = omega arith; ends = w };
        rates = λ r w. record { sheet = omega arith; ends = w };
        region = λ r w. record { sheet = omega arith; ends = w };
        time = λ n. nowhere-stands (time_row n);
        staying = λ n v. all-members (staying_rows n v) (λ r d. nowhere-stands r);
        goal_before = λ r w. tt;
        goal_after = λ n r w. tt;
        goal_none = tt;
      }

  obligations-standing : (m : Model) (regions : List Condition) → ModelWithin model m → All (RowsWithin second) regions → All (Standing model second) (obligations m regions)
  obligations-standing m regions model_rows region_rows = all_so (λ o w. w.0) (every-obligation rows-serve m regions model_rows region_rows)

-- what is found stands within its sheet, and so does the place of a refusal
abbrev FoundWell : List ℕ → List ℕ → Found → Type 0
FoundWell model second (found h) = RowStands model second h
FoundWell model second (unfound number sheet place) = (number ≤ 18) × (sheet ≤ 2) × (place ≤ length (sheet_of model second sheet))

in-sheet : (model second : List ℕ) (number sheet place : ℕ) → number ≤ 18 → sheet ≤ 2 → place ≤ length (sheet_of model second sheet) → AnswerRange model second (answer number sheet place 0 0)
unfolding answer sheet_of
in-sheet model second number zero place i j k = omega arith
in-sheet model second number (suc zero) place i j k = omega arith
in-sheet model second number (suc (suc sheet)) place i j k = omega arith

answer-in-range : (model second : List ℕ) (f : Found) → FoundWell model second f → AnswerRange model second (found_answer f)
unfolding found_answer
answer-in-range model second (found h) w = in-sheet model second 0 h.sheet h.place (omega arith) w.sheet (omega (arith, w.ends))
answer-in-range model second (unfound number sheet place) w = in-sheet model second number sheet place w.0 w.1 w.2

nothing-done : (f : Found) → (found_answer f).done ≡ 0
unfolding found_answer answer
nothing-done (found h) = refl
nothing-done (unfound number sheet place) = refl

module _ (limits : Limits) (model second : List ℕ) (o h : ℕ) where
  in-well : (all : List Obligation) → All (Standing model second) all → FoundWell model second (find_in all o h)
  unfolding find_in nowhere sheet_of no_obligation
  in-well all w = go (ltb o (length all) && ltb h (length (get_or all o no_obligation).hypotheses))
    where
      go : (b : Bool) → FoundWell model second (elim b [ true ↦ found (get_or (get_or all o no_obligation).hypotheses h (nowhere zero_row)) | false ↦ unfound 5 2 0 ])
      go true = all-at _ (record { sheet = omega arith; ends = omega arith }) (all-at no_obligation none w o) h
      go false = omega arith

  after-well : (m : Model) (g : Got (List Condition)) → ModelWithin model m → (open_second 2 m >> read_regions m) second 0 ≡ g → FineTo 18 second 0 g → FoundWell model second (find_after m o h g)
  unfolding find_after sheet_of ◌>>◌
  after-well m (got regions next) w e x =
      let v = passes (open_second 2 m second 0) _ second regions next e in
      in-well (obligations m regions) (obligations-standing model second m regions w (regions-within m second v.place regions next v.second))
  after-well m (refused number at) w e x = omega arith

  found-well : FoundWell model second (find_hypothesis limits model second o h)
  unfolding find_hypothesis sheet_of
  found-well = go (begins limits model)
    where
      go : Begins limits model (open_model limits model) → FoundWell model second (found_by second o h (open_model limits model))
      go (Begins.unfit e x) = subst (λ g. FoundWell model second (found_by second o h g)) (sym x) (omega arith)
      go (Begins.unread number at t e x) =
          let w = subst (Fine model 0) e (model-fine limits model) in
          subst (λ g. FoundWell model second (found_by second o h g)) (sym x) (omega arith)
      go (Begins.begun m end t e x) =
          subst (λ g. FoundWell model second (found_by second o h g)) (sym x)
          (after-well m _ (rows-within limits model m end e) refl (regions-fine m second))

  pub found_within : (x : Hypothesis) → find_hypothesis limits model second o h ≡ found x → RowStands model second x
  found_within x e = subst (FoundWell model second) e found-well

  pub show-in-range : AnswerRange model second (show_answer limits model second o h)
  unfolding show_answer
  show-in-range = answer-in-range model second (find_hypothesis limits model second o h) found-well

  pub show-done : (show_answer limits model second o h).done ≡ 0
  unfolding show_answer
  show-done = nothing-done (find_hypothesis limits model second o h)
