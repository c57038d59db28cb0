-- A certificate's marking put together: regions that were read make a good paper; where all proofs have passed the score is 100; and how
-- each part's answer makes that of the whole. Assumes nothing.
use mathlib.Core.Path.{◌≡◌, refl, sym, ap, ap₂, ◌∙◌, subst}
use mathlib.Core.List.{List}
use Prim.Native.Nat.{ℕ, ◌≤◌, min}
use native.Mathlib.Omega.{arith}
use lib.ListN.{length}
use Rattle.formats.specs.Reading.{Got, got, refused, finished}
use Rattle.formats.specs.Rows.{Condition}
use Rattle.formats.specs.Model.{Model}
use Rattle.formats.specs.Locations.{location_count}
use Rattle.formats.specs.Joint.{joints}
use Rattle.models.specs.Index.{entry, components_from, model_from}
use Rattle.formats.specs.declared.Limits.{Limits}
use Rattle.formats.specs.Certificate.{read_regions}
use Rattle.second_sheets.specs.CertificateAnswers.{regions_from}
use Rattle.formats.proofs.Placed.{Fine, placed-finished}
use Rattle.rules.specs.declared.Answer.{Answer}
use Rattle.std.specs.Prelude.{Result, Ok, Err}
use Rattle.certificates.specs.declared.Marking.{Marking}
use Rattle.certificates.specs.declared.Failed.{Failed}
use Rattle.rules.specs.Obligations.{Obligation, obligations}
use Rattle.rules.specs.Marking.{answer, score_of, refused_score, Marked, passed, stopped, mark_proofs, close_certificate, mark_regions, with_model, mark_certificate}
use Rattle.papers.specs.Papers.{GoodPaper}
use Rattle.certificates.specs.Passed.{stands_at, stopped_answer}
use Rattle.fields.specs.Causes.{number_of}
use Rattle.rules.proofs.MarkedRanges.{Marks, proofs-mark}
use Rattle.scores.proofs.CountGoals.{obligations-length, locations-few, jumps-few}
use Rattle.papers.specs.Opening.{opened, Open}
use Rattle.rules.proofs.Scores.{full-score}
use Rattle.rules.proofs.Calls.{certificate_by}
use Rattle.papers.proofs.OpenLaws.{numbered, open-refused, open-goes-on, opened-answer}

-- its obligations are not many
pub obligations-few : {model index second regions : List ℕ} → GoodPaper model index second regions → (locations : ℕ) → locations ≡ location_count (components_from model index) → length (joints (components_from model index)) ≤ 4096 → length (obligations (model_from model index) (regions_from second (entry index 11) (entry index 0) regions locations)) ≤ 1000000
obligations-few {model} {index} {second} {regions} g locations l h =
    omega (arith, obligations-length model index second regions locations l, locations-few g locations l, jumps-few g h)

-- where all proofs have passed and bytes are left the score is 99
score-left : (done : ℕ) → refused_score done done ≡ 99
unfolding refused_score
score-left done = ap (λ (n : ℕ). min 99 n) (full-score done)

-- The end, once the proofs have passed
unfoldable ended : ℕ → List ℕ → ℕ → Got (Unit {0}) → Answer
ended total s done (got v next) = answer 0 1 (length s) done (score_of done total)
ended total s done (refused number at) = answer number 1 at done (refused_score done total)

close_passed : (total : ℕ) (s : List ℕ) (place done : ℕ) → close_certificate total s (passed tt place done) ≡ ended total s done (finished s place)
unfolding close_certificate ended
close_passed total s place done = go (finished s place)
  where
    go : (g : Got (Unit {0})) → (elim g as (λ _. Answer) [ got v next ↦ answer 0 1 (length s) done (score_of done total) | refused number at ↦ answer number 1 at done (refused_score done total) ]) ≡ ended total s done g
    go (got v next) = refl
    go (refused number at) = refl

module _ (s : List ℕ) (place done : ℕ) where
  pub end_whole : (next : ℕ) → finished s place ≡ got tt next → answer 0 1 (length s) done 100 ≡ close_certificate done s (passed tt place done)
  unfolding ended
  end_whole next e =
      ap (λ (n : ℕ). answer 0 1 (length s) done n) (sym (full-score done)) ∙ sym (close_passed done s place done ∙ ap (ended done s done) e)

  pub end-left : (number at : ℕ) → finished s place ≡ refused number at → answer number 1 at done 99 ≡ close_certificate done s (passed tt place done)
  unfolding ended
  end-left number at e =
      ap (λ (n : ℕ). answer number 1 at done n) (sym (score-left done)) ∙ sym (close_passed done s place done ∙ ap (ended done s done) e)

  pub end-placed : (number at : ℕ) → place ≤ length s → finished s place ≡ refused number at → at ≤ length s
  end-placed number at h e = (subst (λ x. Fine s place x) e ((placed-finished {least = 0}).fine s place (omega arith) h)).2

-- Where marking stands, its place lies in the sheet, and as many proofs have passed as there are obligations, or fewer
marks : (all : List Obligation) (s : List ℕ) (at : ℕ) → at ≤ length s → Marks s (length all) (mark_proofs all s at 0)
marks all s at h = proofs-mark all s at 0 (length all) h (omega arith)

module _ (all : List Obligation) (s : List ℕ) (at : ℕ) (h : at ≤ length s) {r : Result Marking Failed} (told : stands_at r ≡ mark_proofs all s at 0) where
  module _ {m : Marking} (e : r ≡ Ok m) where
    passes : mark_proofs all s at 0 ≡ passed tt m.place m.done
    unfolding stands_at
    passes = sym told ∙ ap stands_at e

    pub passed-within : (m.place ≤ length s) × (m.done ≡ length all)
    passed-within = subst (Marks s (length all)) passes (marks all s at h)

    pub rest-passes : close_certificate m.done s (passed tt m.place m.done) ≡ close_certificate (length all) s (mark_proofs all s at 0)
    rest-passes = ap₂ (λ (n : ℕ) (w : Marked (Unit {0})). close_certificate n s w) passed-within.1 (sym passes)

  module _ {f : Failed} (e : r ≡ Err f) where
    stops : mark_proofs all s at 0 ≡ stopped (number_of f.refusal.0) f.refusal.1 f.done
    unfolding stands_at
    stops = sym told ∙ ap stands_at e

    pub stopped-within : (f.refusal.1 ≤ length s) × (f.done ≤ length all)
    stopped-within = let w = subst (Marks s (length all)) stops (marks all s at h) in (w.2, w.3)

    pub rest-stops : stopped_answer f (length all) ≡ close_certificate (length all) s (mark_proofs all s at 0)
    unfolding close_certificate
    rest-stops = sym (ap (close_certificate (length all) s) stops)

module _ (m : Model) (s : List ℕ) (g : Got (List Condition)) where
  pub regions-stop : (number at : ℕ) → g ≡ refused number at → answer number 1 at 0 0 ≡ mark_regions m s g
  unfolding mark_regions
  regions-stop number at e = sym (ap (mark_regions m s) e)

  pub regions-rest : (regions : List Condition) (place : ℕ) → g ≡ got regions place → close_certificate (length (obligations m regions)) s (mark_proofs (obligations m regions) s place 0) ≡ mark_regions m s g
  unfolding mark_regions
  regions-rest regions place e = sym (ap (mark_regions m s) e)

-- The whole, by how the model opens: a paper that does not open is refused so; one that is open is marked from its body on
module _ (limits : Limits) (model second : List ℕ) where
  pub certificate-refused : {refused : Answer} → refused ≡ opened limits 2 model second → 1 ≤ refused.number → refused ≡ mark_certificate limits model second
  unfolding mark_certificate with_model
  certificate-refused e h =
      e
      ∙ opened-answer limits 2 model second
      ∙ open-refused limits 2 model second (λ n s p. answer n s p 0 0) read_regions (λ m. mark_regions m second) (certificate_by second)
      (λ m number at. regions-stop m second (refused number at) number at refl) (λ number sheet at. refl) (λ m. refl) (numbered e h)

  pub certificate-open : {index : List ℕ} {body : ℕ} → Open limits 2 model index second body → mark_regions (model_from model index) second (read_regions (model_from model index) second body) ≡ mark_certificate limits model second
  unfolding mark_certificate with_model
  certificate-open w =
      open-goes-on limits 2 model second (λ n s p. answer n s p 0 0) read_regions (λ m. mark_regions m second) (certificate_by second)
      (λ m number at. regions-stop m second (refused number at) number at refl) (λ number sheet at. refl) (λ m. refl) w
