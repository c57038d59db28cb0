-- Demand 3, whole: with an accepted certificate, no run that the model allows visits an unsafe state, at its start or after any step.
-- The claim is about runs as specs/Runs.antt defines them from the model, and about the whole list of steps of each: any steps, any
-- start, any values and times over any q of at least 1. Assumes nothing.
use mathlib.Core.Path.{◌≡◌, sym, ◌∙◌, subst}
use mathlib.Core.Bool.{Bool, true, false, cond}
use mathlib.Core.List.{List, [], ◌∷◌, Memᴰ}
use Prim.Native.Nat.{ℕ, ◌-◌, ◌^◌, ◌≤◌}
use native.Mathlib.Omega.{arith}
use lib.Dec.{T}
use lib.ListN.{length}
use Rattle.farkas.specs.Farkas.{Proof}
use Rattle.farkas.specs.Lists.{All, none, more}
use Rattle.formats.specs.Reading.{got, ◌>>=◌, give, each}
use Rattle.formats.specs.Rows.{Condition}
use Rattle.formats.specs.Model.{Model}
use Rattle.formats.specs.declared.Limits.{Limits}
use Rattle.formats.specs.ModelSheet.{read_model}
use Rattle.formats.proofs.Gives.{passes, got-value, gives_then}
use Rattle.formats.proofs.Members.{all_in}
use Rattle.formats.proofs.WellFormed.{WellFormed, well-formed, regions-give, proof-gives}
use Rattle.rules.specs.Opening.{open_second}
use Rattle.rules.specs.Runs.{State, Run, visited, is_unsafe}
use Rattle.rules.specs.Obligations.{Obligation, zero_only, obligations}
use Rattle.rules.specs.Marking.{mark_certificate, mark_run}
use Rattle.rules.specs.ReadWell.{read_proofs, rows_of, AllMeet}
use Rattle.rules.proofs.Shown.{Shown}
use Rattle.rules.proofs.Safety.{Regions, start-inside, steps-safe}
use Rattle.rules.proofs.RunExactly.{run-exactly, run_of, run-unsafe}
use Rattle.rules.proofs.CertificateExactly.{read_one, parts-of, meet-head, meet-tail, accepted-holds}

-- proofs that are read and meet the condition show their obligations
zero-k : (unsafe : Bool) (k : ℕ) → k ≤ cond unsafe 0 (2 ^ 24 - 1) → T unsafe → k ≡ 0
zero-k true k h t = omega arith
zero-k false k h t = absurd t

pub all_shown : (all : List Obligation) (s : List ℕ) (place : ℕ) (proofs : List Proof) (next : ℕ) → read_proofs all s place ≡ got proofs next → AllMeet all proofs → All Shown all
unfolding read_proofs each give ◌>>=◌ rows_of
all_shown [] s place proofs next e h = none
all_shown (o ∷ rest) s place proofs next e h =
    let w = passes (read_one o s place) (λ b. each read_one rest >>= λ r. give (b ∷ r)) s proofs next e in
    let v = passes (each read_one rest s w.place) (λ r. give (w.value ∷ r)) s proofs next w.second in
    let whole : w.value ∷ v.value ≡ proofs = got-value v.second in
    let meet = subst (λ ps. AllMeet (o ∷ rest) ps) (sym whole) h in
    let good = (proof-gives (length o.hypotheses) (zero_only o.kind)).holds s place w.value w.place w.first in
    more
    (record { proof = w.value; meets = meet-head meet; zero = zero-k (zero_only o.kind) w.value.k good.k })
    (all_shown rest s w.place v.value v.place v.first (meet-tail meet))

-- what an accepted certificate shows of the model
pub record Proved (m : Model) : Type 0 where
  pub good : WellFormed m
  pub regions : List Condition
  pub wide : Regions m regions
  pub shown : All Shown (obligations m regions)

pub proved : (limits : Limits) (model second : List ℕ) (m : Model) (end : ℕ) → read_model limits model ≡ got m end → (mark_certificate limits model second).number ≡ 0 → Proved m
proved limits model second m end e h =
    let w = accepted-holds limits model second h in
    let same : w.m ≡ m = got-value (sym w.model_reads ∙ e) in
    let v = parts-of w.m second w.certificate w.second_end w.second_reads in
    subst Proved same
    (record {
      good = well-formed limits model w.m w.model_end w.model_reads;
      regions = w.certificate.regions;
      wide = ((gives_then (open_second 2 w.m) (regions-give w.m)).holds second 0 w.certificate.regions v.place v.regions).1;
      shown = all_shown (obligations w.m w.certificate.regions) second v.place w.certificate.proofs v.next v.proofs w.meet;
    })

-- Demand 3
pub safe : (limits : Limits) (model second : List ℕ) (m : Model) (end : ℕ) → read_model limits model ≡ got m end → (mark_certificate limits model second).number ≡ 0 → (run : Run m) (s : State) → Memᴰ s (visited m run.first run.steps) → T (is_unsafe m run.q s) → ⊥
safe limits model second m end e h run s d =
    let w = proved limits model second m end e h in
    all_in
    (steps-safe m w.good w.regions w.wide w.shown run.q run.whole run.first run.steps
    (start-inside m w.good w.regions w.wide w.shown run.q run.whole run.first run.starts)
    run.allowed)
    d

-- So no run sheet is accepted with a model that has an accepted certificate
pub never_both : (limits : Limits) (model certificate run : List ℕ) → (mark_certificate limits model certificate).number ≡ 0 → (mark_run limits model run).number ≡ 0 → ⊥
never_both limits model certificate run h k =
    let w = (run-exactly limits model run).0 k in
    let v = run-unsafe w in
    safe limits model certificate w.m w.model_end w.model_reads h (run_of w) v.state v.visits v.unsafe
