-- Two desks (02, order 2): "A paper within both desks' limits gets the same answer at both", in every call, refusals included. With limits
-- that do not fit every call answers 5, sheet 2, so nothing is accepted. And what is accepted at one desk stands at every desk. Assumes
-- nothing.
use mathlib.Core.Path.{◌≡◌, refl, sym, ap, ◌∙◌, subst}
use mathlib.Core.Bool.{false}
use mathlib.Core.List.{List, [], Memᴰ}
use Prim.Native.Nat.{ℕ}
use native.Mathlib.Omega.{arith}
use lib.Dec.{T}
use Rattle.formats.specs.Reading.{Got, got, refused}
use Rattle.formats.specs.Model.{Model}
use Rattle.formats.specs.declared.Limits.{Limits}
use Rattle.formats.specs.ModelSheet.{limits_fit, Whole, read_whole, read_model, Few}
use Rattle.formats.proofs.Gives.{got-value}
use Rattle.formats.proofs.ModelSheet.{read_whole_lem, few-reads, none_reads}
use Rattle.rules.specs.declared.Answer.{Answer}
use Rattle.rules.specs.declared.Joint.{Joint}
use Rattle.rules.specs.Opening.{open_model, WithinLimits}
use Rattle.rules.specs.Runs.{State, Run, visited, is_unsafe}
use Rattle.rules.specs.Marking.{answer, with_model, mark_certificate, mark_run}
use Rattle.rules.specs.Beside.{unfound, list_answer, table_after, find_hypothesis, found_answer, show_answer, part_of, show_part}
use Rattle.rules.specs.Roles.{no_role, hypothesis_role, found_size, hypothesis_size}
use Rattle.rules.proofs.Calls.{certificate_by, run_by, list_by, table_by, found_by, role_by}
use Rattle.rules.proofs.Opening.{unfit-shut, unread-shut, read-opens}
use Rattle.rules.proofs.CertificateExactly.{accepted-holds}
use Rattle.rules.proofs.RunExactly.{run-exactly, run_of, run-unsafe}
use Rattle.rules.proofs.Demand.{safe}

-- the same model, or the same refusal
pub same-opening : (a b : Limits) (s : List ℕ) → WithinLimits a s → WithinLimits b s → open_model a s ≡ open_model b s
same-opening a b s i j = go (read_whole s 0) refl
  where
    go : (g : Got Whole) → read_whole s 0 ≡ g → open_model a s ≡ open_model b s
    go (got whole end) e =
        read-opens a s whole.model end i.fit (few-reads a s whole end e (i.few whole end e))
        ∙ sym (read-opens b s whole.model end j.fit (few-reads b s whole end e (j.few whole end e)))
    go (refused number at) e =
        unread-shut a s number at i.fit (none_reads a s number at e) ∙ sym (unread-shut b s number at j.fit (none_reads b s number at e))

-- within a desk's limits are the sheets that it reads as models, and those that are no models
pub read-within : (limits : Limits) (s : List ℕ) (m : Model) (end : ℕ) → T (limits_fit limits) → read_model limits s ≡ got m end → WithinLimits limits s
read-within limits s m end t e =
    let w = read_whole_lem limits s m end e in
    record {
      fit = t;
      few = λ whole last r.
          subst (λ (x : Model). Few limits x.components) (sym w.same ∙ ap (λ (x : Whole). x.model) (got-value (sym w.reads ∙ r))) w.few;
    }

pub none_within : (limits : Limits) (s : List ℕ) (number at : ℕ) → T (limits_fit limits) → read_whole s 0 ≡ refused number at → WithinLimits limits s
none_within limits s number at t e = record { fit = t; few = λ whole last r. absurd (refused-not-got (sym e ∙ r)) }
  where
    refused-not-got : {whole : Whole} {last : ℕ} → ◌≡◌ {A = Got Whole} (refused number at) (got whole last) → ⊥
    refused-not-got q = let z : ◌≡◌ {A = ℕ} 0 1 = cc in omega (arith, z)

-- so every call gives the same
module _ (a b : Limits) (model : List ℕ) (i : WithinLimits a model) (j : WithinLimits b model) where
  pub same-certificate : (second : List ℕ) → mark_certificate a model second ≡ mark_certificate b model second
  unfolding mark_certificate
  same-certificate second = ap (certificate_by second) (same-opening a b model i j)

  pub same-run : (second : List ℕ) → mark_run a model second ≡ mark_run b model second
  unfolding mark_run
  same-run second = ap (run_by second) (same-opening a b model i j)

  pub same-list : (lent : ℕ) → list_answer a model lent ≡ list_answer b model lent
  unfolding list_answer
  same-list lent = ap (list_by model lent) (same-opening a b model i j)

  pub same-table : (table : List Joint) → table_after a model table ≡ table_after b model table
  unfolding table_after
  same-table table = ap (table_by table) (same-opening a b model i j)

  pub same-found : (second : List ℕ) (o h : ℕ) → find_hypothesis a model second o h ≡ find_hypothesis b model second o h
  unfolding find_hypothesis
  same-found second o h = ap (found_by second o h) (same-opening a b model i j)

  pub same-shown : (second : List ℕ) (o h : ℕ) → show_answer a model second o h ≡ show_answer b model second o h
  unfolding show_answer
  same-shown second o h = ap found_answer (same-found second o h)

  pub same-part : (second : List ℕ) (o h : ℕ) → show_part a model second o h ≡ show_part b model second o h
  unfolding show_part
  same-part second o h = ap (part_of model second) (same-found second o h)

  pub same_size : (second : List ℕ) (o h : ℕ) → hypothesis_size a model second o h ≡ hypothesis_size b model second o h
  unfolding hypothesis_size
  same_size second o h = ap found_size (same-found second o h)

  pub same-role : (second : List ℕ) (o h : ℕ) → hypothesis_role a model second o h ≡ hypothesis_role b model second o h
  unfolding hypothesis_role
  same-role second o h = ap (role_by second o h) (same-opening a b model i j)

-- Limits that do not fit: 5, sheet 2, whatever the sheets are
module _ (limits : Limits) (unfit : limits_fit limits ≡ false) (model : List ℕ) where
  pub unfit-certificate : (second : List ℕ) → mark_certificate limits model second ≡ answer 5 2 0 0 0
  unfolding mark_certificate with_model
  unfit-certificate second = ap (certificate_by second) (unfit-shut limits model unfit)

  pub unfit-run : (second : List ℕ) → mark_run limits model second ≡ answer 5 2 0 0 0
  unfolding mark_run with_model
  unfit-run second = ap (run_by second) (unfit-shut limits model unfit)

  pub unfit-list : (lent : ℕ) → list_answer limits model lent ≡ answer 5 2 0 0 0
  unfolding list_answer with_model
  unfit-list lent = ap (list_by model lent) (unfit-shut limits model unfit)

  pub unfit-table : (table : List Joint) → table_after limits model table ≡ table
  unfolding table_after
  unfit-table table = ap (table_by table) (unfit-shut limits model unfit)

  pub unfit-found : (second : List ℕ) (o h : ℕ) → find_hypothesis limits model second o h ≡ unfound 5 2 0
  unfolding find_hypothesis
  unfit-found second o h = ap (found_by second o h) (unfit-shut limits model unfit)

  pub unfit-shown : (second : List ℕ) (o h : ℕ) → show_answer limits model second o h ≡ answer 5 2 0 0 0
  unfolding show_answer found_answer
  unfit-shown second o h = ap found_answer (unfit-found second o h)

  pub unfit-part : (second : List ℕ) (o h : ℕ) → show_part limits model second o h ≡ []
  unfolding show_part part_of
  unfit-part second o h = ap (part_of model second) (unfit-found second o h)

  pub unfit-role : (second : List ℕ) (o h : ℕ) → hypothesis_role limits model second o h ≡ no_role
  unfolding hypothesis_role
  unfit-role second o h = ap (role_by second o h) (unfit-shut limits model unfit)

  pub unfit-size : (second : List ℕ) (o h : ℕ) → hypothesis_size limits model second o h ≡ 0
  unfolding hypothesis_size found_size
  unfit-size second o h = ap found_size (unfit-found second o h)

  -- so nothing is accepted
  pub unfit-uncertified : (second : List ℕ) → (mark_certificate limits model second).number ≡ 0 → ⊥
  unfolding answer
  unfit-uncertified second h = omega (arith, ap (λ (x : Answer). x.number) (unfit-certificate second))

  pub unfit-no-run : (second : List ℕ) → (mark_run limits model second).number ≡ 0 → ⊥
  unfolding answer
  unfit-no-run second h = omega (arith, ap (λ (x : Answer). x.number) (unfit-run second))

-- Two desks that both read a sheet read the same model
pub same-model : (a b : Limits) (s : List ℕ) (m n : Model) (end last : ℕ) → read_model a s ≡ got m end → read_model b s ≡ got n last → m ≡ n
same-model a b s m n end last e d =
    let v = read_whole_lem a s m end e in
    let w = read_whole_lem b s n last d in
    sym v.same ∙ ap (λ x. x.model) (got-value (sym v.reads ∙ w.reads)) ∙ w.same

-- demand 3 at every desk: a certificate accepted under some limits speaks of the model as read under any
pub safe-everywhere : (a b : Limits) (model second : List ℕ) (m : Model) (end : ℕ) → read_model b model ≡ got m end → (mark_certificate a model second).number ≡ 0 → (run : Run m) (s : State) → Memᴰ s (visited m run.first run.steps) → T (is_unsafe m run.q s) → ⊥
safe-everywhere a b model second m end e h =
    let w = accepted-holds a model second h in
    go w.m (same-model a b model w.m m w.model_end end w.model_reads e) w.model_reads
  where
    go : (n : Model) → n ≡ m → {last : ℕ} → read_model a model ≡ got n last → (run : Run m) (s : State) → Memᴰ s (visited m run.first run.steps) → T (is_unsafe m run.q s) → ⊥
    go n same {last} d = safe a model second m last (d ∙ ap (λ (x : Model). got x last) same) h

-- so no desk accepts a run sheet with a model that has a certificate accepted at any
pub never-both-anywhere : (a b : Limits) (model certificate run : List ℕ) → (mark_certificate a model certificate).number ≡ 0 → (mark_run b model run).number ≡ 0 → ⊥
never-both-anywhere a b model certificate run h k =
    let w = (run-exactly b model run).0 k in
    let v = run-unsafe w in
    safe-everywhere a b model certificate w.m w.model_end w.model_reads h (run_of w) v.state v.visits v.unsafe
