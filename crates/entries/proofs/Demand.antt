-- Demand 3 where the entries are. Each entry's contract says that its answer is the definition's: `a ≡ mark_certificate (stated locations
-- joints) model second` is the contract of `silfoddra_mark_certificate`, word for word, and `a ≡ mark_run (stated locations joints) model
-- second` that of `silfoddra_mark_run`, for whatever two limits the caller states. From an answer with number 0 it is one step to the claim
-- about runs. Assumes nothing.
use mathlib.Core.Path.{◌≡◌, sym, ap, ◌∙◌}
use mathlib.Core.List.{List, Memᴰ}
use Prim.Native.Nat.{ℕ}
use lib.Dec.{T}
use Rattle.formats.specs.declared.Limits.{Limits}
use Rattle.formats.specs.Reading.{got}
use Rattle.formats.specs.Model.{Model}
use Rattle.formats.specs.ModelSheet.{stated, read_model}
use Rattle.rules.specs.declared.Answer.{Answer}
use Rattle.rules.specs.Opening.{WithinLimits}
use Rattle.rules.specs.Runs.{State, Run, visited, is_unsafe}
use Rattle.rules.specs.Marking.{mark_certificate, mark_run}
use Rattle.rules.proofs.CertificateExactly.{accepted-holds}
use Rattle.rules.proofs.Demand as demand
use Rattle.rules.proofs.Desks as desks

-- the sheet is a model under these limits, and no run that it allows visits an unsafe state: any list of steps, any start, any values and
-- times over any q
pub record NeverUnsafe (limits : Limits) (model : List ℕ) : Type 0 where
  pub m : Model
  pub end : ℕ
  pub reads : read_model limits model ≡ got m end
  pub never : (run : Run m) (s : State) → Memᴰ s (visited m run.first run.steps) → T (is_unsafe m run.q s) → ⊥

-- an accepted certificate
pub safe : (locations joints : ℕ) (model second : List ℕ) (a : Answer) → a ≡ mark_certificate (stated locations joints) model second → a.number ≡ 0 → NeverUnsafe (stated locations joints) model
safe locations joints model second a contract accepted =
    let limits = stated locations joints in
    let h : (mark_certificate limits model second).number ≡ 0 = ap (λ (x : Answer). x.number) (sym contract) ∙ accepted in
    let w = accepted-holds limits model second h in
    record {
      m = w.m;
      end = w.model_end;
      reads = w.model_reads;
      never = demand.safe limits model second w.m w.model_end w.model_reads h;
    }

-- so no run sheet is accepted with such a model, at this desk or at any other
pub never_both : (locations joints locations' joints' : ℕ) (model certificate run : List ℕ) (a b : Answer) → a ≡ mark_certificate (stated locations joints) model certificate → b ≡ mark_run (stated locations' joints') model run → a.number ≡ 0 → b.number ≡ 0 → ⊥
never_both locations joints locations' joints' model certificate run a b first second h k =
    desks.never-both-anywhere (stated locations joints) (stated locations' joints') model certificate run
    (ap (λ (x : Answer). x.number) (sym first) ∙ h)
    (ap (λ (x : Answer). x.number) (sym second) ∙ k)

-- 02, order 2: a paper within both desks' limits gets the same answer at both. The other calls: proofs/Desks.antt of rules and of queries
module _ (locations joints locations' joints' : ℕ) (model second : List ℕ) (a b : Answer) (i : WithinLimits (stated locations joints) model) (j : WithinLimits (stated locations' joints') model) where
  pub same-certificate : a ≡ mark_certificate (stated locations joints) model second → b ≡ mark_certificate (stated locations' joints') model second → a ≡ b
  same-certificate here there = here ∙ desks.same-certificate (stated locations joints) (stated locations' joints') model i j second ∙ sym there

  pub same-run : a ≡ mark_run (stated locations joints) model second → b ≡ mark_run (stated locations' joints') model second → a ≡ b
  same-run here there = here ∙ desks.same-run (stated locations joints) (stated locations' joints') model i j second ∙ sym there
