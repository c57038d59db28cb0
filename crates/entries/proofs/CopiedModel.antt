-- Fair copies where the entry is. The contract of `silfoddra_fair_copy` says that its answer is `fair_answer` and the buffer after it
-- `buffer_after`, word for word as they stand here. From an answer with number 0 it is one step to what the order says of the copy. Assumes
-- nothing.
use mathlib.Core.Path.{◌≡◌, sym, ap, ◌∙◌}
use mathlib.Core.List.{List}
use mathlib.Core.Logic.{◌↔◌}
use Prim.Native.Nat.{ℕ, ◌<◌}
use lib.ListN.{length, take}
use lib.Seq.{take_at}
use Rattle.farkas.specs.Lists.{All}
use Rattle.formats.specs.Reading.{got}
use Rattle.formats.specs.Model.{Model}
use Rattle.formats.specs.declared.Limits.{Limits}
use Rattle.formats.specs.ModelSheet.{stated, read_model}
use Rattle.rules.specs.ReadAs.{Safe}
use Rattle.rules.specs.declared.Answer.{Answer}
use Rattle.fair_models.specs.FairCopy.{fair_copy, fair_answer, buffer_after}
use Rattle.fair_models.proofs.CopyMeans.{Copied, copied, safe-alike}
use Rattle.fair_models.proofs.CopyCall.{handed}

-- the sheet is a model under these limits; the first bytes of the buffer, as many as done says, are its fair copy; the copy reads well under
-- the same limits, and no run of it visits an unsafe state exactly when none of the model does
pub record Copy (limits : Limits) (model : List ℕ) (done : ℕ) (after : List ℕ) : Type 0 where
  pub m : Model
  pub end : ℕ
  pub reads : read_model limits model ≡ got m end
  pub first : take done after ≡ fair_copy m
  pub copy : Copied limits m
  pub alike : Safe copy.model ↔ Safe m

pub copied-model : (locations joints : ℕ) (model buffer after : List ℕ) (a : Answer) → All (λ b. b < 256) model → a ≡ fair_answer (stated locations joints) model (length buffer) → after ≡ buffer_after (stated locations joints) model buffer → a.number ≡ 0 → Copy (stated locations joints) model a.done after
copied-model locations joints model buffer after a bytes contract written accepted =
    let limits = stated locations joints in
    let h = handed limits model buffer (ap (λ (x : Answer). x.number) (sym contract) ∙ accepted) in
    let c = copied limits model h.m h.end bytes h.reads in
    let size : length (fair_copy h.m) ≡ a.done = sym (ap (λ (x : Answer). x.done) contract ∙ h.done) in
    record {
      m = h.m;
      end = h.end;
      reads = h.reads;
      first = ap (take a.done) (written ∙ h.bytes) ∙ take_at (fair_copy h.m) _ a.done size;
      copy = c;
      alike = safe-alike limits model h.m h.end h.reads c;
    }
