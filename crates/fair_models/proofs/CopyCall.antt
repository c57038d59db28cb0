-- The call that writes the fair copy: what it hands back in each case, and the same at every desk (02, orders 2 and 4). Assumes nothing.
use mathlib.Core.Path.{◌≡◌, refl, sym, ap, ◌∙◌, subst}
use mathlib.Core.Bool.{Bool, true, false}
use mathlib.Core.List.{List, ◌++◌}
use Prim.Native.Nat.{ℕ, ◌≤◌, ◌<◌}
use native.Mathlib.Omega.{arith}
use borrow.Author.Tests.{leb-true, leb-false, le-leb}
use lib.Dec.{T, leb}
use lib.ListN.{length, drop}
use Rattle.farkas.specs.Lists.{All}
use Rattle.formats.specs.Reading.{got, refused}
use Rattle.formats.specs.Model.{Model}
use Rattle.formats.specs.declared.Limits.{Limits}
use Rattle.formats.specs.ModelSheet.{limits_fit, read_model}
use Rattle.buffers.proofs.OverLaws.{over-whole}
use Rattle.rules.specs.declared.Answer.{Answer}
use Rattle.rules.specs.Opening.{ModelOpened, opens, open_model, WithinLimits}
use Rattle.rules.specs.Marking.{answer, with_model}
use Rattle.formats.proofs.Placed.{Fine, model-fine}
use Rattle.rules.proofs.Opening.{Begins, begins, unfit-shut, read-opens}
use Rattle.rules.proofs.Desks.{same-opening}
use Rattle.fair_models.specs.FairCopy.{fair_copy, copy_answer, fair_answer, copy_over, buffer_by, buffer_after}
use Rattle.fair_models.proofs.CopyMeans.{copied, copy-again, copy-short}

-- by how the model opens
abbrev answer_by : ℕ → ℕ → ModelOpened → Answer
answer_by handed room g = with_model g (λ m. copy_answer handed (length (fair_copy m)) (leb (length (fair_copy m)) room))

-- "A paper within both desks' limits gets the same answer at both", and the same bytes
module _ (a b : Limits) (model : List ℕ) (i : WithinLimits a model) (j : WithinLimits b model) where
  pub same_copy : (room : ℕ) → fair_answer a model room ≡ fair_answer b model room
  unfolding fair_answer
  same_copy room = ap (answer_by (length model) room) (same-opening a b model i j)

  pub same-buffer : (buffer : List ℕ) → buffer_after a model buffer ≡ buffer_after b model buffer
  unfolding buffer_after
  same-buffer buffer = ap (buffer_by buffer) (same-opening a b model i j)

-- limits that do not fit: 5, sheet 2, and nothing is written
module _ (limits : Limits) (unfit : limits_fit limits ≡ false) (model : List ℕ) where
  pub unfit-copy : (room : ℕ) → fair_answer limits model room ≡ answer 5 2 0 0 0
  unfolding fair_answer with_model
  unfit-copy room = ap (answer_by (length model) room) (unfit-shut limits model unfit)

  pub unfit-buffer : (buffer : List ℕ) → buffer_after limits model buffer ≡ buffer
  unfolding buffer_after buffer_by
  unfit-buffer buffer = ap (buffer_by buffer) (unfit-shut limits model unfit)

-- Every case: the model is copied, or the buffer is too short for its copy, or limits or model are refused. "Bytes past the copy stay", and
-- a refusal writes nothing
pub data Ends (limits : Limits) (model buffer : List ℕ) : Type 0 where
  written : (m : Model) (end : ℕ) → T (limits_fit limits) → read_model limits model ≡ got m end → length (fair_copy m) ≤ length buffer → fair_answer limits model (length buffer) ≡ answer 0 0 (length model) (length (fair_copy m)) 0 → buffer_after limits model buffer ≡ fair_copy m ++ drop (length (fair_copy m)) buffer → Ends limits model buffer
  short : (m : Model) (end : ℕ) → T (limits_fit limits) → read_model limits model ≡ got m end → length buffer < length (fair_copy m) → fair_answer limits model (length buffer) ≡ answer 15 2 (length (fair_copy m)) 0 0 → buffer_after limits model buffer ≡ buffer → Ends limits model buffer
  unread : (number at : ℕ) → T (limits_fit limits) → read_model limits model ≡ refused number at → fair_answer limits model (length buffer) ≡ answer number 0 at 0 0 → buffer_after limits model buffer ≡ buffer → Ends limits model buffer
  unfit : limits_fit limits ≡ false → fair_answer limits model (length buffer) ≡ answer 5 2 0 0 0 → buffer_after limits model buffer ≡ buffer → Ends limits model buffer

module _ (limits : Limits) (model buffer : List ℕ) where
  told : {g : ModelOpened} → open_model limits model ≡ g → fair_answer limits model (length buffer) ≡ answer_by (length model) (length buffer) g
  unfolding fair_answer
  told e = ap (answer_by (length model) (length buffer)) e

  left : {g : ModelOpened} → open_model limits model ≡ g → buffer_after limits model buffer ≡ buffer_by buffer g
  unfolding buffer_after
  left e = ap (buffer_by buffer) e

  room : (m : Model) (end : ℕ) → T (limits_fit limits) → read_model limits model ≡ got m end → open_model limits model ≡ opens m → (b : Bool) → leb (length (fair_copy m)) (length buffer) ≡ b → Ends limits model buffer
  unfolding with_model copy_answer buffer_by copy_over
  room m end t r o true e =
      let fits = leb-true (length (fair_copy m)) (length buffer) e in
      Ends.written m end t r fits
      (told o ∙ ap (copy_answer (length model) (length (fair_copy m))) e)
      (left o ∙ ap (copy_over buffer (fair_copy m)) e ∙ over-whole buffer (fair_copy m) fits)
  room m end t r o false e =
      Ends.short m end t r (leb-false (length (fair_copy m)) (length buffer) e)
      (told o ∙ ap (copy_answer (length model) (length (fair_copy m))) e)
      (left o ∙ ap (copy_over buffer (fair_copy m)) e)

  pub copy-ends : Ends limits model buffer
  unfolding with_model buffer_by
  copy-ends = go (begins limits model)
    where
      go : Begins limits model (open_model limits model) → Ends limits model buffer
      go (Begins.unfit e o) = Ends.unfit e (told o) (left o)
      go (Begins.unread number at t e o) = Ends.unread number at t e (told o) (left o)
      go (Begins.begun m end t e o) = room m end t e o (leb (length (fair_copy m)) (length buffer)) refl

-- a buffer as long as the model is never too short
pub long-enough : (limits : Limits) (model buffer : List ℕ) (m : Model) (end : ℕ) → All (λ b. b < 256) model → read_model limits model ≡ got m end → length model ≤ length buffer → length (fair_copy m) ≤ length buffer
long-enough limits model buffer m end b e h = omega (arith, copy-short limits model m end b e)

-- The copy is handed in again: the same bytes, and its own length both times
pub call-again :
    (limits : Limits) (s : List ℕ) (m : Model) (next : ℕ) (buffer : List ℕ) → T (limits_fit limits) → All (λ b. b < 256) s
    → read_model limits s ≡ got m next → length (fair_copy m) ≤ length buffer
    → (fair_answer limits (fair_copy m) (length buffer) ≡ answer 0 0 (length (fair_copy m)) (length (fair_copy m)) 0) × (buffer_after limits (fair_copy m) buffer ≡ fair_copy m ++ drop (length (fair_copy m)) buffer)
unfolding fair_answer with_model copy_answer buffer_after buffer_by copy_over
call-again limits s m next buffer t bytes e fits =
    let c = copied limits s m next bytes e in
    let o = read-opens limits (fair_copy m) c.model c.end t c.reads in
    let same = copy-again limits m c in
    let room = le-leb (length (fair_copy m)) (length buffer) fits in (
      ap (answer_by (length (fair_copy m)) (length buffer)) o
          ∙ ap (λ (l : List ℕ). copy_answer (length (fair_copy m)) (length l) (leb (length l) (length buffer))) same
          ∙ ap (copy_answer (length (fair_copy m)) (length (fair_copy m))) room,
      ap (buffer_by buffer) o
          ∙ ap (λ (l : List ℕ). copy_over buffer l (leb (length l) (length buffer))) same
          ∙ ap (copy_over buffer (fair_copy m)) room
          ∙ over-whole buffer (fair_copy m) fits,
    )

-- An answer with number 0: the sheet is a model, and the buffer begins with its copy, done bytes long, with the bytes past it as they were
pub record Handed (limits : Limits) (model buffer : List ℕ) : Type 0 where
  pub m : Model
  pub end : ℕ
  pub reads : read_model limits model ≡ got m end
  pub done : (fair_answer limits model (length buffer)).done ≡ length (fair_copy m)
  pub bytes : buffer_after limits model buffer ≡ fair_copy m ++ drop (length (fair_copy m)) buffer

pub handed : (limits : Limits) (model buffer : List ℕ) → (fair_answer limits model (length buffer)).number ≡ 0 → Handed limits model buffer
unfolding answer
handed limits model buffer z = go (copy-ends limits model buffer)
  where
    number : {number sheet place done score : ℕ} → fair_answer limits model (length buffer) ≡ answer number sheet place done score → number ≡ 0
    number e = ap (λ (x : Answer). x.number) (sym e) ∙ z

    go : Ends limits model buffer → Handed limits model buffer
    go (Ends.written m end t r fits a b) = record { m = m; end = end; reads = r; done = ap (λ (x : Answer). x.done) a; bytes = b }
    go (Ends.short m end t r few a b) = absurd (omega (arith, number a))
    go (Ends.unread n at t r a b) = absurd (omega (arith, number a, (subst (Fine model 0) r (model-fine limits model)).0))
    go (Ends.unfit u a b) = absurd (omega (arith, number a))
