-- The joint list's answer by cases, by how the model opens; and the index that the model was read into. Assumes nothing.
use mathlib.Core.Path.{◌≡◌, refl, sym, ap, ◌∙◌}
use mathlib.Core.Bool.{cond}
use mathlib.Core.List.{List}
use Prim.Native.Nat.{ℕ, ◌≤◌, ◌<◌}
use native.Mathlib.Omega.{arith}
use lib.ListN.{length}
use borrow.Author.Tests.{le-leb, lt-leb}
use Rattle.std.specs.Prelude.{Result, Ok, Err, OnOk, IfErr}
use Rattle.formats.specs.Model.{Component, Model}
use Rattle.formats.specs.Joint.{joints}
use Rattle.formats.specs.declared.Limits.{Limits}
use Rattle.rules.specs.Marking.{answer, with_model}
use Rattle.rules.specs.Beside.{list_of, list_answer}
use Rattle.rules.specs.declared.Answer.{Answer}
use Rattle.rules.specs.Opening.{opens, open_model}
use Rattle.papers.specs.Opening.{model_answer, opened_model, ModelOpen}
use Rattle.rules.proofs.Calls.{list_by}
use Rattle.papers.proofs.OpenLaws.{numbered, model-refused, opens-number}
use Rattle.joint_lists.specs.Records.{SheetIndex}

-- The answer on a model that was read, by its count
module _ (components : List Component) (size lent count : ℕ) (exact : count ≡ length (joints components)) where
  pub list-fits : count ≤ lent → answer 0 0 size count 0 ≡ list_of components size lent
  unfolding list_of
  list-fits h =
      ap (λ (n : ℕ). answer 0 0 size n 0) exact
      ∙ sym (ap (λ b. cond b (answer 0 0 size (length (joints components)) 0) (answer 15 2 (length (joints components)) 0 0)) (le-leb (length (joints components)) lent (omega (arith, exact))))

  pub list-short : lent < count → answer 15 2 count 0 0 ≡ list_of components size lent
  unfolding list_of
  list-short h =
      ap (λ (n : ℕ). answer 15 2 n 0 0) exact
      ∙ sym (ap (λ b. cond b (answer 0 0 size (length (joints components)) 0) (answer 15 2 (length (joints components)) 0 0)) (lt-leb (length (joints components)) lent (omega (arith, exact))))

-- The whole, by how the model opens
module _ (limits : Limits) (model : List ℕ) (lent : ℕ) where
  pub list-refused : (a : Answer) → model_answer (Err a) ≡ opened_model limits model → 1 ≤ a.number → a ≡ list_answer limits model lent
  unfolding list_answer with_model model_answer
  list-refused a e some = e ∙ model-refused limits model (list_by model lent) (λ number sheet at. refl) (numbered e some)

  pub list_read : (m : Model) → open_model limits model ≡ opens m → list_of m.components (length model) lent ≡ list_answer limits model lent
  unfolding list_answer with_model
  list_read m e = sym (ap (list_by model lent) e)

-- the index that the model was read into is the sheet's
pub index_of : (limits : Limits) (model index : List ℕ) (r : Result (Unit {0}) Answer) → model_answer r ≡ opened_model limits model → OnOk r (ModelOpen limits model index) → IfErr r (λ a. 1 ≤ a.number) → SheetIndex limits model index
unfolding model_answer
index_of limits model index (Ok done) e w some = record { holds = λ m o. w }
index_of limits model index (Err a) e w some = record { holds = λ m o. absurd (numbered e some (opens-number limits model m o)) }
