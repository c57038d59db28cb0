-- Two desks in the calls that tell of obligations and hypotheses (02, order 2): the same answer at both for a paper within both desks'
-- limits; 5, sheet 2, where the limits do not fit. Assumes nothing.
use mathlib.Core.Path.{◌≡◌, ap, ap₂, ◌∙◌}
use mathlib.Core.Bool.{false}
use mathlib.Core.List.{List}
use Prim.Native.Nat.{ℕ}
use Rattle.formats.specs.declared.Limits.{Limits}
use Rattle.formats.specs.ModelSheet.{limits_fit}
use Rattle.rules.specs.declared.Answer.{Answer}
use Rattle.rules.specs.Opening.{WithinLimits}
use Rattle.rules.specs.Marking.{answer}
use Rattle.rules.specs.Beside.{show_answer}
use Rattle.rules.specs.Roles.{no_role, hypothesis_role, hypothesis_size}
use Rattle.rules.proofs.Opening.{unfit-shut}
use Rattle.rules.proofs.Desks.{same-opening, same-shown, same_size, same-role, unfit-shown, unfit-size, unfit-role}
use Rattle.queries.specs.Finding.{which_refused, which_obligation, shown_as, hypothesis_answer}
use Rattle.queries.proofs.ShowLaws.{which_by}

module _ (a b : Limits) (model : List ℕ) (i : WithinLimits a model) (j : WithinLimits b model) where
  pub same-which : (second : List ℕ) (o : ℕ) → which_obligation a model second o ≡ which_obligation b model second o
  unfolding which_obligation
  same-which second o = ap (which_by second o) (same-opening a b model i j)

  pub same-hypothesis : (second : List ℕ) (o h : ℕ) → hypothesis_answer a model second o h ≡ hypothesis_answer b model second o h
  unfolding hypothesis_answer
  same-hypothesis second o h =
      ap₂ (λ (x : Answer) (n : ℕ). shown_as x n (hypothesis_role a model second o h)) (same-shown a b model i j second o h) (same_size a b model i j second o h)
      ∙ ap (shown_as (show_answer b model second o h) (hypothesis_size b model second o h)) (same-role a b model i j second o h)

module _ (limits : Limits) (unfit : limits_fit limits ≡ false) (model : List ℕ) where
  pub unfit-which : (second : List ℕ) (o : ℕ) → which_obligation limits model second o ≡ which_refused 5 2 0
  unfolding which_obligation
  unfit-which second o = ap (which_by second o) (unfit-shut limits model unfit)

  pub unfit-hypothesis : (second : List ℕ) (o h : ℕ) → hypothesis_answer limits model second o h ≡ shown_as (answer 5 2 0 0 0) 0 no_role
  unfolding hypothesis_answer
  unfit-hypothesis second o h =
      ap₂ (λ (x : Answer) (n : ℕ). shown_as x n (hypothesis_role limits model second o h)) (unfit-shown limits unfit model second o h) (unfit-size limits unfit model second o h)
      ∙ ap (shown_as (answer 5 2 0 0 0) 0) (unfit-role limits unfit model second o h)
