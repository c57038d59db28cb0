-- Rows of hypotheses by their form, and rows of one or two coefficients as they are added. Assumes nothing.
use mathlib.Core.Path.{◌≡◌, refl, sym, ap, ap₂, ◌∙◌}
use mathlib.Core.Bool.{Bool, true, false}
use mathlib.Core.List.{List, [], ◌∷◌}
use Prim.Native.Nat.{ℕ, zero, suc, ◌+◌, ◌*◌, ◌-◌, ◌≤◌, ◌<◌}
use native.Mathlib.Omega.{arith}
use lib.IntN.{ℤ, pos, negsuc, neg_ℤ, nat_abs}
use lib.ListN.{length}
use mir.Syntax.{w64}
use mir.Val.{SFits, to_z, of_z}
use mir.Facts.{to_z-of_z}
use Rattle.farkas.specs.Rows.{Row, row_of, strictly, zero_row, onward, on_change}
use Rattle.farkas.specs.Words.{row_in}
use Rattle.farkas.specs.Farkas.{add_row}
use Rattle.farkas.specs.Sums.{plus_from}
use Rattle.farkas.proofs.Promise.{plus-onward, plus-pair, less_one, no_bound, add-plain}
use Rattle.formats.specs.Versions.{strict_at}
use Rattle.fields.specs.Places.{row_at}
use Rattle.rules.specs.Obligations.{nowhere, standing, on_x, on_next, on_rates, time_row, unit}
use Rattle.hypotheses.specs.Tables.{TableLine, row_place, keeps_up, keeps_down, keeps, hypothesis_in, GoodLine}
use Rattle.hypotheses.specs.declared.Group.{Group}
use Rattle.sums.specs.Summing.{goal_at}

keeps-plain : (n v row : ℕ) → keeps n v row ≡ strictly false (keeps n v row)
unfolding keeps keeps_up keeps_down
keeps-plain n v zero = refl
keeps-plain n v (suc row) = refl

-- Which form has which row, its mark aside
module _ (model second : List ℕ) (version n form place row : ℕ) where
  abbrev formed : ℕ → Row
  formed k = strictly false (hypothesis_in model second version n k place row).row

  pub form-second : form ≡ 1 → onward 0 (row_in second (row_place version n place row) n) ≡ formed form
  unfolding hypothesis_in standing on_x onward row_in row_at
  form-second e = ap formed (sym e)

  pub form-model : form < 4 → (form ≡ 1 → ⊥) → onward 0 (row_in model (row_place version n place row) n) ≡ formed form
  unfolding hypothesis_in standing on_x onward row_in row_at
  form-model h other = go form h other
    where
      go : (k : ℕ) → k < 4 → (k ≡ 1 → ⊥) → onward 0 (row_in model (row_place version n place row) n) ≡ formed k
      go zero h other = refl
      go (suc zero) h other = absurd (other refl)
      go (suc (suc zero)) h other = refl
      go (suc (suc (suc zero))) h other = refl
      go (suc (suc (suc (suc k)))) h other = absurd (omega arith)

  pub form-next : form ≡ 4 → onward n (row_in model (row_place version n place row) n) ≡ formed form
  unfolding hypothesis_in standing on_next onward row_in row_at
  form-next e = ap formed (sym e)

  pub form-rates : form ≡ 5 → on_change (row_in model (row_place version n place row) n) ≡ formed form
  unfolding hypothesis_in standing on_rates on_change row_in row_at
  form-rates e = ap formed (sym e)

  pub form-time : form ≡ 6 → time_row n ≡ formed form
  unfolding hypothesis_in nowhere time_row
  form-time e = ap formed (sym e)

  pub form-jump : form ≡ 7 → onward 0 (row_in model (row_place version (2 * n) place row) (2 * n)) ≡ formed form
  unfolding hypothesis_in standing on_x onward row_in row_at
  form-jump e = ap formed (sym e)

  pub form-keeps : 8 ≤ form → keeps n place row ≡ formed form
  unfolding hypothesis_in nowhere
  form-keeps h = keeps-plain n place row ∙ ap formed (sym (eight form h))
    where
      eight : (k : ℕ) → 8 ≤ k → k ≡ suc (suc (suc (suc (suc (suc (suc (suc (k - 8))))))))
      eight k h = omega arith

-- and which mark: that of the row in its sheet; flow rows, −d ≤ 0 and the rows of a staying variable have none
module _ (model second : List ℕ) (version n form place row : ℕ) where
  abbrev marked : ℕ → Bool
  marked k = (hypothesis_in model second version n k place row).row.strict

  pub mark-second : form ≡ 1 → strict_at version second (row_place version n place row) ≡ marked form
  unfolding hypothesis_in standing on_x row_at
  mark-second e = ap marked (sym e)

  pub mark-model : form < 5 → (form ≡ 1 → ⊥) → strict_at version model (row_place version n place row) ≡ marked form
  unfolding hypothesis_in standing on_x on_next row_at
  mark-model h other = go form h other
    where
      go : (k : ℕ) → k < 5 → (k ≡ 1 → ⊥) → strict_at version model (row_place version n place row) ≡ marked k
      go zero h other = refl
      go (suc zero) h other = absurd (other refl)
      go (suc (suc zero)) h other = refl
      go (suc (suc (suc zero))) h other = refl
      go (suc (suc (suc (suc zero)))) h other = refl
      go (suc (suc (suc (suc (suc k))))) h other = absurd (omega arith)

  pub mark-jump : form ≡ 7 → strict_at version model (row_place version (2 * n) place row) ≡ marked form
  unfolding hypothesis_in standing on_x row_at
  mark-jump e = ap marked (sym e)

  pub mark-none : 5 ≤ form → (form ≡ 7 → ⊥) → false ≡ marked form
  unfolding hypothesis_in standing nowhere on_rates time_row
  mark-none h other = go form h other
    where
      go : (k : ℕ) → 5 ≤ k → (k ≡ 7 → ⊥) → false ≡ marked k
      go zero h other = absurd (omega arith)
      go (suc zero) h other = absurd (omega arith)
      go (suc (suc zero)) h other = absurd (omega arith)
      go (suc (suc (suc zero))) h other = absurd (omega arith)
      go (suc (suc (suc (suc zero)))) h other = absurd (omega arith)
      go (suc (suc (suc (suc (suc zero))))) h other = refl
      go (suc (suc (suc (suc (suc (suc zero)))))) h other = refl
      go (suc (suc (suc (suc (suc (suc (suc zero))))))) h other = absurd (other refl)
      go (suc (suc (suc (suc (suc (suc (suc (suc k)))))))) h other = sym (ap (λ (r : Row). r.strict) (keeps-plain n place row))

-- from form 6 on the second sheet is not asked
pub later-row : (model second : List ℕ) (version n form place row : ℕ) → 6 ≤ form → (hypothesis_in model model version n form place row).row ≡ (hypothesis_in model second version n form place row).row
unfolding hypothesis_in
later-row model second version n form place row h = go form h
  where
    go : (k : ℕ) → 6 ≤ k → (hypothesis_in model model version n k place row).row ≡ (hypothesis_in model second version n k place row).row
    go zero h = absurd (omega arith)
    go (suc zero) h = absurd (omega arith)
    go (suc (suc zero)) h = absurd (omega arith)
    go (suc (suc (suc zero))) h = absurd (omega arith)
    go (suc (suc (suc (suc zero)))) h = absurd (omega arith)
    go (suc (suc (suc (suc (suc zero))))) h = absurd (omega arith)
    go (suc (suc (suc (suc (suc (suc zero)))))) h = refl
    go (suc (suc (suc (suc (suc (suc (suc zero))))))) h = refl
    go (suc (suc (suc (suc (suc (suc (suc (suc k)))))))) h = refl

-- Rows of few coefficients, and bound 0
module _ (n m : ℕ) (sums : List ℤ) (b : ℤ) where
  -- "−d ≤ 0"
  pub time-added : n + n + 1 ≤ length sums → row_of (plus_from (n + n) (neg_ℤ (pos m)) sums (pos 1 ∷ [])) b ≡ add_row (row_of sums b) m (time_row n)
  unfolding time_row
  time-added h =
      ap₂ row_of (less_one (n + n) m sums ∙ sym (plus-onward (n + n) m sums (negsuc 0 ∷ []) (omega arith))) (no_bound b m)
      ∙ add-plain sums b m (time_row n) refl

  module _ (v : ℕ) (low : v < n) (wide : n + n ≤ length sums) where
    -- "x'−x ≤ 0"
    pub up-added : row_of (plus_from v (neg_ℤ (pos m)) (plus_from (n + v) (pos m) sums (pos 1 ∷ [])) (pos 1 ∷ [])) b ≡ add_row (row_of sums b) m (keeps n v 0)
    unfolding keeps keeps_up unit
    up-added =
        ap₂ row_of (less_one v m (plus_from (n + v) (pos m) sums (pos 1 ∷ [])) ∙ sym (plus-pair n v m (negsuc 0) (pos 1) sums low wide)) (no_bound b m)
        ∙ add-plain sums b m (keeps n v 0) refl

    -- "x−x' ≤ 0"
    pub down-added : (row : ℕ) → row_of (plus_from v (pos m) (plus_from (n + v) (neg_ℤ (pos m)) sums (pos 1 ∷ [])) (pos 1 ∷ [])) b ≡ add_row (row_of sums b) m (keeps n v (suc row))
    unfolding keeps keeps_down unit
    down-added row =
        ap₂ row_of (ap (λ (ys : List ℤ). plus_from v (pos m) ys (pos 1 ∷ [])) (less_one (n + v) m sums) ∙ sym (plus-pair n v m (pos 1) (negsuc 0) sums low wide)) (no_bound b m)
        ∙ add-plain sums b m (keeps n v (suc row)) refl

-- a number that fits in 64 bits is handed on as it is, so is its size
pub sent : (z : ℤ) → SFits w64 z → to_z w64 (of_z w64 z) ≡ z
sent z f = to_z-of_z f

pub sent-size : (z : ℤ) (m : ℕ) → SFits w64 z → nat_abs z ≡ m → nat_abs (to_z w64 (of_z w64 z)) ≡ m
sent-size z m f e = ap nat_abs (sent z f) ∙ e

-- a flow row leaves the bound
pub rates-bound : (m : ℕ) (sums after : List ℤ) (b : ℤ) (r : Row) → row_of after (pos 0) ≡ add_row (row_of sums (pos 0)) m (on_change r) → row_of after b ≡ add_row (row_of sums b) m (on_change r)
unfolding add_row on_change
rates-bound m sums after b r e = ap₂ row_of (ap (λ (x : Row). x.coefficients) e) (no_bound b m) ∙ add-plain sums b m (on_change r) refl

-- the goal of an unsafe condition, and a goal at a place
pub goal-none : (second : List ℕ) (n : ℕ) (g : Group) (at : ℕ) → g.zero ≡ true → goal_at second n g at ≡ zero_row
unfolding goal_at
goal-none second n g at e = ap (λ (z : Bool). elim z [ true ↦ zero_row | false ↦ on_next g.shift (row_at second g.version n at).row ]) e

pub goal-row : (second : List ℕ) (n : ℕ) (g : Group) (at : ℕ) → g.zero ≡ false → goal_at second n g at ≡ onward g.shift (strictly (strict_at g.version second at) (row_in second at n))
unfolding goal_at on_next onward row_in row_at
goal-row second n g at e = ap (λ (z : Bool). elim z [ true ↦ zero_row | false ↦ on_next g.shift (row_at second g.version n at).row ]) e

-- a later form's row lies in the model alone
pub later-good : {model second : List ℕ} {version n width : ℕ} (l : TableLine) (other : List ℕ) → 6 ≤ l.form → GoodLine model second version n width l → GoodLine model other version n width l
later-good l other h g =
    record {
      in_model = g.in_model;
      in_second = λ e. absurd (omega arith);
      jump = g.jump;
      staying = g.staying;
      before = g.before;
      after = g.after;
      timed = g.timed;
    }
