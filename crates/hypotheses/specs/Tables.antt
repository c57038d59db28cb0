-- How the code keeps hypotheses: a table of segments, each so many hypotheses of one form from one place on, in the listed order; what
-- they stand for; and the proofs tested from them. Assumes nothing.
use Rattle.std.specs.Prelude.{Bool, false, List, [], ◌++◌, map, ◌≡◌, ℕ, zero, suc, ◌+◌, ◌*◌, ◌-◌, ◌≤◌, ◌<◌, pos, negsuc, length}
use Rattle.farkas.specs.Rows.{Row}
use Rattle.farkas.specs.Farkas.{Proof, farkas_test}
use Rattle.formats.specs.Reading.{Reader, Got, got, refused}
use Rattle.fields.specs.Places.{row_at}
use Rattle.formats.specs.Joint.{count_up}
use Rattle.models.specs.Index.{entry, Kept}
use Rattle.formats.specs.Certificate.{read_proof}
use Rattle.rules.specs.Obligations.{Hypothesis, nowhere, standing, on_x, on_next, on_rates, time_row, unit}
use Rattle.rules.specs.Roles.{Role, owned}
use Rattle.formats.specs.Versions.{row_bytes}

-- a hypothesis by its form, the place and the owner of its segment, and its number there
pub record TableLine : Type 0 where
  pub form : ℕ
  pub place : ℕ
  pub owner : ℕ
  pub row : ℕ

unfoldable pub line : ℕ → ℕ → ℕ → ℕ → TableLine
line form place owner row = record { form = form; place = place; owner = owner; row = row }

-- so many hypotheses of a form from a place on, of one owner
unfoldable pub segment : ℕ → ℕ → ℕ → ℕ → List TableLine
segment form place owner count = map (line form place owner) (count_up 0 count)

-- A table: segments count from 1, and have four numbers each: how many hypotheses there are up to its end, its form, its place, and its
-- owner. Segment 0 is empty
abbrev pub end_of : List ℕ → ℕ → ℕ
end_of table g = entry table (4 * g)

abbrev pub form_of : List ℕ → ℕ → ℕ
form_of table g = entry table (4 * g + 1)

abbrev pub place_of : List ℕ → ℕ → ℕ
place_of table g = entry table (4 * g + 2)

abbrev pub owner_of : List ℕ → ℕ → ℕ
owner_of table g = entry table (4 * g + 3)

unfoldable pub segment_in : List ℕ → ℕ → List TableLine
segment_in table g = segment (form_of table g) (place_of table g) (owner_of table g) (end_of table g - end_of table (g - 1))

unfoldable pub lines_in : List ℕ → ℕ → List TableLine
lines_in table zero = []
lines_in table (suc g) = lines_in table g ++ segment_in table (suc g)

-- so many segments, each of at most 16 hypotheses
pub record Stacked (table : List ℕ) (count : ℕ) : Type 0 where
  pub first : end_of table 0 ≡ 0
  pub ascending : (g : ℕ) → 1 ≤ g → g ≤ count → end_of table (g - 1) ≤ end_of table g
  pub small : (g : ℕ) → g ≤ count → end_of table g ≤ 16 * g

-- a table onto whose first segments at most so many others were pushed: those before stay
pub record Onto (before : List ℕ) (at most : ℕ) (after : List ℕ) (r : ℕ) : Type 0 where
  pub stacked : Stacked after r
  pub kept : Kept (4 * at + 4) 96 before after
  pub least : at ≤ r
  pub few : r ≤ at + most

-- "x'−x ≤ 0" and "x−x' ≤ 0" of one variable
unfoldable pub keeps_up : ℕ → ℕ → Row
keeps_up n v = record { coefficients = unit n v (negsuc 0) ++ unit n v (pos 1); bound = pos 0; strict = false }

unfoldable pub keeps_down : ℕ → ℕ → Row
keeps_down n v = record { coefficients = unit n v (pos 1) ++ unit n v (negsuc 0); bound = pos 0; strict = false }

unfoldable pub keeps : ℕ → ℕ → ℕ → Row
keeps n v zero = keeps_up n v
keeps n v (suc row) = keeps_down n v

-- where a row stands that comes so many rows after the first
unfoldable pub row_place : ℕ → ℕ → ℕ → ℕ → ℕ
row_place version n place row = place + row_bytes version n * row

-- the forms: rows of the model on x: 0, initial; 2, an invariant; 3, an unsafe condition's; 1, a row of the certificate's region on x;
-- 4, an invariant on x'; 5, a flow row; 6, −d ≤ 0; 7, a jump row; 8, the two rows of a staying variable, whose number is the place
unfoldable pub hypothesis_in : List ℕ → List ℕ → ℕ → ℕ → ℕ → ℕ → ℕ → Hypothesis
hypothesis_in model second version n zero place row = standing 0 on_x (row_at model version n (row_place version n place row))
hypothesis_in model second version n (suc zero) place row = standing 1 on_x (row_at second version n (row_place version n place row))
hypothesis_in model second version n (suc (suc zero)) place row = standing 0 on_x (row_at model version n (row_place version n place row))
hypothesis_in model second version n (suc (suc (suc zero))) place row = standing 0 on_x (row_at model version n (row_place version n place row))
hypothesis_in model second version n (suc (suc (suc (suc zero)))) place row = standing 0 (on_next n) (row_at model version n (row_place version n place row))
hypothesis_in model second version n (suc (suc (suc (suc (suc zero))))) place row = standing 0 on_rates (row_at model version n (row_place version n place row))
hypothesis_in model second version n (suc (suc (suc (suc (suc (suc zero)))))) place row = nowhere (time_row n)
hypothesis_in model second version n (suc (suc (suc (suc (suc (suc (suc zero))))))) place row = standing 0 on_x (row_at model version (2 * n) (row_place version (2 * n) place row))
hypothesis_in model second version n (suc (suc (suc (suc (suc (suc (suc (suc form)))))))) place row = nowhere (keeps n place row)

unfoldable pub hypothesis_of : List ℕ → List ℕ → ℕ → ℕ → TableLine → Hypothesis
hypothesis_of model second version n l = hypothesis_in model second version n l.form l.place l.row

unfoldable pub hypotheses_from : List ℕ → List ℕ → ℕ → ℕ → List ℕ → ℕ → List Hypothesis
hypotheses_from model second version n table segments = map (hypothesis_of model second version n) (lines_in table segments)

-- and their roles: a line's is its form, and its owner that of its segment
unfoldable pub role_of : TableLine → Role
role_of l = owned l.form l.owner

unfoldable pub roles_from : List ℕ → ℕ → List Role
roles_from table segments = map role_of (lines_in table segments)

unfoldable pub hypothesis_rows : List Hypothesis → List Row
hypothesis_rows hypotheses = map (λ h. h.row) hypotheses

-- a hypothesis whose row lies within its sheet, and its coefficients among so many unknowns
pub record GoodLine (model second : List ℕ) (version n width : ℕ) (l : TableLine) : Type 0 where
  pub in_model : l.form < 6 → (l.form ≡ 1 → ⊥) → row_place version n l.place l.row + row_bytes version n ≤ length model
  pub in_second : l.form ≡ 1 → row_place version n l.place l.row + row_bytes version n ≤ length second
  pub jump : l.form ≡ 7 → row_place version (2 * n) l.place l.row + row_bytes version (2 * n) ≤ length model
  pub staying : 8 ≤ l.form → l.place < n
  pub before : n ≤ width
  pub after : 4 ≤ l.form → n + n ≤ width
  pub timed : 5 ≤ l.form → l.form ≤ 6 → n + n + 1 ≤ width

-- a proof read and tested, from these rows, with this goal; k must be 0 where `zero_k` says so
unfoldable pub test_with : List Row → Row → ℕ → Got Proof → Got Proof
test_with rows goal place (refused number at) = refused number at
test_with rows goal place (got p next) =
    elim (farkas_test rows goal p) [
      | zero ↦ got p next
      | suc n ↦ refused (suc n) place
    ]

unfoldable pub mark_with : List Row → Bool → Row → Reader Proof
mark_with rows zero_k goal s place = test_with rows goal place (read_proof (length rows) zero_k s place)
