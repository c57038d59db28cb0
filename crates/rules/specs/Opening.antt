-- How every call that reads a model begins (02, order 2): its stated limits, then the model, then the second sheet where there is one.
-- Assumes nothing.
use Rattle.std.specs.Prelude.{◌≡◌, Bool, true, false, List, ℕ, T, eqb}
use Rattle.formats.specs.declared.Limits.{Limits}
use Rattle.formats.specs.Versions.{pair_of}
use Rattle.formats.specs.Reading.{Got, got, refused, Reader, ◌>>=◌, ◌>>◌, give, expect, must, header, read_paper}
use Rattle.formats.specs.Model.{Model}
use Rattle.formats.specs.ModelSheet.{limits_fit, Whole, read_whole, Few, read_model}

-- the model, or a refusal with its number, sheet and place
pub data ModelOpened : Type 0 where
  opens : Model → ModelOpened
  shut : ℕ → ℕ → ℕ → ModelOpened

-- by whether the limits fit, and by what the model's sheet gives: a stated limit of 0 or above the exam's "is refused as 5, sheet 2, before
-- any sheet is read"; then "The model goes first", with refusals at sheet 0
unfoldable pub open_as : Bool → Got Model → ModelOpened
open_as false g = shut 5 2 0
open_as true (refused number at) = shut number 0 at
open_as true (got m next) = opens m

unfoldable pub open_model : Limits → List ℕ → ModelOpened
open_model limits s = open_as (limits_fit limits) (read_model limits s)

-- how the second sheet of a paper opens, once its model is read: its header, then what it has to share with its model (02, order 7). 18,
-- "versions that don't pair (place 2 of the second sheet, right after 3) or paper numbers that differ (place 4, once that field is read)".
-- The version is handed on
unfoldable pub open_second : ℕ → Model → Reader ℕ
open_second kind m = do
  version ← header kind
  expect (eqb version (pair_of m.version)) 18 2
  must (λ paper. eqb paper m.paper) 18 (read_paper version)
  give version

-- limits that fit, and that the model is within, where the sheet is a model: "A paper within both desks' limits gets the same answer at
-- both"
pub record WithinLimits (limits : Limits) (s : List ℕ) : Type 0 where
  pub fit : T (limits_fit limits)
  pub few : (whole : Whole) (end : ℕ) → read_whole s 0 ≡ got whole end → Few limits whole.model.components
