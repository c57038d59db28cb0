-- The model sheet, whole (01, Model and the table): its header, its body, then "bytes left, then 7, then 8". Its two limits are those that
-- a caller states (02, order 2). Assumes nothing.
use Rattle.std.specs.Prelude.{Bool, ◌&&◌, List, ℕ, ◌≤◌, leb, length}
use Rattle.formats.specs.declared.Limits.{Limits}
use Rattle.formats.specs.Reading.{Got, Reader, ◌>>=◌, ◌>>◌, give, here, expect, header, read_paper, finished}
use Rattle.formats.specs.Model.{Component, Model, read_model_body}
use Rattle.formats.specs.Locations.{location_count}
use Rattle.formats.specs.Joint.{joints}

-- "Each caller states its two limits, in every call that reads a model": locations, then joint switches
abbrev pub stated : ℕ → ℕ → Limits
stated locations joints = record { locations = locations; joints = joints }

-- "A location is .. at most 64"; joint switches: "There are at most 4,096"; "the exam desk states 64 and 4,096"
unfoldable pub exam_limits : Limits
exam_limits = stated 64 4096

-- "A stated limit of 0 or above the exam's is refused": each on its own
unfoldable pub limit_fits : ℕ → ℕ → Bool
limit_fits limit exam = leb 1 limit && leb limit exam

unfoldable pub limits_fit : Limits → Bool
limits_fit limits =
    limit_fits limits.locations exam_limits.locations && limit_fits limits.joints exam_limits.joints

-- a model as its sheet has it, whatever the limits, and the place of n's byte
pub record Whole : Type 0 where
  pub model : Model
  pub place : ℕ

unfoldable pub read_whole : Reader Whole
read_whole = do
  version ← header 1
  paper ← read_paper version
  place ← here
  m ← read_model_body version paper
  finished
  give (record { model = m; place = place })

-- no more locations and joint switches than the limits allow
pub record Few (limits : Limits) (components : List Component) : Type 0 where
  pub locations : location_count components ≤ limits.locations
  pub joined : length (joints components) ≤ limits.joints

-- 7, then 8, with their place: "Numbers 7 and 8 then compare with the stated limits"
unfoldable pub limits_test : Limits → List Component → ℕ → Reader (Unit {0})
limits_test limits components place = do
  expect (leb (location_count components) limits.locations) 7 place
  expect (leb (length (joints components)) limits.joints) 8 place

-- "after the last field come bytes left, then 7, then 8"; "that of 7 and 8 is n's byte"
unfoldable pub read_model : Limits → List ℕ → Got Model
read_model limits s =
    (do
      whole ← read_whole
      limits_test limits whole.model.components whole.place
      give whole.model)
    s
    0
