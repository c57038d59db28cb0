-- What the contracts on counting name besides the definitions of 01: the rows that the targets of joint switches have, by their targets
-- and one after the other. Assumes nothing.
use Rattle.std.specs.Prelude.{ℕ, ◌*◌, List, length}
use Rattle.formats.specs.Rows.{Condition}
use Rattle.formats.specs.Joint.{JointSwitch, join_all}
use Rattle.papers.specs.Paper.{regions_of}
use Rattle.formats.specs.JointTotals.{joints_into}
use Rattle.formats.specs.Locations.{modes_at}
use Rattle.models.specs.Index.{components_from}

-- a location's region rows, once for each joint switch that leads into it
abbrev pub rows_into : List ℕ → List ℕ → List ℕ → List ℕ → ℕ → ℕ
rows_into model index second regions location =
    let components = components_from model index in
    length (regions_of model index second regions location) * joints_into components (modes_at components location)

-- "per joint switch, each region row of its target"
unfoldable pub target_rows : (ℕ → Condition) → List JointSwitch → Condition
target_rows region_at switches = join_all (λ j. region_at j.target) switches
