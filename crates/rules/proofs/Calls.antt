-- What each call gives, by how it begins. Each definition is its function here at `open_model`. Assumes nothing.
use mathlib.Core.List.{List}
use Prim.Native.Nat.{ℕ}
use lib.ListN.{length}
use Rattle.formats.specs.Reading.{◌>>◌}
use Rattle.formats.specs.Joint.{joints}
use Rattle.formats.specs.Certificate.{read_regions}
use Rattle.formats.specs.RunSheet.{read_opening}
use Rattle.rules.specs.declared.Answer.{Answer}
use Rattle.rules.specs.declared.Joint.{Joint}
use Rattle.rules.specs.Opening.{ModelOpened, opens, shut, open_second}
use Rattle.rules.specs.Marking.{mark_regions, with_model, mark_opening}
use Rattle.rules.specs.Beside.{Found, unfound, list_of, filled, find_after}
use Rattle.rules.specs.Roles.{Role, no_role, role_after}

abbrev pub certificate_by : List ℕ → ModelOpened → Answer
certificate_by second g = with_model g (λ m. mark_regions m second ((open_second 2 m >> read_regions m) second 0))

abbrev pub run_by : List ℕ → ModelOpened → Answer
run_by second g = with_model g (λ m. mark_opening m second ((open_second 3 m >> read_opening m) second 0))

abbrev pub list_by : List ℕ → ℕ → ModelOpened → Answer
list_by model lent g = with_model g (λ m. list_of m.components (length model) lent)

abbrev pub table_by : List Joint → ModelOpened → List Joint
table_by table g = elim g as (λ x. List Joint) [ opens m ↦ filled (joints m.components) table | shut number sheet at ↦ table ]

abbrev pub found_by : List ℕ → ℕ → ℕ → ModelOpened → Found
found_by second o h g =
    elim g as (λ x. Found) [
      | opens m ↦ find_after m o h ((open_second 2 m >> read_regions m) second 0)
      | shut number sheet at ↦ unfound number sheet at
    ]

abbrev pub role_by : List ℕ → ℕ → ℕ → ModelOpened → Role
role_by second o h g =
    elim g as (λ x. Role) [ opens m ↦ role_after m o h ((open_second 2 m >> read_regions m) second 0) | shut number sheet at ↦ no_role ]
