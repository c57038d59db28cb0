-- Which variables keep their value (02, order 6) where several are blank, some have a staying owner, and rows of other components mention
-- them: "ascending", and "these variables join the staying ones in ascending order". By computation. Assumes nothing.
use mathlib.Core.Path.{◌≡◌, refl}
use mathlib.Core.Bool.{false}
use mathlib.Core.List.{List, [], ◌∷◌, map}
use Prim.Native.Nat.{ℕ}
use lib.IntN.{ℤ, pos}
use Rattle.farkas.specs.Lists.{every}
use Rattle.farkas.specs.Rows.{item}
use Rattle.farkas.specs.Farkas.{same_z}
use Rattle.formats.specs.Versions.{keeps_blanks}
use Rattle.formats.specs.Rows.{SheetRow}
use Rattle.formats.specs.Model.{Component, Model}
use Rattle.formats.specs.Locations.{location_count, modes_at, mode_of}
use Rattle.formats.specs.Joint.{stays, switch_of, those, count_up}
use Rattle.rules.specs.Runs.{present, modes_in, unmentioned, owner_of, variables_that, blank_in_flow, still_variables, owner_stays, owners_jump, blank_in_jump, staying_variables}

abbrev row : List ℤ → SheetRow
row coefficients = record { place = 0; size = 0; row = record { coefficients = coefficients; bound = pos 0; strict = false } }

-- a component with one mode and one switch, at event 1, by the coefficients of their flow rows and jump rows
abbrev one : List (List ℤ) → List (List ℤ) → Component
one rates changes =
    record {
      alphabet = 2;
      modes = record { start = 1; initial = []; invariant = []; flow = map row rates } ∷ [];
      switches = record { source = 0; target = 0; label = 1; jump = map row changes } ∷ [];
    }

-- five variables, of which component 1 owns variable 1. Component 0's flow rows mention 0 and 1 in the one and 4 in the other, component 1's
-- mentions 2. The jump rows of component 0 mention 0 and 2 before and 1 and 2 after in the one and 4 after in the other, that of component 1
-- mentions 1 before and 3 after
abbrev five : ℕ → Model
five version =
    record {
      version = version;
      paper = 0;
      variables = 5;
      owners = 0 ∷ 1 ∷ 0 ∷ 0 ∷ 0 ∷ [];
      components =
          one
          ((pos 1 ∷ pos 1 ∷ pos 0 ∷ pos 0 ∷ pos 0 ∷ []) ∷ (pos 0 ∷ pos 0 ∷ pos 0 ∷ pos 0 ∷ pos 1 ∷ []) ∷ [])
          ((pos 1 ∷ pos 0 ∷ pos 1 ∷ pos 0 ∷ pos 0 ∷ pos 0 ∷ pos 1 ∷ pos 1 ∷ pos 0 ∷ pos 0 ∷ [])
          ∷ (pos 0 ∷ pos 0 ∷ pos 0 ∷ pos 0 ∷ pos 0 ∷ pos 0 ∷ pos 0 ∷ pos 0 ∷ pos 0 ∷ pos 1 ∷ [])
          ∷ [])
          ∷ one
          ((pos 0 ∷ pos 0 ∷ pos 1 ∷ pos 0 ∷ pos 0 ∷ []) ∷ [])
          ((pos 0 ∷ pos 1 ∷ pos 0 ∷ pos 0 ∷ pos 0 ∷ pos 0 ∷ pos 0 ∷ pos 0 ∷ pos 1 ∷ pos 0 ∷ []) ∷ [])
          ∷ [];
      unsafe = [];
    }

-- in a flow, in a jump of component 0 alone, and in one of both components: in version 1 and in version 2
pub many-blanks :
    (still_variables (five 1) 0 ∷ still_variables (five 2) 0
    ∷ staying_variables (five 1) (0 ∷ 255 ∷ []) ∷ staying_variables (five 2) (0 ∷ 255 ∷ [])
    ∷ staying_variables (five 1) (0 ∷ 0 ∷ []) ∷ staying_variables (five 2) (0 ∷ 0 ∷ []) ∷ [])
    ≡ ([] ∷ (1 ∷ 2 ∷ 3 ∷ [])
    ∷ (1 ∷ []) ∷ (0 ∷ 1 ∷ 3 ∷ [])
    ∷ [] ∷ (0 ∷ 1 ∷ 3 ∷ []) ∷ [])
unfolding every item same_z keeps_blanks location_count modes_at mode_of stays switch_of those count_up present modes_in unmentioned owner_of variables_that blank_in_flow still_variables owner_stays owners_jump blank_in_jump staying_variables
many-blanks = refl
