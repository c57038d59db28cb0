-- How many obligations there are: of each location its own, and its region's rows as often as joint switches lead into it. No joint switch
-- is gone through. Assumes nothing.
use mathlib.Core.Path.{◌≡◌, refl, sym, ap₂, ◌∙◌}
use mathlib.Core.List.{List, [], ◌∷◌}
use Prim.Native.Nat.{ℕ, suc, ◌+◌, ◌*◌}
use native.Mathlib.Omega.{arith}
use lib.ListN.{length, length-append}
use Rattle.farkas.specs.Rows.{Row}
use Rattle.formats.specs.Rows.{Condition}
use Rattle.formats.specs.Model.{Model}
use Rattle.formats.specs.Locations.{location_count, modes_at}
use Rattle.formats.specs.Joint.{count_up, join_all, JointSwitch, joints}
use Rattle.formats.proofs.WellFormed.{WellFormed}
use Rattle.rules.specs.Obligations.{Kind, Hypothesis, per_row, location_obligations, jump_obligations, jumps_obligations, obligations_over, obligations, region_of}
use Rattle.formats.specs.JointTotals.{sum_over, joints_into}
use Rattle.formats.proofs.SumLaws.{sum-plus}
use Rattle.formats.proofs.JointProduct.{countable, joined_length}
use Rattle.formats.proofs.JointsInto.{joints-into}

-- one obligation per row
pub per-row : (kind : Kind) (subject : ℕ) (hypotheses : List Hypothesis) (put : Row → Row) (line : ℕ) (region : Condition) → length (per_row kind subject hypotheses put line region) ≡ length region
unfolding per_row
per-row kind subject hypotheses put line [] = refl
per-row kind subject hypotheses put line (r ∷ region) = omega (arith, per-row kind subject hypotheses put (suc line) region)

jumps-length : (m : Model) (region_at : ℕ → Condition) (number : ℕ) (switches : List JointSwitch) → length (jumps_obligations m region_at number switches) ≡ sum_over (λ j. length (region_at j.target)) switches
unfolding jumps_obligations jump_obligations sum_over
jumps-length m region_at number [] = refl
jumps-length m region_at number (j ∷ rest) =
    length-append (jump_obligations m region_at number j) (jumps_obligations m region_at (suc number) rest)
    ∙ ap₂ (λ (x y : ℕ). x + y) (per-row _ _ _ _ 0 (region_at j.target)) (jumps-length m region_at (suc number) rest)

-- a location's obligations, with those of the joint switches that lead into it
unfoldable pub goals_at : Model → (ℕ → Condition) → ℕ → ℕ
goals_at m region_at l =
    length (location_obligations m region_at l) + length (region_at l) * joints_into m.components (modes_at m.components l)

pub obligations-total : (m : Model) (regions : List Condition) → WellFormed m → length (obligations m regions) ≡ sum_over (goals_at m (region_of regions)) (count_up 0 (location_count m.components))
unfolding obligations obligations_over goals_at
obligations-total m regions g =
    let region_at = region_of regions in
    let locations = count_up 0 (location_count m.components) in
    length-append (join_all (location_obligations m region_at) locations) (jumps_obligations m region_at 0 (joints m.components))
    ∙ ap₂ (λ (x y : ℕ). x + y)
    (joined_length (location_obligations m region_at) locations)
    (jumps-length m region_at 0 (joints m.components) ∙ joints-into (countable g.components) (λ l. length (region_at l)))
    ∙ sym (sum-plus (λ l. length (location_obligations m region_at l)) (λ l. length (region_at l) * joints_into m.components (modes_at m.components l)) locations)
