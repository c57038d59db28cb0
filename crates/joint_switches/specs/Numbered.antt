-- Tables of how many switches each component has, by a number that each switch has: its label, with so many times the mode that it leads
-- into. Assumes nothing.
use Rattle.std.specs.Prelude.{◌≡◌, List, ℕ, ◌+◌, ◌*◌, ◌≤◌, ◌<◌, eqb, get_or}
use Rattle.formats.specs.Model.{Switch, Component}
use Rattle.formats.specs.Joint.{bit}
use Rattle.formats.specs.JointTotals.{sum_over}
use Rattle.models.specs.Index.{entry}
use Rattle.models.specs.Counts.{component_at}

-- a switch's number
unfoldable pub number_of : ℕ → Switch → ℕ
number_of step w = step * w.target + w.label

-- how many switches of a component have a number
unfoldable pub numbered : ℕ → Component → ℕ → ℕ
numbered step c p = sum_over (λ w. bit (eqb (number_of step w) p)) c.switches

-- eight modes and sixteen labels have numbers below the width of a component's part, and four parts fit a table
pub record Wide (width step : ℕ) : Type 0 where
  pub enough : 7 * step + 16 ≤ width
  pub few : width ≤ 128

-- the part of one component, which has so many places
pub record NumberedAt (width step : ℕ) (s index : List ℕ) (k : ℕ) (table : List ℕ) : Type 0 where
  pub counted : (p : ℕ) → p < width → get_or table (width * k + p) 0 ≡ numbered step (component_at s index k) p

-- the parts of all components
pub record Numbered (width step : ℕ) (s index table : List ℕ) : Type 0 where
  pub components : (k p : ℕ) → k < entry index 1 → p < width → get_or table (width * k + p) 0 ≡ numbered step (component_at s index k) p

-- by labels alone, sixteen places to a component; and by modes and labels, sixteen places to a mode
abbrev pub ByLabel : List ℕ → List ℕ → List ℕ → Type 0
ByLabel = Numbered 16 0

abbrev pub ByMode : List ℕ → List ℕ → List ℕ → Type 0
ByMode = Numbered 128 16
