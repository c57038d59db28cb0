-- A model's rows read by another version (02, order 6: "Runs are read by the model's version"), and which steps keep the blanks that these
-- rows leave, whatever the version. Assumes nothing.
use Rattle.std.specs.Prelude.{◌≡◌, Bool, true, not, ◌&&◌, ℕ, ◌+◌, T}
use mathlib.Core.List.{List, [], ◌∷◌, Memᴰ}
use Rattle.formats.specs.Model.{Model}
use Rattle.formats.specs.RunSheet.{Step, flow, jump}
use Rattle.rules.specs.Runs.{State, unmentioned, owners_flow, owners_jump, owner_stays, variables_that, kept, after, Run, visited, is_unsafe}

-- the same rows, of a sheet of this version
unfoldable pub read_as : ℕ → Model → Model
read_as version m =
    record {
      version = version;
      paper = m.paper;
      variables = m.variables;
      owners = m.owners;
      components = m.components;
      unsafe = m.unsafe;
    }

-- "a variable with zero coefficients in all flow rows of its owner's present mode"; "One with zero after-coefficients in all rows of its
-- moving owner's switch"
unfoldable pub blanks_in : Model → State → Step → List ℕ
blanks_in m s (flow δ next) = variables_that m (λ v. unmentioned v (owners_flow m s.location v))
blanks_in m s (jump event switches next) =
    variables_that m (λ v. not (owner_stays m switches v) && unmentioned (m.variables + v) (owners_jump m switches v))

-- each of them has the same value after the step as before
unfoldable pub step_keeps : Model → State → Step → Bool
step_keeps m s t = kept (blanks_in m s t) (after m s t).values s.values

-- and so through a list of steps, each from where the one before led to
unfoldable pub steps_keep : Model → State → List Step → Bool
steps_keep m s [] = true
steps_keep m s (t ∷ steps) = step_keeps m s t && steps_keep m (after m s t) steps

-- runs that begin alike, with the same steps
pub record SameRun {x m : Model} (a : Run x) (b : Run m) : Type 0 where
  pub q : a.q ≡ b.q
  pub first : a.first ≡ b.first
  pub steps : a.steps ≡ b.steps

-- no run visits an unsafe state
abbrev pub Safe : Model → Type 0
Safe m = (run : Run m) (s : State) → Memᴰ s (visited m run.first run.steps) → T (is_unsafe m run.q s) → ⊥
