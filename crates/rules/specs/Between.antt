-- The points of a flow between its two ends (01, Runs: "Conditions are convex, so straight lines suffice, and each point on one ends a
-- shorter run"). A run over q is the same run over q·N once all values and times are taken N times; over q·N the t-th of N points of a
-- flow from p to p' is (N − t)·p + t·p', reached in time δ·t. Assumes nothing.
use Rattle.std.specs.Prelude.{List, [], ◌∷◌, ◌++◌, map, ℕ, ◌-◌, ◌*◌, ℤ, pos, ◌+ℤ◌, ◌*ℤ◌}
use Rattle.formats.specs.Model.{Model}
use Rattle.formats.specs.RunSheet.{Step, flow, jump}
use Rattle.rules.specs.Runs.{State, end_of}

-- N times each value
unfoldable pub times : ℕ → List ℤ → List ℤ
times N p = map (λ x. pos N *ℤ x) p

-- a state over q, written over q·N
unfoldable pub finer_state : ℕ → State → State
finer_state N s = record { location = s.location; values = times N s.values }

-- a step of a run over q, written over q·N
unfoldable pub finer_step : ℕ → Step → Step
finer_step N (flow δ next) = flow (δ * N) (times N next)
finer_step N (jump event switches next) = jump event switches (times N next)

-- u·p + t·p', value by value
unfoldable pub mixed : ℕ → ℕ → List ℤ → List ℤ → List ℤ
mixed u t [] next = []
mixed u t (x ∷ p) [] = []
mixed u t (x ∷ p) (y ∷ next) = (pos u *ℤ x +ℤ pos t *ℤ y) ∷ mixed u t p next

-- the t-th of N points on the straight line from p to p', over q·N
unfoldable pub part_way : ℕ → ℕ → List ℤ → List ℤ → List ℤ
part_way N t p next = mixed (N - t) t p next

-- the state at that point, where the flow starts from s
unfoldable pub part_way_state : ℕ → ℕ → State → List ℤ → State
part_way_state N t s next = record { location = s.location; values = part_way N t s.values next }

-- the steps of the shorter run: those before the flow, then the flow cut at the t-th of N points
unfoldable pub cut_steps : Model → ℕ → ℕ → State → List Step → ℕ → List ℤ → List Step
cut_steps m N t first before δ next =
    map (finer_step N) before ++ (flow (δ * t) (part_way N t (end_of m first before).values next) ∷ [])
