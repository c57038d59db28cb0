-- How many joint switches a model has (01, Model: "There are at most 4,096"), and how many lead into a location, by sums and products over
-- the components. Assumes nothing.
use Rattle.std.specs.Prelude.{cond, ◌&&◌, List, [], ◌∷◌, ℕ, zero, suc, ◌+◌, ◌*◌, eqb, length}
use Rattle.formats.specs.Model.{Component, has_event}
use Rattle.formats.specs.Locations.{location_count}
use Rattle.formats.specs.Joint.{bit, mover_count, count_up}

unfoldable pub sum_over : {A : Type 0} → (A → ℕ) → List A → ℕ
sum_over f [] = 0
sum_over f (a ∷ xs) = f a + sum_over f xs

-- how many switches of a component have a label
unfoldable pub labelled : Component → ℕ → ℕ
labelled c e = sum_over (λ w. bit (eqb w.label e)) c.switches

-- a component's factor for an event, over all its modes: a member of the scope moves, from whatever mode; any other stays, in each mode
unfoldable pub choices : Component → ℕ → ℕ
choices c e = cond (has_event c.alphabet e) (labelled c e) (length c.modes)

-- "exactly those in it, each by one of its switches with that label"
unfoldable pub together_total : List Component → ℕ → ℕ
together_total [] e = 1
together_total (c ∷ components) e = choices c e * together_total components e

-- "Label 0 moves its component alone": the others are in any of their modes
unfoldable pub silent_total : List Component → ℕ
silent_total [] = 0
silent_total (c ∷ components) = labelled c 0 * location_count components + length c.modes * silent_total components

-- how many joint switches an event has; "an empty scope gives no step"
unfoldable pub event_total : List Component → ℕ → ℕ
event_total components zero = silent_total components
event_total components (suc e) = cond (eqb (mover_count components (suc e)) 0) 0 (together_total components (suc e))

-- how many joint switches there are
unfoldable pub joint_total : List Component → ℕ
joint_total components = sum_over (event_total components) (count_up 0 16)

-- how many switches of a component have a label and lead into a mode
unfoldable pub entering : Component → ℕ → ℕ → ℕ
entering c mode e = sum_over (λ w. bit (eqb w.label e && eqb w.target mode)) c.switches

-- in how many ways a component comes into a mode by an event: by its switches if it is a member of the scope, else in one, by staying
unfoldable pub arrivals : Component → ℕ → ℕ → ℕ
arrivals c mode e = cond (has_event c.alphabet e) (entering c mode e) 1

unfoldable pub together_into : List Component → List ℕ → ℕ → ℕ
together_into [] modes e = 1
together_into (c ∷ components) [] e = 0
together_into (c ∷ components) (mode ∷ modes) e = arrivals c mode e * together_into components modes e

unfoldable pub silent_into : List Component → List ℕ → ℕ
silent_into [] modes = 0
silent_into (c ∷ components) [] = 0
silent_into (c ∷ components) (mode ∷ modes) = entering c mode 0 + silent_into components modes

-- how many joint switches of an event lead into a location with these modes
unfoldable pub event_into : List Component → List ℕ → ℕ → ℕ
event_into components modes zero = silent_into components modes
event_into components modes (suc e) = cond (eqb (mover_count components (suc e)) 0) 0 (together_into components modes (suc e))

-- how many joint switches lead into it
unfoldable pub joints_into : List Component → List ℕ → ℕ
joints_into components modes = sum_over (event_into components modes) (count_up 0 16)
