-- The parts of components in an event, how many have it, and the modes after it. Assumes nothing.
use Rattle.std.specs.Prelude.{cond, List, [], ◌∷◌, ℕ, ◌+◌, eqb}
use Rattle.formats.specs.Model.{Component, has_event}
use Rattle.formats.specs.Joint.{stays, switch_of, bit, leaving}

-- a component's switch numbers for an event, from a mode: a member of the scope moves, any other component stays
unfoldable pub parts : Component → ℕ → ℕ → List ℕ
parts c mode e = cond (has_event c.alphabet e) (leaving c mode e) (stays ∷ [])

-- how many components have the event in their alphabet
unfoldable pub member_count : List Component → ℕ → ℕ
member_count [] e = 0
member_count (c ∷ components) e = bit (has_event c.alphabet e) + member_count components e

-- a component's mode after its part in a joint switch
unfoldable pub mode_after : Component → ℕ → ℕ → ℕ
mode_after c mode i = cond (eqb i stays) mode (switch_of c i).target
