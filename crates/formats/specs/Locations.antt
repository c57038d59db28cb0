-- Locations (01, Model): "A location is one mode per component, numbered with component 0 most significant". Assumes nothing.
use Rattle.std.specs.Prelude.{List, [], ◌∷◌, ℕ, ◌+◌, ◌*◌, ◌/◌, ◌%◌, length, get_or}
use Rattle.formats.specs.Model.{Mode, Component}

-- how many locations there are
unfoldable pub location_count : List Component → ℕ
location_count [] = 1
location_count (c ∷ components) = length c.modes * location_count components

-- the modes of a location, one per component
unfoldable pub modes_at : List Component → ℕ → List ℕ
modes_at [] location = []
modes_at (c ∷ components) location =
    (location / location_count components) ∷ modes_at components (location % location_count components)

-- the number of the location with these modes
unfoldable pub location_of : List Component → List ℕ → ℕ
location_of [] modes = 0
location_of (c ∷ components) [] = 0
location_of (c ∷ components) (mode ∷ modes) = mode * location_count components + location_of components modes

-- a component's mode by its number; what stands for a missing one has no rows
abbrev pub no_mode : Mode
no_mode = record { start = 0; initial = []; invariant = []; flow = [] }

unfoldable pub mode_of : Component → ℕ → Mode
mode_of c mode = get_or c.modes mode no_mode
