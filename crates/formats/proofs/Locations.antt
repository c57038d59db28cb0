-- Locations and their numbers: the modes of a location are modes of the components, and the number of modes leads back to them.
-- Assumes nothing.
use mathlib.Core.Path.{◌≡◌, refl, ap, ◌∙◌}
use mathlib.Core.List.{List, [], ◌∷◌}
use Prim.Native.Nat.{ℕ, zero, suc, ◌+◌, ◌*◌, ◌/◌, ◌%◌, ◌≤◌, ◌<◌}
use native.Mathlib.Nat.{mod-lt, div-lt_iff_lt-mul, div-add-mod', mul-add-div_right, mul-add-mod_self_right, div-eq_of_lt, mod-eq_of_lt, mul-le-mul_right, add-zero}
use native.Mathlib.Omega.{arith}
use lib.ListN.{length}
use Rattle.formats.specs.Model.{Component}
use Rattle.formats.specs.Locations.{location_count, modes_at, location_of}
use Rattle.farkas.specs.Lists.{All, none, more}

-- a mode of each component
pub data Modes : List Component → List ℕ → Type 0 where
  no-modes : Modes [] []
  mode-and : {c : Component} {components : List Component} {mode : ℕ} {modes : List ℕ} → mode < length c.modes → Modes components modes → Modes (c ∷ components) (mode ∷ modes)

-- every component has a mode
abbrev pub HaveModes : List Component → Type 0
HaveModes components = All (λ c. 1 ≤ length c.modes) components

positive : (a b : ℕ) → 1 ≤ a → 1 ≤ b → 1 ≤ a * b
positive (suc a) (suc b) h k = omega arith
positive (suc a) zero h k = absurd (omega arith)
positive zero b h k = absurd (omega arith)

pub count-positive : {components : List Component} → HaveModes components → 1 ≤ location_count components
unfolding location_count
count-positive none = omega arith
count-positive (more {a = c} {xs = components} h rest) = positive (length c.modes) (location_count components) h (count-positive rest)

-- the modes of a location are modes
pub modes-at : {components : List Component} → HaveModes components → (location : ℕ) → location < location_count components → Modes components (modes_at components location)
unfolding location_count modes_at
modes-at none location h = no-modes
modes-at (more {a = c} {xs = components} l rest) location h =
    mode-and
    ((div-lt_iff_lt-mul (count-positive rest)).1 h)
    (modes-at rest (location % location_count components) (mod-lt location (count-positive rest)))

digit-below : (a b m l : ℕ) → m < a → l < b → m * b + l < a * b
digit-below a b m l h k = omega (arith, mul-le-mul_right b h)

-- modes have a location's number
pub location-of : {components : List Component} {modes : List ℕ} → Modes components modes → location_of components modes < location_count components
unfolding location_count location_of
location-of no-modes = omega arith
location-of (mode-and {c = c} {components = components} {mode = mode} {modes = modes} h rest) =
    digit-below (length c.modes) (location_count components) mode (location_of components modes) h (location-of rest)

-- and the location of that number has these modes
pub modes-of : {components : List Component} {modes : List ℕ} → HaveModes components → Modes components modes → modes_at components (location_of components modes) ≡ modes
unfolding modes_at location_of
modes-of none no-modes = refl
modes-of (more {a = c} {xs = components} l others) (mode-and {mode = mode} {modes = modes} h rest) =
    let least = location-of rest in
    rw
    (mul-add-div_right (count-positive others) mode (location_of components modes), div-eq_of_lt least, add-zero mode, mul-add-mod_self_right mode (location_count components) (location_of components modes), mod-eq_of_lt least)
    (ap (λ (xs : List ℕ). mode ∷ xs) (modes-of others rest))

-- every location has a number: that of its modes
pub number_of : {components : List Component} → HaveModes components → (location : ℕ) → location < location_count components → location_of components (modes_at components location) ≡ location
unfolding location_count modes_at location_of
number_of none location h = omega arith
number_of (more {a = c} {xs = components} l others) location h =
    ap (λ (n : ℕ). location / location_count components * location_count components + n) (number_of others (location % location_count components) (mod-lt location (count-positive others)))
    ∙ div-add-mod' location (location_count components)
