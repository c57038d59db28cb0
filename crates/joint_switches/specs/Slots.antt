-- The joint switches of one event from one location, in a table of 128 lines: by which switch a component moves, where that leads, and
-- which component it is. Assumes nothing.
use Rattle.std.specs.Prelude.{◌≡◌, Bool, cond, List, [], ◌∷◌, ◌++◌, ℕ, zero, suc, ◌+◌, ◌*◌, ◌/◌, ◌%◌, ◌≤◌, ◌<◌, eqb, length, get_or, set, replicate}
use Rattle.formats.specs.Model.{Component}
use Rattle.formats.specs.Locations.{location_of}
use Rattle.formats.specs.Joint.{stays, switch_of, leaves, leaving, four_switches, modes_after, silent, together, switches_of}
use Rattle.formats.specs.Parts.{parts, mode_after}
use Rattle.models.specs.Index.{entry, components_from}
use Rattle.models.specs.Counts.{component_at, per_component}
use Rattle.joint_switches.specs.declared.Slot.{Slot}
use Rattle.joint_switches.specs.declared.Landing.{Landing}
use Rattle.joint_switches.specs.declared.slots.Part.{Part}
use Rattle.joint_switches.specs.declared.slots.Way.{Way}

-- what a table tells beyond its lines
abbrev pub no_way : Way
no_way = record { switch = 0; landing = 0; mover = 0 }

-- An event from 1. A component has 32 places, and a joint switch's number a digit for each component, the last component's last
unfoldable pub digit_switches : List ℕ → List Way → ℕ → ℕ → List ℕ
digit_switches counts ways zero x = []
digit_switches counts ways (suc k) x =
    digit_switches counts ways k (x / get_or counts k 0) ++ ((get_or ways (32 * k + x % get_or counts k 0) no_way).switch ∷ [])

unfoldable pub digit_target : List ℕ → List Way → ℕ → ℕ → ℕ
digit_target counts ways zero x = 0
digit_target counts ways (suc k) x =
    digit_target counts ways k (x / get_or counts k 0) + (get_or ways (32 * k + x % get_or counts k 0) no_way).landing

-- what the table tells of a joint switch by its number: of event 0 by one line, of another by its digits
abbrev pub way_landing : Way → Landing
way_landing way = record { switches = set (replicate 4 stays) way.mover way.switch; target = way.landing }

abbrev pub line_landing : List Way → ℕ → Landing
line_landing ways x = way_landing (get_or ways x no_way)

abbrev pub digit_landing : List ℕ → List ℕ → List Way → ℕ → Landing
digit_landing index counts ways x =
    record { switches = four_switches (digit_switches counts ways (entry index 1) x); target = digit_target counts ways (entry index 1) x }

unfoldable pub landing_in : List ℕ → Slot → List Way → ℕ → Landing
landing_in index slot ways x = cond (eqb slot.e 0) (line_landing ways x) (digit_landing index slot.ways ways x)

-- every component has ways, and no more than it has places
pub record Digits (index counts : List ℕ) : Type 0 where
  pub some : (k : ℕ) → k < entry index 1 → 0 < get_or counts k 0
  pub most : (k : ℕ) → k < entry index 1 → get_or counts k 0 ≤ 32

-- every line has a component
pub record Lines (count : ℕ) (ways : List Way) : Type 0 where
  pub few : count ≤ 128
  pub movers : (x : ℕ) → x < count → (get_or ways x no_way).mover < 4

-- what is read of a table lies in it
pub record Ready (index : List ℕ) (slot : Slot) (ways : List Way) : Type 0 where
  pub few : entry index 1 ≤ 4
  pub long : 128 ≤ length ways
  pub lines : slot.e ≡ 0 → Lines slot.count ways
  pub digits : (slot.e ≡ 0 → ⊥) → 0 < slot.count → Digits index slot.ways

-- a joint switch: its four switch numbers, and where it leads
unfoldable pub landing_of : List Component → List ℕ → List ℕ → Landing
landing_of components modes switches =
    record { switches = four_switches switches; target = location_of components (modes_after components modes switches) }

-- a list of joint switches from a location with these modes, as the table tells them
pub record ListedAs (list : List (List ℕ)) (s index modes : List ℕ) (e : ℕ) (ways : List Way) (slot : Slot) : Type 0 where
  pub event : slot.e ≡ e
  pub counted : slot.count ≡ length list
  pub ready : Ready index slot ways
  pub landings : (x : ℕ) → x < slot.count → landing_in index slot ways x ≡ landing_of (components_from s index) (per_component index modes) (get_or list x [])

-- those of an event
abbrev pub Listed : List ℕ → List ℕ → List ℕ → ℕ → List Way → Slot → Type 0
Listed s index modes e = ListedAs (switches_of (components_from s index) (per_component index modes) e) s index modes e

abbrev pub silent_in : List ℕ → List ℕ → List ℕ → List (List ℕ)
silent_in s index modes = silent (components_from s index) (per_component index modes)

abbrev pub together_in : List ℕ → List ℕ → List ℕ → ℕ → List (List ℕ)
together_in s index modes e = together (components_from s index) (per_component index modes) e

-- How a table is filled, component by component: by its switches that leave its mode, or by its part in an event
abbrev pub leaving_by : List ℕ → List ℕ → Part → List ℕ
leaving_by s index part = leaving (component_at s index part.k) part.mode part.e

abbrev pub parts_by : List ℕ → List ℕ → Part → List ℕ
parts_by s index part = parts (component_at s index part.k) part.mode part.e

-- whether a switch is listed
abbrev pub leaves_by : List ℕ → List ℕ → Part → ℕ → Bool
leaves_by s index part i = leaves part.mode part.e (switch_of (component_at s index part.k) i)

-- the target's number, by the mode after the component's switch
abbrev pub landing_by : List ℕ → List ℕ → Part → ℕ → ℕ
landing_by s index part i = part.rest + mode_after (component_at s index part.k) part.mode i * part.unit

-- it fits a byte
pub record Fitting (s index : List ℕ) (part : Part) : Type 0 where
  pub inside : part.k < entry index 1
  pub small : part.rest + length (component_at s index part.k).modes * part.unit ≤ 255

-- the line of a switch, and one that is put for a switch that is listed
abbrev pub way_by : List ℕ → List ℕ → Part → ℕ → Way
way_by s index part i = record { switch = i; landing = landing_by s index part i; mover = part.k }

abbrev pub line_for : List ℕ → List ℕ → Part → ℕ → ℕ → List Way → List Way
line_for s index part i at ways = cond (leaves_by s index part i) (set ways at (way_by s index part i)) ways

-- these ways stand in the table from a place on, with where they lead
pub record WaysAt (s index : List ℕ) (part : Part) (from : ℕ) (numbers : List ℕ) (ways : List Way) : Type 0 where
  pub switches : (d : ℕ) → d < length numbers → (get_or ways (from + d) no_way).switch ≡ get_or numbers d stays
  pub landings : (d : ℕ) → d < length numbers → (get_or ways (from + d) no_way).landing ≡ landing_by s index part (get_or numbers d stays)

-- and with who moves
pub record MoversAt (k from count : ℕ) (ways : List Way) : Type 0 where
  pub movers : (d : ℕ) → d < count → (get_or ways (from + d) no_way).mover ≡ k

-- nothing but 32 lines has changed
pub record OtherLines (from : ℕ) (before after : List Way) : Type 0 where
  pub kept : (p : ℕ) → (from ≤ p → p < from + 32 → ⊥) → get_or after p no_way ≡ get_or before p no_way
