-- A joint switch that a table of its event lists: how many there are, its switches, and where it leads. Assumes nothing.
use mathlib.Core.Path.{◌≡◌, sym, ap, ◌∙◌, subst}
use mathlib.Core.List.{List, [], append-nil}
use Prim.Native.Nat.{ℕ, ◌≤◌, ◌<◌}
use native.Mathlib.Omega.{arith}
use lib.ListN.{length, get_or}
use Rattle.formats.specs.Locations.{location_count, modes_at, location_of}
use Rattle.formats.specs.Joint.{modes_after, switches_of, four_switches}
use Rattle.models.specs.Index.{components_from, GoodIndex}
use Rattle.models.specs.Counts.{per_component, KnownSwitches}
use Rattle.joint_switches.specs.declared.Slot.{Slot}
use Rattle.joint_switches.specs.declared.Landing.{Landing}
use Rattle.joint_switches.specs.declared.slots.Way.{Way}
use Rattle.joint_switches.specs.Slots.{landing_in, landing_of, Listed}
use Rattle.papers.specs.Standing.{Stands}
use Rattle.papers.proofs.StandingLaws.{stands_at_lem}
use Rattle.papers.proofs.FoundLaws.{found_below, found_first, found-switches}

-- a location stands with its modes
pub stands-there : {model index : List ℕ} → GoodIndex model index → (location : ℕ) → location < location_count (components_from model index) → Stands model index location (modes_at (components_from model index) location)
stands-there {model} {index} g location h =
    let modes = modes_at (components_from model index) location in
    stands_at_lem model index location modes [] g h (sym (append-nil modes))

-- the modes that a table was made from are those of the location
pub listed-there : {model index modes : List ℕ} {ways : List Way} {location e : ℕ} {slot : Slot} → GoodIndex model index → Stands model index location modes → Listed model index modes e ways slot → Listed model index (modes_at (components_from model index) location) slot.e ways slot
listed-there {model} {index} {modes} {ways} {location} {e} {slot} g stands listed =
    let components = components_from model index in
    let there = modes_at components location in
    let same : per_component index modes ≡ per_component index there = stands.here ∙ sym (stands-there g location stands.below).here in
    subst (λ (k : ℕ). Listed model index there k ways slot) (sym listed.event) (record {
      event = listed.event;
      counted = listed.counted ∙ ap (λ (ms : List ℕ). length (switches_of components ms e)) same;
      ready = listed.ready;
      landings = λ x h. listed.landings x h ∙ ap (λ (ms : List ℕ). landing_of components ms (get_or (switches_of components ms e) x [])) same;
    })

module _ {model index modes : List ℕ} {ways : List Way} {location e : ℕ} {slot : Slot} (g : GoodIndex model index) (stands : Stands model index location modes) (k : e ≤ 15) (listed : Listed model index modes e ways slot) where
  pub landed-count : slot.count ≡ length (switches_of (components_from model index) (modes_at (components_from model index) location) e)
  landed-count = listed.counted ∙ ap (λ (ms : List ℕ). length (switches_of (components_from model index) ms e)) stands.here

  module _ {landing : Landing} (x : ℕ) (l : x < length (switches_of (components_from model index) (modes_at (components_from model index) location) e)) (q : landing ≡ landing_in index slot ways x) where
    told : landing ≡ landing_of (components_from model index) (per_component index modes) (get_or (switches_of (components_from model index) (per_component index modes) e) x [])
    told = q ∙ listed.landings x (omega (arith, l, landed-count))

    four : landing.switches ≡ four_switches (get_or (switches_of (components_from model index) (per_component index modes) e) x [])
    unfolding landing_of
    four = ap (λ (j : Landing). j.switches) told

    pub landed-target : landing.target ≡ location_of (components_from model index) (modes_after (components_from model index) (modes_at (components_from model index) location) (get_or (switches_of (components_from model index) (modes_at (components_from model index) location) e) x []))
    unfolding landing_of
    landed-target =
        let components = components_from model index in
        ap (λ (j : Landing). j.target) told
        ∙ ap (λ (ms : List ℕ). location_of components (modes_after components ms (get_or (switches_of components ms e) x []))) stands.here

    pub landed-below : landing.target < location_count (components_from model index)
    landed-below = subst (λ (t : ℕ). t < location_count (components_from model index)) (sym landed-target) (found_below g location e x modes stands.below stands.here k l)

    pub landed-known : KnownSwitches index landing.switches
    landed-known = found-switches g location e x modes stands.below stands.here k l landing.switches four

    pub landed-first : per_component index landing.switches ≡ get_or (switches_of (components_from model index) (modes_at (components_from model index) location) e) x []
    landed-first = found_first g location e x modes stands.below stands.here k l landing.switches four
