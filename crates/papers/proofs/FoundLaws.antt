-- A joint switch that is found by its number among those of its location and event: its switches are known, and lead to a location.
-- Assumes nothing.
use mathlib.Core.Path.{◌≡◌, sym, ap, ◌∙◌, subst}
use mathlib.Core.List.{List, []}
use Prim.Native.Nat.{ℕ, ◌≤◌, ◌<◌}
use lib.ListN.{length, get_or}
use Rattle.formats.specs.Locations.{location_count, modes_at, location_of}
use Rattle.formats.specs.Joint.{modes_after, switches_of, four_switches}
use Rattle.models.specs.Index.{entry, components_from, GoodIndex}
use Rattle.models.specs.Counts.{per_component, KnownSwitches}
use Rattle.models.proofs.GoodIndexLaws.{good-components}
use Rattle.formats.proofs.Locations.{modes-at, location-of}
use Rattle.formats.proofs.Joint.{Known, joint-known, modes-after}
use Rattle.joint_switches.proofs.JointLoops.{found-joint, four-known, four-first}
use Rattle.papers.proofs.StandingLaws.{have-modes}

module _ {model index : List ℕ} (g : GoodIndex model index) (location e x : ℕ) (modes : List ℕ) (h : location < location_count (components_from model index)) (p : per_component index modes ≡ modes_at (components_from model index) location) (k : e ≤ 15) (l : x < length (switches_of (components_from model index) (modes_at (components_from model index) location) e)) where
  abbrev pub found_at : List ℕ
  found_at = get_or (switches_of (components_from model index) (modes_at (components_from model index) location) e) x []

  pub found-known : Known (components_from model index) found_at
  found-known = joint-known (components_from model index) (modes_at (components_from model index) location) e found_at (found-joint (good-components g) location e x h k l)

  pub found_below : location_of (components_from model index) (modes_after (components_from model index) (modes_at (components_from model index) location) found_at) < location_count (components_from model index)
  found_below = location-of (modes-after (entry index 0) (good-components g) (modes-at (have-modes (good-components g)) location h) found-known)

  pub found_within : x < length (switches_of (components_from model index) (per_component index modes) e)
  found_within = subst (λ (ms : List ℕ). x < length (switches_of (components_from model index) ms e)) (sym p) l

  module _ (switches : List ℕ) (q : switches ≡ four_switches (get_or (switches_of (components_from model index) (per_component index modes) e) x [])) where
    found-four : switches ≡ four_switches found_at
    found-four = q ∙ ap (λ (ms : List ℕ). four_switches (get_or (switches_of (components_from model index) ms e) x [])) p

    pub found_first : per_component index switches ≡ found_at
    found_first = ap (per_component index) found-four ∙ four-first g found-known

    pub found-switches : KnownSwitches index switches
    found-switches = subst (λ (ws : List ℕ). KnownSwitches index ws) (sym found-four) (four-known g found-known)
