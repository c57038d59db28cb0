-- The modes of a location are known; the present modes by the numbers of an index, and tests over them, component by component: whether
-- they are start modes, and whether they fit those that are asked for. Assumes nothing.
use mathlib.Core.Path.{◌≡◌, refl, sym, ap, ap₂, ◌∙◌}
use mathlib.Core.Bool.{Bool, true, false, ◌&&◌, ◌||◌}
use mathlib.Core.List.{List, [], ◌∷◌, ◌++◌, map}
use Prim.Native.Nat.{ℕ, ◌+◌, ◌≤◌, ◌<◌}
use native.Mathlib.Omega.{arith}
use lib.Dec.{eqb}
use lib.ListN.{length, get_or, drop, drop_of_length-le}
use Rattle.formats.specs.Model.{Mode, Component}
use Rattle.formats.specs.Locations.{mode_of, location_count, modes_at}
use Rattle.formats.specs.Joint.{count_up}
use Rattle.models.specs.Index.{entry, component_place, mode_place, switch_place, unsafe_place, mode_from, component_from, components_from, GoodIndex, unsafe_from}
use Rattle.models.specs.Counts.{component_at, per_component}
use Rattle.models.proofs.GoodIndexLaws.{counted-at, components-drop, components-end, counted-length, counted-drop}
use Rattle.joint_switches.proofs.JointLoops.{components_on, numbers_on, per-component-drop, per-component-length, per-component-modes}
pub use Rattle.joint_switches.proofs.TableLaws.{have-modes, known-present}
use Rattle.rules.specs.Runs.{present, modes_fit}
use Rattle.papers.specs.Standing.{KnownModes, GoodModes, Stands}
use Rattle.farkas.specs.Lists.{every}

-- the present modes, by the numbers of an index
pub mode-at : (s index : List ℕ) (k mode : ℕ) → mode < entry index (component_place k + 1) → mode_of (component_at s index k) mode ≡ mode_from s (entry index 11) (entry index 0) index (mode_place (component_place k) mode)
unfolding mode_of component_at component_from
mode-at s index k mode h = counted-at (λ j. mode_from s (entry index 11) (entry index 0) index (mode_place (component_place k) j)) (entry index (component_place k + 1)) mode _ h

module _ (s index modes : List ℕ) (long : entry index 1 ≤ length modes) where
  abbrev pub present_on : ℕ → List Mode
  present_on k = present (components_on s index k) (numbers_on index modes k)

  pub present-next : KnownModes index modes → (k : ℕ) → k < entry index 1 → present_on k ≡ mode_from s (entry index 11) (entry index 0) index (mode_place (component_place k) (get_or modes k 0)) ∷ present_on (k + 1)
  unfolding present
  present-next known k h =
      ap₂ present (components-drop s index k h) (per-component-drop index modes long k h)
      ∙ ap (λ (m : Mode). m ∷ present_on (k + 1)) (mode-at s index k (get_or modes k 0) (known.known k h))

  pub present-end : (k : ℕ) → k ≡ entry index 1 → present_on k ≡ []
  unfolding present
  present-end k h = ap (λ (components : List Component). present components (numbers_on index modes k)) (ap (λ (i : ℕ). drop i (components_from s index)) h ∙ components-end s index)

-- The modes of a location are modes of their components
pub known-modes : {model index : List ℕ} (location : ℕ) (modes rest : List ℕ) → GoodIndex model index → location < location_count (components_from model index) → modes ≡ modes_at (components_from model index) location ++ rest → KnownModes index modes
known-modes {model} {index} location modes rest g h e = known-present location modes g h (per-component-modes model index location modes rest e)

-- Tests over the components of an index: a turn that passes, a turn that fails, and the end
abbrev pub starts_on : List ℕ → List ℕ → List ℕ → ℕ → Bool
starts_on model index modes k = every (λ mode. eqb mode.start 1) (present (components_on model index k) (numbers_on index modes k))

module _ (model index modes : List ℕ) (long : entry index 1 ≤ length modes) where
  start-turn : KnownModes index modes → (k : ℕ) → k < entry index 1 → starts_on model index modes k ≡ (eqb (entry index (mode_place (component_place k) (get_or modes k 0))) 1 && starts_on model index modes (k + 1))
  unfolding every mode_from
  start-turn known k h = ap (every (λ mode. eqb mode.start 1)) (present-next model index modes long known k h)

  pub start-passes : KnownModes index modes → (k : ℕ) {b : Bool} → k < entry index 1 → b ≡ eqb (entry index (mode_place (component_place k) (get_or modes k 0))) 1 → b ≡ true → starts_on model index modes (k + 1) ≡ starts_on model index modes k
  start-passes known k h p q = sym (start-turn known k h ∙ ap (λ (b : Bool). b && starts_on model index modes (k + 1)) (sym p ∙ q))

  pub start-fails : KnownModes index modes → (k : ℕ) {b : Bool} → k < entry index 1 → b ≡ eqb (entry index (mode_place (component_place k) (get_or modes k 0))) 1 → b ≡ false → false ≡ starts_on model index modes k
  start-fails known k h p q = sym (start-turn known k h ∙ ap (λ (b : Bool). b && starts_on model index modes (k + 1)) (sym p ∙ q))

  pub start-ends : (k : ℕ) → k ≡ entry index 1 → true ≡ starts_on model index modes k
  unfolding every
  start-ends k h = sym (ap (every (λ mode. eqb mode.start 1)) (present-end model index modes long k h))

-- the modes that an unsafe condition asks for, from one component on
abbrev pub asked_on : List ℕ → ℕ → ℕ → List ℕ
asked_on index place k = drop k (map (λ i. entry index (place + i)) (count_up 0 (entry index 1)))

abbrev pub fit_on : List ℕ → List ℕ → ℕ → ℕ → Bool
fit_on index modes place k = modes_fit (asked_on index place k) (numbers_on index modes k)

module _ (index modes : List ℕ) (long : entry index 1 ≤ length modes) (place : ℕ) where
  fit-turn : (k : ℕ) → k < entry index 1 → fit_on index modes place k ≡ ((eqb (entry index (place + k)) 255 || eqb (entry index (place + k)) (get_or modes k 0)) && fit_on index modes place (k + 1))
  unfolding modes_fit
  fit-turn k h = ap₂ modes_fit (counted-drop (λ i. entry index (place + i)) (entry index 1) k h) (per-component-drop index modes long k h)

  pub fit-passes : (k : ℕ) {b : Bool} → k < entry index 1 → b ≡ (eqb (entry index (place + k)) 255 || eqb (entry index (place + k)) (get_or modes k 0)) → b ≡ true → fit_on index modes place (k + 1) ≡ fit_on index modes place k
  fit-passes k h p q = sym (fit-turn k h ∙ ap (λ (b : Bool). b && fit_on index modes place (k + 1)) (sym p ∙ q))

  pub fit-fails : (k : ℕ) {b : Bool} → k < entry index 1 → b ≡ (eqb (entry index (place + k)) 255 || eqb (entry index (place + k)) (get_or modes k 0)) → b ≡ false → false ≡ fit_on index modes place k
  fit-fails k h p q = sym (fit-turn k h ∙ ap (λ (b : Bool). b && fit_on index modes place (k + 1)) (sym p ∙ q))

  pub fit-ends : (k : ℕ) → entry index 1 ≤ k → true ≡ fit_on index modes place k
  unfolding modes_fit
  fit-ends k h =
      let asked = map (λ i. entry index (place + i)) (count_up 0 (entry index 1)) in
      sym
      (ap₂ modes_fit
      (drop_of_length-le asked {i = k} (omega (arith, counted-length (λ i. entry index (place + i)) 0 (entry index 1))))
      (drop_of_length-le (per_component index modes) {i = k} (omega (arith, per-component-length index modes long))))

pub fit-starts : (model index modes : List ℕ) (u : ℕ) → fit_on index modes (unsafe_place u) 0 ≡ modes_fit (unsafe_from model (entry index 11) (entry index 0) (entry index 1) index (unsafe_place u)).modes (per_component index modes)
unfolding unsafe_from
fit-starts model index modes u = refl

-- the conditions of a known mode lie within the sheet
module _ (model index modes : List ℕ) (g : GoodIndex model index) (known : KnownModes index modes) where
  small : (k : ℕ) → k < entry index 1 → get_or modes k 0 < 8
  small k h = omega (arith, known.known k h, (g.blocks k h).most)

  pub initial-good : GoodModes model index modes 1
  initial-good = record { spans = λ k h. ((g.blocks k h).modes (get_or modes k 0) (known.known k h)).initial; small = small }

  pub invariant-good : GoodModes model index modes 3
  invariant-good = record { spans = λ k h. ((g.blocks k h).modes (get_or modes k 0) (known.known k h)).invariant; small = small }

  pub flow-good : GoodModes model index modes 5
  flow-good = record { spans = λ k h. ((g.blocks k h).modes (get_or modes k 0) (known.known k h)).flow; small = small }

-- a location and the array of its modes
pub stands_at_lem : (model index : List ℕ) (location : ℕ) (modes rest : List ℕ) → GoodIndex model index → location < location_count (components_from model index) → modes ≡ modes_at (components_from model index) location ++ rest → Stands model index location modes
stands_at_lem model index location modes rest g h e =
    record { below = h; known = known-modes location modes rest g h e; here = per-component-modes model index location modes rest e }

-- the numbers of a mode and of a switch are among those of an index
pub mode-within : (k mode offset : ℕ) → k < 4 → mode < 8 → offset ≤ 5 → mode_place (component_place k) mode + offset + 1 < 1004
unfolding mode_place component_place
mode-within k mode offset h l o = omega arith

pub switch-within : (k i : ℕ) → k < 4 → i < 32 → switch_place (component_place k) i + 3 + 1 < 1004
unfolding switch_place component_place
switch-within k i h l = omega arith
