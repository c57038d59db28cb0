-- Modes and switches that an index knows are modes and switches of its components; modes have a location, and lead back from it.
-- Assumes nothing.
use mathlib.Core.Path.{◌≡◌, sym, ap, ◌∙◌, subst₂}
use mathlib.Core.List.{List, [], ◌∷◌}
use Prim.Native.Nat.{ℕ, zero, suc, ◌+◌, ◌≤◌, ◌<◌}
use native.Mathlib.Omega.{arith}
use lib.ListN.{length, get_or, drop_of_length-le}
use Rattle.formats.specs.Model.{Component}
use Rattle.formats.specs.Locations.{location_of}
use Rattle.models.specs.Index.{entry, components_from, GoodIndex}
use Rattle.models.specs.Counts.{component_at, per_component, KnownSwitches}
use Rattle.formats.proofs.Locations.{Modes, no-modes, mode-and, location-of, modes-of}
use Rattle.formats.proofs.Joint.{Known, no-numbers, number-and}
use Rattle.models.proofs.GoodIndexLaws.{components-drop, components-end, mode-length, switch-length, good-components}
use Rattle.joint_switches.proofs.JointLoops.{components_on, numbers_on, per-component-length, per-component-drop}
use Rattle.papers.specs.Standing.{KnownModes, Stands}
use Rattle.papers.proofs.StandingLaws.{have-modes}

-- numbers of an array that stand for components, past the last
pub numbers-end : (index numbers : List ℕ) → entry index 1 ≤ length numbers → numbers_on index numbers (entry index 1) ≡ []
numbers-end index numbers long = drop_of_length-le (per_component index numbers) {i = entry index 1} (omega (arith, per-component-length index numbers long))

-- what holds of the components with their numbers, one component and its number at a time
module _ (s index numbers : List ℕ) (long : entry index 1 ≤ length numbers) (P : List Component → List ℕ → Type 0) (last : P [] []) (next : (k : ℕ) → k < entry index 1 → (cs : List Component) (ns : List ℕ) → P cs ns → P (component_at s index k ∷ cs) (get_or numbers k 0 ∷ ns)) where
  paired-from : (n k : ℕ) → k + n ≡ entry index 1 → P (components_on s index k) (numbers_on index numbers k)
  paired-from zero k h =
      let e : entry index 1 ≡ k = omega arith in
      subst₂ P (sym (components-end s index) ∙ ap (λ (i : ℕ). components_on s index i) e) (sym (numbers-end index numbers long) ∙ ap (λ (i : ℕ). numbers_on index numbers i) e) last
  paired-from (suc n) k h =
      let l : k < entry index 1 = omega arith in
      subst₂ P (sym (components-drop s index k l)) (sym (per-component-drop index numbers long k l))
      (next k l (components_on s index (k + 1)) (numbers_on index numbers (k + 1)) (paired-from n (k + 1) (omega arith)))

  paired : P (components_from s index) (per_component index numbers)
  paired = paired-from (entry index 1) 0 (omega arith)

-- known switches are switches of the components, and known modes their modes
pub known-all : (s index switches : List ℕ) → entry index 1 ≤ length switches → KnownSwitches index switches → Known (components_from s index) (per_component index switches)
known-all s index switches wide known =
    paired s index switches wide Known no-numbers (λ k l cs ns rest. number-and (λ q. omega (arith, known.known k l q, switch-length s index k)) rest)

pub modes-all : (s index modes : List ℕ) → entry index 1 ≤ length modes → KnownModes index modes → Modes (components_from s index) (per_component index modes)
modes-all s index modes long known =
    paired s index modes long Modes no-modes (λ k l cs ns rest. mode-and (omega (arith, known.known k l, mode-length s index k)) rest)

-- known modes stand in the location that has them
pub stands-in : {model index : List ℕ} (modes : List ℕ) → GoodIndex model index → KnownModes index modes → entry index 1 ≤ length modes → Stands model index (location_of (components_from model index) (per_component index modes)) modes
stands-in {model} {index} modes g known long =
    let all = modes-all model index modes long known in
    record { below = location-of all; known = known; here = sym (modes-of (have-modes (good-components g)) all) }
