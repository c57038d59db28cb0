-- Tables with a part for each component: blank ones, one more at a place, lists by their numbers, and the places of a switch and of the
-- modes of a location. Assumes nothing.
use mathlib.Core.Path.{◌≡◌, refl, sym, ap, ap₂, ◌∙◌}
use mathlib.Core.List.{List, [], ◌∷◌, map}
use Prim.Native.Nat.{ℕ, zero, suc, ◌+◌, ◌*◌, ◌≤◌, ◌<◌}
use native.Mathlib.Omega.{arith}
use lib.ListN.{length, get_or, set, replicate}
use lib.Seq.{get_or-set_same, get_or-set_other, get_or-take}
use Rattle.farkas.specs.Lists.{All, none, more}
use Rattle.formats.specs.Model.{Component}
use Rattle.formats.specs.Locations.{location_count, modes_at}
use Rattle.formats.specs.Joint.{switch_of, count_up}
use Rattle.models.specs.Index.{entry, component_place, switch_place, switch_from, components_from, GoodIndex}
use Rattle.models.specs.Counts.{component_at, per_component, KnownModes}
use Rattle.joint_switches.specs.Tables.{Blank, SmallModes}
use Rattle.formats.proofs.WellFormed.{GoodComponent, GoodSwitch}
use Rattle.formats.proofs.Members.{all-below}
use Rattle.formats.proofs.Locations.{Modes, no-modes, mode-and, HaveModes, modes-at}
use Rattle.models.proofs.GoodIndexLaws.{components-length, component-at, mode-length, switch-length, switch-at, good-component, good-components}

-- a table of zeros
zero-at : (n p : ℕ) → get_or {A = ℕ} (replicate n 0) p 0 ≡ 0
zero-at zero p = refl
zero-at (suc n) zero = refl
zero-at (suc n) (suc p) = zero-at n p

pub zeros-blank : (n : ℕ) → Blank 0 (replicate n 0)
zeros-blank n = record { blank = λ p h. zero-at n p }

-- a list by its numbers
pub by-numbers : (f : ℕ → ℕ) (xs : List ℕ) (i : ℕ) → ((p : ℕ) → p < length xs → get_or xs p 0 ≡ f (i + p)) → xs ≡ map f (count_up i (length xs))
unfolding count_up
by-numbers f [] i h = refl
by-numbers f (x ∷ xs) i h =
    ap₂ ◌∷◌ (h 0 (omega arith) ∙ ap f (nothing i)) (by-numbers f xs (suc i) (λ p l. h (suc p) (omega (arith, l)) ∙ ap f (one_later i p)))
  where
    nothing : (i : ℕ) → i + 0 ≡ i
    nothing i = omega arith

    one_later : (i p : ℕ) → i + suc p ≡ suc i + p
    one_later i p = omega arith

-- one more at a place: there is one more there, and at any other place as many as before
pub raised-here : (table : List ℕ) (place here rest : ℕ) {n all : ℕ} → place < length table → here ≡ place → n ≡ 1 + rest → get_or table here 0 + n ≡ all → get_or (set table place (get_or table place 0 + 1)) here 0 + rest ≡ all
raised-here table place here rest h p q r =
    let v = get_or table place 0 + 1 in
    let now : get_or (set table place v) here 0 ≡ v = ap (λ (x : ℕ). get_or (set table place v) x 0) p ∙ get_or-set_same table place v 0 h in
    let old : get_or table here 0 ≡ get_or table place 0 = ap (λ (x : ℕ). get_or table x 0) p in
    omega arith

pub raised-other : (table : List ℕ) (place here rest : ℕ) {n all : ℕ} → (here ≡ place → ⊥) → n ≡ 0 + rest → get_or table here 0 + n ≡ all → get_or (set table place (get_or table place 0 + 1)) here 0 + rest ≡ all
raised-other table place here rest h q r =
    omega (arith, get_or-set_other table place here (get_or table place 0 + 1) 0 h)

-- a switch's numbers are within the tables, and stand in the index
module _ {s index : List ℕ} (g : GoodIndex s index) (k i : ℕ) (h : k < entry index 1) (l : i < length (component_at s index k).switches) where
  pub good-switch : GoodSwitch (entry index 0) (length (component_at s index k).modes) (switch_of (component_at s index k) i)
  unfolding switch_of
  good-switch = all-below (good-component g k h).switches i _ l

  pub target_small : (switch_of (component_at s index k) i).target < 8
  target_small = omega (arith, good-switch.target, (good-component g k h).most)

  pub label_small : (switch_of (component_at s index k) i).label ≤ 15
  label_small = good-switch.label

  pub target_at : entry index (16 + 219 * k + 59 + 5 * i + 1) ≡ (switch_of (component_at s index k) i).target
  unfolding component_place switch_place switch_from
  target_at = sym (ap (λ w. w.target) (switch-at s index k i (omega (arith, switch-length s index k))))

  pub label_at : entry index (16 + 219 * k + 59 + 5 * i + 2) ≡ (switch_of (component_at s index k) i).label
  unfolding component_place switch_place switch_from
  label_at = sym (ap (λ w. w.label) (switch-at s index k i (omega (arith, switch-length s index k))))

  pub switch-within : i < 32
  switch-within = omega (arith, (good-component g k h).few)

-- the modes of a location are modes of their components, so they are within the tables
pub have-modes : {n : ℕ} {components : List Component} → All (GoodComponent n) components → HaveModes components
have-modes none = none
have-modes (more g rest) = more g.least (have-modes rest)

mode-below : {components : List Component} {modes : List ℕ} → Modes components modes → (k : ℕ) (d : Component) → k < length components → get_or modes k 0 < length (get_or components k d).modes
mode-below no-modes k d h = absurd (omega arith)
mode-below (mode-and l rest) zero d h = l
mode-below (mode-and l rest) (suc k) d h = mode-below rest k d (omega arith)

pub known-present : {model index : List ℕ} (location : ℕ) (modes : List ℕ) → GoodIndex model index → location < location_count (components_from model index) → per_component index modes ≡ modes_at (components_from model index) location → KnownModes index modes
unfolding per_component
known-present {model} {index} location modes g h e = record {
  known = λ k l.
      let c = component_at model index k in
      let components = components_from model index in
      let below = mode-below (modes-at (have-modes (good-components g)) location h) k c (omega (arith, components-length model index)) in
      let same : get_or modes k 0 ≡ get_or (modes_at components location) k 0 = sym (get_or-take (entry index 1) modes k 0 l) ∙ ap (λ (ms : List ℕ). get_or ms k 0) e in
      rw same (omega (arith, below, ap (λ (c : Component). length c.modes) (component-at model index k c l), mode-length model index k));
}

pub small-present : {s index : List ℕ} (location : ℕ) (modes : List ℕ) → GoodIndex s index → location < location_count (components_from s index) → per_component index modes ≡ modes_at (components_from s index) location → SmallModes index modes
small-present location modes g h e = record { small = λ k l. omega (arith, (known-present location modes g h e).known k l, (g.blocks k l).most) }
