-- A model with its conditions changed has the locations and the joint switches that it had. Assumes nothing.
use mathlib.Core.Path.{◌≡◌, refl, sym, ap, ap₂, ◌∙◌, subst, fun_ext}
use mathlib.Core.Bool.{Bool, cond, not, ◌&&◌}
use mathlib.Core.List.{List, [], ◌∷◌, ◌++◌, map, map-map}
use Prim.Native.Nat.{ℕ, zero, suc, ◌+◌, ◌*◌, ◌/◌, ◌%◌, ◌≤◌}
use lib.Count.{ones}
use lib.Dec.{ltb, eqb}
use lib.ListN.{length, get_or, length-map}
use Rattle.formats.specs.Rows.{Condition}
use Rattle.formats.specs.Model.{Switch, Component, Model, has_event}
use Rattle.formats.specs.Locations.{location_count, modes_at, location_of}
use Rattle.formats.specs.Joint.{stays, switch_of, leaves, moves, bit, scope_mask, mover_count, part_in, members_move, all_stay, one_moves, is_joint, modes_after, JointSwitch, numbers_from, leaving, all_staying, silent, in_front, together, switches_of, count_up, join_all, joints_of, joints}
use Rattle.formats.specs.declared.Limits.{Limits}
use Rattle.formats.specs.ModelSheet.{Few}
use Rattle.writing.specs.Changed.{changed_mode, changed_switch, changed_component, changed}

-- a test that does not see what was done to the elements finds the same numbers
numbers-same : {A : Type 0} (g : A → A) (test : A → Bool) → ((a : A) → test (g a) ≡ test a) → (i : ℕ) (xs : List A) → numbers_from i test (map g xs) ≡ numbers_from i test xs
unfolding numbers_from
numbers-same g test same i [] = refl
numbers-same g test same i (a ∷ xs) =
    ap₂ (λ (b : Bool) (rest : List ℕ). cond b (i ∷ rest) rest) (same a) (numbers-same g test same (suc i) xs)

-- what is told of an element by its number, where what was done to the elements does not change it
told_same : {A B : Type 0} (g : A → A) (tell : A → B) → ((a : A) → tell (g a) ≡ tell a) → (xs : List A) (i : ℕ) (d : A) → tell (get_or (map g xs) i d) ≡ tell (get_or xs i d)
told_same g tell same [] i d = refl
told_same g tell same (a ∷ xs) zero d = same a
told_same g tell same (a ∷ xs) (suc i) d = told_same g tell same xs i d

-- by components of which each has its conditions changed
module _ (f : Condition → Condition) where
  abbrev after : List Component → List Component
  after components = map (changed_component f) components

  pub modes-kept : (c : Component) → length (changed_component f c).modes ≡ length c.modes
  unfolding changed_component
  modes-kept c = length-map c.modes (changed_mode f)

  pub switches-kept : (c : Component) → length (changed_component f c).switches ≡ length c.switches
  unfolding changed_component
  switches-kept c = length-map c.switches (changed_switch f)

  alphabet-kept : (c : Component) → (changed_component f c).alphabet ≡ c.alphabet
  unfolding changed_component
  alphabet-kept c = refl

  target-kept : (c : Component) (i : ℕ) → (switch_of (changed_component f c) i).target ≡ (switch_of c i).target
  unfolding changed_component changed_switch switch_of
  target-kept c i = told_same (changed_switch f) (λ w. w.target) (λ w. refl) c.switches i _

  -- where locations are, and their modes
  pub changed-locations : (components : List Component) → location_count (map (changed_component f) components) ≡ location_count components
  unfolding location_count
  changed-locations [] = refl
  changed-locations (c ∷ components) = ap₂ (λ (a b : ℕ). a * b) (modes-kept c) (changed-locations components)

  pub changed-modes-at : (components : List Component) (location : ℕ) → modes_at (map (changed_component f) components) location ≡ modes_at components location
  unfolding modes_at
  changed-modes-at [] location = refl
  changed-modes-at (c ∷ components) location =
      ap (λ (n : ℕ). (location / n) ∷ modes_at (after components) (location % n)) (changed-locations components)
      ∙ ap (λ (modes : List ℕ). (location / location_count components) ∷ modes) (changed-modes-at components (location % location_count components))

  pub changed-location-of : (components : List Component) (modes : List ℕ) → location_of (map (changed_component f) components) modes ≡ location_of components modes
  unfolding location_of
  changed-location-of [] modes = refl
  changed-location-of (c ∷ components) [] = refl
  changed-location-of (c ∷ components) (mode ∷ modes) =
      ap₂ (λ (n rest : ℕ). mode * n + rest) (changed-locations components) (changed-location-of components modes)

  -- which switches a component may move by
  leaves_kept : (mode e : ℕ) (w : Switch) → leaves mode e (changed_switch f w) ≡ leaves mode e w
  unfolding leaves changed_switch
  leaves_kept mode e w = refl

  moves-kept : (c : Component) (mode e i : ℕ) → moves (changed_component f c) mode e i ≡ moves c mode e i
  unfolding changed_component switch_of moves
  moves-kept c mode e i =
      ap₂ (λ (n : ℕ) (b : Bool). ltb i n && b)
      (switches-kept c)
      (told_same (changed_switch f) (leaves mode e) (leaves_kept mode e) c.switches i _)

  part-kept : (c : Component) (mode e i : ℕ) → part_in (changed_component f c) mode e i ≡ part_in c mode e i
  unfolding part_in
  part-kept c mode e i =
      ap₂ (λ (a : ℕ) (b : Bool). cond (has_event a e) b (eqb i stays)) (alphabet-kept c) (moves-kept c mode e i)

  leaving-kept : (c : Component) (mode e : ℕ) → leaving (changed_component f c) mode e ≡ leaving c mode e
  unfolding changed_component leaving
  leaving-kept c mode e = numbers-same (changed_switch f) (leaves mode e) (leaves_kept mode e) 0 c.switches

  scope_kept : (components : List Component) (e : ℕ) → scope_mask (after components) e ≡ scope_mask components e
  unfolding scope_mask
  scope_kept [] e = refl
  scope_kept (c ∷ components) e =
      ap₂ (λ (a n : ℕ). bit (has_event a e) + 2 * n) (alphabet-kept c) (scope_kept components e)

  movers-kept : (components : List Component) (e : ℕ) → mover_count (after components) e ≡ mover_count components e
  unfolding mover_count
  movers-kept components e = ap ones (scope_kept components e)

  members_kept : (components : List Component) (modes : List ℕ) (e : ℕ) (switches : List ℕ) → members_move (after components) modes e switches ≡ members_move components modes e switches
  unfolding members_move
  members_kept [] [] e [] = refl
  members_kept [] [] e (i ∷ switches) = refl
  members_kept [] (mode ∷ modes) e switches = refl
  members_kept (c ∷ components) [] e switches = refl
  members_kept (c ∷ components) (mode ∷ modes) e [] = refl
  members_kept (c ∷ components) (mode ∷ modes) e (i ∷ switches) =
      ap₂ (λ (a b : Bool). a && b) (part-kept c mode e i) (members_kept components modes e switches)

  staying-kept : (components : List Component) (switches : List ℕ) → all_stay (after components) switches ≡ all_stay components switches
  unfolding all_stay
  staying-kept [] [] = refl
  staying-kept [] (i ∷ switches) = refl
  staying-kept (c ∷ components) [] = refl
  staying-kept (c ∷ components) (i ∷ switches) = ap (λ (b : Bool). eqb i stays && b) (staying-kept components switches)

  one_kept : (components : List Component) (modes switches : List ℕ) → one_moves (after components) modes switches ≡ one_moves components modes switches
  unfolding one_moves
  one_kept [] modes switches = refl
  one_kept (c ∷ components) [] switches = refl
  one_kept (c ∷ components) (mode ∷ modes) [] = refl
  one_kept (c ∷ components) (mode ∷ modes) (i ∷ switches) =
      ap₂ (λ (a b : Bool). cond (eqb i stays) a b)
      (one_kept components modes switches)
      (ap₂ (λ (a b : Bool). a && b) (moves-kept c mode 0 i) (staying-kept components switches))

  -- the test for joint switches, and the modes after one
  pub changed-is-joint : (components : List Component) (modes : List ℕ) (event : ℕ) (switches : List ℕ) → is_joint (map (changed_component f) components) modes event switches ≡ is_joint components modes event switches
  unfolding is_joint
  changed-is-joint components modes zero switches = one_kept components modes switches
  changed-is-joint components modes (suc e) switches =
      ap₂ (λ (n : ℕ) (b : Bool). not (eqb n 0) && b) (movers-kept components (suc e)) (members_kept components modes (suc e) switches)

  pub changed-modes-after : (components : List Component) (modes switches : List ℕ) → modes_after (map (changed_component f) components) modes switches ≡ modes_after components modes switches
  unfolding modes_after
  changed-modes-after [] modes switches = refl
  changed-modes-after (c ∷ components) [] switches = refl
  changed-modes-after (c ∷ components) (mode ∷ modes) [] = refl
  changed-modes-after (c ∷ components) (mode ∷ modes) (i ∷ switches) =
      ap₂ (λ (n : ℕ) (rest : List ℕ). cond (eqb i stays) mode n ∷ rest) (target-kept c i) (changed-modes-after components modes switches)

  -- the list of joint switches
  all-staying-kept : (components : List Component) → all_staying (after components) ≡ all_staying components
  unfolding all_staying
  all-staying-kept components = map-map (λ c. stays) (changed_component f) components

  silent-kept : (components : List Component) (modes : List ℕ) → silent (after components) modes ≡ silent components modes
  unfolding silent
  silent-kept [] modes = refl
  silent-kept (c ∷ components) [] = refl
  silent-kept (c ∷ components) (mode ∷ modes) =
      ap₂ (λ (a b : List (List ℕ)). a ++ b)
      (ap₂ (λ (all numbers : List ℕ). map (λ i. i ∷ all) numbers) (all-staying-kept components) (leaving-kept c mode 0))
      (ap (map (λ switches. stays ∷ switches)) (silent-kept components modes))

  together-kept : (components : List Component) (modes : List ℕ) (e : ℕ) → together (after components) modes e ≡ together components modes e
  unfolding together
  together-kept [] modes e = refl
  together-kept (c ∷ components) [] e = refl
  together-kept (c ∷ components) (mode ∷ modes) e =
      ap₂ (λ (a : ℕ) (numbers : List ℕ). cond (has_event a e) (in_front numbers (together (after components) modes e)) (map (λ switches. stays ∷ switches) (together (after components) modes e)))
      (alphabet-kept c)
      (leaving-kept c mode e)
      ∙ ap (λ (rest : List (List ℕ)). cond (has_event c.alphabet e) (in_front (leaving c mode e) rest) (map (λ switches. stays ∷ switches) rest)) (together-kept components modes e)

  switches-of-kept : (components : List Component) (modes : List ℕ) (e : ℕ) → switches_of (after components) modes e ≡ switches_of components modes e
  unfolding switches_of
  switches-of-kept components modes zero = silent-kept components modes
  switches-of-kept components modes (suc e) =
      ap₂ (λ (n : ℕ) (rest : List (List ℕ)). cond (eqb n 0) [] rest) (movers-kept components (suc e)) (together-kept components modes (suc e))

  joints-of-kept : (components : List Component) (location e : ℕ) → joints_of (after components) location e ≡ joints_of components location e
  unfolding joints_of
  joints-of-kept components location e =
      ap₂ (λ (target : List ℕ → ℕ) (found : List (List ℕ)). map {B = JointSwitch} (λ switches. record { source = location; event = e; switches = switches; target = target switches }) found)
      (fun_ext
      (λ switches.
      changed-location-of components (modes_after (after components) (modes_at (after components) location) switches)
      ∙ ap (location_of components)
      (changed-modes-after components (modes_at (after components) location) switches
      ∙ ap (λ (modes : List ℕ). modes_after components modes switches) (changed-modes-at components location))))
      (switches-of-kept components (modes_at (after components) location) e
      ∙ ap (λ (modes : List ℕ). switches_of components modes e) (changed-modes-at components location))

  pub changed-joints : (components : List Component) → joints (map (changed_component f) components) ≡ joints components
  unfolding joints
  changed-joints components =
      ap₂ (λ (list : ℕ → ℕ → List JointSwitch) (n : ℕ). join_all (λ location. join_all (list location) (count_up 0 16)) (count_up 0 n))
      (fun_ext (λ location. fun_ext (λ e. joints-of-kept components location e)))
      (changed-locations components)

  -- and so it is within the limits that the model was within
  pub changed-few : (limits : Limits) (m : Model) → Few limits m.components → Few limits (changed f m).components
  unfolding changed
  changed-few limits m few = record {
    locations = subst (λ (n : ℕ). n ≤ limits.locations) (sym (changed-locations m.components)) few.locations;
    joined = subst (λ (list : List JointSwitch). length list ≤ limits.joints) (sym (changed-joints m.components)) few.joined;
  }
