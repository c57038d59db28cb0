-- A joint switch of an event from 1 by the digits of its number: what the loop that takes them off keeps up, and that they tell the joint
-- switch of the list. Assumes nothing.
use mathlib.Core.Path.{◌≡◌, refl, sym, ap, ap₂, ◌∙◌, subst}
use mathlib.Core.List.{List, [], ◌∷◌, ◌++◌, append-nil, append_assoc}
use Prim.Native.Nat.{ℕ, zero, suc, ◌+◌, ◌*◌, ◌-◌, ◌/◌, ◌%◌, ◌≤◌, ◌<◌}
use native.Mathlib.Nat.{mod-lt, mod-eq_of_lt, div-one}
use native.Mathlib.Numerals.{add-one}
use native.Mathlib.Omega.{arith}
use lib.Arith.{le-zero}
use lib.ListN.{length, get_or, set, replicate}
use Rattle.formats.specs.Model.{Component}
use Rattle.formats.specs.Locations.{location_count, location_of}
use Rattle.formats.specs.Joint.{stays, modes_after, together, four_switches}
use Rattle.formats.specs.Parts.{parts, mode_after}
use Rattle.models.specs.Index.{entry, components_from, GoodIndex}
use Rattle.models.specs.Counts.{component_at, per_component}
use Rattle.joint_switches.specs.declared.Landing.{Landing}
use Rattle.joint_switches.specs.declared.slots.Part.{Part}
use Rattle.joint_switches.specs.declared.slots.Way.{Way}
use Rattle.joint_switches.specs.Slots.{no_way, digit_switches, digit_target, digit_landing, landing_of, together_in, parts_by, WaysAt}
use Rattle.formats.proofs.JointCounts.{together-length, together-some, left-positive, together-digit}
use Rattle.formats.proofs.JointsInto.{target_of, target-step}
use Rattle.models.proofs.GoodIndexLaws.{components-drop, components-end}
use Rattle.joint_switches.proofs.JointLoops.{fill_none, fill-back, filled_to, padded-none, padded-more, padded-four, nil-only, quotient-left, components_on, numbers_on, together_on, per-component-drop, together-starts}

-- the last digit
module _ (counts : List ℕ) (ways : List Way) where
  pub digits-back : (k x : ℕ) → 0 < k → digit_switches counts ways k x ≡ digit_switches counts ways (k - 1) (x / get_or counts (k - 1) 0) ++ ((get_or ways (32 * (k - 1) + x % get_or counts (k - 1) 0) no_way).switch ∷ [])
  unfolding digit_switches
  digits-back k x h = ap (λ (n : ℕ). digit_switches counts ways n x) (back k h)
    where
      back : (k : ℕ) → 0 < k → k ≡ suc (k - 1)
      back k h = omega arith

  pub target-back : (k x : ℕ) → 0 < k → digit_target counts ways k x ≡ digit_target counts ways (k - 1) (x / get_or counts (k - 1) 0) + (get_or ways (32 * (k - 1) + x % get_or counts (k - 1) 0) no_way).landing
  unfolding digit_target
  target-back k x h = ap (λ (n : ℕ). digit_target counts ways n x) (back k h)
    where
      back : (k : ℕ) → 0 < k → k ≡ suc (k - 1)
      back k h = omega arith

  -- Taking digits off: those that are taken are at the end of the whole, and the rest is still to come
  pub record Taking (c x k left : ℕ) (switches : List ℕ) (target : ℕ) : Type 0 where
    pub rest : List ℕ
    pub whole : digit_switches counts ways c x ≡ digit_switches counts ways k left ++ rest
    pub taken : switches ≡ replicate k stays ++ filled_to (4 - k) rest
    pub summed : target + digit_target counts ways k left ≡ digit_target counts ways c x

  pub taking-starts : (c x : ℕ) → c ≤ 4 → Taking c x c x (replicate 4 stays) 0
  taking-starts c x h = record {
    rest = [];
    whole = sym (append-nil (digit_switches counts ways c x));
    taken = fill_none stays c h ∙ ap (λ xs. replicate c stays ++ xs) (sym (padded-none (4 - c) (omega arith)));
    summed = zero-and (digit_target counts ways c x);
  }
    where
      zero-and : (n : ℕ) → 0 + n ≡ n
      zero-and n = omega arith

  pub taking-goes-on : (c x k left : ℕ) (switches : List ℕ) (target : ℕ) → 0 < k → k ≤ 4 → Taking c x k left switches target → Taking c x (k - 1) (left / get_or counts (k - 1) 0) (set switches (k - 1) (get_or ways (32 * (k - 1) + left % get_or counts (k - 1) 0) no_way).switch) (target + (get_or ways (32 * (k - 1) + left % get_or counts (k - 1) 0) no_way).landing)
  taking-goes-on c x k left switches target h l w =
      let n = get_or counts (k - 1) 0 in
      let v = (get_or ways (32 * (k - 1) + left % n) no_way).switch in
      record {
        rest = v ∷ w.rest;
        whole =
            w.whole ∙ ap (λ xs. xs ++ w.rest) (digits-back k left h)
            ∙ append_assoc (digit_switches counts ways (k - 1) (left / n)) (v ∷ []) w.rest;
        taken =
            ap (λ xs. set xs (k - 1) v) w.taken ∙ fill-back stays v k (filled_to (4 - k) w.rest) h
            ∙ ap (λ xs. replicate (k - 1) stays ++ xs) (padded-more k v w.rest h l);
        summed = omega (arith, w.summed, target-back k left h);
      }

  pub taking-ends : (index : List ℕ) (x k left : ℕ) (switches : List ℕ) (target : ℕ) → k ≤ 0 → Taking (entry index 1) x k left switches target → ◌≡◌ {A = Landing} (record { switches = switches; target = target }) (digit_landing index counts ways x)
  unfolding digit_switches digit_target
  taking-ends index x k left switches target h w =
      let none = le-zero h in
      let all : digit_switches counts ways (entry index 1) x ≡ w.rest = w.whole ∙ ap (λ (n : ℕ). digit_switches counts ways n left ++ w.rest) none in
      let s : switches ≡ four_switches (digit_switches counts ways (entry index 1) x) =
      w.taken ∙ ap (λ (n : ℕ). replicate n stays ++ filled_to (4 - n) w.rest) none ∙ padded-four w.rest ∙ ap four_switches (sym all) in
      let t : target ≡ digit_target counts ways (entry index 1) x = omega (arith, w.summed, ap (λ (n : ℕ). digit_target counts ways n left) none) in
      λ i. record { switches = s i; target = t i }

-- The part of a component in an event, and that its ways stand in the table
abbrev pub part_of : List ℕ → List ℕ → List ℕ → ℕ → ℕ → Part
part_of s index modes e j =
    record { k = j; mode = get_or modes j 0; e = e; rest = 0; unit = location_count (components_on s index (j + 1)) }

pub record PartAt (s index modes : List ℕ) (e : ℕ) (counts : List ℕ) (ways : List Way) (j : ℕ) : Type 0 where
  pub counted : get_or counts j 0 ≡ length (parts_by s index (part_of s index modes e j))
  pub listed : WaysAt s index (part_of s index modes e j) (32 * j) (parts_by s index (part_of s index modes e j)) ways

-- The digits tell the joint switch of the list
module _ {s index : List ℕ} (g : GoodIndex s index) (modes : List ℕ) (long : entry index 1 ≤ length modes) (e : ℕ) (counts : List ℕ) (ways : List Way) (told : (j : ℕ) → j < entry index 1 → PartAt s index modes e counts ways j) (x : ℕ) (below : x < length (together_in s index modes e)) where
  count : ℕ → ℕ
  count k = length (together_on s index modes e k)

  after : ℕ → List ℕ
  after k = get_or (together_on s index modes e k) (x % count k) []

  -- what is told from component k on: the digits before it, then what the list has
  record From (k : ℕ) : Type 0 where
    switches : digit_switches counts ways k (x / count k) ++ after k ≡ digit_switches counts ways (entry index 1) x
    target : digit_target counts ways k (x / count k) + target_of (components_on s index k) (numbers_on index modes k) (after k) ≡ digit_target counts ways (entry index 1) x

  from_end : From (entry index 1)
  unfolding count after together target_of location_of
  from_end =
      let last = together_on s index modes e (entry index 1) in
      let one : last ≡ [] ∷ [] = ap (λ components. together components (numbers_on index modes (entry index 1)) e) (components-end s index) in
      let none : after (entry index 1) ≡ [] = ap (λ xs. get_or xs (x % length last) []) one ∙ nil-only (x % length last) in
      let same : x / count (entry index 1) ≡ x = ap (λ (n : ℕ). x / n) (sym (together-starts g modes long e)) ∙ div-one x in
      let nowhere : target_of (components_on s index (entry index 1)) (numbers_on index modes (entry index 1)) (after (entry index 1)) ≡ 0 =
      ap (λ components. target_of components (numbers_on index modes (entry index 1)) (after (entry index 1))) (components-end s index) in
      record {
        switches = ap₂ (λ (y : ℕ) (xs : List ℕ). digit_switches counts ways (entry index 1) y ++ xs) same none ∙ append-nil (digit_switches counts ways (entry index 1) x);
        target = omega (arith, nowhere, ap (λ (y : ℕ). digit_target counts ways (entry index 1) y) same);
      }

  module _ (k : ℕ) (h : k < entry index 1) where
    c : Component
    c = component_at s index k

    mode : ℕ
    mode = get_or modes k 0

    n : ℕ
    n = get_or counts k 0

    digit : ℕ
    digit = x / count (k + 1) % n

    number : ℕ
    number = get_or (parts c mode e) digit stays

    here : together_on s index modes e k ≡ together (c ∷ components_on s index (k + 1)) (mode ∷ numbers_on index modes (k + 1)) e
    unfolding c mode
    here = ap₂ (λ components ms. together components ms e) (components-drop s index k h) (per-component-drop index modes long k h)

    some-later : 0 < count (k + 1)
    unfolding count
    some-later = together-some (components_from s index) (per_component index modes) e (k + 1) (omega (arith, below))

    counted : n ≡ length (parts c mode e)
    unfolding n c mode
    counted = (told k h).counted

    product : n * count (k + 1) ≡ count k
    unfolding count c mode
    product = ap (λ (m : ℕ). m * length (together_on s index modes e (k + 1))) counted ∙ sym (together-length c (components_on s index (k + 1)) mode (numbers_on index modes (k + 1)) e) ∙ sym (ap length here)

    some : 0 < n
    unfolding count
    some =
        let all : 0 < count k = together-some (components_from s index) (per_component index modes) e k (omega (arith, below)) in
        left-positive n (count (k + 1)) (omega (arith, product, all))

    -- the list's joint switch has this digit's way first
    next : after k ≡ number ∷ after (k + 1)
    unfolding after count number digit c mode
    next =
        ap (λ xs. get_or xs (x % length xs) []) here
        ∙ together-digit c (components_on s index (k + 1)) mode (numbers_on index modes (k + 1)) e x [] (omega (arith, some, counted)) some-later
        ∙ ap (λ (m : ℕ). get_or (parts c mode e) (x / count (k + 1) % m) stays ∷ after (k + 1)) (sym counted)

    quotient : x / count (k + 1) / n ≡ x / count k
    quotient = quotient-left x (x / count (k + 1)) n (count (k + 1)) refl product

    inside : digit < length (parts c mode e)
    unfolding digit
    inside = omega (arith, mod-lt (x / count (k + 1)) some, counted)

    switch-told : (get_or ways (32 * k + digit) no_way).switch ≡ number
    unfolding number c mode
    switch-told = (told k h).listed.switches digit inside

    landing-told : (get_or ways (32 * k + digit) no_way).landing ≡ mode_after c mode number * location_count (components_on s index (k + 1))
    unfolding number c mode
    landing-told = (told k h).listed.landings digit inside ∙ none-and (mode_after c mode number * location_count (components_on s index (k + 1)))
      where
        none-and : (m : ℕ) → 0 + m ≡ m
        none-and m = omega arith

    digits-on : digit_switches counts ways (k + 1) (x / count (k + 1)) ≡ digit_switches counts ways k (x / count k) ++ (number ∷ [])
    unfolding digit_switches digit n
    digits-on =
        ap (λ (m : ℕ). digit_switches counts ways m (x / count (k + 1))) (add-one k)
        ∙ ap₂ (λ (y v : ℕ). digit_switches counts ways k y ++ (v ∷ [])) quotient switch-told

    target-on : digit_target counts ways (k + 1) (x / count (k + 1)) ≡ digit_target counts ways k (x / count k) + mode_after c mode number * location_count (components_on s index (k + 1))
    unfolding digit_target digit n
    target-on =
        ap (λ (m : ℕ). digit_target counts ways m (x / count (k + 1))) (add-one k)
        ∙ ap₂ (λ (y v : ℕ). digit_target counts ways k y + v) quotient landing-told

    step : target_of (components_on s index k) (numbers_on index modes k) (after k) ≡ mode_after c mode number * location_count (components_on s index (k + 1)) + target_of (components_on s index (k + 1)) (numbers_on index modes (k + 1)) (after (k + 1))
    unfolding c mode
    step =
        ap (target_of (components_on s index k) (numbers_on index modes k)) next
        ∙ ap₂ (λ components ms. target_of components ms (number ∷ after (k + 1))) (components-drop s index k h) (per-component-drop index modes long k h)
        ∙ target-step c (components_on s index (k + 1)) mode (numbers_on index modes (k + 1)) number (after (k + 1))

    from_back : From (k + 1) → From k
    from_back w = record {
      switches =
          ap (λ xs. digit_switches counts ways k (x / count k) ++ xs) next
          ∙ sym (append_assoc (digit_switches counts ways k (x / count k)) (number ∷ []) (after (k + 1)))
          ∙ ap (λ xs. xs ++ after (k + 1)) (sym digits-on) ∙ w.switches;
      target = omega (arith, step, target-on, w.target);
    }

  from_all : (m k : ℕ) → k + m ≡ entry index 1 → From k
  from_all zero k q = subst From (sym (whole k q)) from_end
    where
      whole : (k : ℕ) → k + zero ≡ entry index 1 → k ≡ entry index 1
      whole k q = omega arith
  from_all (suc m) k q = from_back k (omega arith) (from_all m (k + 1) (omega arith))

  pub ways-some : (k : ℕ) → k < entry index 1 → 0 < get_or counts k 0
  unfolding n
  ways-some k h = some k h

  pub digits-told : digit_landing index counts ways x ≡ landing_of (components_from s index) (per_component index modes) (get_or (together_in s index modes e) x [])
  unfolding landing_of digit_switches digit_target after count target_of
  digits-told =
      let w = from_all (entry index 1) 0 (omega arith) in
      let this : after 0 ≡ get_or (together_in s index modes e) x [] = ap (λ (n : ℕ). get_or (together_in s index modes e) n []) (mod-eq_of_lt below) in
      let all : digit_switches counts ways (entry index 1) x ≡ get_or (together_in s index modes e) x [] = sym w.switches ∙ this in
      let to : digit_target counts ways (entry index 1) x ≡ location_of (components_from s index) (modes_after (components_from s index) (per_component index modes) (get_or (together_in s index modes e) x [])) =
      sym w.target ∙ omega (arith, ap (λ xs. location_of (components_from s index) (modes_after (components_from s index) (per_component index modes) xs)) this) in
      λ i. record { switches = four_switches (all i); target = to i }
