-- Loops over the components of an index: where one starts, a turn and the end, for counts, masks, modes, joint switches and targets.
-- Then what is found by its number. Assumes nothing.
use mathlib.Core.Path.{◌≡◌, refl, sym, ap, ◌∙◌}
use mathlib.Core.Bool.{Bool, true, false, cond}
use mathlib.Core.List.{List, [], ◌∷◌, ◌++◌, append_assoc, Memᴰ}
use Prim.Native.Nat.{ℕ, zero, suc, ◌+◌, ◌*◌, ◌-◌, ◌/◌, ◌%◌, ◌≤◌, ◌<◌}
use native.Mathlib.Nat.{le_trans, lt_of_lt_of_le, pow-le-pow_right, mod-eq_of_lt, div-div-eq-div-mul, mul_comm}
use native.Mathlib.Numerals.{add-one}
use native.Mathlib.Omega.{arith}
use lib.Arith.{le-zero}
use lib.Dec.{T, eqb}
use lib.ListN.{length, get_or, take, drop, set, replicate, get_or-append, replicate-append-replicate}
use lib.Seq.{drop-cons, get_or-take, take_at, take-take, length-take-le}
use Rattle.farkas.specs.Lists.{All, none, more}
use Rattle.formats.specs.Model.{Component, has_event}
use Rattle.formats.specs.Locations.{location_count, modes_at}
use Rattle.formats.specs.Joint.{stays, bit, scope_mask, is_joint, leaving, all_staying, silent, together, switches_of, count_up, JointSwitch, joints_of, joints, four_switches, joint_from}
use Rattle.models.specs.Index.{entry, components_from, GoodIndex}
use Rattle.models.specs.Counts.{component_at, per_component, KnownSwitches}
use Rattle.formats.specs.Parts.{parts}
use Rattle.formats.proofs.WellFormed.{GoodComponent}
use Rattle.formats.proofs.Locations.{HaveModes, count-positive}
use Rattle.formats.proofs.Members.{in_map, in-joined, in_count}
use Rattle.formats.proofs.Joint.{Known, no-numbers, number-and}
use Rattle.formats.proofs.JointList.{listed-joint}
use Rattle.models.proofs.GoodIndexLaws.{components-length, component-at, switch-length, components-back, components-end, good-component, good-components, few-components}
use Rattle.formats.proofs.JointCounts.{count_most, mask_below, silent-length, silent-most, together-length, together-most, mapped_at, modes-digit, joints_in}

-- an array of four that is filled from its last number back, and the quotient that is left of a number whose digits are taken off
fill-last : (d v k : ℕ) (rest : List ℕ) → set (replicate (suc k) d ++ rest) k v ≡ replicate k d ++ (v ∷ rest)
fill-last d v zero rest = refl
fill-last d v (suc k) rest = ap (λ xs. d ∷ xs) (fill-last d v k rest)

pub fill-back : (d v k : ℕ) (rest : List ℕ) → 0 < k → set (replicate k d ++ rest) (k - 1) v ≡ replicate (k - 1) d ++ (v ∷ rest)
fill-back d v k rest h = ap (λ (i : ℕ). set (replicate i d ++ rest) (k - 1) v) (back k h) ∙ fill-last d v (k - 1) rest
  where
    back : (k : ℕ) → 0 < k → k ≡ suc (k - 1)
    back k h = omega arith

pub fill_none : (d k : ℕ) → k ≤ 4 → replicate 4 d ≡ replicate k d ++ replicate (4 - k) d
fill_none d k h = ap (λ (n : ℕ). replicate n d) (parted k h) ∙ sym (replicate-append-replicate k (4 - k) d)
  where
    parted : (k : ℕ) → k ≤ 4 → 4 ≡ k + (4 - k)
    parted k h = omega arith

pub quotient-left : (x left n u : ℕ) {v : ℕ} → left ≡ x / u → n * u ≡ v → left / n ≡ x / v
quotient-left x left n u p q = rw p (div-div-eq-div-mul x u n ∙ ap (λ (m : ℕ). x / m) (mul_comm u n ∙ q))

-- so many of some switch numbers and as many 255 as are missing
abbrev pub filled_to : ℕ → List ℕ → List ℕ
filled_to n switches = take n (switches ++ (stays ∷ stays ∷ stays ∷ stays ∷ []))

pub padded-four : (switches : List ℕ) → filled_to 4 switches ≡ four_switches switches
unfolding four_switches
padded-four switches = refl

take-some : (d n m : ℕ) → n ≤ m → take n (replicate m d) ≡ replicate n d
take-some d zero m h = refl
take-some d (suc n) zero h = absurd (omega arith)
take-some d (suc n) (suc m) h = ap (λ xs. d ∷ xs) (take-some d n m (omega arith))

pub padded-none : (n : ℕ) → n ≤ 4 → filled_to n [] ≡ replicate n stays
padded-none n h = take-some stays n 4 h

pub padded-more : (k v : ℕ) (switches : List ℕ) → 0 < k → k ≤ 4 → v ∷ filled_to (4 - k) switches ≡ filled_to (4 - (k - 1)) (v ∷ switches)
padded-more k v switches h l = ap (λ (n : ℕ). filled_to n (v ∷ switches)) (one_more k h l)
  where
    one_more : (k : ℕ) → 0 < k → k ≤ 4 → suc (4 - k) ≡ 4 - (k - 1)
    one_more k h l = omega arith

-- one component moves, and every other stays
staying-some : (components : List Component) → all_staying components ≡ replicate (length components) stays
unfolding all_staying
staying-some [] = refl
staying-some (c ∷ components) = ap (λ xs. stays ∷ xs) (staying-some components)

take-one : (d v n k m : ℕ) → k < n → n ≤ k + m → take n (replicate k d ++ (v ∷ replicate m d)) ≡ set (replicate n d) k v
take-one d v zero k m h l = absurd (omega arith)
take-one d v (suc n) zero m h l = ap (λ xs. v ∷ xs) (take-some d n m (omega arith))
take-one d v (suc n) (suc k) m h l = ap (λ xs. d ∷ xs) (take-one d v n k m (omega arith) (omega arith))

pub alone-four : (k v : ℕ) (components : List Component) → k < 4 → four_switches (replicate k stays ++ (v ∷ all_staying components)) ≡ set (replicate 4 stays) k v
unfolding four_switches
alone-four k v components h =
    let m = length components in
    ap (take 4)
    (append_assoc (replicate k stays) (v ∷ all_staying components) (replicate 4 stays)
    ∙ ap (λ xs. replicate k stays ++ (v ∷ xs)) (ap (λ xs. xs ++ replicate 4 stays) (staying-some components) ∙ replicate-append-replicate m 4 stays))
    ∙ take-one stays v 4 k (m + 4) h (omega arith)

pub one-more-stays : (k : ℕ) (switches : List ℕ) → replicate (k + 1) stays ++ switches ≡ replicate k stays ++ (stays ∷ switches)
one-more-stays zero switches = refl
one-more-stays (suc k) switches = ap (λ (n : ℕ). replicate n stays ++ switches) (plus_one k) ∙ ap (λ xs. stays ∷ xs) (one-more-stays k switches)
  where
    plus_one : (k : ℕ) → suc k + 1 ≡ suc (k + 1)
    plus_one k = omega arith

pub nil-only : (n : ℕ) → get_or {A = List ℕ} ([] ∷ []) n [] ≡ []
nil-only zero = refl
nil-only (suc n) = refl

few-or-none : (b : Bool) (xs : List (List ℕ)) {n : ℕ} → length xs ≤ n → length (cond b [] xs) ≤ n
few-or-none true xs h = omega arith
few-or-none false xs h = h

-- Over the components of an index, from the last to the first
pub all_drop : {A : Type 0} {P : A → Type 0} {xs : List A} (k : ℕ) → All P xs → All P (drop k xs)
all_drop zero h = h
all_drop (suc k) none = none
all_drop (suc k) (more x rest) = all_drop k rest

all-weaken : {A : Type 0} {P Q : A → Type 0} {xs : List A} → ((a : A) → P a → Q a) → All P xs → All Q xs
all-weaken f none = none
all-weaken f (more x rest) = more (f _ x) (all-weaken f rest)

-- the components from one on, the numbers of an array that stand for them, and what the definitions make of them
abbrev pub components_on : List ℕ → List ℕ → ℕ → List Component
components_on s index k = drop k (components_from s index)

abbrev pub numbers_on : List ℕ → List ℕ → ℕ → List ℕ
numbers_on index numbers k = drop k (per_component index numbers)

abbrev pub modes_on : List ℕ → List ℕ → ℕ → ℕ → List ℕ
modes_on s index location k = modes_at (components_on s index k) (location % location_count (components_on s index k)) ++ replicate (4 - entry index 1) 0

abbrev pub silent_on : List ℕ → List ℕ → List ℕ → ℕ → List (List ℕ)
silent_on s index numbers k = silent (components_on s index k) (numbers_on index numbers k)

abbrev pub together_on : List ℕ → List ℕ → List ℕ → ℕ → ℕ → List (List ℕ)
together_on s index numbers e k = together (components_on s index k) (numbers_on index numbers k) e

abbrev pub digits_on : List ℕ → List ℕ → List ℕ → ℕ → ℕ → ℕ → List ℕ
digits_on s index numbers e x k = filled_to (4 - k) (get_or (together_on s index numbers e k) (x % length (together_on s index numbers e k)) [])

-- the numbers of an array that stand for components
module _ (index numbers : List ℕ) (long : entry index 1 ≤ length numbers) where
  pub per-component-length : length (per_component index numbers) ≡ entry index 1
  unfolding per_component
  per-component-length = length-take-le (entry index 1) numbers long

  pub per-component-drop : (k : ℕ) → k < entry index 1 → numbers_on index numbers k ≡ get_or numbers k 0 ∷ numbers_on index numbers (k + 1)
  unfolding per_component
  per-component-drop k h =
      let xs = take (entry index 1) numbers in
      let l : k < length xs = omega (arith, per-component-length) in
      drop-cons xs k 0 l
      ∙ ap (λ (n : ℕ). n ∷ drop (suc k) xs) (get_or-take (entry index 1) numbers k 0 h)
      ∙ ap (λ (i : ℕ). get_or numbers k 0 ∷ drop i xs) (sym (add-one k))

  pub per-component-back : (k : ℕ) → 0 < k → k ≤ entry index 1 → numbers_on index numbers (k - 1) ≡ get_or numbers (k - 1) 0 ∷ numbers_on index numbers k
  per-component-back k h l =
      per-component-drop (k - 1) (omega arith) ∙ ap (λ (i : ℕ). get_or numbers (k - 1) 0 ∷ numbers_on index numbers i) (back k h)
    where
      back : (k : ℕ) → 0 < k → k - 1 + 1 ≡ k
      back k h = omega arith

-- the modes of a location stand in front of the numbers for absent components
pub modes-length : (components : List Component) (location : ℕ) → length (modes_at components location) ≡ length components
unfolding modes_at
modes-length [] location = refl
modes-length (c ∷ components) location = ap suc (modes-length components (location % location_count components))

pub per-component-modes : (s index : List ℕ) (location : ℕ) (modes rest : List ℕ) → modes ≡ modes_at (components_from s index) location ++ rest → per_component index modes ≡ modes_at (components_from s index) location
unfolding per_component
per-component-modes s index location modes rest p =
    ap (take (entry index 1)) p
    ∙ take_at (modes_at (components_from s index) location) rest (entry index 1) (modes-length (components_from s index) location ∙ components-length s index)

module _ {s index : List ℕ} (g : GoodIndex s index) where
  few-modes : (k : ℕ) → All (λ c. length c.modes ≤ 8) (components_on s index k)
  few-modes k = all_drop k (all-weaken (λ c h. h.most) (good-components g))

  some-modes : (k : ℕ) → HaveModes (components_on s index k)
  some-modes k = all_drop k (all-weaken (λ c h. h.least) (good-components g))

  few-switches : (k : ℕ) → All (λ c. length c.switches ≤ 32) (components_on s index k)
  few-switches k = all_drop k (all-weaken (λ c h. h.few) (good-components g))

  -- locations
  pub count-starts : 1 ≡ location_count (components_on s index (entry index 1))
  unfolding location_count
  count-starts = sym (ap location_count (components-end s index))

  pub count-goes-on : (k n count : ℕ) → 0 < k → k ≤ entry index 1 → n ≡ length (component_at s index (k - 1)).modes → count ≡ location_count (components_on s index k) → n * count ≡ location_count (components_on s index (k - 1))
  unfolding location_count
  count-goes-on k n count h l p q = rw (p, q) (sym (ap location_count (components-back s index k h l)))

  pub count-few : (k : ℕ) → location_count (components_on s index k) ≤ 4096
  count-few k = le_trans (count_most (few-modes k)) (pow-le-pow_right (omega arith) (few-components g k))

  pub count-some : (k : ℕ) → 0 < location_count (components_on s index k)
  count-some k = count-positive (some-modes k)

  -- modes: the digits of a location's number
  pub modes-start : (location : ℕ) → replicate 4 0 ≡ replicate (entry index 1) 0 ++ modes_on s index location (entry index 1)
  unfolding modes_at
  modes-start location =
      fill_none 0 (entry index 1) g.few
      ∙ sym (ap (λ components. replicate (entry index 1) 0 ++ (modes_at components (location % location_count (components_on s index (entry index 1))) ++ replicate (4 - entry index 1) 0)) (components-end s index))

  pub modes-go-on : (k n location left : ℕ) (modes : List ℕ) → 0 < k → k ≤ entry index 1 → n ≡ length (component_at s index (k - 1)).modes → left ≡ location / location_count (components_on s index k) → modes ≡ replicate k 0 ++ modes_on s index location k → set modes (k - 1) (left % n) ≡ replicate (k - 1) 0 ++ modes_on s index location (k - 1)
  modes-go-on k n location left modes h l p q r =
      let c = component_at s index (k - 1) in
      let components = components_on s index k in
      let rest = modes_at components (location % location_count components) ++ replicate (4 - entry index 1) 0 in
      let digit : (left % n) ∷ modes_at components (location % location_count components) ≡ modes_at (c ∷ components) (location % location_count (c ∷ components)) =
      rw (p, q) (sym (modes-digit c components location (good-component g (k - 1) (omega arith)).least (count-some k))) in
      rw r
      (fill-back 0 (left % n) k rest h
      ∙ ap (λ xs. replicate (k - 1) 0 ++ (xs ++ replicate (4 - entry index 1) 0))
      (digit ∙ ap (λ cs. modes_at cs (location % location_count cs)) (sym (components-back s index k h l))))

  pub modes-end : (k location : ℕ) (modes : List ℕ) → k ≤ 0 → location < location_count (components_from s index) → modes ≡ replicate k 0 ++ modes_on s index location k → modes ≡ modes_at (components_from s index) location ++ replicate (4 - entry index 1) 0
  modes-end k location modes h l r =
      r
      ∙ ap (λ (i : ℕ). replicate i 0 ++ modes_on s index location i) (le-zero h)
      ∙ ap (λ (i : ℕ). modes_at (components_from s index) i ++ replicate (4 - entry index 1) 0) (mod-eq_of_lt l)

  -- scope masks
  pub mask-starts : (e : ℕ) → 0 ≡ scope_mask (components_on s index (entry index 1)) e
  unfolding scope_mask
  mask-starts e = sym (ap (λ components. scope_mask components e) (components-end s index))

  pub mask-goes-on : (e k n mask : ℕ) {b : Bool} → 0 < k → k ≤ entry index 1 → b ≡ has_event (component_at s index (k - 1)).alphabet e → n ≡ bit b → mask ≡ scope_mask (components_on s index k) e → n + 2 * mask ≡ scope_mask (components_on s index (k - 1)) e
  unfolding scope_mask
  mask-goes-on e k n mask h l p q r = rw (q ∙ ap bit p, r) (sym (ap (λ components. scope_mask components e) (components-back s index k h l)))

  pub mask-few : (e k : ℕ) → scope_mask (components_on s index k) e < 16
  mask-few e k = lt_of_lt_of_le (mask_below (components_on s index k) e) (pow-le-pow_right {n = 2} (omega arith) (few-components g k))

  pub silent-few : (k : ℕ) (modes : List ℕ) → length (silent (components_on s index k) modes) ≤ 128
  silent-few k modes = omega (arith, silent-most (few-switches k) modes, few-components g k)

  pub together-few : (k : ℕ) (modes : List ℕ) (e : ℕ) → length (together (components_on s index k) modes e) ≤ 1048576
  together-few k modes e = le_trans (together-most (few-switches k) modes e) (pow-le-pow_right {n = 32} (omega arith) (few-components g k))

  -- joint switches, in a location with these modes
  module _ (numbers : List ℕ) (long : entry index 1 ≤ length numbers) where
    pub silent-starts : 0 ≡ length (silent_on s index numbers (entry index 1))
    unfolding silent
    silent-starts = sym (ap (λ components. length (silent components (numbers_on index numbers (entry index 1)))) (components-end s index))

    silent-back : (k : ℕ) → 0 < k → k ≤ entry index 1 → silent_on s index numbers (k - 1) ≡ silent (component_at s index (k - 1) ∷ components_on s index k) (get_or numbers (k - 1) 0 ∷ numbers_on index numbers k)
    silent-back k h l = rw (components-back s index k h l, per-component-back index numbers long k h l) refl

    pub silent-goes-on : (k n count : ℕ) → 0 < k → k ≤ entry index 1 → n ≡ length (leaving (component_at s index (k - 1)) (get_or numbers (k - 1) 0) 0) → count ≡ length (silent_on s index numbers k) → n + count ≡ length (silent_on s index numbers (k - 1))
    silent-goes-on k n count h l p q =
        rw (p, q)
        (sym (ap length (silent-back k h l)
        ∙ silent-length (component_at s index (k - 1)) (components_on s index k) (get_or numbers (k - 1) 0) (numbers_on index numbers k)))

    -- one of the silent ones, by its number: it is that of this component, or it is to come
    pub together-starts : (e : ℕ) → 1 ≡ length (together_on s index numbers e (entry index 1))
    unfolding together
    together-starts e = sym (ap (λ components. length (together components (numbers_on index numbers (entry index 1)) e)) (components-end s index))

    together-back : (e k : ℕ) → 0 < k → k ≤ entry index 1 → together_on s index numbers e (k - 1) ≡ together (component_at s index (k - 1) ∷ components_on s index k) (get_or numbers (k - 1) 0 ∷ numbers_on index numbers k) e
    together-back e k h l = rw (components-back s index k h l, per-component-back index numbers long k h l) refl

    pub together-goes-on : (e k n count : ℕ) → 0 < k → k ≤ entry index 1 → n ≡ length (parts (component_at s index (k - 1)) (get_or numbers (k - 1) 0) e) → count ≡ length (together_on s index numbers e k) → n * count ≡ length (together_on s index numbers e (k - 1))
    together-goes-on e k n count h l p q =
        rw (p, q)
        (sym (ap length (together-back e k h l)
        ∙ together-length (component_at s index (k - 1)) (components_on s index k) (get_or numbers (k - 1) 0) (numbers_on index numbers k) e))

    -- one of those of an event, by its digits
    pub digits-end : (e x k : ℕ) (switches : List ℕ) → x < length (together (components_from s index) (per_component index numbers) e) → k ≤ 0 → switches ≡ replicate k stays ++ digits_on s index numbers e x k → switches ≡ four_switches (get_or (together (components_from s index) (per_component index numbers) e) x [])
    digits-end e x k switches b h t =
        t
        ∙ ap (λ (i : ℕ). replicate i stays ++ digits_on s index numbers e x i) (le-zero h)
        ∙ ap (λ (i : ℕ). filled_to 4 (get_or (together (components_from s index) (per_component index numbers) e) i [])) (mod-eq_of_lt b)
        ∙ padded-four (get_or (together (components_from s index) (per_component index numbers) e) x [])

-- What is found by its number. It is the switches of that record of the list, and a joint switch by the test
pub record-at : (components : List Component) (location e x : ℕ) (d : JointSwitch) → x < length (switches_of components (modes_at components location) e) → get_or (joints_of components location e) x d ≡ joint_from components location e (get_or (switches_of components (modes_at components location) e) x [])
unfolding joints_of joint_from
record-at components location e x d h = mapped_at (joint_from components location e) (switches_of components (modes_at components location) e) x [] d h

member-at : {A : Type 0} (xs : List A) (i : ℕ) (d : A) → i < length xs → Memᴰ (get_or xs i d) xs
member-at [] i d h = absurd (omega arith)
member-at (a ∷ xs) zero d h = Memᴰ.head refl
member-at (a ∷ xs) (suc i) d h = Memᴰ.tail (member-at xs i d (omega arith))

pub found-joint : {n : ℕ} {components : List Component} → All (GoodComponent n) components → (location e x : ℕ) → location < location_count components → e ≤ 15 → x < length (switches_of components (modes_at components location) e) → T (is_joint components (modes_at components location) e (get_or (switches_of components (modes_at components location) e) x []))
unfolding joints joints_of joint_from
found-joint {components = components} g location e x h k l =
    let switches = switches_of components (modes_at components location) e in
    (listed-joint {j = joint_from components location e (get_or switches x [])} g
    (in-joined (joints_in components) (count_up 0 (location_count components))
    (in_count 0 (location_count components) location (omega arith) (omega arith))
    (in-joined (joints_of components location) (count_up 0 16)
    (in_count 0 16 e (omega arith) (omega arith))
    (in_map (joint_from components location e) (member-at switches x [] l))))
    ).joint

-- one number per component, in an array of four: they are known there, and they are the first of it
known-length : {components : List Component} {switches : List ℕ} → Known components switches → length switches ≡ length components
known-length no-numbers = refl
known-length (number-and h rest) = ap suc (known-length rest)

known_at : {components : List Component} {switches : List ℕ} → Known components switches → (k : ℕ) (d : Component) → k < length components → eqb (get_or switches k 0) stays ≡ false → get_or switches k 0 < length (get_or components k d).switches
known_at no-numbers k d h q = absurd (omega arith)
known_at (number-and i rest) zero d h q = i q
known_at (number-and i rest) (suc k) d h q = known_at rest k d (omega arith) q

four-at : (switches : List ℕ) (k : ℕ) → k < length switches → k < 4 → get_or (four_switches switches) k 0 ≡ get_or switches k 0
unfolding four_switches
four-at switches k h l =
    get_or-take 4 (switches ++ (stays ∷ stays ∷ stays ∷ stays ∷ [])) k 0 l ∙ get_or-append switches (stays ∷ stays ∷ stays ∷ stays ∷ []) 0 k h

module _ {s index switches : List ℕ} (g : GoodIndex s index) (known : Known (components_from s index) switches) where
  as_many : length switches ≡ entry index 1
  as_many = known-length known ∙ components-length s index

  pub four-known : KnownSwitches index (four_switches switches)
  four-known = record {
    known = λ k h q.
        let c = component_at s index k in
        let same : get_or (four_switches switches) k 0 ≡ get_or switches k 0 = four-at switches k (omega (arith, as_many)) (omega (arith, g.few)) in
        let l = known_at known k c (omega (arith, components-length s index)) (rw same at q) in
        rw same (omega (arith, l, ap (λ c. length c.switches) (component-at s index k c h), switch-length s index k));
  }

  pub four-first : per_component index (four_switches switches) ≡ switches
  unfolding per_component four_switches
  four-first =
      let all = switches ++ (stays ∷ stays ∷ stays ∷ stays ∷ []) in
      take-take (entry index 1) 4 all g.few ∙ take_at switches (stays ∷ stays ∷ stays ∷ stays ∷ []) (entry index 1) as_many
