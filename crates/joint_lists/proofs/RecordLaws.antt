-- The joint list by its slots: it is the whole list from the first slot on; how it goes on from a place; and a record of it from what the
-- code finds. Assumes nothing.
use mathlib.Core.Path.{◌≡◌, refl, sym, ap, ap₂, ◌∙◌}
use mathlib.Core.List.{List, [], ◌∷◌, ◌++◌, map, append_assoc}
use Prim.Native.Nat.{ℕ, zero, suc, ◌+◌, ◌*◌, ◌-◌, ◌/◌, ◌%◌, ◌≤◌, ◌<◌}
use native.Mathlib.Numerals.{add-one}
use native.Mathlib.Omega.{arith}
use lib.ListN.{length, get_or, drop, length-append, length-map, get_or-append}
use lib.Seq.{drop-cons, drop-nil, drop-append-add}
use Rattle.formats.specs.Model.{Component}
use Rattle.formats.specs.Locations.{location_count, modes_at, location_of}
use Rattle.formats.specs.Joint.{switches_of, modes_after, JointSwitch, joints_of, joints, count_up, join_all, four_switches, joint_from}
use Rattle.models.specs.Index.{components_from, GoodIndex}
use Rattle.formats.specs.JointTotals.{event_total}
use Rattle.formats.proofs.JointCounts.{event-length}
use Rattle.formats.proofs.JointProduct.{countable, event-none}
use Rattle.models.proofs.GoodIndexLaws.{good-components}
use Rattle.joint_switches.proofs.JointLoops.{record-at}
use Rattle.rules.specs.declared.Joint.{Joint}
use Rattle.rules.specs.Beside.{record_of}
use Rattle.joint_lists.specs.Records.{slot_joints, joints_from, records_from, no_joint}
use Rattle.papers.proofs.JoinedLaws.{joined_on, joined-first, joined-none}

-- numbers in a row, and lists that are joined
count-both : (i m n : ℕ) → count_up i (m + n) ≡ count_up i m ++ count_up (i + m) n
unfolding count_up
count-both i zero n = ap₂ count_up (none i) (zero-first n)
  where
    none : (i : ℕ) → i ≡ i + 0
    none i = omega arith

    zero-first : (n : ℕ) → 0 + n ≡ n
    zero-first n = omega arith
count-both i (suc m) n = ap (count_up i) (one_more m n) ∙ ap (λ (xs : List ℕ). i ∷ xs) (count-both (suc i) m n ∙ ap (λ (j : ℕ). count_up (suc i) m ++ count_up j n) (moved i m))
  where
    one_more : (m n : ℕ) → suc m + n ≡ suc (m + n)
    one_more m n = omega arith

    moved : (i m : ℕ) → suc i + m ≡ i + suc m
    moved i m = omega arith

joined-both : {A B : Type 0} (f : A → List B) (xs ys : List A) → join_all f (xs ++ ys) ≡ join_all f xs ++ join_all f ys
unfolding join_all
joined-both f [] ys = refl
joined-both f (x ∷ xs) ys = ap (λ zs. f x ++ zs) (joined-both f xs ys) ∙ sym (append_assoc (f x) (join_all f xs) (join_all f ys))

-- The list, slot by slot
slot-location : (l e : ℕ) → e < 16 → (16 * l + e) / 16 ≡ l
slot-location l e h = omega arith

slot-event : (l e : ℕ) → e < 16 → (16 * l + e) % 16 ≡ e
slot-event l e h = omega arith

module _ (components : List Component) where
  slots-of : (l e n : ℕ) → e + n ≤ 16 → join_all (slot_joints components) (count_up (16 * l + e) n) ≡ join_all (joints_of components l) (count_up e n)
  unfolding join_all count_up slot_joints
  slots-of l e zero h = refl
  slots-of l e (suc n) h =
      ap₂ (λ (xs ys : List JointSwitch). xs ++ ys)
      (ap₂ (joints_of components) (slot-location l e (omega arith)) (slot-event l e (omega arith)))
      (ap (λ (j : ℕ). join_all (slot_joints components) (count_up j n)) (moved l e) ∙ slots-of l (suc e) n (omega arith))
    where
      moved : (l e : ℕ) → suc (16 * l + e) ≡ 16 * l + suc e
      moved l e = omega arith

  slots-on : (l d : ℕ) → join_all (slot_joints components) (count_up (16 * l) (16 * d)) ≡ join_all (λ l. join_all (joints_of components l) (count_up 0 16)) (count_up l d)
  unfolding join_all count_up
  slots-on l zero = refl
  slots-on l (suc d) =
      ap (λ (k : ℕ). join_all (slot_joints components) (count_up (16 * l) k)) (one_more d)
      ∙ ap (join_all (slot_joints components)) (count-both (16 * l) 16 (16 * d))
      ∙ joined-both (slot_joints components) (count_up (16 * l) 16) (count_up (16 * l + 16) (16 * d))
      ∙ ap₂ (λ (xs ys : List JointSwitch). xs ++ ys)
      (ap (λ (k : ℕ). join_all (slot_joints components) (count_up k 16)) (none l) ∙ slots-of l 0 16 (omega arith))
      (ap (λ (k : ℕ). join_all (slot_joints components) (count_up k (16 * d))) (moved l) ∙ slots-on (suc l) d)
    where
      one_more : (d : ℕ) → 16 * suc d ≡ 16 + 16 * d
      one_more d = omega arith

      none : (l : ℕ) → 16 * l ≡ 16 * l + 0
      none l = omega arith

      moved : (l : ℕ) → 16 * l + 16 ≡ 16 * suc l
      moved l = omega arith

  pub whole-list : joints_from components 0 0 ≡ joints components
  unfolding joints_from joints
  whole-list = ap (λ (k : ℕ). join_all (slot_joints components) (count_up 0 k)) (all (location_count components)) ∙ slots-on 0 (location_count components)
    where
      all : (n : ℕ) → 16 * n - 0 ≡ 16 * n
      all n = omega arith

  -- from a place on: past a slot, at a joint switch, and past the last slot
  pub list-past : (slot x count : ℕ) → slot < 16 * location_count components → count ≡ length (slot_joints components slot) → count ≤ x → joints_from components slot x ≡ joints_from components (slot + 1) (x - count)
  unfolding joints_from
  list-past slot x count h e l =
      let f = slot_joints components in
      let n = 16 * location_count components in
      ap (drop x) (joined-first f n slot h)
      ∙ ap (λ (k : ℕ). drop k (f slot ++ joined_on f n (slot + 1))) (cut (length (f slot)) x count e l)
      ∙ drop-append-add (f slot) (joined_on f n (slot + 1)) (x - count)
    where
      cut : (a x count : ℕ) → count ≡ a → count ≤ x → x ≡ a + (x - count)
      cut a x count e l = omega (arith, e)

  pub list-here : (slot x : ℕ) → slot < 16 * location_count components → x < length (slot_joints components slot) → joints_from components slot x ≡ get_or (slot_joints components slot) x no_joint ∷ joints_from components slot (x + 1)
  unfolding joints_from
  list-here slot x h l =
      let f = slot_joints components in
      let rest = joined_on f (16 * location_count components) (slot + 1) in
      let first = joined-first f (16 * location_count components) slot h in
      ap (drop x) first
      ∙ drop-cons (f slot ++ rest) x no_joint (omega (arith, l, length-append (f slot) rest))
      ∙ ap₂ (λ (j : JointSwitch) (js : List JointSwitch). j ∷ js) (get_or-append (f slot) rest no_joint x l) (ap (λ (k : ℕ). drop k (f slot ++ rest)) (sym (add-one x)) ∙ ap (drop (x + 1)) (sym first))

  pub list_over : (slot x : ℕ) → 16 * location_count components ≤ slot → joints_from components slot x ≡ []
  unfolding joints_from
  list_over slot x h = ap (drop x) (joined-none (slot_joints components) (16 * location_count components) slot h) ∙ drop-nil x

-- the same of records
module _ (model index : List ℕ) where
  pub records-past : (slot x count : ℕ) → slot < 16 * location_count (components_from model index) → count ≡ length (slot_joints (components_from model index) slot) → count ≤ x → records_from model index slot x ≡ records_from model index (slot + 1) (x - count)
  unfolding records_from
  records-past slot x count h e l = ap (map record_of) (list-past (components_from model index) slot x count h e l)

  pub records-here : (slot x : ℕ) (j : Joint) → slot < 16 * location_count (components_from model index) → x < length (slot_joints (components_from model index) slot) → j ≡ record_of (get_or (slot_joints (components_from model index) slot) x no_joint) → records_from model index slot x ≡ j ∷ records_from model index slot (x + 1)
  unfolding records_from
  records-here slot x j h l e = ap (map record_of) (list-here (components_from model index) slot x h l) ∙ ap (λ (i : Joint). i ∷ map record_of (joints_from (components_from model index) slot (x + 1))) (sym e)

  pub records-over : (slot x : ℕ) → 16 * location_count (components_from model index) ≤ slot → records_from model index slot x ≡ []
  unfolding records_from
  records-over slot x h = ap (map record_of) (list_over (components_from model index) slot x h)

-- how many joint switches a slot has
pub slot-length : (components : List Component) (slot : ℕ) → length (slot_joints components slot) ≡ length (switches_of components (modes_at components (slot / 16)) (slot % 16))
unfolding slot_joints joints_of
slot-length components slot = length-map (switches_of components (modes_at components (slot / 16)) (slot % 16)) _

-- a slot of an event that has no joint switch at all
pub records-none : {model index : List ℕ} → GoodIndex model index → (slot x : ℕ) → slot < 16 * location_count (components_from model index) → event_total (components_from model index) (slot % 16) ≡ 0 → records_from model index (slot + 1) x ≡ records_from model index slot x
records-none {model} {index} g slot x h none =
    let components = components_from model index in
    let empty : 0 ≡ length (slot_joints components slot) = sym (slot-length components slot ∙ sym (event-length components (slot / 16) (slot % 16)) ∙ ap (λ (js : List JointSwitch). length js) (event-none (countable (good-components g)) (slot % 16) (slot / 16) none (omega arith))) in
    sym (records-past model index slot x 0 h empty (omega arith) ∙ ap (records_from model index (slot + 1)) (whole x))
  where
    whole : (x : ℕ) → x - 0 ≡ x
    whole x = omega arith

-- a record from its parts
pub slot-record : (components : List Component) (slot x : ℕ) (switches : List ℕ) (target : ℕ) → x < length (slot_joints components slot) → switches ≡ four_switches (get_or (switches_of components (modes_at components (slot / 16)) (slot % 16)) x []) → target ≡ location_of components (modes_after components (modes_at components (slot / 16)) (get_or (switches_of components (modes_at components (slot / 16)) (slot % 16)) x [])) → ◌≡◌ {A = Joint} (record { source = slot / 16; event = slot % 16; switches = switches; target = target }) (record_of (get_or (slot_joints components slot) x no_joint))
unfolding record_of four_switches joint_from slot_joints
slot-record components slot x switches target h e t =
    ap₂ (λ (ws : List ℕ) (l : ℕ). record { source = slot / 16; event = slot % 16; switches = ws; target = l }) e t
    ∙ ap record_of (sym (record-at components (slot / 16) (slot % 16) x no_joint (omega (arith, h, slot-length components slot))))
