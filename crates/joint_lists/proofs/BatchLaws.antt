-- How words are filled with records: what they tell, with what is left of the list, stays the same. Assumes nothing.
use mathlib.Core.Path.{◌≡◌, refl, sym, ap, ◌∙◌}
use mathlib.Core.List.{List, [], ◌∷◌, ◌++◌, map, append_assoc}
use Prim.Native.Nat.{ℕ, zero, suc, ◌+◌, ◌*◌, ◌-◌, ◌/◌, ◌%◌, ◌≤◌, ◌<◌}
use native.Mathlib.Numerals.{add-one}
use native.Mathlib.Omega.{arith}
use lib.ListN.{length, get_or, set, take, drop, length-append, length-set, length-map, length-take}
use lib.Seq.{take-suc-set}
use Rattle.formats.specs.Locations.{location_count, modes_at}
use Rattle.formats.specs.Joint.{switches_of}
use Rattle.models.specs.Index.{components_from, GoodIndex}
use Rattle.models.specs.Counts.{per_component}
use Rattle.joint_switches.specs.declared.Slot.{Slot}
use Rattle.joint_switches.specs.declared.Landing.{Landing}
use Rattle.joint_switches.specs.declared.slots.Way.{Way}
use Rattle.joint_switches.specs.Slots.{landing_in, landing_of, Listed}
use Rattle.rules.specs.declared.Joint.{Joint}
use Rattle.papers.proofs.FoundLaws.{found_below}
use Rattle.joint_lists.specs.Records.{slot_joints, records_from}
use Rattle.joint_lists.specs.Batches.{unpacked_of, records_in, Tells, Told}
use Rattle.joint_lists.proofs.RecordLaws.{slot-length, slot-record, records-past, records-over}

-- no word tells nothing; one more word tells one record more
pub none_told : (words : List ℕ) → records_in words 0 ≡ []
unfolding records_in
none_told words = refl

map_both : {A B : Type 0} (f : A → B) (xs ys : List A) → map f (xs ++ ys) ≡ map f xs ++ map f ys
map_both f [] ys = refl
map_both f (x ∷ xs) ys = ap (λ zs. f x ∷ zs) (map_both f xs ys)

pub one_told : (words : List ℕ) (count w : ℕ) → count < length words → records_in (set words count w) (count + 1) ≡ records_in words count ++ (unpacked_of w ∷ [])
unfolding records_in
one_told words count w h =
    ap (λ (n : ℕ). map unpacked_of (take n (set words count w))) (add-one count)
    ∙ ap (map unpacked_of) (take-suc-set words count w h)
    ∙ map_both unpacked_of (take count words) (w ∷ [])

pub told-length : (words : List ℕ) (count : ℕ) → count ≤ length words → length (records_in words count) ≡ count
unfolding records_in
told-length words count h = length-map (take count words) unpacked_of ∙ omega (arith, length-take count words)

-- from one word on
pub words-told : (words : List ℕ) (count j : ℕ) → j < count → count ≤ length words → drop j (records_in words count) ≡ unpacked_of (get_or words j 0) ∷ drop (suc j) (records_in words count)
unfolding records_in
words-told words zero j h l = absurd (omega arith)
words-told [] (suc count) j h l = absurd (omega arith)
words-told (w ∷ words) (suc count) zero h l = refl
words-told (w ∷ words) (suc count) (suc j) h l = words-told words count j (omega arith) (omega arith)

-- a slot's words so far
pub record Filling (model index : List ℕ) (at x from : ℕ) (before words : List ℕ) (y count : ℕ) : Type 0 where
  pub long : length words ≡ 64
  pub most : count ≤ 64
  pub onward : from ≤ count
  pub first : x ≤ y
  pub same : records_in words count ++ records_from model index at y ≡ records_in before from ++ records_from model index at x

module _ (model index : List ℕ) (at x from : ℕ) (before : List ℕ) where
  module _ (words : List ℕ) (y count : ℕ) (f : Filling model index at x from before words y count) where
    pub filling-goes-on : (w : ℕ) → count < 64 → records_from model index at y ≡ unpacked_of w ∷ records_from model index at (y + 1) → Filling model index at x from before (set words count w) (y + 1) (count + 1)
    filling-goes-on w h e =
        record {
          long = length-set words count w ∙ f.long;
          most = omega arith;
          onward = omega (arith, f.onward);
          first = omega (arith, f.first);
          same =
              ap (λ (rs : List Joint). rs ++ records_from model index at (y + 1)) (one_told words count w (omega (arith, f.long)))
              ∙ append_assoc (records_in words count) (unpacked_of w ∷ []) (records_from model index at (y + 1))
              ∙ ap (λ (rs : List Joint). records_in words count ++ rs) (sym e)
              ∙ f.same;
        }

    pub filling-passes : (total : ℕ) → at < 16 * location_count (components_from model index) → total ≡ length (slot_joints (components_from model index) at) → total ≤ y → records_in words count ++ records_from model index (at + 1) (y - total) ≡ records_in before from ++ records_from model index at x
    filling-passes total h e l =
        ap (λ (rs : List Joint). records_in words count ++ rs) (sym (records-past model index at y total h e l)) ∙ f.same

-- the table of a slot tells its records
pub slot-tells : {model index : List ℕ} → GoodIndex model index → location_count (components_from model index) ≤ 64 → (at : ℕ) → at < 16 * location_count (components_from model index) → (modes : List ℕ) → per_component index modes ≡ modes_at (components_from model index) (at / 16) → (slot : Slot) (ways : List Way) → Listed model index modes (at % 16) ways slot → Tells model index at slot ways
unfolding landing_of
slot-tells {model} {index} g few at h modes p slot ways listed =
    let components = components_from model index in
    let counted : slot.count ≡ length (slot_joints components at) = listed.counted ∙ ap (λ (ms : List ℕ). length (switches_of components ms (at % 16))) p ∙ sym (slot-length components at) in
    let found : (x : ℕ) → x < slot.count → landing_in index slot ways x ≡ landing_of components (modes_at components (at / 16)) (get_or (switches_of components (modes_at components (at / 16)) (at % 16)) x []) = λ x l. listed.landings x l ∙ ap (λ (ms : List ℕ). landing_of components ms (get_or (switches_of components ms (at % 16)) x [])) p in
    record {
      ready = listed.ready;
      counted = counted;
      small = λ x l.
          let below = found_below g (at / 16) (at % 16) x modes (omega arith) p (omega arith) (omega (arith, l, counted, slot-length components at)) in
          omega (arith, below, few, ap (λ (n : Landing). n.target) (found x l));
      records = λ x l. slot-record components at x (landing_in index slot ways x).switches (landing_in index slot ways x).target (omega (arith, l, counted)) (ap (λ (n : Landing). n.switches) (found x l)) (ap (λ (n : Landing). n.target) (found x l));
    }

-- a batch so far
pub record Batching (model index : List ℕ) (slot₀ x₀ : ℕ) (words : List ℕ) (slot x count : ℕ) : Type 0 where
  pub long : length words ≡ 64
  pub most : count ≤ 64
  pub same : records_in words count ++ records_from model index slot x ≡ records_from model index slot₀ x₀

module _ (model index : List ℕ) (slot₀ x₀ : ℕ) where
  pub batching-starts : (words : List ℕ) → length words ≡ 64 → Batching model index slot₀ x₀ words slot₀ x₀ 0
  batching-starts words long =
      record { long = long; most = omega arith; same = ap (λ (rs : List Joint). rs ++ records_from model index slot₀ x₀) (none_told words) }

  module _ (words : List ℕ) (slot x count : ℕ) (b : Batching model index slot₀ x₀ words slot x count) where
    pub batching-over : 16 * location_count (components_from model index) ≤ slot → Told model index slot₀ x₀ (record { words = words; count = count; slot = slot; x = x })
    batching-over h =
        (sym b.same, (b.most, λ l. omega (arith, l, ap (λ (rs : List Joint). length rs) b.same, length-append (records_in words count) (records_from model index slot x), ap (λ (rs : List Joint). length rs) (records-over model index slot x h), told-length words count (omega (arith, b.long, b.most)))))
