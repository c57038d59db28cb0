-- The parts of a copy by where the index keeps them: a mode, a switch and an unsafe condition as an item, and a component by its parts; and
-- what the walk asks of them. Assumes nothing.
use mathlib.Core.Path.{◌≡◌, refl, sym, ap, ap₂, ◌∙◌, subst}
use mathlib.Core.List.{List, [], ◌∷◌, ◌++◌, map, append-nil}
use Prim.Native.Nat.{ℕ, zero, suc, ◌+◌, ◌*◌, ◌≤◌, ◌<◌}
use native.Mathlib.Nat.{add-zero}
use native.Mathlib.Omega.{arith}
use lib.ListN.{length, length-map}
use Rattle.formats.specs.Joint.{count_up, join_all}
use Rattle.formats.specs.Model.{Mode, Switch}
use Rattle.rules.proofs.ListFacts.{count-length, joined-alike}
use Rattle.models.specs.Index.{entry, version_in, component_place, mode_place, switch_place, unsafe_place, mode_from, switch_from, component_from, unsafe_from, GoodSpan}
use Rattle.writing.specs.Changed.{changed_mode, changed_switch, changed_component, changed_unsafe}
use Rattle.writing.specs.Writing.{half, write_mode, write_switch, write_component, write_unsafe}
use Rattle.fair_models.specs.FairCopy.{fair_condition}
use Rattle.fair_copies.specs.Copyable.{Copyable, entries, component_bytes}
use Rattle.fair_copies.specs.Items.{mode_items, switch_items, condition_items, span_bytes, item_bytes, items_bytes, GoodItems}
use Rattle.fair_copies.proofs.EachPut.{joined-map}

-- the numbers of an index that stand at a place and after it
pub two-entries : (index : List ℕ) (place : ℕ) → entries index place 2 ≡ entry index place ∷ entry index (place + 1) ∷ []
unfolding count_up
two-entries index place = ap (λ (p : ℕ). entry index p ∷ entry index (place + 1) ∷ []) (add-zero place)

pub two-small : (index : List ℕ) (place : ℕ) → entry index place < 256 → entry index (place + 1) < 256 → (k : ℕ) → k < 2 → entry index (place + k) < 256
two-small index place a b zero h = subst (λ (p : ℕ). entry index p < 256) (sym (add-zero place)) a
two-small index place a b (suc zero) h = b
two-small index place a b (suc (suc k)) h = absurd (omega arith)

pub three-small : (index : List ℕ) (place : ℕ) → entry index place < 256 → entry index (place + 1) < 256 → entry index (place + 2) < 256 → (k : ℕ) → k < 3 → entry index (place + k) < 256
three-small index place a b c zero h = subst (λ (p : ℕ). entry index p < 256) (sym (add-zero place)) a
three-small index place a b c (suc zero) h = b
three-small index place a b c (suc (suc zero)) h = c
three-small index place a b c (suc (suc (suc k))) h = absurd (omega arith)

-- places that are told otherwise
at_once : (p k : ℕ) → p + k + 0 ≡ p + k
at_once p k = omega arith

further : (p a b c : ℕ) → a + b ≡ c → p + a + b ≡ p + c
further p a b c e = omega arith

-- so many parts, each changed
pub total : {A B : Type 0} (f : A → B) (each : ℕ → A) (count : ℕ) → length (map f (map each (count_up 0 count))) ≡ count
total f each count = length-map (map each (count_up 0 count)) f ∙ length-map (count_up 0 count) each ∙ count-length 0 count

module _ (model index : List ℕ) where
  -- a mode, a switch and an unsafe condition are items
  one_span : (n p : ℕ) → span_bytes model index n (p + 0) ++ [] ≡ span_bytes model index n p
  one_span n p = append-nil (span_bytes model index n (p + 0)) ∙ ap (span_bytes model index n) (add-zero p)

  three-spans : (n p : ℕ) → span_bytes model index n (p + 1 + 0) ++ (span_bytes model index n (p + 1 + 2) ++ (span_bytes model index n (p + 1 + 4) ++ [])) ≡ span_bytes model index n (p + 1) ++ (span_bytes model index n (p + 3) ++ span_bytes model index n (p + 5))
  three-spans n p =
      ap₂ (λ (a b : ℕ). span_bytes model index n a ++ (span_bytes model index n b ++ (span_bytes model index n (p + 1 + 4) ++ []))) (at_once p 1) (further p 1 2 3 refl)
      ∙ ap (λ (l : List ℕ). span_bytes model index n (p + 1) ++ (span_bytes model index n (p + 3) ++ l)) (append-nil (span_bytes model index n (p + 1 + 4)) ∙ ap (span_bytes model index n) (further p 1 4 5 refl))

  mode-item : (block j : ℕ) → write_mode (version_in index) (changed_mode fair_condition (mode_from model (version_in index) (entry index 0) index (mode_place block j))) ≡ item_bytes model index (mode_items index block) (block + 3 + 7 * j)
  unfolding write_mode changed_mode mode_from mode_place count_up join_all
  mode-item block j =
      let p = block + 3 + 7 * j in
      sym (ap₂ (λ (q : ℕ) (l : List ℕ). entry index q ∷ l) (add-zero p) (three-spans (entry index 0) p))

  switch-item : (block i : ℕ) → write_switch (version_in index) (changed_switch fair_condition (switch_from model (version_in index) (entry index 0) index (switch_place block i))) ≡ item_bytes model index (switch_items index block) (block + 59 + 5 * i)
  unfolding write_switch changed_switch switch_from switch_place count_up join_all
  switch-item block i =
      let p = block + 59 + 5 * i in
      sym (ap₂ (λ (q : ℕ) (l : List ℕ). entry index q ∷ entry index (p + 1) ∷ entry index (p + 2) ∷ l) (add-zero p) (one_span (2 * entry index 0) (p + 3)))

  pub unsafe-item : (u : ℕ) → write_unsafe (version_in index) (changed_unsafe fair_condition (unsafe_from model (version_in index) (entry index 0) (entry index 1) index (unsafe_place u))) ≡ item_bytes model index (condition_items index) (892 + 6 * u)
  unfolding write_unsafe changed_unsafe unsafe_from unsafe_place count_up join_all
  unsafe-item u =
      let p = 892 + 6 * u in
      sym (ap (λ (l : List ℕ). entries index p (entry index 1) ++ l) (one_span (entry index 0) (p + 4)))

  -- A component: its alphabet, its counts, its modes and its switches
  modes-written : (block : ℕ) → join_all (write_mode (version_in index)) (map (changed_mode fair_condition) (map (λ j. mode_from model (version_in index) (entry index 0) index (mode_place block j)) (count_up 0 (entry index (block + 1))))) ≡ items_bytes model index (mode_items index block)
  modes-written block =
      let each : ℕ → Mode = λ j. mode_from model (version_in index) (entry index 0) index (mode_place block j) in
      let count = count_up 0 (entry index (block + 1)) in
      joined-map (write_mode (version_in index)) (changed_mode fair_condition) (map each count)
      ∙ joined-map (λ m. write_mode (version_in index) (changed_mode fair_condition m)) each count
      ∙ joined-alike (λ j. write_mode (version_in index) (changed_mode fair_condition (each j))) (λ j. item_bytes model index (mode_items index block) (block + 3 + 7 * j)) count (mode-item block)

  switches-written : (block : ℕ) → join_all (write_switch (version_in index)) (map (changed_switch fair_condition) (map (λ i. switch_from model (version_in index) (entry index 0) index (switch_place block i)) (count_up 0 (entry index (block + 2))))) ≡ items_bytes model index (switch_items index block)
  switches-written block =
      let each : ℕ → Switch = λ i. switch_from model (version_in index) (entry index 0) index (switch_place block i) in
      let count = count_up 0 (entry index (block + 2)) in
      joined-map (write_switch (version_in index)) (changed_switch fair_condition) (map each count)
      ∙ joined-map (λ w. write_switch (version_in index) (changed_switch fair_condition w)) each count
      ∙ joined-alike (λ i. write_switch (version_in index) (changed_switch fair_condition (each i))) (λ i. item_bytes model index (switch_items index block) (block + 59 + 5 * i)) count (switch-item block)

  pub component-parts : (k : ℕ) → component_bytes model index k ≡ half (entry index (component_place k)) ++ (entries index (component_place k + 1) 2 ++ (items_bytes model index (mode_items index (component_place k)) ++ items_bytes model index (switch_items index (component_place k))))
  unfolding write_component changed_component component_from
  component-parts k =
      let block = component_place k in
      let v = version_in index in
      let mode : ℕ → Mode = λ j. mode_from model v (entry index 0) index (mode_place block j) in
      let switch : ℕ → Switch = λ i. switch_from model v (entry index 0) index (switch_place block i) in
      let modes = map mode (count_up 0 (entry index (block + 1))) in
      let switches = map switch (count_up 0 (entry index (block + 2))) in
      let rest = items_bytes model index (mode_items index block) ++ items_bytes model index (switch_items index block) in
      ap (λ (l : List ℕ). half (entry index block) ++ l)
      (ap₂ (λ (a b : ℕ). a ∷ b ∷ (join_all (write_mode v) (map (changed_mode fair_condition) modes) ++ join_all (write_switch v) (map (changed_switch fair_condition) switches))) (total (changed_mode fair_condition) mode (entry index (block + 1))) (total (changed_switch fair_condition) switch (entry index (block + 2)))
      ∙ ap₂ (λ (a b : List ℕ). entry index (block + 1) ∷ entry index (block + 2) ∷ (a ++ b)) (modes-written block) (switches-written block)
      ∙ ap (λ (l : List ℕ). l ++ rest) (sym (two-entries index (block + 1) ∙ ap (λ (p : ℕ). entry index (block + 1) ∷ entry index p ∷ []) (further block 1 1 2 refl))))

-- What the walk asks of the items of a model
only-span : (P : ℕ → Type 0) (p : ℕ) → P p → (i : ℕ) → i < 1 → P (p + 2 * i)
only-span P p h zero l = subst P (sym (add-zero p)) h
only-span P p h (suc i) l = absurd (omega arith)

each-span : (P : ℕ → Type 0) (p : ℕ) → P (p + 1) → P (p + 3) → P (p + 5) → (i : ℕ) → i < 3 → P (p + 1 + 2 * i)
each-span P p a b c zero l = subst P (sym (at_once p 1)) a
each-span P p a b c (suc zero) l = subst P (sym (further p 1 2 3 refl)) b
each-span P p a b c (suc (suc zero)) l = subst P (sym (further p 1 4 5 refl)) c
each-span P p a b c (suc (suc (suc i))) l = absurd (omega arith)

block-small : (k : ℕ) → k < 4 → component_place k ≤ 673
unfolding component_place
block-small k h = omega arith

one-small : (index : List ℕ) (p : ℕ) → entry index p < 256 → (i : ℕ) → i < 1 → entry index (p + i) < 256
one-small index p a zero l = subst (λ (q : ℕ). entry index q < 256) (sym (add-zero p)) a
one-small index p a (suc i) l = absurd (omega arith)

module _ (model index : List ℕ) (g : Copyable model index) where
  few-blocks : (k : ℕ) → k < entry index 1 → component_place k ≤ 673
  few-blocks k h = block-small k (omega (arith, h, g.good.few))

  pub modes-good : (k : ℕ) → k < entry index 1 → GoodItems model index (mode_items index (component_place k))
  unfolding mode_place
  modes-good k h =
      let b = g.good.blocks k h in record {
        each = λ j l.
            let m = b.modes j l in
            let p = component_place k + 3 + 7 * j in record {
              bytes = one-small index p (g.starts k j h l);
              spans = each-span (λ q. GoodSpan model (version_in index) (entry index 0) index q) p m.initial m.invariant m.flow;
              within = omega (arith, few-blocks k h, l, b.most);
              heads = omega arith;
              few = omega arith;
              conditions = omega arith;
              wide = omega (arith, g.good.most);
            };
        few = omega (arith, b.most);
      }

  pub switches-good : (k : ℕ) → k < entry index 1 → GoodItems model index (switch_items index (component_place k))
  unfolding switch_place
  switches-good k h =
      let b = g.good.blocks k h in record {
        each = λ i l.
            let w = b.switches i l in
            let p = component_place k + 59 + 5 * i in record {
              bytes = three-small index p (omega (arith, w.source, b.most)) (omega (arith, w.target, b.most)) (omega (arith, w.label));
              spans = only-span (λ q. GoodSpan model (version_in index) (2 * entry index 0) index q) (p + 3) w.jump;
              within = omega (arith, few-blocks k h, l, b.few);
              heads = omega arith;
              few = omega arith;
              conditions = omega arith;
              wide = omega (arith, g.good.most);
            };
        few = omega (arith, b.few);
      }

  pub conditions-good : GoodItems model index (condition_items index)
  unfolding unsafe_place
  conditions-good = record {
    each = λ u l.
        let p = 892 + 6 * u in record {
          bytes = λ k h. g.asked u k l h;
          spans = only-span (λ q. GoodSpan model (version_in index) (entry index 0) index q) (p + 4) (g.good.unsafe u l);
          within = omega (arith, l, g.good.conditions);
          heads = g.good.few;
          few = omega arith;
          conditions = omega arith;
          wide = omega (arith, g.good.most);
        };
    few = omega (arith, g.good.conditions);
  }
