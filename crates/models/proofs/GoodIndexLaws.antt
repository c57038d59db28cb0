-- What an index says of the model that it gives back: the components, modes and switches by their numbers, and that an index is good
-- where its model is well formed, and well formed where the index is good. Assumes nothing.
use mathlib.Core.Path.{◌≡◌, refl, sym, ap, ◌∙◌, subst}
use mathlib.Core.Bool.{Bool, true, false, cond, ◌&&◌}
use mathlib.Core.List.{List, [], ◌∷◌, map}
use Prim.Native.Nat.{ℕ, zero, suc, ◌+◌, ◌*◌, ◌-◌, ◌≤◌, ◌<◌}
use native.Mathlib.Nat.{mul-one, mul-add}
use native.Mathlib.Numerals.{add-one}
use native.Mathlib.Omega.{arith}
use lib.Dec.{eqb}
use lib.ListN.{length, get_or, drop, length-drop, drop_of_length-le}
use lib.Seq.{drop-cons}
use Rattle.farkas.specs.Lists.{All, none, more}
use Rattle.formats.specs.Reading.{got, finished}
use Rattle.fields.specs.Places.{numbers_at, row_at, rows_from}
use Rattle.formats.specs.Model.{Mode, Switch, Component, Unsafe, Model, read_mode, read_switch, read_component, read_unsafe, read_model_body}
use Rattle.formats.specs.declared.Limits.{Limits}
use Rattle.formats.specs.ModelSheet.{read_model}
use Rattle.formats.proofs.ModelSheet.{in-a-chain}
use Rattle.formats.specs.Joint.{switch_of, leaves, count_up}
use Rattle.models.specs.Index.{entry, owner_place, component_place, mode_place, switch_place, unsafe_place, span_rows, mode_from, switch_from, component_from, unsafe_from, components_from, model_from, GoodSpan, GoodModeAt, GoodSwitchAt, GoodBlock, GoodIndex}
use Rattle.models.specs.Counts.{component_at}
use Rattle.formats.proofs.WellFormed.{Wide, Plain, GoodMode, GoodSwitch, GoodComponent, WellFormed, condition-gives, well-formed}
use Rattle.formats.proofs.RowPlaces.{EndsWithin, RowsWithin, ModeWithin, ComponentWithin, ModelWithin, rows-within}
use Rattle.formats.proofs.Gives.{Gives, gives-bind, gives_then, gives-give, gives-any, gives-many}
use Rattle.formats.proofs.Members.{all-below, count-in}
use Rattle.formats.proofs.JointOrder.{all-mapped}
use Rattle.formats.specs.Versions.{row_bytes, strict_at}

-- a list that is told by a function of the number
pub counted-length : {A : Type 0} (f : ℕ → A) (k n : ℕ) → length (map f (count_up k n)) ≡ n
unfolding count_up
counted-length f k zero = refl
counted-length f k (suc n) = ap suc (counted-length f (suc k) n)

counted-from : {A : Type 0} (f : ℕ → A) (k n i : ℕ) (d : A) → i < n → get_or (map f (count_up k n)) i d ≡ f (k + i)
unfolding count_up
counted-from f k zero i d h = absurd (omega arith)
counted-from f k (suc n) zero d h = ap f (nothing k)
  where
    nothing : (k : ℕ) → k ≡ k + zero
    nothing k = omega arith
counted-from f k (suc n) (suc i) d h = counted-from f (suc k) n i d (omega arith) ∙ ap f (one_more k i)
  where
    one_more : (k i : ℕ) → suc k + i ≡ k + suc i
    one_more k i = omega arith

from_zero : (i : ℕ) → 0 + i ≡ i
from_zero i = omega arith

pub counted-at : {A : Type 0} (f : ℕ → A) (n i : ℕ) (d : A) → i < n → get_or (map f (count_up 0 n)) i d ≡ f i
counted-at f n i d h = counted-from f 0 n i d h ∙ ap f (from_zero i)

pub counted-drop : {A : Type 0} (f : ℕ → A) (n i : ℕ) → i < n → drop i (map f (count_up 0 n)) ≡ f i ∷ drop (i + 1) (map f (count_up 0 n))
counted-drop f n i h =
    let xs = map f (count_up 0 n) in
    let l : i < length xs = rw counted-length h in
    drop-cons xs i (f i) l ∙ ap (λ a. a ∷ drop (suc i) xs) (counted-at f n i (f i) h) ∙ ap (λ (k : ℕ). f i ∷ drop k xs) (sym (add-one i))

-- what holds of all of them holds at each number, and the other way round
pub counted-all : {A : Type 0} {P : A → Type 0} (f : ℕ → A) (n : ℕ) → All P (map f (count_up 0 n)) → (i : ℕ) → i < n → P (f i)
counted-all {P = P} f n all i h = subst P (counted-at f n i (f i) h) (all-below all i (f i) (rw counted-length h))

pub all-counted : {A : Type 0} {P : A → Type 0} (f : ℕ → A) (n : ℕ) → ((i : ℕ) → i < n → P (f i)) → All P (map f (count_up 0 n))
all-counted f n g = all-mapped f (count_up 0 n) (λ i d. g i (omega (arith, count-in 0 n i d)))

-- components, modes and switches by their numbers
module _ (s index : List ℕ) where
  pub components-length : length (components_from s index) ≡ entry index 1
  unfolding components_from
  components-length = counted-length (λ k. component_from s (entry index 11) (entry index 0) index (component_place k)) 0 (entry index 1)

  pub component-at : (k : ℕ) (d : Component) → k < entry index 1 → get_or (components_from s index) k d ≡ component_at s index k
  unfolding components_from component_at
  component-at k d h = counted-at (λ k. component_from s (entry index 11) (entry index 0) index (component_place k)) (entry index 1) k d h

  -- the components from one on
  pub components-drop : (k : ℕ) → k < entry index 1 → drop k (components_from s index) ≡ component_at s index k ∷ drop (k + 1) (components_from s index)
  unfolding components_from component_at
  components-drop k h = counted-drop (λ k. component_from s (entry index 11) (entry index 0) index (component_place k)) (entry index 1) k h

  pub components-back : (k : ℕ) → 0 < k → k ≤ entry index 1 → drop (k - 1) (components_from s index) ≡ component_at s index (k - 1) ∷ drop k (components_from s index)
  components-back k h l =
      components-drop (k - 1) (omega arith) ∙ ap (λ (i : ℕ). component_at s index (k - 1) ∷ drop i (components_from s index)) (back k h)
    where
      back : (k : ℕ) → 0 < k → k - 1 + 1 ≡ k
      back k h = omega arith

  pub components-end : drop (entry index 1) (components_from s index) ≡ []
  components-end = drop_of_length-le (components_from s index) {i = entry index 1} (omega (arith, components-length))

  pub mode-length : (k : ℕ) → length (component_at s index k).modes ≡ entry index (component_place k + 1)
  unfolding component_at component_from
  mode-length k = counted-length (λ j. mode_from s (entry index 11) (entry index 0) index (mode_place (component_place k) j)) 0 (entry index (component_place k + 1))

  pub switch-length : (k : ℕ) → length (component_at s index k).switches ≡ entry index (component_place k + 2)
  unfolding component_at component_from
  switch-length k = counted-length (λ i. switch_from s (entry index 11) (entry index 0) index (switch_place (component_place k) i)) 0 (entry index (component_place k + 2))

  pub switch-at : (k i : ℕ) → i < entry index (component_place k + 2) → switch_of (component_at s index k) i ≡ switch_from s (entry index 11) (entry index 0) index (switch_place (component_place k) i)
  unfolding component_at component_from switch_of
  switch-at k i h = counted-at (λ i. switch_from s (entry index 11) (entry index 0) index (switch_place (component_place k) i)) (entry index (component_place k + 2)) i _ h

  -- what the number of a switch tells, in the numbers of the index
  pub leaves_at : (k i mode e : ℕ) → i < entry index (component_place k + 2) → leaves mode e (switch_of (component_at s index k) i) ≡ (eqb (entry index (switch_place (component_place k) i + 2)) e && eqb (entry index (switch_place (component_place k) i)) mode)
  unfolding leaves switch_from
  leaves_at k i mode e h = ap (leaves mode e) (switch-at k i h)

  pub target_at : (k i : ℕ) → i < entry index (component_place k + 2) → (switch_of (component_at s index k) i).target ≡ entry index (switch_place (component_place k) i + 1)
  unfolding switch_from
  target_at k i h = ap (λ w. w.target) (switch-at k i h)

-- rows that are found by their place: how many, how wide, and where they end
numbers-length : (s : List ℕ) (p k : ℕ) → length (numbers_at s p k) ≡ k
unfolding numbers_at
numbers-length s p zero = refl
numbers-length s p (suc k) = ap suc (numbers-length s (p + 4) k)

rows-length : (s : List ℕ) (version n p k : ℕ) → length (rows_from s version n p k) ≡ k
unfolding rows_from
rows-length s version n p zero = refl
rows-length s version n p (suc k) = ap suc (rows-length s version n (p + row_bytes version n) k)

rows-wide : (s : List ℕ) (version n p k : ℕ) → Wide n (rows_from s version n p k)
unfolding rows_from row_at
rows-wide s version n p zero = none
rows-wide s version n p (suc k) = more (numbers-length s p n) (rows-wide s version n (p + row_bytes version n) k)

rows-plain : (s : List ℕ) (version n p k : ℕ) → Plain (rows_from s version n p k)
unfolding rows_from row_at strict_at
rows-plain s version n p zero = none
rows-plain s version n p (suc k) = more refl (rows-plain s version n (p + row_bytes version n) k)

rows_end : (s : List ℕ) (version n p k : ℕ) → RowsWithin s (rows_from s version n p k) → (j : ℕ) → j < k → p + row_bytes version n * (j + 1) ≤ length s
unfolding rows_from row_at
rows_end s version n p zero w j h = absurd (omega arith)
rows_end s version n p (suc k) (more x rest) zero h = omega (arith, x, numbers-length s p n, mul-one (row_bytes version n))
rows_end s version n p (suc k) (more x rest) (suc j) h =
    omega (arith, rows_end s version n (p + row_bytes version n) k rest j (omega arith), mul-add (row_bytes version n) 1 (j + 1), mul-one (row_bytes version n), turned j)
  where
    turned : (j : ℕ) → row_bytes version n * (suc j + 1) ≡ row_bytes version n * (1 + (j + 1))
    turned j = ap (λ (i : ℕ). row_bytes version n * i) (omega arith)

rows-begin : (s : List ℕ) (version n p k : ℕ) → ((j : ℕ) → j < k → p + row_bytes version n * (j + 1) ≤ length s) → RowsWithin s (rows_from s version n p k)
unfolding rows_from row_at
rows-begin s version n p zero h = none
rows-begin s version n p (suc k) h =
    let first : EndsWithin s (row_at s version n p) = omega (arith, h 0 (omega arith), numbers-length s p n, mul-one (row_bytes version n)) in
    more first
    (rows-begin s version n (p + row_bytes version n) k
    (λ j l. omega (arith, h (suc j) (omega arith), mul-add (row_bytes version n) 1 (j + 1), mul-one (row_bytes version n), turned j)))
  where
    turned : (j : ℕ) → row_bytes version n * (suc j + 1) ≡ row_bytes version n * (1 + (j + 1))
    turned j = ap (λ (i : ℕ). row_bytes version n * i) (omega arith)

-- A good index has at most 8 rows a condition, of which WellFormed does not speak: the conditions of a model that a sheet gives have no more
pub record FewInMode (mode : Mode) : Type 0 where
  pub initial : length mode.initial ≤ 8
  pub invariant : length mode.invariant ≤ 8
  pub flow : length mode.flow ≤ 8

pub record FewInComponent (c : Component) : Type 0 where
  pub modes : All FewInMode c.modes
  pub switches : All (λ w. length w.jump ≤ 8) c.switches

pub record FewRows (m : Model) : Type 0 where
  pub components : All FewInComponent m.components
  pub unsafe : All (λ u. length u.rows ≤ 8) m.unsafe

few-initial : (b : Bool) (k : ℕ) → k ≤ cond b 0 8 → k ≤ 8
few-initial true k h = omega arith
few-initial false k h = h

mode-few : (version n : ℕ) → Gives FewInMode (read_mode version n)
unfolding read_mode
mode-few version n =
    gives-bind gives-any
    (λ start u.
    gives-bind (condition-gives (cond (eqb start 0) 0 8) version n)
    (λ initial i.
    gives-bind (condition-gives 8 version n)
    (λ invariant j.
    gives-bind (condition-gives 8 version n)
    (λ flow k. gives-give _ (record { initial = few-initial (eqb start 0) (length initial) i.0; invariant = j.0; flow = k.0 })))))

switch-few : (version n alphabet modes : ℕ) → Gives (λ w. length w.jump ≤ 8) (read_switch version n alphabet modes)
unfolding read_switch
switch-few version n alphabet modes =
    gives-bind gives-any
    (λ source u.
    gives-bind gives-any
    (λ target u. gives-bind gives-any (λ label u. gives-bind (condition-gives 8 version (2 * n)) (λ jump w. gives-give _ w.0))))

component-few : (version n : ℕ) → Gives FewInComponent (read_component version n)
unfolding read_component
component-few version n =
    gives-bind gives-any
    (λ alphabet u.
    gives-bind gives-any
    (λ mode_count u.
    gives-bind gives-any
    (λ switch_count u.
    gives-bind (gives-many mode_count (mode-few version n))
    (λ modes i.
    gives-bind (gives-many switch_count (switch-few version n alphabet mode_count))
    (λ switches j. gives-give _ (record { modes = i.1; switches = j.1 }))))))

unsafe-few : (version n : ℕ) (components : List Component) → Gives (λ u. length u.rows ≤ 8) (read_unsafe version n components)
unfolding read_unsafe
unsafe-few version n components = gives-bind gives-any (λ modes u. gives-bind (condition-gives 8 version n) (λ rows w. gives-give _ w.0))

pub body-few : (version paper : ℕ) → Gives FewRows (read_model_body version paper)
unfolding read_model_body
body-few version paper =
    gives-bind gives-any
    (λ n u.
    gives-bind gives-any
    (λ c u.
    gives-bind gives-any
    (λ conditions u.
    gives-bind gives-any
    (λ owners u.
    gives-bind (gives-many c (component-few version n))
    (λ components i.
    gives-bind (gives-many conditions (unsafe-few version n components))
    (λ unsafe j. gives-give _ (record { components = i.1; unsafe = j.1 })))))))

pub few-rows : (limits : Limits) (s : List ℕ) (m : Model) (next : ℕ) → read_model limits s ≡ got m next → FewRows m
few-rows limits s m next e =
    (gives-bind gives-any
    (λ version u. gives-bind gives-any (λ paper u. gives-bind gives-any (λ place u. gives-bind (body-few version paper) (λ m w. gives_then finished (gives_then _ (gives-give m w))))))
    ).holds s 0 m next (sym (in-a-chain limits s) ∙ e)

-- from the model to the index
span-good : (s : List ℕ) (version n : ℕ) (index : List ℕ) (i : ℕ) → RowsWithin s (span_rows s version n index i) → length (span_rows s version n index i) ≤ 8 → GoodSpan s version n index i
unfolding span_rows
span-good s version n index i w h =
    record {
      few = omega (arith, rows-length s version n (entry index i) (entry index (i + 1)));
      within = rows_end s version n (entry index i) (entry index (i + 1)) w;
    }

mode-good : (s : List ℕ) (version n : ℕ) (index : List ℕ) (i : ℕ) → ModeWithin s (mode_from s version n index i) → FewInMode (mode_from s version n index i) → GoodModeAt s version n index i
unfolding mode_from
mode-good s version n index i w h =
    record {
      initial = span-good s version n index (i + 1) w.initial h.initial;
      invariant = span-good s version n index (i + 3) w.invariant h.invariant;
      flow = span-good s version n index (i + 5) w.flow h.flow;
    }

switch-good : (s : List ℕ) (version n modes : ℕ) (index : List ℕ) (i : ℕ) → GoodSwitch n modes (switch_from s version n index i) → RowsWithin s (switch_from s version n index i).jump → length (switch_from s version n index i).jump ≤ 8 → GoodSwitchAt s version n modes index i
unfolding switch_from
switch-good s version n modes index i g w h =
    record { source = g.source; target = g.target; label = g.label; jump = span-good s version (2 * n) index (i + 3) w h }

block-good : (s : List ℕ) (version n : ℕ) (index : List ℕ) (block : ℕ) → GoodComponent n (component_from s version n index block) → ComponentWithin s (component_from s version n index block) → FewInComponent (component_from s version n index block) → GoodBlock s version n index block
unfolding component_from
block-good s version n index block g w h =
    let mode : ℕ → Mode = λ j. mode_from s version n index (mode_place block j) in
    let switch : ℕ → Switch = λ i. switch_from s version n index (switch_place block i) in
    let modes = entry index (block + 1) in
    let switches = entry index (block + 2) in
    let same : length (map mode (count_up 0 modes)) ≡ modes = counted-length mode 0 modes in
    record {
      least = omega (arith, g.least);
      most = omega (arith, g.most);
      few = omega (arith, g.few, counted-length switch 0 switches);
      modes = λ j l. mode-good s version n index (mode_place block j) (counted-all mode modes w.modes j l) (counted-all mode modes h.modes j l);
      switches = λ i l.
          switch-good s version n modes index (switch_place block i)
          (subst (λ (k : ℕ). GoodSwitch n k (switch i)) same (counted-all switch switches g.switches i l))
          (counted-all switch switches w.switches i l)
          (counted-all switch switches h.switches i l);
    }

-- an index is good where its model is well formed, with few rows that end within the sheet
pub good-index : (s index : List ℕ) → WellFormed (model_from s index) → ModelWithin s (model_from s index) → FewRows (model_from s index) → GoodIndex s index
unfolding model_from components_from unsafe_from
good-index s index g w h =
    let n = entry index 0 in let version = entry index 11 in
    let owner : ℕ → ℕ = λ v. entry index (owner_place v) in
    let component : ℕ → Component = λ k. component_from s version n index (component_place k) in
    let condition : ℕ → Unsafe = λ u. unsafe_from s version n (entry index 1) index (unsafe_place u) in
    let same : length (map component (count_up 0 (entry index 1))) ≡ entry index 1 = counted-length component 0 (entry index 1) in
    record {
      version = g.version;
      least = g.least;
      most = g.most;
      some = omega (arith, g.some);
      few = omega (arith, g.few);
      conditions = omega (arith, g.conditions, counted-length condition 0 (entry index 2));
      owners = λ v l. subst (λ (k : ℕ). owner v < k) same (counted-all owner n g.owners v l);
      blocks = λ k l.
          block-good s version n index (component_place k)
          (counted-all component (entry index 1) g.components k l)
          (counted-all component (entry index 1) w.components k l)
          (counted-all component (entry index 1) h.components k l);
      unsafe = λ u l.
          span-good s version n index (unsafe_place u + 4) (counted-all condition (entry index 2) w.unsafe u l) (counted-all condition (entry index 2) h.unsafe u l);
    }

-- an index that gives the model of a sheet is good
pub index-good : (limits : Limits) (s index : List ℕ) (next : ℕ) → read_model limits s ≡ got (model_from s index) next → GoodIndex s index
index-good limits s index next e =
    good-index s index (well-formed limits s (model_from s index) next e) (rows-within limits s (model_from s index) next e) (few-rows limits s (model_from s index) next e)

-- from the index to the model
span-wide : (s : List ℕ) (version n : ℕ) (index : List ℕ) (i : ℕ) → Wide n (span_rows s version n index i)
unfolding span_rows
span-wide s version n index i = rows-wide s version n (entry index i) (entry index (i + 1))

span-plain : (s : List ℕ) (version n : ℕ) (index : List ℕ) (i : ℕ) → Plain (span_rows s version n index i)
unfolding span_rows
span-plain s version n index i = rows-plain s version n (entry index i) (entry index (i + 1))

span-within : (s : List ℕ) (version n : ℕ) (index : List ℕ) (i : ℕ) → GoodSpan s version n index i → RowsWithin s (span_rows s version n index i)
unfolding span_rows
span-within s version n index i g = rows-begin s version n (entry index i) (entry index (i + 1)) g.within

mode-wide : (s : List ℕ) (version n : ℕ) (index : List ℕ) (i : ℕ) → GoodMode n (mode_from s version n index i)
unfolding mode_from
mode-wide s version n index i =
    record { initial = span-wide s version n index (i + 1); invariant = span-wide s version n index (i + 3); flow = span-wide s version n index (i + 5); rates = span-plain s version n index (i + 5) }

mode-within : (s : List ℕ) (version n : ℕ) (index : List ℕ) (i : ℕ) → GoodModeAt s version n index i → ModeWithin s (mode_from s version n index i)
unfolding mode_from
mode-within s version n index i g =
    record {
      initial = span-within s version n index (i + 1) g.initial;
      invariant = span-within s version n index (i + 3) g.invariant;
      flow = span-within s version n index (i + 5) g.flow;
    }

switch-wide : (s : List ℕ) (version n modes : ℕ) (index : List ℕ) (i : ℕ) → GoodSwitchAt s version n modes index i → GoodSwitch n modes (switch_from s version n index i)
unfolding switch_from
switch-wide s version n modes index i g =
    record { source = g.source; target = g.target; label = g.label; jump = span-wide s version (2 * n) index (i + 3) }

switch-within : (s : List ℕ) (version n modes : ℕ) (index : List ℕ) (i : ℕ) → GoodSwitchAt s version n modes index i → RowsWithin s (switch_from s version n index i).jump
unfolding switch_from
switch-within s version n modes index i g = span-within s version (2 * n) index (i + 3) g.jump

component-good : (s : List ℕ) (version n : ℕ) (index : List ℕ) (block : ℕ) → GoodBlock s version n index block → GoodComponent n (component_from s version n index block)
unfolding component_from
component-good s version n index block g =
    let mode : ℕ → Mode = λ j. mode_from s version n index (mode_place block j) in
    let switch : ℕ → Switch = λ i. switch_from s version n index (switch_place block i) in
    let modes = entry index (block + 1) in
    let switches = entry index (block + 2) in
    let same : length (map mode (count_up 0 modes)) ≡ modes = counted-length mode 0 modes in
    record {
      least = omega (arith, g.least);
      most = omega (arith, g.most);
      few = omega (arith, g.few, counted-length switch 0 switches);
      modes = all-counted mode modes (λ j l. mode-wide s version n index (mode_place block j));
      switches =
          all-counted switch switches
          (λ i l. subst (λ (k : ℕ). GoodSwitch n k (switch i)) (sym same) (switch-wide s version n modes index (switch_place block i) (g.switches i l)));
    }

component-within : (s : List ℕ) (version n : ℕ) (index : List ℕ) (block : ℕ) → GoodBlock s version n index block → ComponentWithin s (component_from s version n index block)
unfolding component_from
component-within s version n index block g =
    record {
      modes = all-counted (λ j. mode_from s version n index (mode_place block j)) (entry index (block + 1)) (λ j l. mode-within s version n index (mode_place block j) (g.modes j l));
      switches =
          all-counted (λ i. switch_from s version n index (switch_place block i)) (entry index (block + 2))
          (λ i l. switch-within s version n (entry index (block + 1)) index (switch_place block i) (g.switches i l));
    }

module _ {s index : List ℕ} (g : GoodIndex s index) where
  -- each component, and all of them
  pub good-component : (k : ℕ) → k < entry index 1 → GoodComponent (entry index 0) (component_at s index k)
  unfolding component_at
  good-component k h = component-good s (entry index 11) (entry index 0) index (component_place k) (g.blocks k h)

  pub good-components : All (GoodComponent (entry index 0)) (components_from s index)
  unfolding components_from
  good-components =
      all-counted (λ k. component_from s (entry index 11) (entry index 0) index (component_place k)) (entry index 1)
      (λ k l. component-good s (entry index 11) (entry index 0) index (component_place k) (g.blocks k l))

  pub index-well-formed : WellFormed (model_from s index)
  unfolding model_from unsafe_from
  index-well-formed =
      let n = entry index 0 in let version = entry index 11 in
      let owner : ℕ → ℕ = λ v. entry index (owner_place v) in
      let condition : ℕ → Unsafe = λ u. unsafe_from s version n (entry index 1) index (unsafe_place u) in
      record {
        version = g.version;
        least = g.least;
        most = g.most;
        owned = counted-length owner 0 n;
        owners = all-counted owner n (λ v l. subst (λ (k : ℕ). owner v < k) (sym (components-length s index)) (g.owners v l));
        some = omega (arith, g.some, components-length s index);
        few = omega (arith, g.few, components-length s index);
        components = good-components;
        unsafe = all-counted condition (entry index 2) (λ u l. span-wide s version n index (unsafe_place u + 4));
        conditions = omega (arith, g.conditions, counted-length condition 0 (entry index 2));
      }

  pub few-components : (k : ℕ) → length (drop k (components_from s index)) ≤ 4
  few-components k = simp (length-drop, components-length) (omega (arith, g.few))
