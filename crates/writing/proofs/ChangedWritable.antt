-- A model with its conditions changed, where no condition gets longer and rows that fit are changed to rows that fit: it can be written,
-- in no more bytes. Assumes nothing.
use mathlib.Core.Path.{◌≡◌, refl, sym, ap, ◌∙◌, subst}
use mathlib.Core.Bool.{◌||◌}
use mathlib.Core.List.{List, [], ◌∷◌, ◌++◌, map}
use Prim.Native.Nat.{ℕ, suc, ◌+◌, ◌*◌, ◌≤◌, ◌<◌}
use native.Mathlib.Nat.{mul-le-mul_right, le_trans}
use native.Mathlib.Omega.{arith}
use lib.Dec.{T, ltb, eqb}
use lib.IntN.{ℤ}
use lib.ListN.{length, length-append, length-map}
use Rattle.farkas.specs.Lists.{All, none, more}
use Rattle.formats.specs.Versions.{row_bytes}
use Rattle.formats.specs.Rows.{SheetRow, Condition}
use Rattle.formats.specs.Model.{Mode, Switch, Component, Unsafe, Model}
use Rattle.formats.specs.Joint.{join_all}
use Rattle.writing.specs.Writing.{word, half, write_number, write_mark, write_row, write_condition, write_mode, write_switch, write_component, write_unsafe, write_fields, write_paper, write_body, write_model}
use Rattle.writing.specs.Changed.{changed_mode, changed_switch, changed_component, changed_unsafe, changed}
use Rattle.writing.proofs.ReadsLaws.{paired-map}
use Rattle.writing.proofs.Writable.{FitsRow, WritableCondition, WritableMode, WritableSwitch, WritableComponent, WritableUnsafe, Writable}
use Rattle.writing.proofs.ChangedJoints.{modes-kept}
use Rattle.writing.proofs.RoundTrip.{written-size}

-- a change that makes no condition longer, and rows that fit of rows that fit
pub record Shortens (f : Condition → Condition) : Type 0 where
  pub few : (rows : Condition) → length (f rows) ≤ length rows
  pub fits : (version n : ℕ) (rows : Condition) → All (FitsRow version n) rows → All (FitsRow version n) (f rows)

-- what holds of each element's image
all-mapped : {A B : Type 0} {P : A → Type 0} {Q : B → Type 0} {xs : List A} (g : A → B) → ((a : A) → P a → Q (g a)) → All P xs → All Q (map g xs)
all-mapped g f none = none
all-mapped g f (more {a = a} h hs) = more (f a h) (all-mapped g f hs)

-- bytes that are no more than others: the same; one part after another; for each element of a list
record NoMore (xs ys : List ℕ) : Type 0 where
  most : length xs ≤ length ys

as_many : (xs ys : List ℕ) → length xs ≡ length ys → NoMore xs ys
as_many xs ys e = record { most = omega arith }

then-no-more : {a b x y : List ℕ} → NoMore a x → NoMore b y → NoMore (a ++ b) (x ++ y)
then-no-more {a} {b} {x} {y} h k =
    let first = h.most in
    let second = k.most in
    record { most = omega (arith, length-append a b, length-append x y) }

joined-no-more : {A : Type 0} {P : A → Type 0} {xs : List A} (write : A → List ℕ) (g : A → A) → ((a : A) → P a → NoMore (write (g a)) (write a)) → All P xs → NoMore (join_all write (map g xs)) (join_all write xs)
unfolding join_all
joined-no-more write g f none = as_many [] [] refl
joined-no-more write g f (more {a = a} h hs) = then-no-more (f a h) (joined-no-more write g f hs)

-- a row has as many bytes as the version says, so rows have as many times that
numbers-long : (zs : List ℤ) → length (join_all write_number zs) ≡ 4 * length zs
unfolding join_all write_number word
numbers-long [] = refl
numbers-long (z ∷ zs) = let rest = numbers-long zs in omega arith

pub row-long : (version n : ℕ) (r : SheetRow) → FitsRow version n r → length (write_row version r) ≡ row_bytes version n
unfolding write_row write_mark write_number word row_bytes
row-long version n r f =
    let wide = f.wide in
    omega (arith, length-append (join_all write_number r.row.coefficients) (write_number r.row.bound), numbers-long r.row.coefficients)

one_more : (count size : ℕ) → size + count * size ≡ suc count * size
one_more count size = omega arith

rows_long : (version n : ℕ) {rows : Condition} → All (FitsRow version n) rows → length (join_all (write_row version) rows) ≡ length rows * row_bytes version n
unfolding join_all
rows_long version n none = omega arith
rows_long version n (more {a = r} {xs = rows} h hs) =
    length-append (write_row version r) (join_all (write_row version) rows)
    ∙ ap (λ (k : ℕ). k + length (join_all (write_row version) rows)) (row-long version n r h)
    ∙ ap (λ (k : ℕ). row_bytes version n + k) (rows_long version n hs)
    ∙ one_more (length rows) (row_bytes version n)

module _ (f : Condition → Condition) (short : Shortens f) where
  -- part by part, it can be written
  condition-writable : (version most n : ℕ) (rows : Condition) → WritableCondition version most n rows → WritableCondition version most n (f rows)
  condition-writable version most n rows w =
      record { few = le_trans (short.few rows) w.few; fit = short.fits version n rows w.fit }

  mode-writable : (version n : ℕ) (m : Mode) → WritableMode version n m → WritableMode version n (changed_mode f m)
  unfolding changed_mode
  mode-writable version n m w = record {
    start = w.start;
    initial = condition-writable version _ n m.initial w.initial;
    invariant = condition-writable version 8 n m.invariant w.invariant;
    flow = condition-writable version 8 n m.flow w.flow;
  }

  switch-writable : (version n alphabet modes : ℕ) (x : Switch) → WritableSwitch version n alphabet modes x → WritableSwitch version n alphabet modes (changed_switch f x)
  unfolding changed_switch
  switch-writable version n alphabet modes x w = record {
    source = w.source;
    target = w.target;
    most = w.most;
    label = w.label;
    jump = condition-writable version 8 (2 * n) x.jump w.jump;
  }

  component-writable : (version n : ℕ) (c : Component) → WritableComponent version n c → WritableComponent version n (changed_component f c)
  unfolding changed_component
  component-writable version n c w =
      let modes : length (map (changed_mode f) c.modes) ≡ length c.modes = length-map c.modes (changed_mode f) in
      let switches : length (map (changed_switch f) c.switches) ≡ length c.switches = length-map c.switches (changed_switch f) in
      record {
        small = w.small;
        even = w.even;
        least = subst (λ (k : ℕ). 1 ≤ k) (sym modes) w.least;
        most = subst (λ (k : ℕ). k ≤ 8) (sym modes) w.most;
        few = subst (λ (k : ℕ). k ≤ 32) (sym switches) w.few;
        modes = all-mapped (changed_mode f) (mode-writable version n) w.modes;
        switches = subst
            (λ (k : ℕ). All (WritableSwitch version n c.alphabet k) (map (changed_switch f) c.switches))
            (sym modes)
            (all-mapped (changed_switch f) (switch-writable version n c.alphabet (length c.modes)) w.switches);
      }

  unsafe-writable : (version n : ℕ) (components : List Component) (u : Unsafe) → WritableUnsafe version n components u → WritableUnsafe version n (map (changed_component f) components) (changed_unsafe f u)
  unfolding changed_unsafe
  unsafe-writable version n components u w = record {
    modes = paired-map (changed_component f)
        (λ c v t. subst (λ (k : ℕ). T (ltb v k || eqb v 255)) (sym (modes-kept f c)) t)
        w.modes;
    rows = condition-writable version 8 n u.rows w.rows;
  }

  -- the whole can be written
  pub changed-writable : (m : Model) → Writable m → Writable (changed f m)
  unfolding changed
  changed-writable m w =
      let components : length (map (changed_component f) m.components) ≡ length m.components = length-map m.components (changed_component f) in
      let unsafe : length (map (changed_unsafe f) m.unsafe) ≡ length m.unsafe = length-map m.unsafe (changed_unsafe f) in
      record {
        version = w.version;
        paper = w.paper;
        least = w.least;
        most = w.most;
        owned = w.owned;
        owners = subst (λ (k : ℕ). All (λ o. o < k) m.owners) (sym components) w.owners;
        some = subst (λ (k : ℕ). 1 ≤ k) (sym components) w.some;
        few = subst (λ (k : ℕ). k ≤ 4) (sym components) w.few;
        conditions = subst (λ (k : ℕ). k ≤ 16) (sym unsafe) w.conditions;
        components = all-mapped (changed_component f) (component-writable m.version m.variables) w.components;
        unsafe = all-mapped (changed_unsafe f) (unsafe-writable m.version m.variables m.components) w.unsafe;
      }

  -- part by part, it takes no more bytes
  condition-no-more : (version most n : ℕ) (rows : Condition) → WritableCondition version most n rows → NoMore (write_condition version (f rows)) (write_condition version rows)
  unfolding write_condition
  condition-no-more version most n rows w =
      let after = rows_long version n (short.fits version n rows w.fit) in
      let before = rows_long version n w.fit in
      record { most = omega (arith, mul-le-mul_right (row_bytes version n) (short.few rows)) }

  mode-no-more : (version n : ℕ) (m : Mode) → WritableMode version n m → NoMore (write_mode version (changed_mode f m)) (write_mode version m)
  unfolding write_mode changed_mode
  mode-no-more version n m w =
      then-no-more (as_many (m.start ∷ []) (m.start ∷ []) refl)
      (then-no-more (condition-no-more version _ n m.initial w.initial)
      (then-no-more (condition-no-more version 8 n m.invariant w.invariant) (condition-no-more version 8 n m.flow w.flow)))

  switch-no-more : (version n alphabet modes : ℕ) (x : Switch) → WritableSwitch version n alphabet modes x → NoMore (write_switch version (changed_switch f x)) (write_switch version x)
  unfolding write_switch changed_switch
  switch-no-more version n alphabet modes x w =
      then-no-more (as_many (x.source ∷ x.target ∷ x.label ∷ []) (x.source ∷ x.target ∷ x.label ∷ []) refl)
      (condition-no-more version 8 (2 * n) x.jump w.jump)

  component-no-more : (version n : ℕ) (c : Component) → WritableComponent version n c → NoMore (write_component version (changed_component f c)) (write_component version c)
  unfolding write_component changed_component
  component-no-more version n c w =
      then-no-more (as_many (half c.alphabet) (half c.alphabet) refl)
      (then-no-more (as_many (_ ∷ _ ∷ []) (_ ∷ _ ∷ []) refl)
      (then-no-more
      (joined-no-more (write_mode version) (changed_mode f) (mode-no-more version n) w.modes)
      (joined-no-more (write_switch version) (changed_switch f) (switch-no-more version n c.alphabet (length c.modes)) w.switches)))

  unsafe-no-more : (version n : ℕ) (components : List Component) (u : Unsafe) → WritableUnsafe version n components u → NoMore (write_unsafe version (changed_unsafe f u)) (write_unsafe version u)
  unfolding write_unsafe changed_unsafe
  unsafe-no-more version n components u w =
      then-no-more (as_many u.modes u.modes refl) (condition-no-more version 8 n u.rows w.rows)

  body-no-more : (m : Model) → Writable m → NoMore (write_body (changed f m)) (write_body m)
  unfolding write_body write_fields changed
  body-no-more m w =
      then-no-more (as_many (write_paper m.version m.paper) (write_paper m.version m.paper) refl)
      (then-no-more (as_many (_ ∷ _ ∷ _ ∷ []) (_ ∷ _ ∷ _ ∷ []) refl)
      (then-no-more (as_many m.owners m.owners refl)
      (then-no-more
      (joined-no-more (write_component m.version) (changed_component f) (component-no-more m.version m.variables) w.components)
      (joined-no-more (write_unsafe m.version) (changed_unsafe f) (unsafe-no-more m.version m.variables m.components) w.unsafe))))

  -- the whole takes no more bytes
  pub changed-length : (m : Model) → Writable m → length (write_model (changed f m)) ≤ length (write_model m)
  changed-length m w =
      let body = (body-no-more m w).most in
      omega (arith, written-size (changed f m), written-size m)
