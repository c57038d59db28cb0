-- Unsafe conditions read into an index: the law of a loop that reads once for each element of a list, the byte that names a mode, and
-- components that stay the same while only numbers after their blocks change. Assumes nothing.
use mathlib.Core.Path.{◌≡◌, refl, sym, ap, ◌∙◌, subst}
use mathlib.Core.Bool.{Bool, true, false, ◌||◌}
use mathlib.Core.List.{List, [], ◌∷◌, ◌++◌, map, append-nil}
use Prim.Native.Nat.{ℕ, zero, suc, ◌+◌, ◌*◌, ◌≤◌, ◌<◌}
use native.Mathlib.Numerals.{add-one}
use native.Mathlib.Omega.{arith}
use lib.Dec.{T, ltb, eqb, ltb→lt}
use lib.ListN.{length, drop, length-map, drop_of_length-le}
use borrow.Author.Tests.{eqb-true}
use Rattle.fields.proofs.AnswerLaws.{Next}
use Rattle.formats.specs.Reading.{Got, got, refused, Reader, and_then, ◌>>=◌, give, u8, must, each}
use Rattle.formats.specs.Rows.{Condition, read_condition}
use Rattle.formats.specs.Model.{Component, read_unsafe}
use Rattle.formats.specs.Joint.{count_up}
use Rattle.models.specs.Index.{entry, component_place, mode_place, span_rows, mode_from, component_from, components_from, unsafe_from, Kept}
use Rattle.fields.specs.Answers.{got_as}
use Rattle.formats.proofs.Gives.{bind-got, tested}
use Rattle.fields.proofs.Skipping.{bind-refused}
use Rattle.fields.proofs.ReadLoop.{onto, up_to, up-to-same, up-to-snoc, onto-nil, onto-cons}
use Rattle.formats.proofs.FieldLaws.{numbered}
use Rattle.models.proofs.ComponentLaws.{component-same}
use Rattle.models.proofs.IndexLaws.{AgreeOn, span_same}
use Rattle.fields.proofs.ChainLaws.{last-got}

-- A loop that reads once for each element: i values are read, told by g, and the rest is read from p on for the elements from i on
module _ {A B : Type 0} (f : A → Reader B) (xs : List A) (s : List ℕ) (whole : Got (List B)) where
  abbrev pub ReadingEach : (ℕ → B) → ℕ → ℕ → Type 0
  ReadingEach g i p = onto (up_to g i) (each f (drop i xs) s p) ≡ whole

  pub each-starts : (g : ℕ → B) (p : ℕ) → each f xs s p ≡ whole → ReadingEach g 0 p
  unfolding up_to count_up
  each-starts g p e = onto-nil (each f xs s p) ∙ e

  -- a turn
  pub each-goes-on : (g h : ℕ → B) (i p next : ℕ) (x : A) → ReadingEach g i p → drop i xs ≡ x ∷ drop (i + 1) xs → f x s p ≡ got (h i) next → ((j : ℕ) → j < i → h j ≡ g j) → ReadingEach h (i + 1) next
  unfolding each ◌>>=◌ and_then
  each-goes-on g h i p next x e d read same =
      ap (λ (k : ℕ). onto (up_to h k) (each f (drop (i + 1) xs) s next)) (add-one i)
      ∙ ap (λ ys. onto ys (each f (drop (i + 1) xs) s next)) (up-to-snoc h i ∙ ap (λ ys. ys ++ (h i ∷ [])) (up-to-same h g i same))
      ∙ sym (onto-cons (up_to g i) (h i) (each f (drop (i + 1) xs) s next) s)
      ∙ ap (λ y. onto (up_to g i) y) (sym (ap (λ y. and_then y (λ b. each f (drop (i + 1) xs) >>= λ rest. give (b ∷ rest)) s) read))
      ∙ ap (λ ys. onto (up_to g i) (each f ys s p)) (sym d)
      ∙ e

  -- a refusal
  pub each-stops : (g : ℕ → B) (i p number place : ℕ) (x : A) → ReadingEach g i p → drop i xs ≡ x ∷ drop (i + 1) xs → f x s p ≡ refused number place → refused number place ≡ whole
  unfolding each ◌>>=◌ onto and_then
  each-stops g i p number place x e d read =
      ap (λ y. onto (up_to g i) y) (sym (ap (λ y. and_then y (λ b. each f (drop (i + 1) xs) >>= λ rest. give (b ∷ rest)) s) read))
      ∙ ap (λ ys. onto (up_to g i) (each f ys s p)) (sym d)
      ∙ e

  -- the end
  pub each-ends : (g : ℕ → B) (i p : ℕ) → ReadingEach g i p → length xs ≤ i → got (up_to g i) p ≡ whole
  unfolding each give onto
  each-ends g i p e h =
      sym (ap (λ ys. got ys p) (append-nil (up_to g i)))
      ∙ ap (λ ys. onto (up_to g i) (each f ys s p)) (sym (drop_of_length-le xs h))
      ∙ e

-- how many components and modes an index has, and the k-th component
length-count : (k n : ℕ) → length (count_up k n) ≡ n
unfolding count_up
length-count k zero = refl
length-count k (suc n) = ap suc (length-count (suc k) n)

pub length-up-to : {A : Type 0} (f : ℕ → A) (n : ℕ) → length (up_to f n) ≡ n
unfolding up_to
length-up-to f n = length-map (count_up 0 n) f ∙ length-count 0 n

drop-map : {A : Type 0} (f : ℕ → A) (i k n : ℕ) → k < n → drop k (map f (count_up i n)) ≡ f (i + k) ∷ drop (suc k) (map f (count_up i n))
unfolding count_up
drop-map f i k zero h = absurd (omega arith)
drop-map f i zero (suc n) h = ap (λ (j : ℕ). f j ∷ map f (count_up (suc i) n)) (nothing i)
  where
    nothing : (i : ℕ) → i ≡ i + 0
    nothing i = omega arith
drop-map f i (suc k) (suc n) h =
    drop-map f (suc i) k n (omega arith) ∙ ap (λ (j : ℕ). f j ∷ drop (suc k) (map f (count_up (suc i) n))) (one_more i k)
  where
    one_more : (i k : ℕ) → suc i + k ≡ i + suc k
    one_more i k = omega arith

pub up-to-next : {A : Type 0} (f : ℕ → A) (k n : ℕ) → k < n → drop k (up_to f n) ≡ f k ∷ drop (k + 1) (up_to f n)
unfolding up_to
up-to-next f k n h =
    drop-map f 0 k n h ∙ ap (λ (j : ℕ). f j ∷ drop (suc k) (map f (count_up 0 n))) (from_zero k) ∙ ap (λ (j : ℕ). f k ∷ drop j (map f (count_up 0 n))) (sym (add-one k))
  where
    from_zero : (k : ℕ) → 0 + k ≡ k
    from_zero k = omega arith

module _ (s index : List ℕ) where
  pub components-length : length (components_from s index) ≡ entry index 1
  unfolding components_from up_to
  components-length = length-up-to (λ k. component_from s (entry index 11) (entry index 0) index (component_place k)) (entry index 1)

  pub component-next : (k : ℕ) → k < entry index 1 → drop k (components_from s index) ≡ component_from s (entry index 11) (entry index 0) index (component_place k) ∷ drop (k + 1) (components_from s index)
  unfolding components_from up_to
  component-next k h = up-to-next (λ k. component_from s (entry index 11) (entry index 0) index (component_place k)) k (entry index 1) h

  pub modes-length : (version n block : ℕ) → length (component_from s version n index block).modes ≡ entry index (block + 1)
  unfolding component_from up_to
  modes-length version n block = length-up-to (λ j. mode_from s version n index (mode_place block j)) (entry index (block + 1))

named_small : (modes v : ℕ) (a b : Bool) → ltb v modes ≡ a → eqb v 255 ≡ b → T (a || b) → modes ≤ 8 → v ≤ 255
named_small modes v true b p q t h = let l : v < modes = ltb→lt v modes (subst T (sym p) tt) in omega arith
named_small modes v false true p q t h = omega (arith, eqb-true v 255 q)
named_small modes v false false p q t h = absurd t

pub mode_small : (modes : ℕ) (s : List ℕ) (p v next : ℕ) → modes ≤ 8 → must (numbered modes) 5 u8 s p ≡ got v next → v ≤ 255
unfolding must
mode_small modes s p v next h e =
    named_small modes v (ltb v modes) (eqb v 255) refl refl (tested (numbered modes) 5 p (u8 s p) v next e).passed h

-- the reading of a component's mode, by how many modes the index says that it has
abbrev pub read_mode_byte : Component → Reader ℕ
read_mode_byte m = must (numbered (length m.modes)) 5 u8

pub mode_of : (s index : List ℕ) (version n block modes p : ℕ) {g : Got ℕ} → modes ≡ entry index (block + 1) → must (numbered modes) 5 u8 s p ≡ g → read_mode_byte (component_from s version n index block) s p ≡ g
mode_of s index version n block modes p e h = ap (λ (k : ℕ). must (numbered k) 5 u8 s p) (modes-length s index version n block ∙ sym e) ∙ h

-- the number that says it, while only numbers after the blocks change
pub modes-kept : {from until : ℕ} {xs ys : List ℕ} → Kept from until xs ys → (k : ℕ) → 892 ≤ from → k < 4 → entry ys (17 + 219 * k) ≡ entry xs (component_place k + 1)
unfolding component_place
modes-kept {xs = xs} w k h l = w.kept (17 + 219 * k) (λ p q. omega arith) ∙ ap (entry xs) (one_on_lem (219 * k))
  where
    one_on_lem : (b : ℕ) → 17 + b ≡ 16 + b + 1
    one_on_lem b = omega arith

-- modes, then rows
module _ (version n : ℕ) (components : List Component) (s : List ℕ) (at : ℕ) where
  pub unsafe-refused : (number place : ℕ) → each read_mode_byte components s at ≡ refused number place → read_unsafe version n components s at ≡ refused number place
  unfolding read_unsafe
  unsafe-refused number place e = bind-refused (each read_mode_byte components) _ s at e

  pub unsafe-read : (modes : List ℕ) (next : ℕ) → each read_mode_byte components s at ≡ got modes next → (rows : Condition) (x : Next) → got_as rows x ≡ read_condition version 8 n s next → got_as (record { modes = modes; rows = rows }) x ≡ read_unsafe version n components s at
  unfolding read_unsafe
  unsafe-read modes next one rows x e =
      last-got (read_condition version 8 n) (λ v. record { modes = modes; rows = v }) s next rows x e
      ∙ sym (bind-got (each read_mode_byte components) _ s at one refl)

-- what is read back depends on its numbers alone
pub bytes_same : (c : ℕ) (xs ys : List ℕ) (i : ℕ) → c ≤ 4 → AgreeOn i (i + 4) xs ys → up_to (λ k. entry ys (i + k)) c ≡ up_to (λ k. entry xs (i + k)) c
bytes_same c xs ys i few h = up-to-same (λ k. entry ys (i + k)) (λ k. entry xs (i + k)) c (λ k l. h (i + k) (omega arith) (omega arith))

pub unsafe-same : (s : List ℕ) (version n c : ℕ) (xs ys : List ℕ) (i : ℕ) → c ≤ 4 → AgreeOn i (i + 6) xs ys → unsafe_from s version n c ys i ≡ unsafe_from s version n c xs i
unfolding unsafe_from up_to
unsafe-same s version n c xs ys i few h =
    let a : up_to (λ k. entry ys (i + k)) c ≡ up_to (λ k. entry xs (i + k)) c = bytes_same c xs ys i few (λ j p q. h j (omega arith) (omega arith)) in
    let b : span_rows s version n ys (i + 4) ≡ span_rows s version n xs (i + 4) = span_same s version n xs ys (i + 4) (λ j p q. h j (omega arith) (omega arith)) in
    λ k. record { modes = a k; rows = b k }

-- counts so small that each component's numbers stay in its block
abbrev pub AllBlocks : List ℕ → Type 0
AllBlocks xs = (k : ℕ) → k < entry xs 1 → (entry xs (component_place k + 1) ≤ 8) × (entry xs (component_place k + 2) ≤ 32)

pub components-same : (s xs ys : List ℕ) → entry xs 1 ≤ 4 → AllBlocks xs → AgreeOn 0 892 xs ys → components_from s ys ≡ components_from s xs
unfolding components_from up_to component_place
components-same s xs ys few small h =
    let f : ℕ → ℕ → ℕ → Component = λ version n k. component_from s version n ys (component_place k) in
    ap (λ (c : ℕ). up_to (f (entry ys 11) (entry ys 0)) c) (h 1 (omega arith) (omega arith))
    ∙ ap (λ (version : ℕ). up_to (f version (entry ys 0)) (entry xs 1)) (h 11 (omega arith) (omega arith))
    ∙ ap (λ (n : ℕ). up_to (f (entry xs 11) n) (entry xs 1)) (h 0 (omega arith) (omega arith))
    ∙ up-to-same (f (entry xs 11) (entry xs 0)) (λ k. component_from s (entry xs 11) (entry xs 0) xs (component_place k)) (entry xs 1)
    (λ k l. component-same s (entry xs 11) (entry xs 0) xs ys (16 + 219 * k) (small k l).0 (small k l).1 (λ i p q. h i (omega arith) (omega arith)))
