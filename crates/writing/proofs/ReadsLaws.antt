-- Reading what was written: bytes that a reading passes wherever they stand, and what it gives then. A law for each way of putting
-- readings together. Assumes nothing.
use mathlib.Core.Path.{◌≡◌, refl, sym, ap, ap₂, ◌∙◌, subst}
use mathlib.Core.Bool.{Bool, true, false, cond, ◌&&◌}
use mathlib.Core.List.{List, [], ◌∷◌, ◌++◌, map, append-nil, append_assoc}
use Prim.Native.Nat.{ℕ, ◌+◌, ◌≤◌, ◌<◌}
use native.Mathlib.Omega.{arith}
use lib.Dec.{T, leb, ltb}
use lib.ListN.{length, take, drop, length-append}
use borrow.Author.Tests.{le-leb, lt-ltb}
use Rattle.farkas.specs.Lists.{All, none, more}
use Rattle.formats.specs.Reading.{got, refused, Reader, ◌>>=◌, ◌>>◌, give, here, big_endian, field, u8, passing, must, within, below, many, each}
use Rattle.formats.specs.Joint.{join_all}
use Rattle.formats.proofs.Gives.{bind-got}

-- a reading of these bytes, wherever they stand, passes them all and gives a value with the property
pub record Reads {A : Type 0} (r : Reader A) (bytes : List ℕ) (P : A → Type 0) : Type 0 where
  pub value : (before after : List ℕ) → A
  pub reads : (before after : List ℕ) → r (before ++ (bytes ++ after)) (length before) ≡ got (value before after) (length before + length bytes)
  pub right : (before after : List ℕ) → P (value before after)

-- one after the other
pub reads_then : {A B : Type 0} {r : Reader A} {k : A → Reader B} {xs ys : List ℕ} {P : A → Type 0} {Q : B → Type 0} → Reads r xs P → ((a : A) → P a → Reads (k a) ys Q) → Reads (r >>= k) (xs ++ ys) Q
reads_then {r = r} {k = k} {xs = xs} {ys = ys} one two = record {
  value = λ before after. (two (one.value before (ys ++ after)) (one.right before (ys ++ after))).value (before ++ xs) after;
  reads = λ before after.
      let a = one.value before (ys ++ after) in
      let w = two a (one.right before (ys ++ after)) in
      let whole = before ++ ((xs ++ ys) ++ after) in
      let in_two : whole ≡ before ++ (xs ++ (ys ++ after)) = ap (λ l. before ++ l) (append_assoc xs ys after) in
      let passed : whole ≡ (before ++ xs) ++ (ys ++ after) = in_two ∙ sym (append_assoc before xs (ys ++ after)) in
      let place : length (before ++ xs) ≡ length before + length xs = length-append before xs in
      let end : length (before ++ xs) + length ys ≡ length before + length (xs ++ ys) = omega (arith, place, length-append xs ys) in
      bind-got r k whole (length before)
      (ap (λ l. r l (length before)) in_two ∙ one.reads before (ys ++ after))
      (ap₂ (λ l p. k a l p) passed (sym place) ∙ w.reads (before ++ xs) after ∙ ap (λ p. got (w.value (before ++ xs) after) p) end);
  right = λ before after. (two (one.value before (ys ++ after)) (one.right before (ys ++ after))).right (before ++ xs) after;
}

-- the last of several: nothing is left
pub reads-last : {A B : Type 0} {r : Reader A} {k : A → Reader B} {xs : List ℕ} {P : A → Type 0} {Q : B → Type 0} → Reads r xs P → ((a : A) → P a → Reads (k a) [] Q) → Reads (r >>= k) xs Q
reads-last {r = r} {k = k} {xs = xs} {Q = Q} one two = subst (λ ys. Reads (r >>= k) ys Q) (append-nil xs) (reads_then one two)

-- a value that is not used
then-bind : {A B : Type 0} (r : Reader A) (t : Reader B) → (r >> t) ≡ (r >>= (λ a. t))
unfolding ◌>>=◌ ◌>>◌
then-bind r t = refl

pub reads-next : {A B : Type 0} {r : Reader A} {t : Reader B} {xs ys : List ℕ} {P : A → Type 0} {Q : B → Type 0} → Reads r xs P → Reads t ys Q → Reads (r >> t) (xs ++ ys) Q
reads-next {r = r} {t = t} {xs = xs} {ys = ys} {Q = Q} one two =
    subst (λ (x : Reader _). Reads x (xs ++ ys) Q) (sym (then-bind r t)) (reads_then one (λ a h. two))

-- no bytes
nought : (n : ℕ) → n ≡ n + 0
nought n = omega arith

pub reads-give : {A : Type 0} {P : A → Type 0} (a : A) → P a → Reads (give a) [] P
unfolding give
reads-give a x = record {
  value = λ before after. a;
  reads = λ before after. ap (λ (p : ℕ). got a p) (nought (length before));
  right = λ before after. x;
}

pub reads_here : Reads here [] (λ p. Unit {0})
unfolding here
reads_here = record {
  value = λ before after. length before;
  reads = λ before after. ap (λ (p : ℕ). got (length before) p) (nought (length before));
  right = λ before after. tt;
}

-- a field of some bytes
drop-before : (xs ys : List ℕ) → drop (length xs) (xs ++ ys) ≡ ys
drop-before [] ys = refl
drop-before (x ∷ xs) ys = drop-before xs ys

take-first : (xs ys : List ℕ) → take (length xs) (xs ++ ys) ≡ xs
take-first [] ys = refl
take-first (x ∷ xs) ys = ap (λ r. x ∷ r) (take-first xs ys)

pub reads-field : (xs : List ℕ) → Reads (field (length xs)) xs (λ v. v ≡ big_endian xs)
unfolding field
reads-field xs = record {
  value = λ before after. big_endian xs;
  reads = λ before after.
      let whole = before ++ (xs ++ after) in
      let long : length before + length xs ≤ length whole = omega (arith, length-append before (xs ++ after), length-append xs after) in
      let part : take (length xs) (drop (length before) whole) ≡ xs = ap (take (length xs)) (drop-before before (xs ++ after)) ∙ take-first xs after in
      ap₂ (λ (b : Bool) (l : List ℕ). cond b (got (big_endian l) (length before + length xs)) (refused 4 (length before))) (le-leb (length before + length xs) (length whole) long) part;
  right = λ before after. refl;
}

-- a byte
one_byte : (v : ℕ) → big_endian (v ∷ []) ≡ v
unfolding big_endian
one_byte v = omega arith

pub reads_byte : (v : ℕ) → Reads u8 (v ∷ []) (λ x. x ≡ v)
unfolding u8
reads_byte v = subst (λ (n : ℕ). Reads (field 1) (v ∷ []) (λ x. x ≡ n)) (one_byte v) (reads-field (v ∷ []))

-- a field that must pass a test
yes-so : (b : Bool) → T b → b ≡ true
yes-so true h = refl
yes-so false h = absurd h

pub reads-must : {A : Type 0} {P : A → Type 0} {r : Reader A} {xs : List ℕ} (test : A → Bool) (number : ℕ) → Reads r xs P → ((a : A) → P a → T (test a)) → Reads (must test number r) xs P
unfolding must passing
reads-must {xs = xs} test number w good = record {
  value = w.value;
  reads = λ before after.
      let a = w.value before after in
      ap (passing test number (length before)) (w.reads before after)
      ∙ ap (λ b. cond b (got a (length before + length xs)) (refused number (length before))) (yes-so (test a) (good a (w.right before after)));
  right = w.right;
}

-- a byte that passes it, one in a range, one below a count
pub reads-tested : (test : ℕ → Bool) (number v : ℕ) → T (test v) → Reads (must test number u8) (v ∷ []) (λ x. x ≡ v)
reads-tested test number v t = reads-must test number (reads_byte v) (λ x e. subst (λ (n : ℕ). T (test n)) (sym e) t)

pub reads-within : (least most v : ℕ) → least ≤ v → v ≤ most → Reads (within least most u8) (v ∷ []) (λ x. x ≡ v)
unfolding within
reads-within least most v low high =
    reads-tested (λ x. leb least x && leb x most) 5 v
    (subst T (sym (ap₂ (λ (a b : Bool). a && b) (le-leb least v low) (le-leb v most high))) tt)

pub reads-below : (count v : ℕ) → v < count → Reads (below count u8) (v ∷ []) (λ x. x ≡ v)
unfolding below
reads-below count v h = reads-tested (λ x. ltb x count) 5 v (subst T (sym (lt-ltb v count h)) tt)

-- the same reading for each element of a list. What is read is the same as what was written in what a function tells of it
reads-list : {A B : Type 0} {r : Reader A} (write : A → List ℕ) (tell : A → B) (xs : List A) → All (λ x. Reads r (write x) (λ a. tell a ≡ tell x)) xs → Reads (many (length xs) r) (join_all write xs) (λ ys. map tell ys ≡ map tell xs)
unfolding many join_all
reads-list write tell [] none = reads-give [] refl
reads-list write tell (x ∷ xs) (more w ws) =
    reads_then w
    (λ a h. reads-last (reads-list write tell xs ws) (λ ys k. reads-give (a ∷ ys) (ap₂ (λ b bs. b ∷ bs) h k)))

pub reads-many : {A B : Type 0} {r : Reader A} (write : A → List ℕ) (tell : A → B) (n : ℕ) (xs : List A) → n ≡ length xs → All (λ x. Reads r (write x) (λ a. tell a ≡ tell x)) xs → Reads (many n r) (join_all write xs) (λ ys. map tell ys ≡ map tell xs)
reads-many {r = r} write tell n xs e ws =
    subst (λ (k : ℕ). Reads (many k r) (join_all write xs) (λ ys. map tell ys ≡ map tell xs)) (sym e) (reads-list write tell xs ws)

-- bytes, each by the same reading
reads_all : {r : Reader ℕ} (vs : List ℕ) → All (λ v. Reads r (v ∷ []) (λ x. x ≡ v)) vs → Reads (many (length vs) r) vs (λ xs. xs ≡ vs)
unfolding many
reads_all [] none = reads-give [] refl
reads_all (v ∷ vs) (more w ws) =
    reads_then w
    (λ x h. reads-last (reads_all vs ws) (λ xs k. reads-give (x ∷ xs) (ap₂ (λ b bs. b ∷ bs) h k)))

pub reads_bytes : {r : Reader ℕ} (n : ℕ) (vs : List ℕ) → n ≡ length vs → All (λ v. Reads r (v ∷ []) (λ x. x ≡ v)) vs → Reads (many n r) vs (λ xs. xs ≡ vs)
reads_bytes {r = r} n vs e ws = subst (λ (k : ℕ). Reads (many k r) vs (λ xs. xs ≡ vs)) (sym e) (reads_all vs ws)

-- two lists, element by element
pub data Paired {A B : Type 0} (P : A → B → Type 0) : List A → List B → Type 0 where
  paired_none : Paired P [] []
  paired-more : {a : A} {b : B} {xs : List A} {ys : List B} → P a b → Paired P xs ys → Paired P (a ∷ xs) (b ∷ ys)

pub paired-map : {A B C : Type 0} {P : A → B → Type 0} {Q : C → B → Type 0} {xs : List A} {ys : List B} (g : A → C) → ((a : A) (b : B) → P a b → Q (g a) b) → Paired P xs ys → Paired Q (map g xs) ys
paired-map g f paired_none = paired_none
paired-map g f (paired-more {a = a} {b = b} h hs) = paired-more (f a b h) (paired-map g f hs)

pub paired-back : {A B C : Type 0} {P : A → B → Type 0} {Q : C → B → Type 0} {ys : List B} (g : A → C) → ((a : A) (b : B) → Q (g a) b → P a b) → (xs : List A) → Paired Q (map g xs) ys → Paired P xs ys
paired-back g f [] paired_none = paired_none
paired-back g f (x ∷ xs) (paired-more {b = b} h hs) = paired-more (f x b h) (paired-back g f xs hs)

-- bytes, each by the reading for its element
pub reads-each : {A : Type 0} {f : A → Reader ℕ} {xs : List A} {vs : List ℕ} → Paired (λ a v. Reads (f a) (v ∷ []) (λ x. x ≡ v)) xs vs → Reads (each f xs) vs (λ ys. ys ≡ vs)
unfolding each
reads-each paired_none = reads-give [] refl
reads-each (paired-more w ws) =
    reads_then w (λ x h. reads-last (reads-each ws) (λ ys k. reads-give (x ∷ ys) (ap₂ (λ b bs. b ∷ bs) h k)))
