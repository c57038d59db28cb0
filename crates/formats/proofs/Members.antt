-- Membership in the lists that the definitions make, both ways: a list that is mapped, joined or counted up. Assumes nothing.
use mathlib.Core.Path.{◌≡◌, refl, sym, ap, subst}
use mathlib.Core.Logic.{◌⊎◌, inl, inr, ⊎_elim}
use mathlib.Core.Bool.{Bool, true, false, cond}
use mathlib.Core.List.Memᴰ
use mathlib.Core.List.{List, [], ◌∷◌, ◌++◌, map, Memᴰ}
use Prim.Native.Nat.{ℕ, zero, suc, ◌+◌, ◌-◌, ◌≤◌, ◌<◌}
use native.Mathlib.Nat.{eq-or-lt_of_le}
use native.Mathlib.Omega.{arith}
use lib.Dec.{T}
use lib.ListN.{length, get_or}
use Rattle.formats.specs.Joint.{numbers_from, those, count_up, join_all}
use Rattle.farkas.specs.Lists.{All, none, more}

-- what holds of all holds of a member
pub all_in : {A : Type 0} {P : A → Type 0} {xs : List A} {a : A} → All P xs → Memᴰ a xs → P a
all_in {P = P} (more x rest) d = ⊎_elim (λ e. subst P (sym e) x) (λ k. all_in rest k) (Memᴰ.cases_cons d)
all_in none d = absurd (Memᴰ.not-nil d)

-- what holds of all holds at each index
pub all-below : {A : Type 0} {P : A → Type 0} {xs : List A} → All P xs → (i : ℕ) (d : A) → i < length xs → P (get_or xs i d)
all-below none i d h = absurd (omega arith)
all-below (more x rest) zero d h = x
all-below (more x rest) (suc i) d h = all-below rest i d (omega arith)

-- what holds of each member holds of all
pub all-members : {A : Type 0} {P : A → Type 0} (xs : List A) → ((a : A) → Memᴰ a xs → P a) → All P xs
all-members [] h = none
all-members (x ∷ xs) h = more (h x (Memᴰ.head refl)) (all-members xs (λ a d. h a (Memᴰ.tail d)))

pub all_left : {A : Type 0} {P : A → Type 0} (xs ys : List A) → All P (xs ++ ys) → All P xs
all_left [] ys h = none
all_left (x ∷ xs) ys (more y rest) = more y (all_left xs ys rest)

pub all_right : {A : Type 0} {P : A → Type 0} (xs ys : List A) → All P (xs ++ ys) → All P ys
all_right [] ys h = h
all_right (x ∷ xs) ys (more y rest) = all_right xs ys rest

pub in_map : {A B : Type 0} (f : A → B) {a : A} {xs : List A} → Memᴰ a xs → Memᴰ (f a) (map f xs)
in_map f (Memᴰ.head e) = Memᴰ.head (ap f e)
in_map f (Memᴰ.tail d) = Memᴰ.tail (in_map f d)

-- a member of a mapped list comes from a member
pub record Image {A B : Type 0} (f : A → B) (xs : List A) (b : B) : Type 0 where
  pub of : A
  pub member : Memᴰ of xs
  pub same : b ≡ f of

image-later : {A B : Type 0} {f : A → B} {x : A} {xs : List A} {b : B} → Image f xs b → Image f (x ∷ xs) b
image-later w = record { of = w.of; member = Memᴰ.tail w.member; same = w.same }

pub map-in : {A B : Type 0} (f : A → B) (xs : List A) {b : B} → Memᴰ b (map f xs) → Image f xs b
map-in f [] d = absurd (Memᴰ.not-nil d)
map-in f (x ∷ xs) d =
    ⊎_elim
    (λ e. record { of = x; member = Memᴰ.head refl; same = e })
    (λ k. image-later (map-in f xs k))
    (Memᴰ.cases_cons d)

pub in-joined : {A B : Type 0} (f : A → List B) {a : A} {b : B} (xs : List A) → Memᴰ a xs → Memᴰ b (f a) → Memᴰ b (join_all f xs)
unfolding join_all
in-joined f [] d k = absurd (Memᴰ.not-nil d)
in-joined f {b = b} (x ∷ xs) d k =
    ⊎_elim
    (λ e. Memᴰ.append_left (join_all f xs) (subst (λ y. Memᴰ b (f y)) e k))
    (λ w. Memᴰ.append_right (f x) (in-joined f xs w k))
    (Memᴰ.cases_cons d)

pub record Part {A B : Type 0} (f : A → List B) (xs : List A) (b : B) : Type 0 where
  pub of : A
  pub member : Memᴰ of xs
  pub within : Memᴰ b (f of)

part-later : {A B : Type 0} {f : A → List B} {x : A} {xs : List A} {b : B} → Part f xs b → Part f (x ∷ xs) b
part-later w = record { of = w.of; member = Memᴰ.tail w.member; within = w.within }

pub joined_in : {A B : Type 0} (f : A → List B) (xs : List A) {b : B} → Memᴰ b (join_all f xs) → Part f xs b
unfolding join_all
joined_in f [] d = absurd (Memᴰ.not-nil d)
joined_in f (x ∷ xs) d =
    ⊎_elim
    (λ e. record { of = x; member = Memᴰ.head refl; within = e })
    (λ k. part-later (joined_in f xs k))
    (Memᴰ.append_cases (f x) d)

pub in_count : (k n i : ℕ) → k ≤ i → i < k + n → Memᴰ i (count_up k n)
unfolding count_up
in_count k zero i h w = absurd (omega arith)
in_count k (suc n) i h w =
    ⊎_elim
    (λ e. Memᴰ.head (sym e))
    (λ d. Memᴰ.tail (in_count (suc k) n i d (omega arith)))
    (eq-or-lt_of_le h)

pub count-in : (k n i : ℕ) → Memᴰ i (count_up k n) → (k ≤ i) × (i < k + n)
unfolding count_up
count-in k zero i d = absurd (Memᴰ.not-nil d)
count-in k (suc n) i d =
    ⊎_elim
    (λ e. (omega arith, omega arith))
    (λ w. let v = count-in (suc k) n i w in (omega arith, omega arith))
    (Memᴰ.cases_cons d)

-- the numbers of the elements that pass a test: a member is the number of an element, and passes
pub record Numbered {A : Type 0} (k : ℕ) (test : A → Bool) (xs : List A) (d : A) (i : ℕ) : Type 0 where
  pub from : k ≤ i
  pub until : i < k + length xs
  pub passes : T (test (get_or xs (i - k) d))

numbered-now : {A : Type 0} (k : ℕ) (test : A → Bool) (x : A) (xs : List A) (d : A) (i : ℕ) → i ≡ k → T (test x) → Numbered k test (x ∷ xs) d i
numbered-now k test x xs d i e t =
    record {
      from = omega arith;
      until = omega arith;
      passes = subst (λ (n : ℕ). T (test (get_or (x ∷ xs) n d))) (sym (same i k e)) t;
    }
  where
    same : (i k : ℕ) → i ≡ k → i - k ≡ zero
    same i k e = omega arith

numbered-later : {A : Type 0} (k : ℕ) (test : A → Bool) (x : A) (xs : List A) (d : A) (i : ℕ) → Numbered (suc k) test xs d i → Numbered k test (x ∷ xs) d i
numbered-later k test x xs d i w =
    record {
      from = omega (arith, w.from);
      until = omega (arith, w.until);
      passes = subst (λ (n : ℕ). T (test (get_or (x ∷ xs) n d))) (sym (one_more i k w.from)) w.passes;
    }
  where
    one_more : (i k : ℕ) → suc k ≤ i → i - k ≡ suc (i - suc k)
    one_more i k h = omega arith

numbers-step : {A : Type 0} (k : ℕ) (test : A → Bool) (x : A) (xs : List A) (d : A) (i : ℕ) (rest : List ℕ) (b : Bool) → test x ≡ b → (Memᴰ i rest → Numbered (suc k) test xs d i) → Memᴰ i (cond b (k ∷ rest) rest) → Numbered k test (x ∷ xs) d i
numbers-step k test x xs d i rest true e later w =
    ⊎_elim
    (λ h. numbered-now k test x xs d i h (subst T (sym e) tt))
    (λ v. numbered-later k test x xs d i (later v))
    (Memᴰ.cases_cons w)
numbers-step k test x xs d i rest false e later w = numbered-later k test x xs d i (later w)

pub numbers-in : {A : Type 0} (k : ℕ) (test : A → Bool) (xs : List A) (d : A) (i : ℕ) → Memᴰ i (numbers_from k test xs) → Numbered k test xs d i
unfolding numbers_from
numbers-in k test [] d i w = absurd (Memᴰ.not-nil w)
numbers-in k test (x ∷ xs) d i w =
    numbers-step k test x xs d i (numbers_from (suc k) test xs) (test x) refl (λ v. numbers-in (suc k) test xs d i v) w

in-numbers-step : (k i : ℕ) (rest : List ℕ) (b : Bool) → (i ≡ k → T b) → (k < i → Memᴰ i rest) → k ≤ i → Memᴰ i (cond b (k ∷ rest) rest)
in-numbers-step k i rest true now later h = ⊎_elim (λ e. Memᴰ.head (sym e)) (λ l. Memᴰ.tail (later l)) (eq-or-lt_of_le h)
in-numbers-step k i rest false now later h = ⊎_elim (λ e. absurd (now (sym e))) (λ l. later l) (eq-or-lt_of_le h)

pub in-numbers : {A : Type 0} (k : ℕ) (test : A → Bool) (xs : List A) (d : A) (i : ℕ) → Numbered k test xs d i → Memᴰ i (numbers_from k test xs)
unfolding numbers_from
in-numbers k test [] d i w = absurd (omega (arith, w.from, w.until))
in-numbers k test (x ∷ xs) d i w =
    in-numbers-step k i (numbers_from (suc k) test xs) (test x)
    (λ e. subst (λ (n : ℕ). T (test (get_or (x ∷ xs) n d))) (same i k e) w.passes)
    (λ l. in-numbers (suc k) test xs d i
    (record {
      from = l;
      until = omega (arith, w.until);
      passes = subst (λ (n : ℕ). T (test (get_or (x ∷ xs) n d))) (one_more i k l) w.passes;
    }))
    w.from
  where
    same : (i k : ℕ) → i ≡ k → i - k ≡ zero
    same i k e = omega arith

    one_more : (i k : ℕ) → suc k ≤ i → i - k ≡ suc (i - suc k)
    one_more i k h = omega arith

-- the elements that pass a test: a member is an element, and passes
pub record Chosen {A : Type 0} (test : A → Bool) (xs : List A) (a : A) : Type 0 where
  pub member : Memᴰ a xs
  pub passes : T (test a)

chosen-later : {A : Type 0} {test : A → Bool} {x : A} {xs : List A} {a : A} → Chosen test xs a → Chosen test (x ∷ xs) a
chosen-later w = record { member = Memᴰ.tail w.member; passes = w.passes }

chosen-step : {A : Type 0} (test : A → Bool) (x : A) (xs rest : List A) {a : A} (b : Bool) → test x ≡ b → (Memᴰ a rest → Chosen test xs a) → Memᴰ a (cond b (x ∷ rest) rest) → Chosen test (x ∷ xs) a
chosen-step test x xs rest true e later d =
    ⊎_elim
    (λ k. record { member = Memᴰ.head k; passes = subst (λ y. T (test y)) (sym k) (subst T (sym e) tt) })
    (λ k. chosen-later (later k))
    (Memᴰ.cases_cons d)
chosen-step test x xs rest false e later d = chosen-later (later d)

pub chosen-in : {A : Type 0} (test : A → Bool) (xs : List A) {a : A} → Memᴰ a (those test xs) → Chosen test xs a
unfolding those
chosen-in test [] d = absurd (Memᴰ.not-nil d)
chosen-in test (x ∷ xs) d = chosen-step test x xs (those test xs) (test x) refl (λ k. chosen-in test xs k) d

in-chosen-step : {A : Type 0} (test : A → Bool) (x : A) (rest : List A) {a : A} (b : Bool) → test x ≡ b → T (test a) → (a ≡ x) ⊎ Memᴰ a rest → Memᴰ a (cond b (x ∷ rest) rest)
in-chosen-step test x rest true e t (inl k) = Memᴰ.head k
in-chosen-step test x rest true e t (inr k) = Memᴰ.tail k
in-chosen-step test x rest false e t (inl k) = absurd (subst T e (subst (λ y. T (test y)) k t))
in-chosen-step test x rest false e t (inr k) = k

pub in-chosen : {A : Type 0} (test : A → Bool) (xs : List A) {a : A} → Memᴰ a xs → T (test a) → Memᴰ a (those test xs)
unfolding those
in-chosen test [] d t = absurd (Memᴰ.not-nil d)
in-chosen test (x ∷ xs) d t =
    in-chosen-step test x (those test xs) (test x) refl t
    (⊎_elim (λ k. inl k) (λ k. inr (in-chosen test xs k t)) (Memᴰ.cases_cons d))
