-- The order of rows, and inserting a row among sorted ones: rows that stand nowhere before each other are the same row, and what is
-- inserted among strictly ascending rows leaves them so. Assumes nothing.
use mathlib.Core.Path.{◌≡◌, refl, sym, ap, ap₂, ◌∙◌, subst}
use mathlib.Core.Bool.{Bool, true, false, not, ◌&&◌, and_assoc}
use mathlib.Core.List.{List, [], ◌∷◌, ◌++◌, head-eq_of_cons-eq, tail-eq_of_cons-eq}
use Prim.Native.Nat.{ℕ, suc, ◌+◌, ◌≤◌}
use native.Mathlib.Omega.{arith}
use lib.Dec.{T}
use lib.IntN.{ℤ}
use lib.ListN.{length, length-append}
use lib.Signed.{lt_z, lt_z_no, ◌≤ℤ◌}
use Rattle.farkas.specs.Lists.{every, All, none, more}
use Rattle.farkas.specs.Rows.{Row}
use Rattle.farkas.proofs.Order.{≤-antisym}
use Rattle.fair_rows.specs.FairRows.{Order, lower, same, higher, order_of, first_of, order, mark_of, keys_of, placed, insert, insert_all}

-- The three ways to stand to each other are different
code : Order → ℕ
code lower = 0
code same = 1
code higher = 2

differ : {A : Type 0} (x y : Order) → (code x ≡ code y → ⊥) → x ≡ y → A
differ x y h e = absurd (h (ap code e))

pub lower-same : {A : Type 0} → ◌≡◌ {A = Order} lower same → A
unfolding code
lower-same = differ lower same (λ e. omega arith)

higher-same : {A : Type 0} → ◌≡◌ {A = Order} higher same → A
unfolding code
higher-same = differ higher same (λ e. omega arith)

pub lower-higher : {A : Type 0} → ◌≡◌ {A = Order} lower higher → A
unfolding code
lower-higher = differ lower higher (λ e. omega arith)

same-higher : {A : Type 0} → ◌≡◌ {A = Order} same higher → A
unfolding code
same-higher = differ same higher (λ e. omega arith)

-- Numbers, and lists of numbers, neither of which stands before the other are the same
pub not-lt : (x y : ℤ) → lt_z x y ≡ false → y ≤ℤ x
not-lt x y e = lt_z_no (subst (λ b. T (not b)) (sym e) tt)

numbers-same : (x y : ℤ) → order_of (lt_z x y) (lt_z y x) ≡ same → x ≡ y
unfolding order_of
numbers-same x y h = go (lt_z x y) (lt_z y x) refl refl h
  where
    go : (a b : Bool) → lt_z x y ≡ a → lt_z y x ≡ b → order_of a b ≡ same → x ≡ y
    go true b e f h = lower-same h
    go false true e f h = higher-same h
    go false false e f h = ≤-antisym x y (not-lt y x f) (not-lt x y e)

first-same : (a b : Order) → first_of a b ≡ same → (a ≡ same) × (b ≡ same)
unfolding first_of
first-same lower b h = lower-same h
first-same higher b h = higher-same h
first-same same b h = (refl, h)

pub order_same : (xs ys : List ℤ) → order xs ys ≡ same → xs ≡ ys
unfolding order
order_same [] [] h = refl
order_same [] (y ∷ ys) h = lower-same h
order_same (x ∷ xs) [] h = higher-same h
order_same (x ∷ xs) (y ∷ ys) h =
    let w = first-same (order_of (lt_z x y) (lt_z y x)) (order xs ys) h in
    ap₂ (λ (z : ℤ) (zs : List ℤ). z ∷ zs) (numbers-same x y w.0) (order_same xs ys w.1)

-- The order turned round
turned-one : (a b : Bool) (o u : Order) → (o ≡ higher → u ≡ lower) → first_of (order_of a b) o ≡ higher → first_of (order_of b a) u ≡ lower
unfolding first_of order_of
turned-one true true o u f h = refl
turned-one true false o u f h = lower-higher h
turned-one false true o u f h = refl
turned-one false false o u f h = f h

pub turned : (xs ys : List ℤ) → order xs ys ≡ higher → order ys xs ≡ lower
unfolding order
turned [] [] h = same-higher h
turned [] (y ∷ ys) h = lower-higher h
turned (x ∷ xs) [] h = refl
turned (x ∷ xs) (y ∷ ys) h = turned-one (lt_z x y) (lt_z y x) (order xs ys) (order ys xs) (turned xs ys) h

-- A row is known by its keys: the mark is the last, the bound the one before it
pub ends : (xs ys us vs : List ℤ) → length us ≡ length vs → xs ++ us ≡ ys ++ vs → (xs ≡ ys) × (us ≡ vs)
ends [] [] us vs l e = (refl, e)
ends [] (y ∷ ys) us vs l e = absurd (omega (arith, ap (length {A = ℤ}) e, length-append (y ∷ ys) vs))
ends (x ∷ xs) [] us vs l e = absurd (omega (arith, ap (length {A = ℤ}) e, length-append (x ∷ xs) us))
ends (x ∷ xs) (y ∷ ys) us vs l e =
    let w = ends xs ys us vs l (tail-eq_of_cons-eq e) in
    (ap₂ (λ (z : ℤ) (zs : List ℤ). z ∷ zs) (head-eq_of_cons-eq e) w.0, w.1)

marks : (s t : Bool) → mark_of s ≡ mark_of t → s ≡ t
unfolding mark_of
marks true true e = refl
marks true false e = let z : ◌≡◌ {A = ℕ} 1 0 = cc in absurd (omega arith)
marks false true e = let z : ◌≡◌ {A = ℕ} 0 1 = cc in absurd (omega arith)
marks false false e = refl

pub row_same : (r x : Row) → order (keys_of r) (keys_of x) ≡ same → r ≡ x
unfolding keys_of
row_same r x h =
    let us = r.bound ∷ mark_of r.strict ∷ [] in
    let vs = x.bound ∷ mark_of x.strict ∷ [] in
    let w = ends r.coefficients x.coefficients us vs refl (order_same (r.coefficients ++ us) (x.coefficients ++ vs) h) in
    let s = marks r.strict x.strict (head-eq_of_cons-eq (tail-eq_of_cons-eq w.1)) in
    λ i. record { coefficients = w.0 i; bound = head-eq_of_cons-eq w.1 i; strict = s i }

-- Rows strictly ascending
pub data Above (x : Row) : List Row → Type 0 where
  first : Above x []
  before : {y : Row} {ys : List Row} → order (keys_of x) (keys_of y) ≡ lower → Above x (y ∷ ys)

pub data Ascending : List Row → Type 0 where
  done : Ascending []
  rise : {x : Row} {xs : List Row} → Above x xs → Ascending xs → Ascending (x ∷ xs)

placed-above :
    (o : Order) (x r y : Row) (ys zs : List Row)
    → order (keys_of x) (keys_of r) ≡ lower → order (keys_of x) (keys_of y) ≡ lower → Above x (placed o r y ys zs)
unfolding placed
placed-above lower x r y ys zs h e = before h
placed-above same x r y ys zs h e = before e
placed-above higher x r y ys zs h e = before e

insert-above : (x r : Row) (xs : List Row) → order (keys_of x) (keys_of r) ≡ lower → Above x xs → Above x (insert r xs)
unfolding insert
insert-above x r [] h a = before h
insert-above x r (y ∷ ys) h (before e) = placed-above (order (keys_of r) (keys_of y)) x r y ys (insert r ys) h e

pub insert-ascending : (r : Row) (xs : List Row) → Ascending xs → Ascending (insert r xs)
unfolding insert placed
insert-ascending r [] a = rise first done
insert-ascending r (x ∷ xs) (rise b a) = go (order (keys_of r) (keys_of x)) refl (insert-ascending r xs a)
  where
    go : (o : Order) → order (keys_of r) (keys_of x) ≡ o → Ascending (insert r xs) → Ascending (placed o r x xs (insert r xs))
    go lower e k = rise (before e) (rise b a)
    go same e k = rise b a
    go higher e k = rise (insert-above x r xs (turned (keys_of r) (keys_of x) e) b) k

-- a row that stands before all others is put in front of them
pub insert-first : (x : Row) (xs : List Row) → Above x xs → insert x xs ≡ x ∷ xs
unfolding insert placed
insert-first x [] a = refl
insert-first x (y ∷ ys) (before e) = ap (λ (o : Order). placed o x y ys (insert x ys)) e

-- What every inserted row and every other row passes, all pass: no row is lost or added
insert-every : (f : Row → Bool) (r : Row) (xs : List Row) → every f (insert r xs) ≡ (f r && every f xs)
unfolding insert placed every
insert-every f r [] = refl
insert-every f r (x ∷ xs) = go (order (keys_of r) (keys_of x)) refl (insert-every f r xs)
  where
    turn : (a b c : Bool) → (a && (b && c)) ≡ (b && (a && c))
    turn true true c = refl
    turn true false c = refl
    turn false true c = refl
    turn false false c = refl

    twice : (a c : Bool) → (a && c) ≡ (a && (a && c))
    twice true c = refl
    twice false c = refl

    go : (o : Order) → order (keys_of r) (keys_of x) ≡ o → every f (insert r xs) ≡ (f r && every f xs) → every f (placed o r x xs (insert r xs)) ≡ (f r && (f x && every f xs))
    go lower e k = refl
    go same e k = twice (f x) (every f xs) ∙ ap (λ (y : Row). f y && (f x && every f xs)) (sym (row_same r x e))
    go higher e k = ap (λ (b : Bool). f x && b) k ∙ turn (f x) (f r) (every f xs)

pub insert-all-every : (f : Row → Bool) (rs xs : List Row) → every f (insert_all rs xs) ≡ (every f rs && every f xs)
unfolding insert_all every
insert-all-every f [] xs = refl
insert-all-every f (r ∷ rs) xs =
    insert-every f r (insert_all rs xs)
    ∙ ap (λ (b : Bool). f r && b) (insert-all-every f rs xs)
    ∙ sym (and_assoc (f r) (every f rs) (every f xs))

-- A property of all rows stays
insert-keeps : {P : Row → Type 0} (r : Row) (xs : List Row) → P r → All P xs → All P (insert r xs)
unfolding insert placed
insert-keeps r [] h a = more h none
insert-keeps {P} r (x ∷ xs) h (more k a) = go (order (keys_of r) (keys_of x)) (insert-keeps r xs h a)
  where
    go : (o : Order) → All P (insert r xs) → All P (placed o r x xs (insert r xs))
    go lower w = more h (more k a)
    go same w = more k a
    go higher w = more k w

pub insert-all-keeps : {P : Row → Type 0} (rs xs : List Row) → All P rs → All P xs → All P (insert_all rs xs)
unfolding insert_all
insert-all-keeps [] xs h a = a
insert-all-keeps (r ∷ rs) xs (more k h) a = insert-keeps r (insert_all rs xs) k (insert-all-keeps rs xs h a)

-- Inserting adds one row at most
insert-length : (r : Row) (xs : List Row) → length (insert r xs) ≤ suc (length xs)
unfolding insert placed
insert-length r [] = omega arith
insert-length r (x ∷ xs) = go (order (keys_of r) (keys_of x)) (insert-length r xs)
  where
    go : (o : Order) → length (insert r xs) ≤ suc (length xs) → length (placed o r x xs (insert r xs)) ≤ suc (suc (length xs))
    go lower h = omega arith
    go same h = omega arith
    go higher h = omega arith

pub insert-all-length : (rs xs : List Row) → length (insert_all rs xs) ≤ length rs + length xs
unfolding insert_all
insert-all-length [] xs = omega arith
insert-all-length (r ∷ rs) xs = omega (arith, insert-length r (insert_all rs xs), insert-all-length rs xs)

pub insert-all-ascending : (rs xs : List Row) → Ascending xs → Ascending (insert_all rs xs)
unfolding insert_all
insert-all-ascending [] xs a = a
insert-all-ascending (r ∷ rs) xs a = insert-ascending r (insert_all rs xs) (insert-all-ascending rs xs a)
