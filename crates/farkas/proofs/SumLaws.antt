-- Laws of sums in a list: how a loop adds one number after another, and that a row so added is a row added (`plus`). Assumes nothing.
use mathlib.Core.Path.{◌≡◌, refl, sym, ap, ap₂, ◌∙◌, subst}
use mathlib.Core.Bool.{Bool, false}
use mathlib.Core.List.{List, [], ◌∷◌, ◌++◌, map}
use Prim.Native.Nat.{ℕ, zero, suc, ◌+◌, ◌*◌, ◌-◌, ◌^◌, ◌≤◌, ◌<◌}
use native.Mathlib.Nat.{mul-le-mul_left}
use native.Mathlib.Numerals.{add-one}
use native.Mathlib.Omega.{arith}
use lib.IntN.{ℤ, pos, negsuc, neg_ℤ, nat_abs, ◌+ℤ◌, ◌-ℤ◌, ◌*ℤ◌, +ℤ_idl}
use lib.ListN.{length, get_or, set, replicate, length-append, length-map, length-set, length-replicate}
use mir.Syntax.{w64}
use mir.Val.{SFits, to_z, of_z}
use mir.Facts.{to_z-of_z}
use Rattle.farkas.specs.Farkas.{counts, strict_after, plus, add_row}
use Rattle.farkas.proofs.Bits.{read_back}
use Rattle.farkas.proofs.Integers.{split, by_parts}
use Rattle.farkas.proofs.Comparing.{counts-never}
use Rattle.farkas.specs.Words.{signed_at, numbers_at}
use Rattle.farkas.specs.Rows.{Row, row_of, strictly, item}
use Rattle.farkas.specs.Sums.{plus_from, RoomAt, Spare}

-- where nothing was added yet
pub plus_none : (to : ℕ) (m : ℤ) (sums : List ℤ) → sums ≡ plus_from to m sums []
unfolding plus_from
plus_none to m [] = refl
plus_none zero m (s ∷ sums) = refl
plus_none (suc to) m (s ∷ sums) = ap (λ (xs : List ℤ). s ∷ xs) (plus_none to m sums)

pub plus-from-length : (to : ℕ) (m : ℤ) (sums xs : List ℤ) → length (plus_from to m sums xs) ≡ length sums
unfolding plus_from
plus-from-length to m [] xs = refl
plus-from-length zero m (s ∷ sums) [] = refl
plus-from-length zero m (s ∷ sums) (a ∷ xs) = omega (arith, plus-from-length zero m sums xs)
plus-from-length (suc to) m (s ∷ sums) xs = omega (arith, plus-from-length to m sums xs)

-- past what was added stands what stood there
pub plus-read : (to : ℕ) (m : ℤ) (sums xs : List ℤ) (i : ℕ) → i ≡ to + length xs → get_or (plus_from to m sums xs) i (pos 0) ≡ get_or sums i (pos 0)
unfolding plus_from
plus-read to m [] xs i e = refl
plus-read zero m (s ∷ sums) [] i e = refl
plus-read zero m (s ∷ sums) (a ∷ xs) zero e = absurd (omega arith)
plus-read zero m (s ∷ sums) (a ∷ xs) (suc i) e = plus-read zero m sums xs i (omega arith)
plus-read (suc to) m (s ∷ sums) xs zero e = refl
plus-read (suc to) m (s ∷ sums) xs (suc i) e = plus-read to m sums xs i (omega arith)

-- one more number
pub plus-store : (to : ℕ) (m : ℤ) (sums xs : List ℤ) (a : ℤ) (i : ℕ) → i ≡ to + length xs → i < length sums → set (plus_from to m sums xs) i (get_or sums i (pos 0) +ℤ m *ℤ a) ≡ plus_from to m sums (xs ++ (a ∷ []))
unfolding plus_from
plus-store to m [] xs a i e h = absurd (omega arith)
plus-store zero m (s ∷ sums) [] a zero e h = ap (λ (ys : List ℤ). (s +ℤ m *ℤ a) ∷ ys) (plus_none zero m sums)
plus-store zero m (s ∷ sums) [] a (suc i) e h = absurd (omega arith)
plus-store zero m (s ∷ sums) (b ∷ xs) a zero e h = absurd (omega arith)
plus-store zero m (s ∷ sums) (b ∷ xs) a (suc i) e h = ap (λ (ys : List ℤ). (s +ℤ m *ℤ b) ∷ ys) (plus-store zero m sums xs a i (omega arith) (omega arith))
plus-store (suc to) m (s ∷ sums) xs a zero e h = absurd (omega arith)
plus-store (suc to) m (s ∷ sums) xs a (suc i) e h = ap (λ (ys : List ℤ). s ∷ ys) (plus-store to m sums xs a i (omega arith) (omega arith))

-- numbers of a sheet
pub numbers-length : (s : List ℕ) (at n : ℕ) → length (numbers_at s at n) ≡ n
unfolding numbers_at
numbers-length s at zero = refl
numbers-length s at (suc n) = omega (arith, numbers-length s (at + 4) n)

pub numbers_more : (s : List ℕ) (at n : ℕ) → numbers_at s at n ++ (signed_at s (at + 4 * n) ∷ []) ≡ numbers_at s at (n + 1)
unfolding numbers_at
numbers_more s at zero = ap (λ (p : ℕ). signed_at s p ∷ []) (none at)
  where
    none : (at : ℕ) → at + 4 * 0 ≡ at
    none at = omega arith
numbers_more s at (suc n) =
    ap (λ (p : ℕ). signed_at s at ∷ (numbers_at s (at + 4) n ++ (signed_at s p ∷ []))) (moved at n)
    ∙ ap (λ (xs : List ℤ). signed_at s at ∷ xs) (numbers_more s (at + 4) n)
    ∙ ap (λ (k : ℕ). signed_at s at ∷ numbers_at s (at + 4) k) (add-one n)
    ∙ ap (λ (k : ℕ). numbers_at s at k) (sym (add-one (suc n)))
  where
    moved : (at n : ℕ) → at + 4 * suc n ≡ at + 4 + 4 * n
    moved at n = omega arith

-- A row's coefficients on the unknowns from a place on, as the definition adds them
nothing : (s : ℤ) (m : ℕ) → s +ℤ pos m *ℤ pos 0 ≡ s
nothing s m = rw (split s) (simp by_parts (omega arith))

pub plus-onward : (to m : ℕ) (sums xs : List ℤ) → to + length xs ≤ length sums → plus m sums (replicate to (pos 0) ++ xs) ≡ plus_from to (pos m) sums xs
unfolding plus plus_from
plus-onward zero m [] [] h = refl
plus-onward zero m [] (a ∷ xs) h = absurd (omega arith)
plus-onward zero m (s ∷ sums) [] h = refl
plus-onward zero m (s ∷ sums) (a ∷ xs) h = ap (λ (ys : List ℤ). (s +ℤ pos m *ℤ a) ∷ ys) (plus-onward zero m sums xs (omega arith))
plus-onward (suc to) m [] xs h = absurd (omega arith)
plus-onward (suc to) m (s ∷ sums) xs h = ap₂ (λ (t : ℤ) (ys : List ℤ). t ∷ ys) (nothing s m) (plus-onward to m sums xs (omega arith))

-- one part after the other
pub plus-parts : (to : ℕ) (m : ℤ) (sums xs ys : List ℤ) → plus_from to m sums (xs ++ ys) ≡ plus_from (to + length xs) m (plus_from to m sums xs) ys
unfolding plus_from
plus-parts to m [] xs ys = refl
plus-parts zero m (s ∷ sums) [] ys = refl
plus-parts zero m (s ∷ sums) (a ∷ xs) ys =
    ap (λ (zs : List ℤ). (s +ℤ m *ℤ a) ∷ zs) (plus-parts zero m sums xs ys)
    ∙ ap (λ (k : ℕ). plus_from k m ((s +ℤ m *ℤ a) ∷ plus_from zero m sums xs) ys) (next (length xs))
  where
    next : (n : ℕ) → suc (0 + n) ≡ 0 + suc n
    next n = omega arith
plus-parts (suc to) m (s ∷ sums) xs ys =
    ap (λ (zs : List ℤ). s ∷ zs) (plus-parts to m sums xs ys) ∙ ap (λ (k : ℕ). plus_from k m (s ∷ plus_from to m sums xs) ys) (next to (length xs))
  where
    next : (to n : ℕ) → suc (to + n) ≡ suc to + n
    next to n = omega arith

-- with the other sign
other_sign : (s m a : ℤ) → s +ℤ m *ℤ neg_ℤ a ≡ s +ℤ neg_ℤ m *ℤ a
other_sign s m a = rw (split s, split m, split a) (simp by_parts (omega arith))

pub plus-negative : (to : ℕ) (m : ℤ) (sums xs : List ℤ) → plus_from to m sums (map neg_ℤ xs) ≡ plus_from to (neg_ℤ m) sums xs
unfolding plus_from
plus-negative to m [] xs = refl
plus-negative zero m (s ∷ sums) [] = refl
plus-negative zero m (s ∷ sums) (a ∷ xs) = ap₂ (λ (t : ℤ) (ys : List ℤ). t ∷ ys) (other_sign s m a) (plus-negative zero m sums xs)
plus-negative (suc to) m (s ∷ sums) xs = ap (λ (ys : List ℤ). s ∷ ys) (plus-negative to m sums xs)

-- "each flow row as −a on x, a on x', −b on d": three calls of `add_numbers`
pub plus-rates : (m : ℕ) (sums xs : List ℤ) (b : ℤ) (n : ℕ) → length xs ≡ n → n + n + 1 ≤ length sums → plus m sums (map neg_ℤ xs ++ (xs ++ (neg_ℤ b ∷ []))) ≡ plus_from (n + n) (neg_ℤ (pos m)) (plus_from n (pos m) (plus_from 0 (neg_ℤ (pos m)) sums xs) xs) (b ∷ [])
plus-rates m sums xs b n e h =
    let row = map neg_ℤ xs ++ (xs ++ (neg_ℤ b ∷ [])) in
    let first = plus_from 0 (neg_ℤ (pos m)) sums xs in
    let wide : length row ≡ n + (n + 1) = simp (length-append, length-map) (omega (arith, e)) in
    plus-onward 0 m sums row (omega (arith, wide))
    ∙ plus-parts 0 (pos m) sums (map neg_ℤ xs) (xs ++ (neg_ℤ b ∷ []))
    ∙ ap₂ (λ (k : ℕ) (ys : List ℤ). plus_from k (pos m) ys (xs ++ (neg_ℤ b ∷ []))) (at (length-map xs neg_ℤ) e) (plus-negative 0 (pos m) sums xs)
    ∙ plus-parts n (pos m) first xs (neg_ℤ b ∷ [])
    ∙ ap (λ (k : ℕ). plus_from (n + k) (pos m) (plus_from n (pos m) first xs) (neg_ℤ b ∷ [])) e
    ∙ plus-negative (n + n) (pos m) (plus_from n (pos m) first xs) (b ∷ [])
  where
    at : {k l n : ℕ} → k ≡ l → l ≡ n → 0 + k ≡ n
    at p q = omega (arith, p, q)

-- x + m * y, as it is computed from the bits of all three, where y is a number of a sheet
module _ (x m y : ℤ) (fm : SFits w64 m) (r : nat_abs x + nat_abs m * 2 ^ 31 < 2 ^ 63) (small : nat_abs y ≤ 2 ^ 31) where
  same-x : to_z w64 (of_z w64 x) ≡ x
  same-x = read_back x (omega arith)

  same-y : to_z w64 (of_z w64 y) ≡ y
  same-y = read_back y (omega arith)

  pub room-bits : nat_abs (to_z w64 (of_z w64 x)) + nat_abs (to_z w64 (of_z w64 m)) * nat_abs (to_z w64 (of_z w64 y)) < 2 ^ 63
  room-bits = rw (same-x, to_z-of_z fm, same-y) (omega (arith, mul-le-mul_left (nat_abs m) small))

  pub sum-bits : to_z w64 (of_z w64 x) +ℤ to_z w64 (of_z w64 m) *ℤ to_z w64 (of_z w64 y) ≡ x +ℤ m *ℤ y
  sum-bits = rw (same-x, to_z-of_z fm, same-y)

-- what is added from one on leaves the sums before it and past it as they were
pub plus-before : (to : ℕ) (m : ℤ) (sums xs : List ℤ) (i : ℕ) → i < to → get_or (plus_from to m sums xs) i (pos 0) ≡ get_or sums i (pos 0)
unfolding plus_from
plus-before to m [] xs i h = refl
plus-before zero m (s ∷ sums) xs i h = absurd (omega arith)
plus-before (suc to) m (s ∷ sums) xs zero h = refl
plus-before (suc to) m (s ∷ sums) xs (suc i) h = plus-before to m sums xs i (omega arith)

pub plus-past : (to : ℕ) (m : ℤ) (sums xs : List ℤ) (i : ℕ) → to + length xs ≤ i → get_or (plus_from to m sums xs) i (pos 0) ≡ get_or sums i (pos 0)
unfolding plus_from
plus-past to m [] xs i h = refl
plus-past zero m (s ∷ sums) [] i h = refl
plus-past zero m (s ∷ sums) (a ∷ xs) zero h = absurd (omega arith)
plus-past zero m (s ∷ sums) (a ∷ xs) (suc i) h = plus-past zero m sums xs i (omega arith)
plus-past (suc to) m (s ∷ sums) xs zero h = absurd (omega arith)
plus-past (suc to) m (s ∷ sums) xs (suc i) h = plus-past to m sums xs i (omega arith)

-- room: a part of it, and what is left of it once numbers were added before
pub room-part : {m to count : ℕ} {sums : List ℤ} (from n : ℕ) → to ≤ from → from + n ≤ to + count → RoomAt m to count sums → RoomAt m from n sums
room-part {m} {to} {count} {sums} from n h l r =
    record { room = λ i k. subst (λ (j : ℕ). nat_abs (item sums j) + m * 2 ^ 31 < 2 ^ 63) (back to from i h) (r.room (from - to + i) (omega arith)) }
  where
    back : (to from i : ℕ) → to ≤ from → to + (from - to + i) ≡ from + i
    back to from i h = omega arith

pub room-past : {k at n : ℕ} {sums : List ℤ} (to : ℕ) (m : ℤ) (xs : List ℤ) → to + length xs ≤ at → RoomAt k at n sums → RoomAt k at n (plus_from to m sums xs)
unfolding item
room-past {k} {at} {n} {sums} to m xs h r = record { room = λ i l. rw (plus-past to m sums xs (at + i) (omega arith)) (r.room i l) }

pub room-before : {k at n : ℕ} {sums : List ℤ} (to : ℕ) (m : ℤ) (xs : List ℤ) → at + n ≤ to → RoomAt k at n sums → RoomAt k at n (plus_from to m sums xs)
unfolding item
room-before {k} {at} {n} {sums} to m xs h r = record { room = λ i l. rw (plus-before to m sums xs (at + i) (omega arith)) (r.room i l) }

pub room-all : {m : ℕ} {sums : List ℤ} {b : ℤ} (to count : ℕ) → Spare m (row_of sums b) → RoomAt m to count sums
room-all to count s = record { room = λ i h. s.coefficient (to + i) }

-- a number of times, with the other sign
pub opposite-is : (m : ℕ) → pos 0 -ℤ pos m ≡ neg_ℤ (pos m)
opposite-is m = +ℤ_idl (neg_ℤ (pos m))

pub opposite-size : (m : ℕ) → nat_abs (neg_ℤ (pos m)) ≡ m
opposite-size zero = refl
opposite-size (suc m) = refl

pub opposite-bits : (m : ℕ) → m < 2 ^ 32 → to_z w64 (of_z w64 (pos 0 -ℤ pos m)) ≡ neg_ℤ (pos m)
opposite-bits m h = ap (λ (z : ℤ). to_z w64 (of_z w64 z)) (opposite-is m) ∙ read_back (neg_ℤ (pos m)) (omega (arith, opposite-size m))

-- "−a on x, a on x', −b on d": what the second and the third call find
module _ (m n : ℕ) (y z : ℤ) (sums xs : List ℤ) (e : length xs ≡ n) (wide : n + n + 1 ≤ length sums) (room : RoomAt m 0 (n + n + 1) sums) where
  pub rates-first : RoomAt m 0 n sums
  rates-first = room-part 0 n (omega arith) (omega arith) room

  pub rates-second : (n + n ≤ length (plus_from 0 y sums xs)) × RoomAt m n n (plus_from 0 y sums xs)
  rates-second = (omega (arith, plus-from-length 0 y sums xs), room-past 0 y xs (omega (arith, e)) (room-part n n (omega arith) (omega arith) room))

  pub rates-third : (n + n + 1 ≤ length (plus_from n z (plus_from 0 y sums xs) xs)) × RoomAt m (n + n) 1 (plus_from n z (plus_from 0 y sums xs) xs)
  rates-third = (
    omega (arith, plus-from-length 0 y sums xs, plus-from-length n z (plus_from 0 y sums xs) xs),
    room-past n z xs (omega (arith, e)) (room-past 0 y xs (omega (arith, e)) (room-part (n + n) 1 (omega arith) (omega arith) room)),
  )

-- a row with one coefficient a at v of its first n, and then others
zeros-add : (m n : ℕ) (sums : List ℤ) → plus_from 0 (pos m) sums (replicate n (pos 0)) ≡ sums
unfolding plus_from
zeros-add m n [] = refl
zeros-add m zero (s ∷ sums) = refl
zeros-add m (suc n) (s ∷ sums) = ap₂ (λ (t : ℤ) (ys : List ℤ). t ∷ ys) (nothing s m) (zeros-add m n sums)

plus-single : (n v m : ℕ) (a : ℤ) (sums ys : List ℤ) → v < n → n + length ys ≤ length sums → plus m sums (set (replicate n (pos 0)) v a ++ ys) ≡ plus_from v (pos m) (plus_from n (pos m) sums ys) (a ∷ [])
unfolding plus plus_from
plus-single zero v m a sums ys h l = absurd (omega arith)
plus-single (suc n) v m a [] ys h l = absurd (omega arith)
plus-single (suc n) zero m a (s ∷ sums) ys h l =
    ap (λ (xs : List ℤ). (s +ℤ pos m *ℤ a) ∷ xs) (plus-onward n m sums ys (omega arith) ∙ plus_none 0 (pos m) (plus_from n (pos m) sums ys))
plus-single (suc n) (suc v) m a (s ∷ sums) ys h l =
    ap₂ (λ (t : ℤ) (xs : List ℤ). t ∷ xs) (nothing s m) (plus-single n v m a sums ys (omega arith) (omega arith))

single-at : (to n v at m : ℕ) (b : ℤ) (sums : List ℤ) → v < n → at ≡ to + v → plus_from to (pos m) sums (set (replicate n (pos 0)) v b) ≡ plus_from at (pos m) sums (b ∷ [])
unfolding plus_from
single-at to n v at m b [] h e = refl
single-at zero zero v at m b (s ∷ sums) h e = absurd (omega arith)
single-at zero (suc n) zero zero m b (s ∷ sums) h e = ap (λ (xs : List ℤ). (s +ℤ pos m *ℤ b) ∷ xs) (zeros-add m n sums ∙ plus_none 0 (pos m) sums)
single-at zero (suc n) zero (suc at) m b (s ∷ sums) h e = absurd (omega arith)
single-at zero (suc n) (suc v) zero m b (s ∷ sums) h e = absurd (omega arith)
single-at zero (suc n) (suc v) (suc at) m b (s ∷ sums) h e = ap₂ (λ (t : ℤ) (xs : List ℤ). t ∷ xs) (nothing s m) (single-at zero n v at m b sums (omega arith) (omega arith))
single-at (suc to) n v zero m b (s ∷ sums) h e = absurd (omega arith)
single-at (suc to) n v (suc at) m b (s ∷ sums) h e = ap (λ (xs : List ℤ). s ∷ xs) (single-at to n v at m b sums h (omega arith))

pub plus-pair : (n v m : ℕ) (a b : ℤ) (sums : List ℤ) → v < n → n + n ≤ length sums → plus m sums (set (replicate n (pos 0)) v a ++ set (replicate n (pos 0)) v b) ≡ plus_from v (pos m) (plus_from (n + v) (pos m) sums (b ∷ [])) (a ∷ [])
plus-pair n v m a b sums h l =
    let wide : length (set (replicate n (pos 0)) v b) ≡ n = length-set (replicate n (pos 0)) v b ∙ length-replicate n (pos 0) in
    plus-single n v m a sums (set (replicate n (pos 0)) v b) h (omega (arith, wide))
    ∙ ap (λ (ys : List ℤ). plus_from v (pos m) ys (a ∷ [])) (single-at n n v (n + v) m b sums h refl)

-- 1 taken away is −1 added
pub less_one : (to m : ℕ) (sums : List ℤ) → plus_from to (neg_ℤ (pos m)) sums (pos 1 ∷ []) ≡ plus_from to (pos m) sums (negsuc 0 ∷ [])
less_one to m sums = sym (plus-negative to (pos m) sums (pos 1 ∷ []))

-- a row whose bound is 0 leaves the bound
pub no_bound : (b : ℤ) (m : ℕ) → b ≡ b +ℤ pos m *ℤ pos 0
no_bound b m = sym (nothing b m)

-- a row that is not strict, added to sums that are not
pub add-plain : (sums : List ℤ) (b : ℤ) (m : ℕ) (r : Row) → r.strict ≡ false → row_of (plus m sums r.coefficients) (b +ℤ pos m *ℤ r.bound) ≡ add_row (row_of sums b) m r
unfolding add_row strict_after
add-plain sums b m r h =
    ap (λ (t : Bool). strictly t (row_of (plus m sums r.coefficients) (b +ℤ pos m *ℤ r.bound))) (sym (ap (counts m) h ∙ counts-never m))
