-- Kept rows compared and sorted: the first numbers that differ, one row through the order, and what that makes of sorted rows. Assumes
-- nothing.
use mathlib.Core.Path.{◌≡◌, refl, sym, ap, ap₂, ◌∙◌, subst}
use mathlib.Core.Bool.{Bool, true, false}
use mathlib.Core.List.{List, [], ◌∷◌, ◌++◌, map, append_assoc}
use mathlib.Core.Logic.{⊎_elim}
use Prim.Native.Nat.{ℕ, zero, suc, ◌+◌, ◌*◌, ◌-◌, ◌^◌, ◌≤◌, ◌<◌}
use native.Mathlib.Numerals.{add-one}
use native.Mathlib.Nat.{add-zero}
use native.Mathlib.Omega.{arith}
use borrow.Author.Tests.{lt-ltb, le-ltb}
use lib.IntN.{ℤ, pos}
use lib.ListN.{length, get_or, take, drop, set, take-append-drop, drop_of_length-le}
use lib.Seq.{drop-cons, take-suc-set, drop-set-lt, take-set-lt, length-take-le, get_or-take, take-take, set-get_or}
use lib.Signed.{lt_z}
use Rattle.farkas.specs.Lists.{All, none, more}
use Rattle.farkas.specs.Rows.{Row}
use Rattle.formats.proofs.Members.{all-below}
use Rattle.farkas.proofs.Order.{compare, by_order}
use Rattle.std.specs.declared.cmp.Ordering.{Ordering}
use Rattle.std.specs.declared.cmp.Ordering.TheVariants.{Less, Equal, Greater}
use Rattle.std.specs.Ordering.{nat_cmp, ordering_then, MatchOrdering}
use Rattle.std.specs.Cmp.{nat_cmp_is}
use Rattle.std.specs.Cmp.Lexicographic.{slice_cmp}
use Rattle.std.specs.Prelude.{Option, Some, None}
use Rattle.fair_rows.specs.FairRows.{Order, lower, same, higher, order_of, first_of, order, keys_of, mark_of, placed, insert}
use Rattle.fair_rows.proofs.OrderLaws.{Ascending, rise, insert-first}
use Rattle.fair_conditions.specs.Held.{lowered, kept_numbers, kept_row, standing, carried_on, left_behind, slip_by, slip, Among}
use Rattle.fair_conditions.proofs.NumberLaws.{lowered-low, lowered-high}

-- raised numbers compare as the numbers do
by-half : (n : ℕ) (P : Type 0) → (n < 2 ^ 31 → P) → (2 ^ 31 ≤ n → P) → P
by-half n P f g = ⊎_elim f g (compare n (2 ^ 31))

lowered-below : (x y : ℕ) → x < y → lt_z (lowered x) (lowered y) ≡ true
lowered-below x y h =
    by-half x (lt_z (lowered x) (lowered y) ≡ true)
    (λ a.
    by-half y (lt_z (lowered x) (lowered y) ≡ true)
    (λ b. ap₂ lt_z (lowered-low x a) (lowered-low y b) ∙ lt-ltb (2 ^ 31 - suc y) (2 ^ 31 - suc x) (omega arith))
    (λ b. ap₂ lt_z (lowered-low x a) (lowered-high y b)))
    (λ a. ap₂ lt_z (lowered-high x a) (lowered-high y (omega arith)) ∙ lt-ltb (x - 2 ^ 31) (y - 2 ^ 31) (omega arith))

lowered-not : (x y : ℕ) → y ≤ x → lt_z (lowered x) (lowered y) ≡ false
lowered-not x y h =
    by-half x (lt_z (lowered x) (lowered y) ≡ false)
    (λ a. ap₂ lt_z (lowered-low x a) (lowered-low y (omega arith)) ∙ le-ltb (2 ^ 31 - suc y) (2 ^ 31 - suc x) (omega arith))
    (λ a.
    by-half y (lt_z (lowered x) (lowered y) ≡ false)
    (λ b. ap₂ lt_z (lowered-high x a) (lowered-low y b))
    (λ b. ap₂ lt_z (lowered-high x a) (lowered-high y b) ∙ le-ltb (x - 2 ^ 31) (y - 2 ^ 31) (omega arith)))

-- the first of two lists decides, or the rest does
first-lower : (x y : ℕ) (xs ys : List ℤ) → x < y → order (lowered x ∷ xs) (lowered y ∷ ys) ≡ lower
unfolding order first_of order_of
first-lower x y xs ys h = ap (λ (b : Bool). first_of (order_of b (lt_z (lowered y) (lowered x))) (order xs ys)) (lowered-below x y h)

first-higher : (x y : ℕ) (xs ys : List ℤ) → y < x → order (lowered x ∷ xs) (lowered y ∷ ys) ≡ higher
unfolding order first_of order_of
first-higher x y xs ys h =
    ap₂ (λ (b c : Bool). first_of (order_of b c) (order xs ys)) (lowered-not x y (omega arith)) (lowered-below y x h)

first-same : (x y : ℕ) (xs ys : List ℤ) → y ≤ x → x ≤ y → order (lowered x ∷ xs) (lowered y ∷ ys) ≡ order xs ys
unfolding order first_of order_of
first-same x y xs ys h l = ap₂ (λ (b c : Bool). first_of (order_of b c) (order xs ys)) (lowered-not x y h) (lowered-not y x l)

-- the numbers that are left, by their first
pub left-numbers : (kept : List ℕ) (p i count : ℕ) → i < count → kept_numbers kept (p + i) (count - i) ≡ lowered (get_or kept (p + i) 0) ∷ kept_numbers kept (p + (i + 1)) (count - (i + 1))
unfolding kept_numbers
left-numbers kept p i count h =
    ap (kept_numbers kept (p + i)) (one_less count i h)
    ∙ ap (λ (q : ℕ). lowered (get_or kept (p + i) 0) ∷ kept_numbers kept q (count - (i + 1))) (onward p i)
  where
    one_less : (count i : ℕ) → i < count → count - i ≡ suc (count - (i + 1))
    one_less count i h = omega arith

    onward : (p i : ℕ) → p + i + 1 ≡ p + (i + 1)
    onward p i = omega arith

-- so many kept numbers are those of a part, lowered
kept-part : (kept : List ℕ) (p n : ℕ) → p + n ≤ length kept → map lowered (take n (drop p kept)) ≡ kept_numbers kept p n
unfolding kept_numbers
kept-part kept p zero h = refl
kept-part kept p (suc n) h =
    ap (λ xs. map lowered (take (suc n) xs)) (drop-cons kept p 0 (omega arith))
    ∙ ap (λ (q : ℕ). lowered (get_or kept p 0) ∷ map lowered (take n (drop q kept))) (sym (add-one p))
    ∙ ap (λ xs. lowered (get_or kept p 0) ∷ xs) (kept-part kept (p + 1) n (omega arith))

-- numbers compare as the lowered ones do
parts-order : (xs ys : List ℕ) → slice_cmp nat_cmp xs ys ≡ standing (order (map lowered xs) (map lowered ys))
unfolding standing order
parts-order [] [] = refl
parts-order [] (y ∷ ys) = refl
parts-order (x ∷ xs) [] = refl
parts-order (x ∷ xs) (y ∷ ys) =
    by_order x y (slice_cmp nat_cmp (x ∷ xs) (y ∷ ys) ≡ standing (order (lowered x ∷ map lowered xs) (lowered y ∷ map lowered ys)))
    (λ h. first-is Less h ∙ ap standing (sym (first-lower x y _ _ h)))
    (λ e. first-is Equal e ∙ parts-order xs ys ∙ ap standing (sym (first-same x y (map lowered xs) (map lowered ys) (omega (arith, e)) (omega (arith, e)))))
    (λ h. first-is Greater h ∙ ap standing (sym (first-higher x y _ _ h)))
  where
    first-is : (o : Ordering) → MatchOrdering o (x < y) (x ≡ y) (y < x) → slice_cmp nat_cmp (x ∷ xs) (y ∷ ys) ≡ ordering_then o (slice_cmp nat_cmp xs ys)
    first-is o h = ap (λ p. ordering_then p (slice_cmp nat_cmp xs ys)) (sym (nat_cmp_is x y o h))

pub compared : (kept : List ℕ) (a b count : ℕ) → a + count ≤ length kept → b + count ≤ length kept → slice_cmp nat_cmp (take count (drop a kept)) (take count (drop b kept)) ≡ standing (order (kept_numbers kept a count) (kept_numbers kept b count))
compared kept a b count h l =
    parts-order (take count (drop a kept)) (take count (drop b kept)) ∙ ap standing (ap₂ order (kept-part kept a count h) (kept-part kept b count l))

-- rows that are not strict stand to each other as their numbers do
same-lengths : (kept : List ℕ) (p q n : ℕ) → length (kept_numbers kept p n) ≡ length (kept_numbers kept q n)
unfolding kept_numbers
same-lengths kept p q zero = refl
same-lengths kept p q (suc n) = ap suc (same-lengths kept (p + 1) (q + 1) n)

mark-last : (xs ys : List ℤ) (m : ℤ) → length xs ≡ length ys → lt_z m m ≡ false → order (xs ++ (m ∷ [])) (ys ++ (m ∷ [])) ≡ order xs ys
unfolding order first_of order_of
mark-last [] [] m e h = ap₂ (λ (b c : Bool). first_of (order_of b c) same) h h
mark-last [] (y ∷ ys) m e h = absurd (omega arith)
mark-last (x ∷ xs) [] m e h = absurd (omega arith)
mark-last (x ∷ xs) (y ∷ ys) m e h = ap (first_of (order_of (lt_z x y) (lt_z y x))) (mark-last xs ys m (omega arith) h)

-- so many coefficients and the bound
pub numbers-last : (kept : List ℕ) (p n : ℕ) → kept_numbers kept p (n + 1) ≡ kept_numbers kept p n ++ (lowered (get_or kept (p + n) 0) ∷ [])
unfolding kept_numbers
numbers-last kept p zero = ap (λ (q : ℕ). lowered (get_or kept q 0) ∷ []) (sym (add-zero p))
numbers-last kept p (suc n) =
    ap (kept_numbers kept p) (suc-first n)
    ∙ ap (λ (z : List ℤ). lowered (get_or kept p 0) ∷ z)
    (numbers-last kept (p + 1) n ∙ ap (λ (q : ℕ). kept_numbers kept (p + 1) n ++ (lowered (get_or kept q 0) ∷ [])) (onward p n))
  where
    suc-first : (n : ℕ) → suc n + 1 ≡ suc (n + 1)
    suc-first n = omega arith

    onward : (p n : ℕ) → p + 1 + n ≡ p + suc n
    onward p n = omega arith

keys-of : (kept : List ℕ) (n k : ℕ) → keys_of (kept_row kept n k) ≡ kept_numbers kept (17 * k) (n + 1) ++ (pos 0 ∷ [])
unfolding keys_of kept_row mark_of
keys-of kept n k =
    sym (append_assoc (kept_numbers kept (17 * k) n) (lowered (get_or kept (17 * k + n) 0) ∷ []) (pos 0 ∷ []))
    ∙ ap (λ (z : List ℤ). z ++ (pos 0 ∷ [])) (sym (numbers-last kept (17 * k) n))

pub rows-order : (kept : List ℕ) (n k j : ℕ) → order (keys_of (kept_row kept n k)) (keys_of (kept_row kept n j)) ≡ order (kept_numbers kept (17 * k) (n + 1)) (kept_numbers kept (17 * j) (n + 1))
rows-order kept n k j =
    ap₂ order (keys-of kept n k) (keys-of kept n j)
    ∙ mark-last (kept_numbers kept (17 * k) (n + 1)) (kept_numbers kept (17 * j) (n + 1)) (pos 0) (same-lengths kept (17 * k) (17 * j) (n + 1)) refl

-- what goes through the order is what inserting gives, by rows
slip-by :
    (f : ℕ → Row) (o : Order) (k j : ℕ) (js next on : List ℕ) (inserted : List Row)
    → map f next ≡ f j ∷ map f js → map f on ≡ inserted
    → map f (slip_by o k j js next on) ≡ placed o (f k) (f j) (map f js) inserted
unfolding slip_by placed
slip-by f lower k j js next on inserted p q = ap (λ (xs : List Row). f k ∷ xs) p
slip-by f same k j js next on inserted p q = refl
slip-by f higher k j js next on inserted p q = ap (λ (xs : List Row). f j ∷ xs) q

-- the rows are those that inserting gives: the carried row, once it is let go, stands before all that follow
pub slip-insert : (f : ℕ → Row) (k : ℕ) (js : List ℕ) → Ascending (map f js) → map f (slip f k js) ≡ insert (f k) (map f js)
unfolding slip insert
slip-insert f k [] a = refl
slip-insert f k (j ∷ js) (rise b a) =
    slip-by f (order (keys_of (f k)) (keys_of (f j))) k j js (slip f j js) (slip f k js) (insert (f k) (map f js))
    (slip-insert f j js a ∙ insert-first (f j) (map f js) b)
    (slip-insert f k js a)

-- row numbers that the order has, and the one that goes through it: none is new
slip-by-all : {P : ℕ → Type 0} (o : Order) (k j : ℕ) (js next on : List ℕ) → P k → P j → All P js → All P next → All P on → All P (slip_by o k j js next on)
unfolding slip_by
slip-by-all lower k j js next on h i a b c = more h b
slip-by-all same k j js next on h i a b c = more i a
slip-by-all higher k j js next on h i a b c = more i c

pub slip-all : {P : ℕ → Type 0} (f : ℕ → Row) (k : ℕ) {js : List ℕ} → P k → All P js → All P (slip f k js)
unfolding slip
slip-all f k h none = more h none
slip-all f k h (more {a = j} {xs = js} i a) =
    slip-by-all (order (keys_of (f k)) (keys_of (f j))) k j js (slip f j js) (slip f k js) h i a (slip-all f j i a) (slip-all f k h a)

-- nothing is not something, and what is something is one thing
some-or-none : {n : ℕ} → ◌≡◌ {A = Option ℕ} (Some n) None → ⊥
some-or-none e = let z : ◌≡◌ {A = ℕ} 0 1 = cc in absurd (omega arith)

same-some : {n m : ℕ} → ◌≡◌ {A = Option ℕ} (Some n) (Some m) → n ≡ m
same-some e = cc

-- A turn of the loop. What has gone through so far, then what the carried row makes of the others, is the whole
abbrev pub Through : (ℕ → Row) → List ℕ → List ℕ → ℕ → ℕ → ℕ → Type 0
Through f whole sorted count i carried = take i sorted ++ slip f carried (drop i (take count sorted)) ≡ whole

module _ (f : ℕ → Row) (whole : List ℕ) (sorted : List ℕ) (count i k : ℕ) (long : count ≤ length sorted) (inside : i < count) where
  abbrev met : ℕ
  met = get_or sorted i 0

  abbrev rest : List ℕ
  rest = drop (i + 1) (take count sorted)

  first-left : drop i (take count sorted) ≡ met ∷ rest
  first-left =
      drop-cons (take count sorted) i 0 (omega (arith, length-take-le count sorted long))
      ∙ ap₂ (λ (x n : ℕ). x ∷ drop n (take count sorted)) (get_or-take count sorted i 0 inside) (sym (add-one i))

  -- with one of the two left at place i
  left_there : (v : ℕ) → take (i + 1) (set sorted i v) ≡ take i sorted ++ (v ∷ [])
  left_there v = ap (λ (n : ℕ). take n (set sorted i v)) (add-one i) ∙ take-suc-set sorted i v (omega arith)

  others : (v : ℕ) → drop (i + 1) (take count (set sorted i v)) ≡ rest
  others v = ap (drop (i + 1)) (take-set-lt count sorted i v inside) ∙ drop-set-lt (i + 1) (take count sorted) i v (omega arith)

  on : (v j : ℕ) → take i sorted ++ (v ∷ slip f j rest) ≡ whole → Through f whole (set sorted i v) count (i + 1) j
  on v j e =
      ap₂ (λ (a b : List ℕ). a ++ slip f j b) (left_there v) (others v)
      ∙ append_assoc (take i sorted) (v ∷ []) (slip f j rest)
      ∙ e

  meeting : Through f whole sorted count i k → (o : Order) → order (keys_of (f k)) (keys_of (f met)) ≡ o → take i sorted ++ slip_by o k met rest (slip f met rest) (slip f k rest) ≡ whole
  unfolding slip
  meeting t o e =
      ap (λ (x : Order). take i sorted ++ slip_by x k met rest (slip f met rest) (slip f k rest)) (sym e)
      ∙ ap (λ (l : List ℕ). take i sorted ++ slip f k l) (sym first-left)
      ∙ t

  -- they are the same: the order is as it was
  stopped_by : (o : Order) → carried_on o k met ≡ None → take i sorted ++ slip_by o k met rest (slip f met rest) (slip f k rest) ≡ whole → take count (set sorted i (left_behind o k met)) ≡ whole
  unfolding carried_on left_behind slip_by
  stopped_by lower e t = absurd (some-or-none e)
  stopped_by higher e t = absurd (some-or-none e)
  stopped_by same e t =
      ap (take count) (set-get_or sorted i 0)
      ∙ sym (take-append-drop i (take count sorted))
      ∙ ap₂ (λ (a b : List ℕ). a ++ b) (take-take i count sorted (omega arith)) first-left
      ∙ t

  pub through-stops : (o : Order) → order (keys_of (f k)) (keys_of (f met)) ≡ o → carried_on o k met ≡ None → Through f whole sorted count i k → take count (set sorted i (left_behind o k met)) ≡ whole
  through-stops o q e t = stopped_by o e (meeting t o q)

  -- one of them goes on
  goes_by : (o : Order) (next : ℕ) → carried_on o k met ≡ Some next → take i sorted ++ slip_by o k met rest (slip f met rest) (slip f k rest) ≡ whole → Through f whole (set sorted i (left_behind o k met)) count (i + 1) next
  unfolding carried_on left_behind slip_by
  goes_by lower next e t = subst (Through f whole (set sorted i k) count (i + 1)) (same-some e) (on k met t)
  goes_by same next e t = absurd (some-or-none (sym e))
  goes_by higher next e t = subst (Through f whole (set sorted i met) count (i + 1)) (same-some e) (on met k t)

  pub through-goes-on : (o : Order) (next : ℕ) → order (keys_of (f k)) (keys_of (f met)) ≡ o → carried_on o k met ≡ Some next → Through f whole sorted count i k → Through f whole (set sorted i (left_behind o k met)) count (i + 1) next
  through-goes-on o next q e t = goes_by o next e (meeting t o q)

-- what is carried is a row number
pub carried-small : (o : Order) (k j next : ℕ) → k < 8 → j < 8 → carried_on o k j ≡ Some next → next < 8
unfolding carried_on
carried-small lower k j next h l e = omega (arith, same-some e, l)
carried-small same k j next h l e = absurd (some-or-none (sym e))
carried-small higher k j next h l e = omega (arith, same-some e, h)

-- at the end the carried row comes after all others
pub through-ends : (f : ℕ → Row) (whole sorted : List ℕ) (count i k : ℕ) → count < length sorted → count ≤ i → i ≤ count → Through f whole sorted count i k → take (count + 1) (set sorted count k) ≡ whole
unfolding slip
through-ends f whole sorted count i k long h l t =
    ap (λ (n : ℕ). take n (set sorted count k)) (add-one count)
    ∙ take-suc-set sorted count k long
    ∙ ap₂ (λ (a b : List ℕ). a ++ slip f k b) (ap (λ (n : ℕ). take n sorted) (same count i h l)) (sym (drop_of_length-le (take count sorted) {i = i} (omega (arith, length-take-le count sorted (omega arith)))))
    ∙ t
  where
    same : (count i : ℕ) → count ≤ i → i ≤ count → count ≡ i
    same count i h l = omega arith

pub through-starts : (f : ℕ → Row) (sorted : List ℕ) (count k : ℕ) → Through f (slip f k (take count sorted)) sorted count 0 k
through-starts f sorted count k = refl

-- how the rows stand, by what the library says
pub stands-lower : (o : Order) → Less ≡ standing o → o ≡ lower
unfolding standing
stands-lower lower e = refl
stands-lower same e = cc
stands-lower higher e = cc

pub stands-same : (o : Order) → Equal ≡ standing o → o ≡ same
unfolding standing
stands-same lower e = cc
stands-same same e = refl
stands-same higher e = cc

pub stands-higher : (o : Order) → Greater ≡ standing o → o ≡ higher
unfolding standing
stands-higher lower e = cc
stands-higher same e = cc
stands-higher higher e = refl

-- the row numbers of an order, each by its place
pub among-at : {least : ℕ} (count : ℕ) (sorted : List ℕ) → Among least (take count sorted) → count ≤ length sorted → (j : ℕ) → j < count → get_or sorted j 0 < 8
among-at count sorted a h j l =
    subst (λ (k : ℕ). k < 8) (get_or-take count sorted j 0 l) (all-below a j 0 (omega (arith, length-take-le count sorted h))).1
