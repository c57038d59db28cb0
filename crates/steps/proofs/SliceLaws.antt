-- Values in a slice: those before, those after and their change, as loops put them there, and how large they are. Assumes nothing.
use mathlib.Core.Path.{◌≡◌, refl, sym, ap, ap₂, ◌∙◌}
use mathlib.Core.List.{List, [], ◌∷◌, ◌++◌, append_assoc}
use Prim.Native.Nat.{ℕ, zero, suc, ◌+◌, ◌*◌, ◌-◌, ◌^◌, ◌≤◌, ◌<◌}
use native.Mathlib.Nat.{mul-le-mul}
use native.Mathlib.Numerals.{add-one}
use native.Mathlib.Omega.{arith}
use lib.IntN.{ℤ, pos, neg_ℤ, nat_abs, ◌-ℤ◌}
use lib.ListN.{length, get_or, take, drop, set, length-drop}
use lib.Seq.{paste, paste-zero, paste-suc, length-paste, drop-paste, length-take-le, take_all, take_at, take-length, drop_at, get_or-take, get_or-drop}
use mir.Syntax.{w64}
use mir.Val.{SFits, to_z, of_z}
use mir.Facts.{to_z-of_z}
use Rattle.farkas.specs.Rows.{item}
use Rattle.farkas.proofs.Bits.{size-+, fits, read_back}
use Rattle.second_sheets.specs.RunAnswers.{KeptValues}
use Rattle.rules.specs.Runs.{difference}
use Rattle.farkas.proofs.Promise.{size-negated}
use Rattle.steps.specs.Held.{SmallValues, SmallPoint, with_changes, moved_on}

-- a slice from a place on
pub part-rest : (k : ℕ) (xs : List ℤ) → take (length xs - k) (drop k xs) ≡ drop k xs
part-rest k xs = take_all (length xs - k) (drop k xs) (omega (arith, length-drop k xs))

-- A part that is pasted: what stands before it and behind it is as it was
module _ (d : List ℤ) (at : ℕ) (s : List ℤ) (n : ℕ) (room : at + n ≤ length d) (few : n ≤ length s) where
  pasted-front : take at (paste d at s n) ≡ take at d
  pasted-front =
      ap (take at) (append_assoc (take at d) (take n s) (drop (at + n) d))
      ∙ take_at (take at d) (take n s ++ drop (at + n) d) at (length-take-le at d (omega arith))

  pasted-part : take n (drop at (paste d at s n)) ≡ take n s
  pasted-part =
      ap (λ xs. take n (drop at xs)) (append_assoc (take at d) (take n s) (drop (at + n) d))
      ∙ ap (take n) (drop_at (take at d) (take n s ++ drop (at + n) d) at (length-take-le at d (omega arith)))
      ∙ take_at (take n s) (drop (at + n) d) n (length-take-le n s few)

  pasted-before : (i : ℕ) → i < at → get_or (paste d at s n) i (pos 0) ≡ get_or d i (pos 0)
  pasted-before i h =
      sym (get_or-take at (paste d at s n) i (pos 0) h) ∙ ap (λ xs. get_or xs i (pos 0)) pasted-front ∙ get_or-take at d i (pos 0) h

-- The change of values: as long as they are, and each the difference of two
difference-length : (xs ys : List ℤ) → length xs ≡ length ys → length (difference xs ys) ≡ length xs
unfolding difference
difference-length [] ys e = refl
difference-length (x ∷ xs) [] e = absurd (omega arith)
difference-length (x ∷ xs) (y ∷ ys) e = ap suc (difference-length xs ys (omega arith))

difference-item : (xs ys : List ℤ) (i : ℕ) → i < length xs → i < length ys → get_or (difference xs ys) i (pos 0) ≡ get_or xs i (pos 0) -ℤ get_or ys i (pos 0)
unfolding difference
difference-item [] ys i h k = absurd (omega arith)
difference-item (x ∷ xs) [] i h k = absurd (omega arith)
difference-item (x ∷ xs) (y ∷ ys) zero h k = refl
difference-item (x ∷ xs) (y ∷ ys) (suc i) h k = difference-item xs ys i (omega arith) (omega arith)

difference-size : (x y : ℤ) → nat_abs (x -ℤ y) ≤ nat_abs x + nat_abs y
difference-size x y = omega (arith, size-+ x (neg_ℤ y), size-negated y)

module _ (x y : ℤ) (a : nat_abs x ≤ 2 ^ 27) (b : nat_abs y ≤ 2 ^ 27) where
  difference-small : nat_abs (x -ℤ y) ≤ 2 ^ 28
  difference-small = omega (arith, difference-size x y)

  back-first : to_z w64 (of_z w64 x) ≡ x
  back-first = read_back x (omega arith)

  back-second : to_z w64 (of_z w64 y) ≡ y
  back-second = read_back y (omega arith)

  -- as it is computed from the bits of both
  pub difference-fits : SFits w64 (to_z w64 (of_z w64 x) -ℤ to_z w64 (of_z w64 y))
  difference-fits = rw (back-first, back-second) (fits (x -ℤ y) (omega (arith, difference-small)))

  pub difference-read : to_z w64 (of_z w64 (to_z w64 (of_z w64 x) -ℤ to_z w64 (of_z w64 y))) ≡ x -ℤ y
  difference-read = to_z-of_z difference-fits ∙ rw (back-first, back-second) refl

-- Changes put one after the other behind the values: so many of them
abbrev change : ℕ → List ℤ → List ℤ
change n state = difference (take n (drop n state)) (take n state)

abbrev pub Changed : ℕ → List ℤ → ℕ → List ℤ
Changed n state i = paste state (2 * n) (difference (take n (drop n state)) (take n state)) i

module _ (n : ℕ) (state : List ℤ) (room : 3 * n ≤ length state) where
  after-length : length (take n (drop n state)) ≡ n
  after-length = length-take-le n (drop n state) (omega (arith, length-drop n state))

  before-length : length (take n state) ≡ n
  before-length = length-take-le n state (omega arith)

  change-length : length (change n state) ≡ n
  change-length = difference-length (take n (drop n state)) (take n state) (after-length ∙ sym before-length) ∙ after-length

  change-at : (i : ℕ) → i < n → get_or (change n state) i (pos 0) ≡ get_or state (n + i) (pos 0) -ℤ get_or state i (pos 0)
  change-at i h =
      difference-item (take n (drop n state)) (take n state) i (omega (arith, after-length)) (omega (arith, before-length))
      ∙ ap₂ (λ x y. x -ℤ y) (get_or-take n (drop n state) i (pos 0) h ∙ get_or-drop n state i (pos 0)) (get_or-take n state i (pos 0) h)

  -- before the first: the values as they are
  pub changes-none : state ≡ Changed n state 0
  changes-none = paste-zero state (2 * n) (change n state)

  pub changes-more : (i : ℕ) → i < n → set (Changed n state i) (2 * n + i) (get_or state (n + i) (pos 0) -ℤ get_or state i (pos 0)) ≡ Changed n state (i + 1)
  changes-more i h =
      ap (set (Changed n state i) (2 * n + i)) (sym (change-at i h))
      ∙ paste-suc state (2 * n) (change n state) i (pos 0) (omega arith) (omega (arith, change-length))
      ∙ ap (Changed n state) (sym (add-one i))

  pub changes-length : (i : ℕ) → i ≤ n → length (Changed n state i) ≡ length state
  changes-length i h = length-paste state (2 * n) (change n state) i (omega arith) (omega (arith, change-length))

  pub changes-apart : (i j : ℕ) → i ≤ n → j < 2 * n → get_or (Changed n state i) j (pos 0) ≡ get_or state j (pos 0)
  changes-apart i j h k = pasted-before state (2 * n) (change n state) i (omega arith) (omega (arith, change-length)) j k

  -- after the last: the values are as they were, and the changes stand behind them
  pub changes-all : (i : ℕ) → i ≡ n → Changed n state i ≡ with_changes n state
  changes-all i e = ap (Changed n state) e

  three : 3 * n ≡ 2 * n + n
  three = omega arith

  pub changes-kept : KeptValues (2 * n) (3 * n) state (with_changes n state)
  changes-kept =
      record {
        front = pasted-front state (2 * n) (change n state) n (omega arith) (omega (arith, change-length));
        rest = ap (λ (k : ℕ). drop k (Changed n state n)) three ∙ drop-paste state (2 * n) (change n state) n (omega arith) (omega (arith, change-length)) ∙ ap (λ (k : ℕ). drop k state) (sym three);
      }

  pub changes-taken : take n (drop (2 * n) (with_changes n state)) ≡ difference (take n (drop n state)) (take n state)
  changes-taken =
      pasted-part state (2 * n) (change n state) n (omega arith) (omega (arith, change-length))
      ∙ ap (λ (k : ℕ). take k (change n state)) (sym change-length) ∙ take-length (change n state)

  changes-long : n ≤ length (drop (2 * n) (with_changes n state))
  changes-long = omega (arith, length-drop (2 * n) (with_changes n state), changes-length n (omega arith))

  change-small : SmallValues (2 * n) state → (i : ℕ) → i < n → nat_abs (get_or (change n state) i (pos 0)) ≤ 2 ^ 28
  unfolding item
  change-small v i h =
      rw (change-at i h)
      (difference-small (get_or state (n + i) (pos 0)) (get_or state i (pos 0)) (v.small (n + i) (omega arith)) (v.small i (omega arith)))

  pub changes-small : SmallValues (2 * n) state → n ≤ 8 → SmallPoint n (drop (2 * n) (with_changes n state))
  unfolding item
  changes-small v few =
      record {
        few = omega arith;
        long = changes-long;
        small = λ i h.
            let same : get_or (drop (2 * n) (with_changes n state)) i (pos 0) ≡ get_or (change n state) i (pos 0) = sym (get_or-take n (drop (2 * n) (with_changes n state)) i (pos 0) h) ∙ ap (λ xs. get_or xs i (pos 0)) changes-taken in
            rw same (omega (arith, mul-le-mul (change-small v i h) few));
      }

-- The values after, in the place of those before
module _ (n : ℕ) (state : List ℤ) (room : 2 * n ≤ length state) where
  pub moved-taken : take n (moved_on n state) ≡ take n (drop n state)
  moved-taken = pasted-part state 0 (drop n state) n (omega arith) (omega (arith, length-drop n state))

-- How large values are: as a row's point, and those behind the first
pub small-point : {count : ℕ} {values : List ℤ} → SmallValues count values → count ≤ 16 → SmallPoint count values
small-point v few = record { few = few; long = v.long; small = λ i h. omega (arith, mul-le-mul (v.small i h) few) }

pub small-after : {n : ℕ} {values : List ℤ} → SmallValues (2 * n) values → SmallValues n (drop n values)
unfolding item
small-after {n} {values} v =
    record {
      long = omega (arith, v.long, length-drop n values);
      small = λ i h. rw (get_or-drop n values i (pos 0)) (v.small (n + i) (omega arith));
    }
