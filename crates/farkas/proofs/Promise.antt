-- What rows and proofs promise: all that the crates above may use of this crate, beside its definitions (specs/) and the general laws on
-- lists, whole numbers, bits and arrays (All, Integers, Order, Comparing, Bits, Fill), which say nothing of rows.
--
-- The functions (src/lib.rt), each an equation. The sums are the row of what the lent slice holds and of the bound beside it:
--   add_row sums b m shift words at n    leaves add_row sums m (onward shift (row_in words at n))                   where Spare m sums
--   add_rates sums m words at n          leaves add_row sums m (on_change (row_in words at n)), the bound as it was
--   add_one sums unknown m               leaves the sums with m more at one unknown
--   strict_after before m strict         ≡ strict_after before m strict: whether a strict row is among the summed
--   judge sums b k shift words at n must has the number sums_test k sums (onward shift (row_in words at n)), the goal strict where it must
--                                        be; passed, the sums are all 0
--   judge_zero sums b                    has the number sums_test 0 sums zero_row; passed, the sums are all 0
--   compare strict a b                   ≡ compared strict a b
--   multiply_add x m y                   ≡ x +ℤ m *ℤ y                                                            where that fits 64 bits
-- Below: numbers in bytes; rows may be held with zeros at the end; what entries sum to, in any order and entry by entry; the sums hold in 64
-- bits; the test gives 0 exactly when Farkas' condition holds; what strict rows change in it; and what meets the condition is sound. Each
-- law is proved where its name stands after the sign =. Assumes nothing.
use mathlib.Core.Path.{◌≡◌}
use mathlib.Core.Logic.{◌↔◌, ◌≢◌, ◌⊎◌}
use mathlib.Core.Bool.{Bool, true, false}
use mathlib.Core.List.{List, [], ◌∷◌, ◌++◌}
use Prim.Native.Nat.{ℕ, ◌+◌, ◌*◌, ◌^◌, ◌≤◌, ◌<◌}
use lib.Dec.{T}
use lib.IntN.{ℤ, pos, negsuc, neg_ℤ, nat_abs, ◌+ℤ◌, ◌*ℤ◌}
use lib.ListN.{length, get_or, set, drop, replicate}
use lib.Signed.{◌≤ℤ◌, ◌<ℤ◌}
use Rattle.farkas.specs.Rows.{Row, Holds, Alike, item, row_of, zero_row, onward, on_change}
use Rattle.farkas.specs.Farkas.{Entry, Proof, sum_at, bound_sum, strict_sum, Agree, BoundMet, SumsMeet, PlainMeet, Meets, SumsOf, same_z, plus, add_row, add_entry, summed, sums_test, farkas_test}
use Rattle.farkas.specs.Sizes.{Bytes, Small, Within, Bounded}
use Rattle.farkas.specs.Sums.{plus_from, RoomAt, Spare}
use Rattle.farkas.specs.Lists.{All}
use Rattle.farkas.specs.Words.{row_in}
use Rattle.farkas.proofs.WordLaws as words
use Rattle.farkas.proofs.Alike as alike
use Rattle.farkas.proofs.Entries as entries
use Rattle.farkas.proofs.Sizes as sizes
use Rattle.farkas.proofs.ByteSizes as bytes
use Rattle.farkas.proofs.SumLaws as sums
use Rattle.farkas.proofs.Test as test
use Rattle.farkas.proofs.Strict as strict
use Rattle.farkas.proofs.Soundness as soundness

-- Numbers of four bytes: the first byte of what is left
pub first_byte : (s : List ℕ) (p : ℕ) → p < length s → drop p s ≡ get_or s p 0 ∷ drop (p + 1) s
first_byte = words.first_byte

-- Rows alike serve alike. The code holds sums with a number for each unknown, the definitions hold a row with as many as it has
pub alike-padded :
    (n : ℕ) (xs : List ℤ) (b : ℤ) (t : Bool)
    → Alike (record { coefficients = xs ++ replicate n (pos 0); bound = b; strict = t }) (record { coefficients = xs; bound = b; strict = t })
alike-padded = alike.alike-padded

pub alike-sums : {hypotheses : List Row} {es : List Entry} {r s : Row} → Alike r s → SumsOf hypotheses es r → SumsOf hypotheses es s
alike-sums = entries.alike-sums

pub alike-test : (k : ℕ) {r s x y : Row} → Alike r s → Alike x y → sums_test k r x ≡ sums_test k s y
alike-test = alike.alike-test

-- The sums of entries, as a row holds them: of none; of one more, whose row is added m times at every unknown and to the bound; worked out
-- entry by entry; with any part of the entries first, so in any order; and tested as the proof is
pub none-summed : (hypotheses : List Row) (n : ℕ) → SumsOf hypotheses [] (row_of (replicate n (pos 0)) (pos 0))
none-summed = entries.none-summed

pub sums_next :
    (hypotheses : List Row) (es : List Entry) (e : Entry) {sums : Row}
    → SumsOf hypotheses es sums → SumsOf hypotheses (es ++ (e ∷ [])) (add_entry hypotheses sums e)
sums_next = entries.sums_next

pub sums-worked : (hypotheses : List Row) (es : List Entry) → SumsOf hypotheses es (summed hypotheses es)
sums-worked = entries.sums-worked

pub any-first :
    (hypotheses : List Row) (es fs gs : List Entry) {sums : Row}
    → SumsOf hypotheses (es ++ (fs ++ gs)) sums → SumsOf hypotheses (fs ++ (es ++ gs)) sums
any-first = entries.any-first

pub held_test :
    (hypotheses : List Row) (goal : Row) (p : Proof) {sums : Row}
    → SumsOf hypotheses p.entries sums → farkas_test hypotheses goal p ≡ sums_test p.k sums goal
held_test = entries.held_test

-- The sums hold in 64 bits: of any entries within 01's ranges, with room for one more below 128; and of one row more, for a loop that adds
-- rows
pub sums-within : (hypotheses : List Row) (es : List Entry) → Bounded hypotheses es → {sums : Row} → SumsOf hypotheses es sums → Within (length es * 2 ^ 55) sums
sums-within = sizes.sums-within

pub sums-fit : (hypotheses : List Row) (es : List Entry) → Bounded hypotheses es → {sums : Row} → SumsOf hypotheses es sums → Within (2 ^ 62) sums
sums-fit = sizes.sums-fit

pub sums-room :
    (hypotheses : List Row) (es : List Entry) → Bounded hypotheses es → {sums : Row} → SumsOf hypotheses es sums
    → (m : ℕ) → m < 2 ^ 24 → length es < 128 → Spare m sums
sums-room = sizes.sums-room

pub grown : (n m : ℕ) (s r : Row) → Within (n * 2 ^ 55) s → m < 2 ^ 24 → Within (2 ^ 31) r → Within ((n + 1) * 2 ^ 55) (add_row s m r)
grown = sizes.grown

pub wider : {a b : ℕ} {r : Row} → a ≤ b → Within a r → Within b r
wider = sizes.wider

pub set-within : (size : ℕ) (xs : List ℤ) (k : ℕ) (a : ℤ) → ((i : ℕ) → nat_abs (item xs i) ≤ size) → nat_abs a ≤ size → (i : ℕ) → nat_abs (item (set xs k a) i) ≤ size
set-within = sizes.set-within

-- Rows of coefficients that are no larger than a size, part by part; a row in bytes is within 2 ^ 31, on whichever unknowns it stands
pub small-none : (size : ℕ) → Small size []
small-none = bytes.small-none

pub small-cons : (size : ℕ) (a : ℤ) (xs : List ℤ) → nat_abs a ≤ size → Small size xs → Small size (a ∷ xs)
small-cons = bytes.small-cons

pub small-append : (size : ℕ) (xs ys : List ℤ) → Small size xs → Small size ys → Small size (xs ++ ys)
small-append = bytes.small-append

pub small-zeros : (size n : ℕ) → Small size (replicate n (pos 0))
small-zeros = bytes.small-zeros

pub size-negated : (z : ℤ) → nat_abs (neg_ℤ z) ≡ nat_abs z
size-negated = bytes.size-negated

pub row_within : (s : List ℕ) (p shift n : ℕ) → Bytes s → Within (2 ^ 31) (onward shift (row_in s p n))
row_within = bytes.row_within

pub rates-within : (s : List ℕ) (p n : ℕ) → Bytes s → Within (2 ^ 31) (on_change (row_in s p n))
rates-within = bytes.rates-within

-- The same for sums in a lent slice: where all are 0, and with room for one more entry
pub zero-sums : (n : ℕ) → Within 0 (row_of (replicate n (pos 0)) (pos 0))
zero-sums = sizes.zero-sums

pub spare : (n m : ℕ) (s : Row) → Within (n * 2 ^ 55) s → m < 2 ^ 24 → n < 128 → Spare m s
spare = sizes.spare

-- room at some of the sums, and what is left of it once numbers were added past them
pub room-all : {m : ℕ} {sums : List ℤ} {b : ℤ} (to count : ℕ) → Spare m (row_of sums b) → RoomAt m to count sums
room-all = sums.room-all

pub room-before : {k at n : ℕ} {sums : List ℤ} (to : ℕ) (m : ℤ) (xs : List ℤ) → at + n ≤ to → RoomAt k at n sums → RoomAt k at n (plus_from to m sums xs)
room-before = sums.room-before

-- Rows of few coefficients, added one coefficient after the other: one coefficient past zeros, and one at v of each half; −1 is 1 taken
-- away, a bound of 0 leaves the bound, and a row that is not strict leaves sums that are not
pub plus-onward : (to m : ℕ) (sums xs : List ℤ) → to + length xs ≤ length sums → plus m sums (replicate to (pos 0) ++ xs) ≡ plus_from to (pos m) sums xs
plus-onward = sums.plus-onward

pub plus-pair : (n v m : ℕ) (a b : ℤ) (sums : List ℤ) → v < n → n + n ≤ length sums → plus m sums (set (replicate n (pos 0)) v a ++ set (replicate n (pos 0)) v b) ≡ plus_from v (pos m) (plus_from (n + v) (pos m) sums (b ∷ [])) (a ∷ [])
plus-pair = sums.plus-pair

pub less_one : (to m : ℕ) (sums : List ℤ) → plus_from to (neg_ℤ (pos m)) sums (pos 1 ∷ []) ≡ plus_from to (pos m) sums (negsuc 0 ∷ [])
less_one = sums.less_one

pub no_bound : (b : ℤ) (m : ℕ) → b ≡ b +ℤ pos m *ℤ pos 0
no_bound = sums.no_bound

pub add-plain : (sums : List ℤ) (b : ℤ) (m : ℕ) (r : Row) → r.strict ≡ false → row_of (plus m sums r.coefficients) (b +ℤ pos m *ℤ r.bound) ≡ add_row (row_of sums b) m r
add-plain = sums.add-plain

-- The test's numbers: 0 exactly where Farkas' condition is met, 11 exactly where all sums agree and the bound fails, and else 10
pub same-means : (a b : ℤ) → T (same_z a b) ↔ (a ≡ b)
same-means = test.same-means

pub zero-means : (hypotheses : List Row) (goal : Row) (p : Proof) → (farkas_test hypotheses goal p ≡ 0) ↔ Meets hypotheses goal p
zero-means = entries.zero-means

pub ten-means :
    (hypotheses : List Row) (goal : Row) (p : Proof)
    → (farkas_test hypotheses goal p ≡ 10) ↔ ((i : ℕ) × (sum_at hypotheses p.entries i ≢ pos p.k *ℤ item goal.coefficients i))
ten-means = entries.ten-means

pub eleven-means :
    (hypotheses : List Row) (goal : Row) (p : Proof)
    → (farkas_test hypotheses goal p ≡ 11) ↔ (Agree p.k (sum_at hypotheses p.entries) goal.coefficients × (¬ BoundMet p.k (bound_sum hypotheses p.entries) (strict_sum hypotheses p.entries) goal.bound goal.strict))
eleven-means = entries.eleven-means

pub only-three :
    (hypotheses : List Row) (goal : Row) (p : Proof)
    → (farkas_test hypotheses goal p ≡ 0) ⊎ ((farkas_test hypotheses goal p ≡ 10) ⊎ (farkas_test hypotheses goal p ≡ 11))
only-three = entries.only-three

-- Strict rows, in order 8's words: at k = 0 the summed bound is below 0, or 0 with a strict entry; a strict goal at k from 1 needs it below k
-- times its own, or equal with such an entry; any other goal, at most. Where no hypothesis that is used is strict, nor the goal, the
-- condition is 01's word for word
pub at_zero :
    (sums : ℕ → ℤ) (s : ℤ) (strict : Bool) (goal : Row)
    → SumsMeet 0 sums s strict goal ↔ (Agree 0 sums goal.coefficients × ((s <ℤ pos 0) ⊎ ((s ≡ pos 0) × T strict)))
at_zero = strict.at_zero

pub strict-goal :
    (k : ℕ) (sums : ℕ → ℤ) (s : ℤ) (strict : Bool) (goal : Row) → 1 ≤ k → goal.strict ≡ true
    → SumsMeet k sums s strict goal
    ↔ (Agree k sums goal.coefficients × ((s <ℤ (pos k *ℤ goal.bound)) ⊎ ((s ≡ pos k *ℤ goal.bound) × T strict)))
strict-goal = strict.strict-goal

pub plain-goal :
    (k : ℕ) (sums : ℕ → ℤ) (s : ℤ) (strict : Bool) (goal : Row) → 1 ≤ k → goal.strict ≡ false
    → SumsMeet k sums s strict goal ↔ (Agree k sums goal.coefficients × (s ≤ℤ (pos k *ℤ goal.bound)))
plain-goal = strict.plain-goal

pub meets-plain :
    (hypotheses : List Row) (goal : Row) (p : Proof) → All (λ e. (get_or hypotheses e.hypothesis zero_row).strict ≡ false) p.entries → goal.strict ≡ false
    → Meets hypotheses goal p ↔ PlainMeet p.k (sum_at hypotheses p.entries) (bound_sum hypotheses p.entries) goal
meets-plain = strict.meets-plain

pub none-strict :
    (hypotheses : List Row) (es : List Entry) → All (λ e. (get_or hypotheses e.hypothesis zero_row).strict ≡ false) es
    → strict_sum hypotheses es ≡ false
none-strict = strict.none-strict

pub none-used :
    (hypotheses : List Row) (es : List Entry) → All (λ r. r.strict ≡ false) hypotheses
    → All (λ e. (get_or hypotheses e.hypothesis zero_row).strict ≡ false) es
none-used = strict.none-used

-- Soundness: where a proof meets the condition and its hypotheses hold, at any point x over any q from 1, its goal holds too; and with
-- k = 0 they cannot all hold
pub sound :
    (hypotheses : List Row) (goal : Row) (p : Proof) → Meets hypotheses goal p
    → (x : List ℤ) (q : ℕ) → 1 ≤ q → All (Holds q x) hypotheses → (1 ≤ p.k → Holds q x goal) × (p.k ≡ 0 → ⊥)
sound = soundness.sound

pub sound-unsafe :
    (hypotheses : List Row) (goal : Row) (p : Proof) → Meets hypotheses goal p
    → (x : List ℤ) (q : ℕ) → 1 ≤ q → p.k ≡ 0 → ¬ All (Holds q x) hypotheses
sound-unsafe = soundness.sound-unsafe
