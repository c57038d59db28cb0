-- Fields read from bytes: where a field is whole, its number by its bytes; where it is cut, the refusal. Assumes nothing.
use mathlib.Core.Path.{◌≡◌, refl, sym}
use mathlib.Core.Bool.{Bool, true, false, cond, ◌&&◌, ◌||◌}
use mathlib.Core.List.{List}
use Prim.Native.Nat.{ℕ, ◌+◌, ◌*◌, ◌^◌, ◌≤◌, ◌<◌}
use native.Mathlib.Omega.{arith}
use lib.Dec.{leb, ltb, eqb, leb→le, ltb→lt}
use lib.ListN.{length, get_or, take, drop}
use borrow.Author.Tests.{le-leb, lt-leb, lt-ltb, le-ltb, eq-eqb, ne_eqb, leb-true}
use Rattle.formats.specs.Reading.{got, refused, Reader, big_endian, field, u8, passing, must, within, below}
use Rattle.farkas.proofs.Promise.{first_byte}
use Rattle.formats.proofs.Gives.{got-value, got-next, tested, and_left, and_right}

pub field-got : (size : ℕ) (s : List ℕ) (p : ℕ) → p + size ≤ length s → field size s p ≡ got (big_endian (take size (drop p s))) (p + size)
unfolding field
field-got size s p h = rw (le-leb (p + size) (length s) h) refl

pub field_cut : (size : ℕ) (s : List ℕ) (p : ℕ) → length s < p + size → field size s p ≡ refused 4 p
unfolding field
field_cut size s p h = rw (lt-leb (p + size) (length s) h) refl

pub byte_at : (s : List ℕ) (p : ℕ) → p < length s → big_endian (take 1 (drop p s)) ≡ get_or s p 0
unfolding big_endian
byte_at s p h = rw (first_byte s p h) (go (get_or s p 0))
  where
    go : (b : ℕ) → b * 256 ^ 0 + 0 ≡ b
    go b = omega arith

pub two_at : (s : List ℕ) (p : ℕ) → p + 2 ≤ length s → big_endian (take 2 (drop p s)) ≡ get_or s p 0 * 256 + get_or s (p + 1) 0
unfolding big_endian
two_at s p h = rw (first_byte s p (omega arith), first_byte s (p + 1) (omega arith)) (go (get_or s p 0) (get_or s (p + 1) 0))
  where
    go : (a b : ℕ) → a * 256 ^ 1 + (b * 256 ^ 0 + 0) ≡ a * 256 + b
    go a b = omega arith

-- a range
pub range-low : (least most v p next : ℕ) → v < least → passing (λ v. leb least v && leb v most) 5 p (got v next) ≡ refused 5 p
unfolding passing
range-low least most v p next h = rw (lt-leb least v h) refl

pub range-high : (least most v p next : ℕ) → least ≤ v → most < v → passing (λ v. leb least v && leb v most) 5 p (got v next) ≡ refused 5 p
unfolding passing
range-high least most v p next h k = rw (le-leb least v h, lt-leb v most k) refl

pub range-in : (least most v p next : ℕ) → least ≤ v → v ≤ most → passing (λ v. leb least v && leb v most) 5 p (got v next) ≡ got v next
unfolding passing
range-in least most v p next h k = rw (le-leb least v h, le-leb v most k) refl

pub below_in : (count v p next : ℕ) → v < count → passing (λ v. ltb v count) 5 p (got v next) ≡ got v next
unfolding passing
below_in count v p next h = rw (lt-ltb v count h) refl

pub below_out : (count v p next : ℕ) → count ≤ v → passing (λ v. ltb v count) 5 p (got v next) ≡ refused 5 p
unfolding passing
below_out count v p next h = rw (le-ltb v count h) refl

-- what a field that was read tells: it was whole, where the next begins, and its value
pub record FieldRead (size : ℕ) (s : List ℕ) (p v next : ℕ) : Type 0 where
  pub whole : p + size ≤ length s
  pub after : next ≡ p + size
  pub value : v ≡ big_endian (take size (drop p s))

read_step : (size : ℕ) (s : List ℕ) (p v next : ℕ) (b : Bool) → leb (p + size) (length s) ≡ b → cond b (got (big_endian (take size (drop p s))) (p + size)) (refused 4 p) ≡ got v next → FieldRead size s p v next
read_step size s p v next true q e =
    record { whole = leb-true (p + size) (length s) q; after = sym (got-next e); value = sym (got-value e) }
read_step size s p v next false q e = let z : ◌≡◌ {A = ℕ} 0 1 = cc in absurd (omega arith)

pub field-read : (size : ℕ) (s : List ℕ) (p v next : ℕ) → field size s p ≡ got v next → FieldRead size s p v next
unfolding field
field-read size s p v next e = read_step size s p v next (leb (p + size) (length s)) refl e

pub byte-read : (s : List ℕ) (p v next : ℕ) → u8 s p ≡ got v next → FieldRead 1 s p v next
unfolding u8
byte-read s p v next e = field-read 1 s p v next e

-- and a field in a range
pub record InRange (r : Reader ℕ) (least most : ℕ) (s : List ℕ) (p v next : ℕ) : Type 0 where
  pub low : least ≤ v
  pub high : v ≤ most
  pub read : r s p ≡ got v next

pub range-read : (r : Reader ℕ) (least most : ℕ) (s : List ℕ) (p v next : ℕ) → within least most r s p ≡ got v next → InRange r least most s p v next
unfolding within must
range-read r least most s p v next e =
    let w = tested (λ v. leb least v && leb v most) 5 p (r s p) v next e in
    record {
      low = leb→le least v (and_left (leb least v) (leb v most) w.passed);
      high = leb→le v most (and_right (leb least v) (leb v most) w.passed);
      read = w.read;
    }

pub record BelowCount (r : Reader ℕ) (count : ℕ) (s : List ℕ) (p v next : ℕ) : Type 0 where
  pub less : v < count
  pub read : r s p ≡ got v next

pub count-read : (r : Reader ℕ) (count : ℕ) (s : List ℕ) (p v next : ℕ) → below count r s p ≡ got v next → BelowCount r count s p v next
unfolding below must
count-read r count s p v next e =
    let w = tested (λ v. ltb v count) 5 p (r s p) v next e in
    record { less = ltb→lt v count w.passed; read = w.read }

-- A number below a count, or 255
abbrev pub numbered : ℕ → ℕ → Bool
numbered count v = ltb v count || eqb v 255

module _ (count v p next : ℕ) where
  pub numbered_below : v < count → passing (numbered count) 5 p (got v next) ≡ got v next
  unfolding passing
  numbered_below h = rw (lt-ltb v count h) refl

  pub numbered-last : count ≤ v → v ≡ 255 → passing (numbered count) 5 p (got v next) ≡ got v next
  unfolding passing
  numbered-last h e = rw (le-ltb v count h, eq-eqb v 255 e) refl

  pub numbered-not : count ≤ v → (v ≡ 255 → ⊥) → passing (numbered count) 5 p (got v next) ≡ refused 5 p
  unfolding passing
  numbered-not h e = rw (le-ltb v count h, ne_eqb v 255 e) refl
