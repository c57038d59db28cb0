-- How a sheet is read (01, Sheet, and the order of 01's table): fields left to right, each a value and the next place, or a refusal,
-- a number and a place. A sheet is its list of bytes. Assumes nothing.
use Rattle.std.specs.Prelude.{Bool, true, false, cond, ◌&&◌, List, [], ◌∷◌, ℕ, zero, suc, ◌+◌, leb, ltb, eqb, ℤ, length, take, drop}
use Rattle.std.specs.Int.Signed.{le_z}
use Rattle.formats.specs.Versions.{version_fits, kind_fits, has_paper}
-- "all big-endian": the number that bytes give; "s32 is two's complement": a number as a signed one
unfoldable pub use Rattle.farkas.specs.Words.{big_endian, signed}

-- what reading gives: a value and the place after it, or the number and the place of a refusal
pub data Got (A : Type 0) : Type 0 where
  got : A → ℕ → Got A
  refused : ℕ → ℕ → Got A

-- a reading of the sheet from a place on
abbrev pub Reader : Type 0 → Type 0
Reader A = List ℕ → ℕ → Got A

unfoldable pub and_then : {A B : Type 0} → Got A → (A → Reader B) → List ℕ → Got B
and_then (got a next) f s = f a s next
and_then (refused number place) f s = refused number place

-- one reading, then the next, from the place where the first ended; a refusal ends the reading
infixl 1 ◌>>=◌ ◌>>◌
unfoldable pub ◌>>=◌ : {A B : Type 0} → Reader A → (A → Reader B) → Reader B
◌>>=◌ r f s p = and_then (r s p) f s

unfoldable pub ◌>>◌ : {A B : Type 0} → Reader A → Reader B → Reader B
◌>>◌ r t s p = and_then (r s p) (λ a. t) s

unfoldable pub give : {A : Type 0} → A → Reader A
give a s p = got a p

-- the place where the next field begins
unfoldable pub here : Reader ℕ
here s p = got p p

-- a test that is no field: where it fails, the refusal has this number and this place
unfoldable pub expect : Bool → ℕ → ℕ → Reader (Unit {0})
expect ok number place s p = cond ok (got tt p) (refused number place)

-- a field of some bytes; 4, "body cut in a field": "A cut field's place is its first byte"
unfoldable pub field : ℕ → Reader ℕ
field size s p = cond (leb (p + size) (length s)) (got (big_endian (take size (drop p s))) (p + size)) (refused 4 p)

-- "u8, u16, u32 are unsigned"
unfoldable pub u8 : Reader ℕ
u8 = field 1

unfoldable pub u16 : Reader ℕ
u16 = field 2

unfoldable pub u32 : Reader ℕ
u32 = field 4

unfoldable pub s32 : Reader ℤ
s32 = u32 >>= λ n. give (signed n)

-- a field that must pass a test, else the number at the field's first byte ("of 5, 6 and 9 the field's")
unfoldable pub passing : {A : Type 0} → (A → Bool) → ℕ → ℕ → Got A → Got A
passing test number place (got a next) = cond (test a) (got a next) (refused number place)
passing test number place (refused n p) = refused n p

unfoldable pub must : {A : Type 0} → (A → Bool) → ℕ → Reader A → Reader A
must test number r s p = passing test number p (r s p)

-- 5, "field .. outside its range"
unfoldable pub within : ℕ → ℕ → Reader ℕ → Reader ℕ
within least most r = must (λ v. leb least v && leb v most) 5 r

unfoldable pub below : ℕ → Reader ℕ → Reader ℕ
below count r = must (λ v. ltb v count) 5 r

-- the same reading several times, and one reading for each element of a list
unfoldable pub many : {A : Type 0} → ℕ → Reader A → Reader (List A)
many zero r = give []
many (suc n) r = r >>= λ a. many n r >>= λ rest. give (a ∷ rest)

unfoldable pub each : {A B : Type 0} → (A → Reader B) → List A → Reader (List B)
each f [] = give []
each f (a ∷ xs) = f a >>= λ b. each f xs >>= λ rest. give (b ∷ rest)

-- "A sheet has at most 32,768 bytes: u16 L, the bytes that follow it"; 1, "under 4 or over 32,768 bytes, or L wrong", place 0
unfoldable pub length_right : List ℕ → Bool
length_right s = leb 4 (length s) && leb (length s) 32768 && eqb (big_endian (take 2 s) + 2) (length s)

unfoldable pub sized : Reader (Unit {0})
sized s p = cond (length_right s) (got tt p) (refused 1 0)

-- "u8 version, 1; u8 kind": numbers 2 and 3 at their places. The version is handed on
unfoldable pub header : ℕ → Reader ℕ
header kind = do
  sized
  u16
  version ← must (version_fits kind) 2 u8
  must (kind_fits kind) 3 u8
  give version

-- "begin their body with a u32 paper number" (02, order 7); where a version has none, nothing is read, and it counts as 0
unfoldable pub paper_if : Bool → Reader ℕ
paper_if true = u32
paper_if false = give 0

unfoldable pub read_paper : ℕ → Reader ℕ
read_paper version = paper_if (has_paper version)

-- 4, "bytes left": "that of bytes left the first of them"
unfoldable pub finished : Reader (Unit {0})
finished s p = cond (leb (length s) p) (got tt p) (refused 4 p)

-- a range of signed fields
unfoldable pub within_signed : ℤ → ℤ → Reader ℤ → Reader ℤ
within_signed least most r = must (λ v. le_z least v && le_z v most) 5 r
