-- A sheet's header by the bytes of the sheet: its length, its version and its kind, each right or refused. Assumes nothing.
use mathlib.Core.Path.{◌≡◌, refl, sym, ap, ◌∙◌}
use mathlib.Core.Bool.{Bool, true, false}
use mathlib.Core.List.{List}
use Prim.Native.Nat.{ℕ, ◌+◌, ◌*◌, ◌≤◌, ◌<◌}
use native.Mathlib.Decide.{dec_le}
use native.Mathlib.Omega.{arith}
use lib.Dec.{eqb}
use lib.ListN.{length, get_or, take, drop}
use borrow.Author.Tests.{le-leb, lt-leb, eq-eqb, ne_eqb}
use Rattle.formats.specs.Versions.{version_fits, kind_fits}
use Rattle.formats.specs.Reading.{got, refused, Reader, and_then, ◌>>◌, give, big_endian, u8, u16, passing, must, length_right, sized, header, finished}
use Rattle.formats.proofs.FieldLaws.{field-got, byte_at, two_at}
use Rattle.formats.proofs.Gives.{bind-got, then-got}
use Rattle.fields.proofs.Skipping.{bind-refused}

-- the length
pub length-short : (s : List ℕ) → length s < 4 → false ≡ length_right s
unfolding length_right
length-short s h = rw (lt-leb 4 (length s) h) refl

pub length-long : (s : List ℕ) → 4 ≤ length s → 32768 < length s → false ≡ length_right s
unfolding length_right
length-long s h k = rw (le-leb 4 (length s) h, lt-leb (length s) 32768 k) refl

pub length-told : (s : List ℕ) → 4 ≤ length s → length s ≤ 32768 → eqb (get_or s 0 0 * 256 + get_or s 1 0 + 2) (length s) ≡ length_right s
unfolding length_right
length-told s h k = rw (le-leb 4 (length s) h, le-leb (length s) 32768 k) (ap (λ (v : ℕ). eqb (v + 2) (length s)) (sym (two_at s 0 (omega arith))))

pub right-least : (s : List ℕ) → length_right s ≡ true → 4 ≤ length s
right-least s e = go (dec_le 4 (length s))
  where
    go : Dec (4 ≤ length s) → 4 ≤ length s
    go (yes h) = h
    go (no f) =
        let short : false ≡ length_right s = length-short s (omega arith) in
        let z : ◌≡◌ {A = ℕ} 0 1 = cc in
        absurd (omega arith)

-- a field that must equal a number
pub equal-in : (x v number p next : ℕ) → v ≡ x → passing (λ v. eqb v x) number p (got v next) ≡ got v next
unfolding passing
equal-in x v number p next h = rw (eq-eqb v x h) refl

pub equal-out : (x v number p next : ℕ) → (v ≡ x → ⊥) → passing (λ v. eqb v x) number p (got v next) ≡ refused number p
unfolding passing
equal-out x v number p next h = rw (ne_eqb v x h) refl

-- a field that must pass a test
passes-in : (test : ℕ → Bool) (v number p next : ℕ) → test v ≡ true → passing test number p (got v next) ≡ got v next
unfolding passing
passes-in test v number p next h = rw h refl

passes-out : (test : ℕ → Bool) (v number p next : ℕ) → test v ≡ false → passing test number p (got v next) ≡ refused number p
unfolding passing
passes-out test v number p next h = rw h refl

pub byte-got : (s : List ℕ) (p : ℕ) → p < length s → u8 s p ≡ got (get_or s p 0) (p + 1)
unfolding u8
byte-got s p h = field-got 1 s p (omega arith) ∙ ap (λ (v : ℕ). got v (p + 1)) (byte_at s p h)

then-refused : {A B : Type 0} (r : Reader A) (t : Reader B) (s : List ℕ) (p : ℕ) {number place : ℕ} → r s p ≡ refused number place → (r >> t) s p ≡ refused number place
unfolding ◌>>◌ and_then
then-refused r t s p e = ap (λ g. and_then g (λ a. t) s) e

module _ (s : List ℕ) (kind : ℕ) where
  pub header-unsized : length_right s ≡ false → header kind s 0 ≡ refused 1 0
  unfolding header sized
  header-unsized e = then-refused sized _ s 0 (rw e refl)

  module _ (right : length_right s ≡ true) where
    size-right : sized s 0 ≡ got tt 0
    unfolding sized
    size-right = rw right refl

    length-passed : u16 s 0 ≡ got (big_endian (take 2 (drop 0 s))) 2
    unfolding u16
    length-passed = let h = right-least s right in field-got 2 s 0 (omega arith)

    version-read : u8 s 2 ≡ got (get_or s 2 0) 3
    version-read = let h = right-least s right in byte-got s 2 (omega arith)

    kind-read : u8 s 3 ≡ got (get_or s 3 0) 4
    kind-read = let h = right-least s right in byte-got s 3 (omega arith)

    pub header-version : version_fits kind (get_or s 2 0) ≡ false → header kind s 0 ≡ refused 2 2
    unfolding header must
    header-version h =
        then-got sized _ s 0 size-right
        (then-got u16 _ s 0 length-passed
        (bind-refused (must (version_fits kind) 2 u8) _ s 2
        (ap (passing (version_fits kind) 2 2) version-read ∙ passes-out (version_fits kind) (get_or s 2 0) 2 2 3 h)))

    module _ (fits : version_fits kind (get_or s 2 0) ≡ true) where
      version-right : must (version_fits kind) 2 u8 s 2 ≡ got (get_or s 2 0) 3
      unfolding must
      version-right = ap (passing (version_fits kind) 2 2) version-read ∙ passes-in (version_fits kind) (get_or s 2 0) 2 2 3 fits

      pub header-kind : kind_fits kind (get_or s 3 0) ≡ false → header kind s 0 ≡ refused 3 3
      unfolding header must
      header-kind h =
          then-got sized _ s 0 size-right
          (then-got u16 _ s 0 length-passed
          (bind-got (must (version_fits kind) 2 u8) _ s 2 version-right
          (then-refused (must (kind_fits kind) 3 u8) _ s 3
          (ap (passing (kind_fits kind) 3 3) kind-read ∙ passes-out (kind_fits kind) (get_or s 3 0) 3 3 4 h))))

      pub header-right : kind_fits kind (get_or s 3 0) ≡ true → header kind s 0 ≡ got (get_or s 2 0) 4
      unfolding header must give
      header-right h =
          then-got sized _ s 0 size-right
          (then-got u16 _ s 0 length-passed
          (bind-got (must (version_fits kind) 2 u8) _ s 2 version-right
          (then-got (must (kind_fits kind) 3 u8) _ s 3
          (ap (passing (kind_fits kind) 3 3) kind-read ∙ passes-in (kind_fits kind) (get_or s 3 0) 3 3 4 h) refl)))

-- the end
pub finished-right : (s : List ℕ) (p : ℕ) → length s ≤ p → finished s p ≡ got tt p
unfolding finished
finished-right s p h = rw (le-leb (length s) p h) refl

pub finished-left : (s : List ℕ) (p : ℕ) → p < length s → finished s p ≡ refused 4 p
unfolding finished
finished-left s p h = rw (lt-leb (length s) p h) refl
