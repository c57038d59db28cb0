-- A sheet's header: what one that was read tells, and that it hangs on the sheet's length and first four bytes alone. And the paper number
-- behind it. Assumes nothing.
use mathlib.Core.Path.{◌≡◌, refl, sym, ap, ap₂, ◌∙◌, subst}
use mathlib.Core.Bool.{Bool, true, false, cond, ◌&&◌}
use mathlib.Core.List.{List, [], ◌∷◌}
use Prim.Native.Nat.{ℕ, zero, suc, ◌+◌, ◌≤◌}
use native.Mathlib.Omega.{arith}
use mir.Facts.{and_yes}
use lib.Dec.{T, leb, eqb, leb→le}
use lib.ListN.{length, take, drop}
use lib.Seq.{take-take}
use Rattle.formats.specs.Versions.{version_fits, kind_fits, has_paper}
use Rattle.formats.specs.Reading.{Got, got, refused, Reader, and_then, ◌>>=◌, ◌>>◌, give, big_endian, field, u8, u16, u32, passing, must, length_right, sized, header, paper_if, read_paper}
use Rattle.formats.proofs.Gives.{got-value, got-next, passes, tested}
use Rattle.formats.proofs.FieldLaws.{field-read}

-- a length that is right leaves the place where it is
sized-stays : (s : List ℕ) (p : ℕ) {u : Unit {0}} {next : ℕ} → sized s p ≡ got u next → next ≡ p
unfolding sized
sized-stays s p e = go (length_right s) e
  where
    go : (b : Bool) {u : Unit {0}} {next : ℕ} → cond b (got tt p) (refused 1 0) ≡ got u next → next ≡ p
    go true d = sym (got-next d)
    go false d = let z : ◌≡◌ {A = ℕ} 0 1 = cc in absurd (omega arith)

sized-short : (s : List ℕ) (p : ℕ) {u : Unit {0}} {next : ℕ} → sized s p ≡ got u next → length s ≤ 32768
unfolding sized length_right
sized-short s p e = go (length_right s) refl e
  where
    go : (b : Bool) → length_right s ≡ b → {u : Unit {0}} {next : ℕ} → cond b (got tt p) (refused 1 0) ≡ got u next → length s ≤ 32768
    go true q d =
        let h = and_yes (leb 4 (length s) && leb (length s) 32768) (eqb (big_endian (take 2 s) + 2) (length s)) (subst T (sym q) tt) in
        leb→le (length s) 32768 (and_yes (leb 4 (length s)) (leb (length s) 32768) h.0).1
    go false q d = let z : ◌≡◌ {A = ℕ} 0 1 = cc in absurd (omega arith)

-- the sheet is not too long, the version is its byte 2, and the body begins at place 4: counted from where the header is read
pub record HeaderRead (kind : ℕ) (s : List ℕ) (p version next : ℕ) : Type 0 where
  pub fits : T (version_fits kind version)
  pub short : length s ≤ 32768
  pub byte : version ≡ big_endian (take 1 (drop (p + 2) s))
  pub ends : next ≡ p + 4

pub header_read : (kind : ℕ) (s : List ℕ) (p version next : ℕ) → header kind s p ≡ got version next → HeaderRead kind s p version next
unfolding header ◌>>=◌ ◌>>◌ u16 u8 must give
header_read kind s p version next e =
    let a = passes (sized s p) _ s version next e in
    let b = passes (field 2 s a.place) _ s version next a.second in
    let c = passes (passing (version_fits kind) 2 b.place (field 1 s b.place)) _ s version next b.second in
    let d = passes (passing (kind_fits kind) 3 c.place (field 1 s c.place)) _ s version next c.second in
    let v = tested (version_fits kind) 2 b.place (field 1 s b.place) c.value c.place c.first in
    let k = tested (kind_fits kind) 3 c.place (field 1 s c.place) d.value d.place d.first in
    let h = sized-stays s p a.first in
    let i = (field-read 2 s a.place b.value b.place b.first).after in
    let j = field-read 1 s b.place c.value c.place v.read in
    let l = (field-read 1 s c.place d.value d.place k.read).after in
    let two : b.place ≡ p + 2 = omega (arith, h, i) in
    let same : c.value ≡ version = got-value d.second in
    record {
      fits = subst (λ (x : ℕ). T (version_fits kind x)) same v.passed;
      short = sized-short s p a.first;
      byte = sym same ∙ j.value ∙ ap (λ (n : ℕ). big_endian (take 1 (drop n s))) two;
      ends = omega (arith, two, j.after, l, got-next d.second);
    }

-- sheets of one length with the same four bytes in front
pub record SameFront (s t : List ℕ) : Type 0 where
  pub size : length s ≡ length t
  pub front : take 4 s ≡ take 4 t

-- what is taken within the first so many
taken-within : (size i k : ℕ) (l : List ℕ) → i + size ≤ k → take size (drop i (take k l)) ≡ take size (drop i l)
taken-within size zero k l h = take-take size k l (omega arith)
taken-within size (suc i) zero l h = absurd (omega arith)
taken-within size (suc i) (suc k) [] h = refl
taken-within size (suc i) (suc k) (x ∷ l) h = taken-within size i k l (omega arith)

at_same : {A B : Type 0} (r : Reader A) (f : A → Reader B) (s t : List ℕ) (p : ℕ) → r s p ≡ r t p → ((a : A) (next : ℕ) → r s p ≡ got a next → f a s next ≡ f a t next) → (r >>= f) s p ≡ (r >>= f) t p
unfolding ◌>>=◌ and_then
at_same {A} r f s t p e k = go (r s p) refl ∙ ap (λ (g : Got A). and_then g f t) e
  where
    go : (g : Got A) → r s p ≡ g → and_then g f s ≡ and_then g f t
    go (got a next) d = k a next d
    go (refused number place) d = refl

module _ (s t : List ℕ) (w : SameFront s t) where
  taken : (size i : ℕ) → i + size ≤ 4 → take size (drop i s) ≡ take size (drop i t)
  taken size i h = sym (taken-within size i 4 s h) ∙ ap (λ (l : List ℕ). take size (drop i l)) w.front ∙ taken-within size i 4 t h

  front-field : (size p i : ℕ) → p ≡ i → i + size ≤ 4 → field size s p ≡ field size t p
  unfolding field
  front-field size p i e h =
      ap₂ (λ (n : ℕ) (l : List ℕ). cond (leb (p + size) n) (got (big_endian l) (p + size)) (refused 4 p)) w.size
      (subst (λ (n : ℕ). take size (drop n s) ≡ take size (drop n t)) (sym e) (taken size i h))

  sized_same : sized s 0 ≡ sized t 0
  unfolding sized length_right
  sized_same =
      ap₂ (λ (n : ℕ) (l : List ℕ). cond (leb 4 n && leb n 32768 && eqb (big_endian l + 2) n) (got tt 0) (refused 1 0)) w.size (taken 2 0 (omega arith))

  pub header-same : (kind : ℕ) → header kind s 0 ≡ header kind t 0
  unfolding header ◌>>◌ ◌>>=◌ u16 u8 must give
  header-same kind =
      at_same sized _ s t 0 sized_same
      (λ u a i.
      let at0 = sized-stays s 0 i in
      at_same (field 2) _ s t a (front-field 2 a 0 at0 (omega arith))
      (λ v b j.
      let at2 : b ≡ 2 = omega (arith, at0, (field-read 2 s a v b j).after) in
      at_same (must (version_fits kind) 2 (field 1)) _ s t b (ap (passing (version_fits kind) 2 b) (front-field 1 b 2 at2 (omega arith)))
      (λ version c k.
      let at3 : c ≡ 3 = omega (arith, at2, (field-read 1 s b version c (tested (version_fits kind) 2 b (field 1 s b) version c k).read).after) in
      at_same (must (kind_fits kind) 3 (field 1)) (λ x. give version) s t c (ap (passing (kind_fits kind) 3 c) (front-field 1 c 3 at3 (omega arith)))
      (λ x d l. refl))))

-- a paper number that was read is the four bytes behind the header, and the next field begins at place 8
pub record PaperRead (s : List ℕ) (paper next : ℕ) : Type 0 where
  pub number : paper ≡ big_endian (take 4 (drop 4 s))
  pub ends : next ≡ 8

pub paper-read : (version : ℕ) (s : List ℕ) (paper next : ℕ) → has_paper version ≡ true → read_paper version s 4 ≡ got paper next → PaperRead s paper next
unfolding read_paper paper_if u32
paper-read version s paper next h e =
    let w = field-read 4 s 4 paper next (ap (λ (b : Bool). paper_if b s 4) (sym h) ∙ e) in
    record { number = w.value; ends = w.after }
