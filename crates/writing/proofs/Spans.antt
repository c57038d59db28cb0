-- How many bytes a reading passes, and that it ends within the sheet: a law for each way of putting readings together, then each part of
-- a model, which passes as many bytes as writing it gives. Assumes nothing.
use mathlib.Core.Path.{◌≡◌, refl, subst}
use mathlib.Core.Bool.{Bool, true, false, cond}
use mathlib.Core.List.{List, [], ◌∷◌, ◌++◌}
use Prim.Native.Nat.{ℕ, zero, suc, ◌+◌, ◌*◌, ◌%◌, ◌≤◌}
use native.Mathlib.Omega.{arith}
use lib.Dec.{eqb}
use lib.ListN.{length, length-append}
use Rattle.formats.specs.Versions.{has_paper}
use Rattle.formats.specs.Reading.{Got, got, refused, Reader, ◌>>=◌, ◌>>◌, give, here, field, u8, u16, u32, s32, must, within, below, many, each, length_right, sized, header, paper_if, read_paper}
use Rattle.formats.specs.Rows.{read_strict, read_row, read_condition}
use Rattle.formats.specs.Model.{Component, read_mode, read_switch, read_component, read_unsafe, read_model_body}
use Rattle.formats.specs.Joint.{join_all}
use Rattle.formats.proofs.Gives.{got-next, got-value, passes, tested}
use Rattle.formats.proofs.FieldLaws.{field-read}
use Rattle.writing.specs.Writing.{word, half, write_number, write_mark, write_row, write_condition, write_mode, write_switch, write_component, write_unsafe, write_fields, paper_bytes, write_paper}

-- what is known of a reading from a place within the sheet: how many bytes it passed, that they were there, and what holds of its value
-- and of their number
pub record Spanned {A : Type 0} (P : A → ℕ → Type 0) (s : List ℕ) (p : ℕ) (a : A) (next : ℕ) : Type 0 where
  pub size : ℕ
  pub ends : next ≡ p + size
  pub inside : next ≤ length s
  pub right : P a size

pub record Spans {A : Type 0} (P : A → ℕ → Type 0) (r : Reader A) : Type 0 where
  pub spans : (s : List ℕ) (p : ℕ) (a : A) (next : ℕ) → r s p ≡ got a next → p ≤ length s → Spanned P s p a next

-- as many bytes as writing the value gives
abbrev pub As : {A : Type 0} → (A → List ℕ) → A → ℕ → Type 0
As write a n = n ≡ length (write a)

two-parts : {A B : Type 0} {P : A → ℕ → Type 0} {Q : B → ℕ → Type 0} (g : Reader A) (f : A → Reader B) → Spans P g → ((a : A) (n : ℕ) → P a n → Spans (λ b k. Q b (n + k)) (f a)) → (s : List ℕ) (p : ℕ) (b : B) (next : ℕ) (a : A) (place : ℕ) → g s p ≡ got a place → f a s place ≡ got b next → p ≤ length s → Spanned Q s p b next
two-parts g f one two s p b next a place first second h =
    let x = one.spans s p a place first h in
    let y = (two a x.size x.right).spans s place b next second x.inside in
    let m = x.ends in
    let n = y.ends in
    record { size = x.size + y.size; ends = omega arith; inside = y.inside; right = y.right }

pub spans-bind : {A B : Type 0} {P : A → ℕ → Type 0} {Q : B → ℕ → Type 0} {r : Reader A} {f : A → Reader B} → Spans P r → ((a : A) (n : ℕ) → P a n → Spans (λ b k. Q b (n + k)) (f a)) → Spans Q (r >>= f)
unfolding ◌>>=◌
spans-bind {r = r} {f = f} one two = record {
  spans = λ s p b next e h.
      let w = passes (r s p) f s b next e in
      two-parts r f one two s p b next w.value w.place w.first w.second h;
}

pub spans-then : {A B : Type 0} {P : A → ℕ → Type 0} {Q : B → ℕ → Type 0} {r : Reader A} {t : Reader B} → Spans P r → ((a : A) (n : ℕ) → P a n → Spans (λ b k. Q b (n + k)) t) → Spans Q (r >> t)
unfolding ◌>>◌
spans-then {r = r} {t = t} one two = record {
  spans = λ s p b next e h.
      let w = passes (r s p) (λ a. t) s b next e in
      two-parts r (λ a. t) one two s p b next w.value w.place w.first w.second h;
}

spans-so : {A : Type 0} {P Q : A → ℕ → Type 0} {r : Reader A} → Spans P r → ((a : A) (n : ℕ) → P a n → Q a n) → Spans Q r
spans-so w f = record {
  spans = λ s p a next e h.
      let x = w.spans s p a next e h in
      record { size = x.size; ends = x.ends; inside = x.inside; right = f a x.size x.right };
}

-- no bytes
stays-there : {A : Type 0} {P : A → ℕ → Type 0} (s : List ℕ) (p : ℕ) (a b : A) (next : ℕ) → ◌≡◌ {A = Got A} (got a p) (got b next) → p ≤ length s → P a 0 → Spanned P s p b next
stays-there {P = P} s p a b next e h x =
    let n : p ≡ next = got-next e in
    record { size = 0; ends = omega arith; inside = omega arith; right = subst (λ c. P c 0) (got-value e) x }

pub spans-give : {A : Type 0} {P : A → ℕ → Type 0} (a : A) → P a 0 → Spans P (give a)
unfolding give
spans-give a x = record { spans = λ s p b next e h. stays-there s p a b next e h x }

spans-here : Spans (λ p n. n ≡ 0) here
unfolding here
spans-here = record { spans = λ s p b next e h. stays-there s p p b next e h refl }

-- a field; one that must pass a test
pub spans-field : (size : ℕ) → Spans (λ v n. n ≡ size) (field size)
spans-field size = record {
  spans = λ s p v next e h.
      let w = field-read size s p v next e in
      let whole = w.whole in
      let after = w.after in
      record { size = size; ends = after; inside = omega arith; right = refl };
}

spans-byte : Spans (λ v n. n ≡ 1) u8
unfolding u8
spans-byte = spans-field 1

pub spans-must : {A : Type 0} {P : A → ℕ → Type 0} (test : A → Bool) (number : ℕ) {r : Reader A} → Spans P r → Spans P (must test number r)
unfolding must
spans-must test number {r = r} w = record {
  spans = λ s p a next e h. w.spans s p a next (tested test number p (r s p) a next e).read h;
}

spans-within : (least most : ℕ) → Spans (λ v n. n ≡ 1) (within least most u8)
unfolding within
spans-within least most = spans-must _ 5 spans-byte

spans-below : (count : ℕ) → Spans (λ v n. n ≡ 1) (below count u8)
unfolding below
spans-below count = spans-must _ 5 spans-byte

-- several readings: of values, of bytes, and of a byte for each element
pub spans-many : {A : Type 0} {r : Reader A} (write : A → List ℕ) (count : ℕ) → Spans (As write) r → Spans (As (join_all write)) (many count r)
unfolding many join_all
spans-many write zero w = spans-give [] refl
spans-many write (suc count) w =
    spans-bind w
    (λ a n e.
    spans-bind (spans-many write count w)
    (λ xs k d. spans-give (a ∷ xs) (omega (arith, length-append (write a) (join_all write xs)))))

spans-bytes : {r : Reader ℕ} (count : ℕ) → Spans (λ v n. n ≡ 1) r → Spans (As (λ xs. xs)) (many count r)
unfolding many
spans-bytes zero w = spans-give [] refl
spans-bytes (suc count) w =
    spans-bind w (λ v n e. spans-bind (spans-bytes count w) (λ xs k d. spans-give (v ∷ xs) (omega arith)))

spans-each : {A : Type 0} {f : A → Reader ℕ} → ((a : A) → Spans (λ v n. n ≡ 1) (f a)) → (xs : List A) → Spans (As (λ vs. vs)) (each f xs)
unfolding each
spans-each w [] = spans-give [] refl
spans-each w (a ∷ xs) =
    spans-bind (w a) (λ v n e. spans-bind (spans-each w xs) (λ vs k d. spans-give (v ∷ vs) (omega arith)))

-- numbers and rows
spans-number : Spans (As write_number) s32
unfolding s32 u32 write_number word
spans-number = spans-bind (spans-field 4) (λ v n e. spans-give _ (omega arith))

spans-mark : (version : ℕ) → Spans (As (write_mark version)) (read_strict version)
unfolding read_strict write_mark
spans-mark version = record { spans = λ s p strict next e h. stays-there s p _ strict next e h refl }

spans-row : (version n : ℕ) → Spans (As (write_row version)) (read_row version n)
unfolding read_row write_row
spans-row version n =
    spans-bind spans-here
    (λ place i a.
    spans-bind (spans-mark version)
    (λ strict j b.
    spans-bind (spans-many write_number n spans-number)
    (λ coefficients k c.
    spans-bind spans-number
    (λ bound l d.
    spans-give _
    (omega (arith, length-append (write_mark version strict) (join_all write_number coefficients ++ write_number bound), length-append (join_all write_number coefficients) (write_number bound)))))))

-- conditions, and what has them
spans-condition : (version most n : ℕ) → Spans (As (write_condition version)) (read_condition version most n)
unfolding read_condition write_condition
spans-condition version most n =
    spans-bind (spans-within 0 most)
    (λ count i a. spans-so (spans-many (write_row version) count (spans-row version n)) (λ rows j b. omega arith))

spans-mode : (version n : ℕ) → Spans (As (write_mode version)) (read_mode version n)
unfolding read_mode write_mode
spans-mode version n =
    spans-bind (spans-within 0 1)
    (λ start i a.
    spans-bind (spans-condition version _ n)
    (λ initial j b.
    spans-bind (spans-condition version 8 n)
    (λ invariant k c.
    spans-bind (spans-condition version 8 n)
    (λ flow l d.
    spans-give _
    (omega (arith, length-append (write_condition version initial) (write_condition version invariant ++ write_condition version flow), length-append (write_condition version invariant) (write_condition version flow)))))))

spans-switch : (version n alphabet modes : ℕ) → Spans (As (write_switch version)) (read_switch version n alphabet modes)
unfolding read_switch write_switch
spans-switch version n alphabet modes =
    spans-bind (spans-below modes)
    (λ source i a.
    spans-bind (spans-below modes)
    (λ target j b.
    spans-bind (spans-must _ 6 (spans-within 0 15))
    (λ label k c. spans-bind (spans-condition version 8 (2 * n)) (λ jump l d. spans-give _ (omega arith)))))

spans-component : (version n : ℕ) → Spans (As (write_component version)) (read_component version n)
unfolding read_component u16 write_component half
spans-component version n =
    spans-bind (spans-must (λ v. eqb (v % 2) 0) 5 (spans-field 2))
    (λ alphabet i a.
    spans-bind (spans-within 1 8)
    (λ mode_count j b.
    spans-bind (spans-within 0 32)
    (λ switch_count k c.
    spans-bind (spans-many (write_mode version) mode_count (spans-mode version n))
    (λ modes l d.
    spans-bind (spans-many (write_switch version) switch_count (spans-switch version n alphabet mode_count))
    (λ switches x e. spans-give _ (omega (arith, length-append (join_all (write_mode version) modes) (join_all (write_switch version) switches))))))))

spans-unsafe : (version n : ℕ) (components : List Component) → Spans (As (write_unsafe version)) (read_unsafe version n components)
unfolding read_unsafe write_unsafe
spans-unsafe version n components =
    spans-bind (spans-each (λ c. spans-must _ 5 spans-byte) components)
    (λ modes i a.
    spans-bind (spans-condition version 8 n) (λ rows j b. spans-give _ (omega (arith, length-append modes (write_condition version rows)))))

pub spans-paper : (version : ℕ) → Spans (As (write_paper version)) (read_paper version)
unfolding read_paper write_paper paper_if paper_bytes u32 word
spans-paper version = go (has_paper version)
  where
    go : (b : Bool) → Spans (As (paper_bytes b)) (paper_if b)
    go true = spans-field 4
    go false = spans-give 0 refl

pub spans-fields : (version paper : ℕ) → Spans (As write_fields) (read_model_body version paper)
unfolding read_model_body write_fields
spans-fields version paper =
    spans-bind (spans-within 1 8)
    (λ n i a.
    spans-bind (spans-within 1 4)
    (λ c j b.
    spans-bind (spans-within 0 16)
    (λ conditions k d.
    spans-bind (spans-bytes n (spans-below c))
    (λ owners l e.
    spans-bind (spans-many (write_component version) c (spans-component version n))
    (λ components x f.
    spans-bind (spans-many (write_unsafe version) conditions (spans-unsafe version n components))
    (λ unsafe y g.
    spans-give _
    (omega (arith, length-append owners (join_all (write_component version) components ++ join_all (write_unsafe version) unsafe), length-append (join_all (write_component version) components) (join_all (write_unsafe version) unsafe)))))))))

-- a header has four bytes, and the sheet's length is right
right_so : (b : Bool) (s : List ℕ) (p : ℕ) {u : Unit {0}} {next : ℕ} → cond b (got tt p) (refused 1 0) ≡ got u next → b ≡ true
right_so true s p e = refl
right_so false s p e = let z : ◌≡◌ {A = ℕ} 0 1 = cc in absurd (omega arith)

sized-there : (s : List ℕ) (p : ℕ) (u : Unit {0}) (next : ℕ) → sized s p ≡ got u next → ◌≡◌ {A = Got (Unit {0})} (got tt p) (got u next)
unfolding sized
sized-there s p u next e =
    subst (λ b. cond b (got tt p) (refused 1 0) ≡ got u next) (right_so (length_right s) s p e) e

spans_sized : Spans (λ u n. n ≡ 0) sized
spans_sized = record { spans = λ s p u next e h. stays-there s p tt u next (sized-there s p u next e) h refl }

pub spans-header : (kind : ℕ) → Spans (λ v n. n ≡ 4) (header kind)
unfolding header u16
spans-header kind =
    spans-then spans_sized
    (λ u i a.
    spans-then (spans-field 2)
    (λ size j b.
    spans-bind (spans-must _ 2 spans-byte)
    (λ version k c. spans-then (spans-must _ 3 spans-byte) (λ found l d. spans-give version (omega arith)))))

pub header-right : (kind : ℕ) (s : List ℕ) (p v next : ℕ) → header kind s p ≡ got v next → length_right s ≡ true
unfolding header sized ◌>>◌
header-right kind s p v next e =
    let w = passes (sized s p) _ s v next e in
    right_so (length_right s) s p w.first
