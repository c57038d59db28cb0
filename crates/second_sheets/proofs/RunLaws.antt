-- The run sheet's readings: signed values in their range, slices and arrays that a loop fills, and switch bytes. Assumes nothing.
use mathlib.Core.Path.{◌≡◌, refl, sym, ap, ◌∙◌}
use mathlib.Core.Bool.{Bool, true, false, not, ◌&&◌}
use mathlib.Core.List.{List, [], ◌∷◌, ◌++◌}
use Prim.Native.Nat.{ℕ, zero, suc, ◌+◌, ◌-◌, ◌≤◌, ◌<◌}
use native.Mathlib.Numerals.{add-one}
use native.Mathlib.Decide.{dec_le}
use native.Mathlib.Omega.{arith}
use lib.Dec.{leb, ltb}
use lib.IntN.{ℤ, pos, negsuc}
use lib.ListN.{length, get_or, take, drop, set, replicate, length-set, length-replicate, get_or-replicate, take-append-drop}
use lib.Seq.{take-suc, drop-cons, drop-set-lt, get_or-set_same, get_or-set_other, length-take-le}
use lib.Signed.{le_z, lt_z}
use borrow.Author.Tests.{le-leb, lt-leb, lt-ltb, le-ltb}
use Rattle.formats.specs.Reading.{got, refused, give, u8, u32, s32, signed, passing, must, within_signed, many}
use Rattle.fields.specs.Places.{signed_at}
use Rattle.formats.specs.Joint.{stays, count_up}
use Rattle.models.specs.Index.{entry, component_place}
use Rattle.formats.specs.RunSheet.{read_values}
use Rattle.second_sheets.specs.RunAnswers.{read_value, KeptValues, held_switches, switch_byte, switch_bytes}
use Rattle.formats.proofs.Gives.{bind-got, tested}
use Rattle.fields.proofs.Skipping.{bind-refused}
use Rattle.formats.proofs.FieldLaws.{byte_at, byte-read, field-got, field_cut, numbered}
use Rattle.fields.proofs.ReadLoop.{up_to, up-to-snoc, Reading, reading-starts, reading-goes-on, reading-stops, reading-ends}
use Rattle.fields.proofs.EachLoop.{ReadingEach, each-starts, each-goes-on, each-stops, each-ends}

-- A value and its range
leb-not : (a b : ℕ) → leb b a ≡ not (ltb a b)
leb-not a b = go (dec_le b a)
  where
    go : Dec (b ≤ a) → leb b a ≡ not (ltb a b)
    go (yes h) = rw (le-leb b a h, le-ltb a b h) refl
    go (no f) = let h : a < b = omega arith in rw (lt-leb b a h, lt-ltb a b h) refl

le_not : (a b : ℤ) → le_z b a ≡ not (lt_z a b)
le_not (pos a) (pos b) = leb-not a b
le_not (pos a) (negsuc b) = refl
le_not (negsuc a) (pos b) = refl
le_not (negsuc a) (negsuc b) = leb-not b a

abbrev pub in_range : ℤ → Bool
in_range v = le_z (negsuc 134217727) v && le_z v (pos 134217728)

module _ (v : ℤ) (p after : ℕ) where
  pub value_low : lt_z v (negsuc 134217727) ≡ true → passing in_range 5 p (got v after) ≡ refused 5 p
  unfolding passing
  value_low h = rw (le_not v (negsuc 134217727), h) refl

  pub value-high : lt_z v (negsuc 134217727) ≡ false → lt_z (pos 134217728) v ≡ true → passing in_range 5 p (got v after) ≡ refused 5 p
  unfolding passing
  value-high h k = rw (le_not v (negsuc 134217727), h, le_not (pos 134217728) v, k) refl

  pub value_in : lt_z v (negsuc 134217727) ≡ false → lt_z (pos 134217728) v ≡ false → passing in_range 5 p (got v after) ≡ got v after
  unfolding passing
  value_in h k = rw (le_not v (negsuc 134217727), h, le_not (pos 134217728) v, k) refl

-- four bytes that are there, and a value that is cut
pub value-whole : (s : List ℕ) (p : ℕ) → p + 4 ≤ length s → read_value s p ≡ passing in_range 5 p (got (signed_at s p) (p + 4))
unfolding read_value within_signed must s32 give u32 signed_at
value-whole s p h = ap (passing in_range 5 p) (bind-got u32 (λ n. give (signed n)) s p (field-got 4 s p h) refl)

pub value-cut : (s : List ℕ) (p : ℕ) → length s < p + 4 → read_value s p ≡ refused 4 p
unfolding read_value within_signed must s32 passing u32
value-cut s p h = ap (passing in_range 5 p) (bind-refused u32 (λ n. give (signed n)) s p (field_cut 4 s p h))

-- An array that a loop fills from the front: from i on it is as it was at first, the same everywhere
pub record Front {A : Type 0} (d : A) (size : ℕ) (xs : List A) (i : ℕ) : Type 0 where
  pub whole : length xs ≡ size
  pub rest : drop i xs ≡ replicate (size - i) d

module _ {A : Type 0} (d : A) (size : ℕ) where
  pub front-start : Front d size (replicate size d) 0
  front-start = record { whole = length-replicate size d; rest = ap (λ (k : ℕ). replicate k d) (all size) }
    where
      all : (n : ℕ) → n ≡ n - 0
      all n = omega arith

  one_fewer : (xs : List A) (i : ℕ) → Front d size xs i → i < size → drop (i + 1) xs ≡ replicate (size - (i + 1)) d
  one_fewer xs i w h =
      let before : drop i xs ≡ replicate (size - i) d = w.rest in
      let more : replicate (size - i) d ≡ d ∷ replicate (size - (i + 1)) d = ap (λ (k : ℕ). replicate k d) (one_less size i h) in
      let here : drop i xs ≡ get_or xs i d ∷ drop (i + 1) xs = drop-cons xs i d (omega (arith, w.whole)) ∙ ap (λ (k : ℕ). get_or xs i d ∷ drop k xs) (sym (add-one i)) in
      cc
    where
      one_less : (size i : ℕ) → i < size → size - i ≡ suc (size - (i + 1))
      one_less size i h = omega arith

  pub front-put : (xs : List A) (i : ℕ) (v : A) → Front d size xs i → i < size → Front d size (set xs i v) (i + 1)
  front-put xs i v w h =
      record {
        whole = simp length-set w.whole;
        rest = drop-set-lt (i + 1) xs i v (omega arith) ∙ one_fewer xs i w h;
      }

  -- at the end it is what was put, and the rest
  pub front-end : (xs : List A) (i : ℕ) → Front d size xs i → i ≤ size → xs ≡ take i xs ++ replicate (size - length (take i xs)) d
  front-end xs i w h =
      sym (take-append-drop i xs)
      ∙ ap (λ ys. take i xs ++ ys) (w.rest ∙ ap (λ (k : ℕ). replicate (size - k) d) (sym (length-take-le i xs (omega (arith, w.whole)))))

-- what stands in an array, by a function of the number, is its first part
pub up-to-take : {A : Type 0} (d : A) (xs : List A) (i : ℕ) → i ≤ length xs → up_to (λ j. get_or xs j d) i ≡ take i xs
unfolding up_to count_up
up-to-take d xs zero h = refl
up-to-take d xs (suc i) h =
    up-to-snoc (λ j. get_or xs j d) i
    ∙ ap (λ ys. ys ++ (get_or xs i d ∷ [])) (up-to-take d xs i (omega arith))
    ∙ sym (take-suc xs i d (omega arith))

-- Values, read one after the other
pub many-values : (n : ℕ) (s : List ℕ) (p : ℕ) → many n read_value s p ≡ read_values n s p
unfolding read_values read_value
many-values n s p = refl

module _ (s : List ℕ) (n at : ℕ) where
  -- the first i values are in their places, and the rest is read from this place on
  abbrev pub ValuesRead : List ℤ → ℕ → ℕ → Type 0
  ValuesRead values i place = Reading read_value n s (read_values n s at) (λ j. get_or values j (pos 0)) i place

  pub values-start : (values : List ℤ) → ValuesRead values 0 at
  values-start values = reading-starts read_value n s (read_values n s at) (λ j. get_or values j (pos 0)) at (many-values n s at)

  module _ (values : List ℤ) (i place : ℕ) (before : ValuesRead values i place) (h : i < n) where
    pub values-stop : (number cut : ℕ) → read_value s place ≡ refused number cut → refused number cut ≡ read_values n s at
    values-stop number cut e =
        reading-stops read_value n s (read_values n s at) (λ j. get_or values j (pos 0)) i place number cut before h e

    pub values-go-on : (v : ℤ) (after : ℕ) → i < length values → read_value s place ≡ got v after → ValuesRead (set values i v) (i + 1) after
    values-go-on v after room e =
        reading-goes-on read_value n s (read_values n s at)
        (λ j. get_or values j (pos 0))
        (λ j. get_or (set values i v) j (pos 0))
        i place after before h
        (e ∙ ap (λ x. got x after) (sym (get_or-set_same values i v (pos 0) room)))
        (λ j k. get_or-set_other values i j v (pos 0) (λ q. omega arith))

  pub values-end : (values : List ℤ) (i place : ℕ) → ValuesRead values i place → i ≡ n → n ≤ length values → got (take n values) place ≡ read_values n s at
  values-end values i place before h few =
      ap (λ xs. got xs place) (sym (up-to-take (pos 0) values n few))
      ∙ reading-ends read_value n s (read_values n s at) (λ j. get_or values j (pos 0)) i place before h

-- where nothing is stored nothing changes, and a store below n leaves what stands from n on
pub kept_same : (from until : ℕ) (values : List ℤ) → KeptValues from until values values
kept_same from until values = record { front = refl; rest = refl }

pub kept_put : (n : ℕ) {before : List ℤ} (values : List ℤ) (i : ℕ) (v : ℤ) → i < n → KeptValues 0 n before values → KeptValues 0 n before (set values i v)
kept_put n values i v h w = record { front = refl; rest = drop-set-lt n values i v h ∙ w.rest }

-- A switch byte is below a count, or 255
switch-told : (count : ℕ) (s : List ℕ) (p : ℕ) → switch_byte count s p ≡ passing (numbered count) 5 p (u8 s p)
unfolding switch_byte stays must
switch-told count s p = refl

-- a switch byte that was read is that byte of the sheet
pub switch-is : (count : ℕ) (s : List ℕ) (p v after : ℕ) → switch_byte count s p ≡ got v after → v ≡ get_or s p 0
switch-is count s p v after e =
    let w = tested (numbered count) 5 p (u8 s p) v after (sym (switch-told count s p) ∙ e) in
    let b = byte-read s p v after w.read in
    b.value ∙ byte_at s p (omega (arith, b.whole))

-- Switch bytes, read one after the other
module _ (index s : List ℕ) (at : ℕ) where
  abbrev pub BytesRead : List ℕ → ℕ → ℕ → Type 0
  BytesRead bytes k place =
      ReadingEach (λ k. switch_byte (entry index (component_place k + 2))) (entry index 1) s (switch_bytes index s at) (λ j. get_or bytes j 255) k place

  pub bytes-start : (bytes : List ℕ) → BytesRead bytes 0 at
  unfolding switch_bytes
  bytes-start bytes = each-starts (λ k. switch_byte (entry index (component_place k + 2))) (entry index 1) s (switch_bytes index s at) (λ j. get_or bytes j 255) at refl

  module _ (bytes : List ℕ) (k place : ℕ) (before : BytesRead bytes k place) (h : k < entry index 1) where
    pub bytes-stop : (number cut : ℕ) → switch_byte (entry index (component_place k + 2)) s place ≡ refused number cut → refused number cut ≡ switch_bytes index s at
    bytes-stop number cut e =
        each-stops (λ k. switch_byte (entry index (component_place k + 2))) (entry index 1) s (switch_bytes index s at) (λ j. get_or bytes j 255) k place number cut before h e

    pub bytes-go-on : (v after : ℕ) → k < length bytes → switch_byte (entry index (component_place k + 2)) s place ≡ got v after → BytesRead (set bytes k v) (k + 1) after
    bytes-go-on v after room e =
        each-goes-on (λ k. switch_byte (entry index (component_place k + 2))) (entry index 1) s (switch_bytes index s at)
        (λ j. get_or bytes j 255)
        (λ j. get_or (set bytes k v) j 255)
        k place after before h
        (e ∙ ap (λ (x : ℕ). got x after) (sym (get_or-set_same bytes k v 255 room)))
        (λ j l. get_or-set_other bytes k j v 255 (λ q. omega arith))

  pub bytes-end : (bytes : List ℕ) (k place : ℕ) → BytesRead bytes k place → k ≡ entry index 1 → entry index 1 ≤ length bytes → got (take (entry index 1) bytes) place ≡ switch_bytes index s at
  bytes-end bytes k place before h few =
      ap (λ xs. got xs place) (sym (up-to-take 255 bytes (entry index 1) few))
      ∙ each-ends (λ k. switch_byte (entry index (component_place k + 2))) (entry index 1) s (switch_bytes index s at) (λ j. get_or bytes j 255) k place before h

-- an array that was filled, with what it was filled with at first read as what is missing
padded : {A : Type 0} (xs : List A) (k : ℕ) (d e : A) (j : ℕ) → j < length xs + k → get_or (xs ++ replicate k d) j e ≡ get_or xs j d
padded [] k d e j h = get_or-replicate k j d e (omega arith)
padded (x ∷ xs) k d e zero h = refl
padded (x ∷ xs) k d e (suc j) h = padded xs k d e j (omega arith)

front_at : {A : Type 0} (d e : A) (size : ℕ) (xs : List A) (i j : ℕ) → Front d size xs i → i ≤ size → j < size → get_or xs j e ≡ get_or (take i xs) j d
front_at d e size xs i j w h l =
    let n = length-take-le i xs (omega (arith, w.whole)) in
    ap (λ ys. get_or ys j e) (front-end d size xs i w h) ∙ padded (take i xs) (size - length (take i xs)) d e j (omega arith)

-- the four bytes hold the switches that were read, and 255 for what is absent
pub bytes-held : (bytes : List ℕ) (c : ℕ) → Front 255 4 bytes c → c ≤ 4 → record { a = get_or bytes 0 0; b = get_or bytes 1 0; c = get_or bytes 2 0; d = get_or bytes 3 0 } ≡ held_switches (take c bytes)
unfolding held_switches stays
bytes-held bytes c w h =
    let at : (j : ℕ) → j < 4 → get_or bytes j 0 ≡ get_or (take c bytes) j 255 = λ j l. front_at 255 0 4 bytes c j w h l in
    λ i. record { a = at 0 (omega arith) i; b = at 1 (omega arith) i; c = at 2 (omega arith) i; d = at 3 (omega arith) i }
