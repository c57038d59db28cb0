-- A model that a sheet of bytes gives can be written. Assumes nothing.
use mathlib.Core.Path.{◌≡◌, refl, sym, ap, ◌∙◌, subst}
use mathlib.Core.Bool.{Bool, true, false, cond}
use mathlib.Core.List.{List, [], ◌∷◌}
use Prim.Native.Nat.{ℕ, zero, suc, ◌+◌, ◌*◌, ◌-◌, ◌%◌, ◌^◌, ◌≤◌, ◌<◌}
use native.Mathlib.Nat.{pow-succ', mul-le-mul_right}
use native.Mathlib.Omega.{arith}
use lib.Dec.{T, ltb, eqb}
use lib.IntN.{pos, negsuc}
use lib.ListN.{length, take, drop, length-take, length-drop}
use Rattle.farkas.specs.Lists.{All, none, more}
use Rattle.farkas.specs.Sizes.{Bytes}
use Rattle.formats.specs.Versions.{version_fits, has_paper, strict_at}
use Rattle.formats.specs.Reading.{got, Reader, ◌>>=◌, ◌>>◌, give, big_endian, signed, field, u8, u16, u32, s32, must, many, each, paper_if, read_paper, finished}
use Rattle.formats.specs.Rows.{read_strict, read_row, read_condition}
use Rattle.formats.specs.Model.{Component, Model, read_mode, read_switch, read_component, read_unsafe, read_model_body}
use Rattle.formats.specs.declared.Limits.{Limits}
use Rattle.formats.specs.ModelSheet.{read_model}
use Rattle.formats.proofs.Gives.{Gives, got-value, passes, tested, gives-within, gives-below, gives-must, gives-many, gives-any}
use Rattle.formats.proofs.FieldLaws.{field-read}
use Rattle.formats.proofs.EveryRow.{GivesFrom}
use Rattle.formats.proofs.WellFormed.{header-gives, paper-gives}
use Rattle.formats.proofs.ModelSheet.{in-a-chain}
use Rattle.writing.specs.Writing.{twos}
use Rattle.writing.proofs.ReadsLaws.{Paired, paired_none, paired-more}
use Rattle.writing.proofs.Writable.{Fits, MarkFits, FitsRow, WritableCondition, initial_most, WritableMode, label_fits, WritableSwitch, WritableComponent, mode_fits, WritableUnsafe, PaperFits, Writable}

-- a sheet's bytes, said of each in its turn
pub all-bytes : (s : List ℕ) → Bytes s → All (λ b. b < 256) s
all-bytes [] h = none
all-bytes (b ∷ s) h = more (h 0) (all-bytes s (λ i. h (suc i)))

all_take : {A : Type 0} {P : A → Type 0} {xs : List A} (n : ℕ) → All P xs → All P (take n xs)
all_take zero h = none
all_take (suc n) none = none
all_take (suc n) (more x h) = more x (all_take n h)

all_drop : {A : Type 0} {P : A → Type 0} {xs : List A} (n : ℕ) → All P xs → All P (drop n xs)
all_drop zero h = h
all_drop (suc n) none = none
all_drop (suc n) (more x h) = all_drop n h

-- the number that bytes give
first-counts : (b power rest : ℕ) → b < 256 → rest < power → b * power + rest < 256 * power
first-counts b power rest h k = omega (arith, mul-le-mul_right power h)

bytes_small : {xs : List ℕ} → All (λ b. b < 256) xs → big_endian xs < 256 ^ length xs
unfolding big_endian
bytes_small none = omega arith
bytes_small (more {a = b} {xs = xs} h hs) =
    subst (λ (n : ℕ). b * 256 ^ length xs + big_endian xs < n) (sym (pow-succ' 256 (length xs))) (first-counts b (256 ^ length xs) (big_endian xs) h (bytes_small hs))

-- readings of this sheet: put together, and what their fields give
module _ (s : List ℕ) where
  from-bind : {A B : Type 0} {P : A → Type 0} {Q : B → Type 0} {r : Reader A} {f : A → Reader B} → GivesFrom s P r → ((a : A) → P a → GivesFrom s Q (f a)) → GivesFrom s Q (r >>= f)
  unfolding ◌>>=◌
  from-bind {r = r} {f = f} g h = record {
    holds = λ p b next e.
        let w = passes (r s p) f s b next e in
        (h w.value (g.holds p w.value w.place w.first)).holds w.place b next w.second;
  }

  from_then : {A B : Type 0} {Q : B → Type 0} (r : Reader A) {t : Reader B} → GivesFrom s Q t → GivesFrom s Q (r >> t)
  unfolding ◌>>◌
  from_then r {t = t} g = record {
    holds = λ p b next e.
        let w = passes (r s p) (λ a. t) s b next e in
        g.holds w.place b next w.second;
  }

  from-give : {A : Type 0} {P : A → Type 0} (a : A) → P a → GivesFrom s P (give a)
  unfolding give
  from-give {P = P} a x = record { holds = λ p b next e. subst P (got-value e) x }

  -- what holds at any place of any sheet
  from-any : {A : Type 0} {P : A → Type 0} {r : Reader A} → Gives P r → GivesFrom s P r
  from-any g = record { holds = λ p a next e. g.holds s p a next e }

  from-so : {A : Type 0} {P Q : A → Type 0} {r : Reader A} → GivesFrom s P r → ((a : A) → P a → Q a) → GivesFrom s Q r
  from-so g f = record { holds = λ p a next e. f a (g.holds p a next e) }

  from-must : {A : Type 0} {P : A → Type 0} (test : A → Bool) (number : ℕ) {r : Reader A} → GivesFrom s P r → GivesFrom s (λ a. T (test a) × P a) (must test number r)
  unfolding must
  from-must test number {r = r} g = record {
    holds = λ p a next e.
        let w = tested test number p (r s p) a next e in
        (w.passed, g.holds p a next w.read);
  }

  from-many : {A : Type 0} {P : A → Type 0} {r : Reader A} (n : ℕ) → GivesFrom s P r → GivesFrom s (λ xs. (length xs ≡ n) × All P xs) (many n r)
  unfolding many
  from-many zero g = from-give [] (refl, none)
  from-many (suc n) g =
      from-bind g (λ a x. from-bind (from-many n g) (λ xs w. from-give (a ∷ xs) (ap suc w.0, more x w.1)))

  from_each : {A B : Type 0} {P : A → B → Type 0} {f : A → Reader B} → ((a : A) → GivesFrom s (P a) (f a)) → (xs : List A) → GivesFrom s (λ ys. Paired P xs ys) (each f xs)
  unfolding each
  from_each g [] = from-give [] paired_none
  from_each g (a ∷ xs) = from-bind (g a) (λ b x. from-bind (from_each g xs) (λ ys w. from-give (b ∷ ys) (paired-more x w)))

-- twos is signed the other way round, for numbers of 32 bits
twos-signed : (n : ℕ) → n < 2 ^ 32 → twos (signed n) ≡ n
unfolding twos signed
twos-signed n h = go (ltb n (2 ^ 31)) refl
  where
    go : (b : Bool) → ltb n (2 ^ 31) ≡ b → twos (cond b (pos n) (negsuc (2 ^ 32 - suc n))) ≡ n
    go true e = refl
    go false e = omega arith

signed-fits : (n : ℕ) → n < 2 ^ 32 → Fits (signed n)
signed-fits n h = record { small = subst (λ (k : ℕ). k < 2 ^ 32) (sym (twos-signed n h)) h; back = ap signed (twos-signed n h) }

-- of a sheet of bytes: its numbers, its rows, its conditions and so on up to the model
module _ (s : List ℕ) (bytes : All (λ b. b < 256) s) where
  field-small : (size : ℕ) → GivesFrom s (λ v. v < 256 ^ size) (field size)
  field-small size = record {
    holds = λ p v next e.
        let w = field-read size s p v next e in
        let part = take size (drop p s) in
        let whole = w.whole in
        let long : length part ≡ size = omega (arith, length-take size (drop p s), length-drop p s) in
        subst (λ (n : ℕ). n < 256 ^ size) (sym w.value) (subst (λ (n : ℕ). big_endian part < 256 ^ n) long (bytes_small (all_take size (all_drop p bytes))));
  }

  number_fits : GivesFrom s Fits s32
  unfolding s32 u32
  number_fits = from-bind s (field-small 4) (λ n h. from-give s (signed n) (signed-fits n h))

  mark-fits : (version : ℕ) → GivesFrom s (MarkFits version) (read_strict version)
  unfolding read_strict strict_at
  mark-fits version = record { holds = λ p strict next e. sym (got-value e) }

  row-writable : (version n : ℕ) → GivesFrom s (FitsRow version n) (read_row version n)
  unfolding read_row
  row-writable version n =
      from-bind s (from-any s gives-any)
      (λ place u.
      from-bind s (mark-fits version)
      (λ strict t.
      from-bind s (from-many s n number_fits)
      (λ coefficients w.
      from-bind s number_fits (λ bound b. from-give s _ (record { wide = w.0; coefficients = w.1; bound = b; mark = t })))))

  condition-writable : (version most n : ℕ) → GivesFrom s (WritableCondition version most n) (read_condition version most n)
  unfolding read_condition
  condition-writable version most n =
      from-bind s (from-any s (gives-within 0 most u8))
      (λ count w.
      from-so s (from-many s count (row-writable version n))
      (λ rows v. record { few = subst (λ (k : ℕ). k ≤ most) (sym v.0) w.1; fit = v.1 }))

  mode-writable : (version n : ℕ) → GivesFrom s (WritableMode version n) (read_mode version n)
  unfolding read_mode
  mode-writable version n =
      from-bind s (from-any s (gives-within 0 1 u8))
      (λ start u.
      from-bind s (condition-writable version (initial_most start) n)
      (λ initial i.
      from-bind s (condition-writable version 8 n)
      (λ invariant j.
      from-bind s (condition-writable version 8 n)
      (λ flow k. from-give s _ (record { start = u.1; initial = i; invariant = j; flow = k })))))

  switch-writable : (version n alphabet modes : ℕ) → GivesFrom s (WritableSwitch version n alphabet modes) (read_switch version n alphabet modes)
  unfolding read_switch
  switch-writable version n alphabet modes =
      from-bind s (from-any s (gives-below modes u8))
      (λ source i.
      from-bind s (from-any s (gives-below modes u8))
      (λ target j.
      from-bind s (from-any s (gives-must (label_fits alphabet) 6 (gives-within 0 15 u8)))
      (λ label k.
      from-bind s (condition-writable version 8 (2 * n))
      (λ jump w. from-give s _ (record { source = i; target = j; most = k.1.1; label = k.0; jump = w })))))

  component-writable : (version n : ℕ) → GivesFrom s (WritableComponent version n) (read_component version n)
  unfolding read_component u16
  component-writable version n =
      from-bind s (from-must s (λ v. eqb (v % 2) 0) 5 (field-small 2))
      (λ alphabet a.
      from-bind s (from-any s (gives-within 1 8 u8))
      (λ mode_count i.
      from-bind s (from-any s (gives-within 0 32 u8))
      (λ switch_count j.
      from-bind s (from-many s mode_count (mode-writable version n))
      (λ modes k.
      from-bind s (from-many s switch_count (switch-writable version n alphabet mode_count))
      (λ switches w.
      from-give s _
      (record {
        small = a.1;
        even = a.0;
        least = subst (λ (x : ℕ). 1 ≤ x) (sym k.0) i.0;
        most = subst (λ (x : ℕ). x ≤ 8) (sym k.0) i.1;
        few = subst (λ (x : ℕ). x ≤ 32) (sym w.0) j.1;
        modes = k.1;
        switches = subst (λ (x : ℕ). All (WritableSwitch version n alphabet x) switches) (sym k.0) w.1;
      }))))))

  unsafe-writable : (version n : ℕ) (components : List Component) → GivesFrom s (WritableUnsafe version n components) (read_unsafe version n components)
  unfolding read_unsafe
  unsafe-writable version n components =
      from-bind s (from_each s (λ c. from-so s (from-must s (mode_fits c) 5 (from-any s gives-any)) (λ v w. w.0)) components)
      (λ modes i. from-bind s (condition-writable version 8 n) (λ rows j. from-give s _ (record { modes = i; rows = j })))

  paper-fits : (version : ℕ) → GivesFrom s (PaperFits version) (read_paper version)
  unfolding read_paper paper_if u32
  paper-fits version = record {
    holds = λ p paper next e. record {
      small = (small (has_paper version)).holds p paper next e;
      none = (paper-gives version).holds s p paper next e;
    };
  }
    where
      small : (b : Bool) → GivesFrom s (λ paper. paper < 2 ^ 32) (paper_if b)
      small true = field-small 4
      small false = from-give s 0 (omega arith)

  body-writable : (version paper : ℕ) → T (version_fits 1 version) → PaperFits version paper → GivesFrom s Writable (read_model_body version paper)
  unfolding read_model_body
  body-writable version paper fits number =
      from-bind s (from-any s (gives-within 1 8 u8))
      (λ n i.
      from-bind s (from-any s (gives-within 1 4 u8))
      (λ c j.
      from-bind s (from-any s (gives-within 0 16 u8))
      (λ conditions k.
      from-bind s (from-any s (gives-many n (gives-below c u8)))
      (λ owners o.
      from-bind s (from-many s c (component-writable version n))
      (λ components w.
      from-bind s (from-many s conditions (unsafe-writable version n components))
      (λ unsafe u.
      from-give s _
      (record {
        version = fits;
        paper = number;
        least = i.0;
        most = i.1;
        owned = o.0;
        owners = subst (λ (x : ℕ). All (λ v. v < x) owners) (sym w.0) o.1;
        some = subst (λ (x : ℕ). 1 ≤ x) (sym w.0) j.0;
        few = subst (λ (x : ℕ). x ≤ 4) (sym w.0) j.1;
        conditions = subst (λ (x : ℕ). x ≤ 16) (sym u.0) k.1;
        components = w.1;
        unsafe = u.1;
      })))))))

-- a model that a sheet of bytes gives can be written
pub writable : (limits : Limits) (s : List ℕ) (m : Model) (next : ℕ) → All (λ b. b < 256) s → read_model limits s ≡ got m next → Writable m
writable limits s m next bytes e =
    (from-bind s (from-any s (header-gives 1))
    (λ version u.
    from-bind s (paper-fits s bytes version)
    (λ paper n.
    from-bind s (from-any s gives-any)
    (λ place v. from-bind s (body-writable s bytes version paper u n) (λ m w. from_then s finished (from_then s _ (from-give s m w))))))
    ).holds 0 m next (sym (in-a-chain limits s) ∙ e)
