-- A reading from a place on does not look at the bytes before that place: in two sheets of one length, alike from there on, it comes to the
-- same, values, refusals and places. Told of every reading but a header, whose first field counts the whole sheet. Assumes nothing.
use mathlib.Core.Path.{◌≡◌, refl, sym, ap, ap₂, ◌∙◌}
use mathlib.Core.Bool.{Bool, true, false, cond}
use mathlib.Core.List.{List, [], ◌∷◌}
use Prim.Native.Nat.{ℕ, zero, suc, ◌+◌, ◌-◌, ◌*◌, ◌^◌, ◌≤◌}
use native.Mathlib.Omega.{arith}
use lib.Dec.{leb}
use lib.ListN.{length, take, drop}
use lib.Seq.{drop-drop}
use Rattle.formats.specs.Versions.{strict_at}
use Rattle.formats.specs.Reading.{Got, got, refused, Reader, and_then, ◌>>=◌, ◌>>◌, give, here, expect, big_endian, field, u8, u16, u32, s32, passing, must, within, below, many, each, finished, within_signed}
use Rattle.formats.specs.Rows.{read_strict, read_row, read_condition}
use Rattle.formats.specs.Model.{Component, Model, read_mode, read_switch, read_component, read_unsafe, read_model_body}
use Rattle.formats.specs.Certificate.{read_regions, read_entry, read_entries, read_proof}
use Rattle.formats.specs.RunSheet.{read_values, read_opening, read_flow, read_jump, read_step_of, read_step}

-- sheets of one length, alike from a place on; then they are from every later place on
pub record Alike (p : ℕ) (s t : List ℕ) : Type 0 where
  pub size : length s ≡ length t
  pub rest : drop p s ≡ drop p t

pub alike-later : {p q : ℕ} {s t : List ℕ} → p ≤ q → Alike p s t → Alike q s t
alike-later {p} {q} {s} {t} h w =
    let e : p + (q - p) ≡ q = omega arith in
    let dropped : (l : List ℕ) → drop q l ≡ drop (q - p) (drop p l) = λ l. ap (λ (n : ℕ). drop n l) (sym e) ∙ sym (drop-drop (q - p) p l) in
    record { size = w.size; rest = dropped s ∙ ap (drop (q - p)) w.rest ∙ sym (dropped t) }

-- a reading goes no way back
abbrev pub Rises : {A : Type 0} → ℕ → Got A → Type 0
Rises p (got a next) = p ≤ next
Rises p (refused number place) = Unit {0}

pub record Onward {A : Type 0} (r : Reader A) : Type 0 where
  pub same : (s t : List ℕ) (p : ℕ) → Alike p s t → r s p ≡ r t p
  pub rises : (s : List ℕ) (p : ℕ) → Rises p (r s p)

-- one reading, then the next
module _ {A B : Type 0} (f : A → Reader B) (next : (a : A) → Onward (f a)) where
  pub then_same : (s t : List ℕ) (p : ℕ) (g : Got A) → Alike p s t → Rises p g → and_then g f s ≡ and_then g f t
  unfolding and_then
  then_same s t p (got a place) w h = (next a).same s t place (alike-later h w)
  then_same s t p (refused number place) w h = refl

  up : (p q : ℕ) (g : Got B) → p ≤ q → Rises q g → Rises p g
  up p q (got b place) h k = omega arith
  up p q (refused number place) h k = tt

  then-rises : (s : List ℕ) (p : ℕ) (g : Got A) → Rises p g → Rises p (and_then g f s)
  unfolding and_then
  then-rises s p (got a place) h = up p place (f a s place) h ((next a).rises s place)
  then-rises s p (refused number place) h = tt

pub onward-bind : {A B : Type 0} {r : Reader A} {f : A → Reader B} → Onward r → ((a : A) → Onward (f a)) → Onward (r >>= f)
unfolding ◌>>=◌
onward-bind {r = r} {f = f} g k = record {
  same = λ s t p w. ap (λ (x : Got _). and_then x f s) (g.same s t p w) ∙ then_same f k s t p (r t p) w (g.rises t p);
  rises = λ s p. then-rises f k s p (r s p) (g.rises s p);
}

pub onward_then : {A B : Type 0} {r : Reader A} {t : Reader B} → Onward r → Onward t → Onward (r >> t)
unfolding ◌>>◌
onward_then {r = r} {t = u} g k = record {
  same = λ s t p w. ap (λ (x : Got _). and_then x (λ a. u) s) (g.same s t p w) ∙ then_same (λ a. u) (λ a. k) s t p (r t p) w (g.rises t p);
  rises = λ s p. then-rises (λ a. u) (λ a. k) s p (r s p) (g.rises s p);
}

pub onward-give : {A : Type 0} (a : A) → Onward (give a)
unfolding give
onward-give a = record { same = λ s t p w. refl; rises = λ s p. omega arith }

pub onward-here : Onward here
unfolding here
onward-here = record { same = λ s t p w. refl; rises = λ s p. omega arith }

-- a test that is no field
pub onward-expect : (ok : Bool) (number place : ℕ) → Onward (expect ok number place)
unfolding expect
onward-expect ok number place = record { same = λ s t p w. refl; rises = λ s p. go p ok }
  where
    go : (p : ℕ) (b : Bool) → Rises {A = Unit {0}} p (cond b (got tt p) (refused number place))
    go p true = omega arith
    go p false = tt

-- fields
pub onward-field : (size : ℕ) → Onward (field size)
unfolding field
onward-field size = record {
  same = λ s t p w.
      ap₂ (λ (n : ℕ) (l : List ℕ). cond (leb (p + size) n) (got (big_endian (take size l)) (p + size)) (refused 4 p)) w.size w.rest;
  rises = λ s p. go p (big_endian (take size (drop p s))) (leb (p + size) (length s));
}
  where
    go : (p v : ℕ) (b : Bool) → Rises p (cond b (got v (p + size)) (refused 4 p))
    go p v true = omega arith
    go p v false = tt

passing-rises : {A : Type 0} (test : A → Bool) (number p : ℕ) (g : Got A) → Rises p g → Rises p (passing test number p g)
unfolding passing
passing-rises test number p (got a next) h = go (test a)
  where
    go : (b : Bool) → Rises p (cond b (got a next) (refused number p))
    go true = h
    go false = tt
passing-rises test number p (refused n place) h = tt

pub onward-must : {A : Type 0} {r : Reader A} (test : A → Bool) (number : ℕ) → Onward r → Onward (must test number r)
unfolding must
onward-must {r = r} test number g = record {
  same = λ s t p w. ap (passing test number p) (g.same s t p w);
  rises = λ s p. passing-rises test number p (r s p) (g.rises s p);
}

onward-within : (low high : ℕ) {r : Reader ℕ} → Onward r → Onward (within low high r)
unfolding within
onward-within low high g = onward-must _ 5 g

onward-below : (count : ℕ) {r : Reader ℕ} → Onward r → Onward (below count r)
unfolding below
onward-below count g = onward-must _ 5 g

onward-u8 : Onward u8
unfolding u8
onward-u8 = onward-field 1

onward-u16 : Onward u16
unfolding u16
onward-u16 = onward-field 2

onward-u32 : Onward u32
unfolding u32
onward-u32 = onward-field 4

onward-s32 : Onward s32
unfolding s32
onward-s32 = onward-bind onward-u32 (λ n. onward-give _)

onward-many : {A : Type 0} {r : Reader A} (n : ℕ) → Onward r → Onward (many n r)
unfolding many
onward-many zero g = onward-give []
onward-many (suc n) g = onward-bind g (λ a. onward-bind (onward-many n g) (λ rest. onward-give (a ∷ rest)))

onward-each : {A B : Type 0} (f : A → Reader B) (xs : List A) → ((a : A) → Onward (f a)) → Onward (each f xs)
unfolding each
onward-each f [] g = onward-give []
onward-each f (a ∷ xs) g = onward-bind (g a) (λ b. onward-bind (onward-each f xs g) (λ rest. onward-give (b ∷ rest)))

pub onward-finished : Onward finished
unfolding finished
onward-finished = record {
  same = λ s t p w. ap (λ (n : ℕ). cond (leb n p) (got tt p) (refused 4 p)) w.size;
  rises = λ s p. go p (leb (length s) p);
}
  where
    go : (p : ℕ) (b : Bool) → Rises {A = Unit {0}} p (cond b (got tt p) (refused 4 p))
    go p true = omega arith
    go p false = tt

-- rows and conditions
onward-strict : (version : ℕ) → Onward (read_strict version)
unfolding read_strict strict_at
onward-strict version = record { same = λ s t p w. refl; rises = λ s p. omega arith }

onward-row : (version n : ℕ) → Onward (read_row version n)
unfolding read_row
onward-row version n =
    onward-bind onward-here
    (λ place. onward-bind (onward-strict version) (λ strict. onward-bind (onward-many n onward-s32) (λ coefficients. onward-bind onward-s32 (λ bound. onward-give _))))

onward-condition : (most version n : ℕ) → Onward (read_condition version most n)
unfolding read_condition
onward-condition most version n = onward-bind (onward-within 0 most onward-u8) (λ count. onward-many count (onward-row version n))

-- a model's body
onward-mode : (version n : ℕ) → Onward (read_mode version n)
unfolding read_mode
onward-mode version n =
    onward-bind (onward-within 0 1 onward-u8)
    (λ start. onward-bind (onward-condition _ version n) (λ initial. onward-bind (onward-condition 8 version n) (λ invariant. onward-bind (onward-condition 8 version n) (λ flow. onward-give _))))

onward-switch : (version n alphabet modes : ℕ) → Onward (read_switch version n alphabet modes)
unfolding read_switch
onward-switch version n alphabet modes =
    onward-bind (onward-below modes onward-u8)
    (λ source.
    onward-bind (onward-below modes onward-u8)
    (λ target.
    onward-bind (onward-must _ 6 (onward-within 0 15 onward-u8))
    (λ label. onward-bind (onward-condition 8 version (2 * n)) (λ jump. onward-give _))))

onward-component : (version n : ℕ) → Onward (read_component version n)
unfolding read_component
onward-component version n =
    onward-bind (onward-must _ 5 onward-u16)
    (λ alphabet.
    onward-bind (onward-within 1 8 onward-u8)
    (λ mode_count.
    onward-bind (onward-within 0 32 onward-u8)
    (λ switch_count.
    onward-bind (onward-many mode_count (onward-mode version n))
    (λ modes. onward-bind (onward-many switch_count (onward-switch version n alphabet mode_count)) (λ switches. onward-give _)))))

onward-unsafe : (version n : ℕ) (components : List Component) → Onward (read_unsafe version n components)
unfolding read_unsafe
onward-unsafe version n components =
    onward-bind (onward-each _ components (λ c. onward-must _ 5 onward-u8)) (λ modes. onward-bind (onward-condition 8 version n) (λ rows. onward-give _))

pub onward-body : (version paper : ℕ) → Onward (read_model_body version paper)
unfolding read_model_body
onward-body version paper =
    onward-bind (onward-within 1 8 onward-u8)
    (λ n.
    onward-bind (onward-within 1 4 onward-u8)
    (λ c.
    onward-bind (onward-within 0 16 onward-u8)
    (λ conditions.
    onward-bind (onward-many n (onward-below c onward-u8))
    (λ owners.
    onward-bind (onward-many c (onward-component version n))
    (λ components. onward-bind (onward-many conditions (onward-unsafe version n components)) (λ unsafe. onward-give _))))))

-- a certificate's fields
pub onward-regions : (m : Model) → Onward (read_regions m)
unfolding read_regions
onward-regions m = onward-bind (onward-must _ 5 onward-u8) (λ count. onward-many count (onward-condition 16 m.version m.variables))

onward-entry : (hypotheses first : ℕ) → Onward (read_entry hypotheses first)
unfolding read_entry
onward-entry hypotheses first =
    onward-bind (onward-must _ 9 (onward-below hypotheses onward-u8))
    (λ hypothesis. onward-bind (onward-within 1 (2 ^ 24 - 1) onward-u32) (λ multiplier. onward-give _))

onward-entries : (hypotheses first count : ℕ) → Onward (read_entries hypotheses first count)
unfolding read_entries
onward-entries hypotheses first zero = onward-give []
onward-entries hypotheses first (suc n) =
    onward-bind (onward-entry hypotheses first)
    (λ e. onward-bind (onward-entries hypotheses (suc e.hypothesis) n) (λ rest. onward-give _))

pub onward-proof : (hypotheses : ℕ) (unsafe : Bool) → Onward (read_proof hypotheses unsafe)
unfolding read_proof
onward-proof hypotheses unsafe =
    onward-bind (onward-within 0 _ onward-u32)
    (λ k. onward-bind (onward-within 0 128 onward-u8) (λ count. onward-bind (onward-entries hypotheses 0 count) (λ entries. onward-give _)))

-- a run sheet's fields
onward-values : (n : ℕ) → Onward (read_values n)
unfolding read_values within_signed
onward-values n = onward-many n (onward-must _ 5 onward-s32)

pub onward-opening : (m : Model) → Onward (read_opening m)
unfolding read_opening
onward-opening m =
    onward-bind (onward-within 1 (2 ^ 24 - 1) onward-u32)
    (λ q.
    onward-bind (onward-within 0 4095 onward-u16)
    (λ steps.
    onward-bind onward-here
    (λ place. onward-bind (onward-below _ onward-u8) (λ location. onward-bind (onward-values m.variables) (λ values. onward-give _)))))

onward-flow : (m : Model) → Onward (read_flow m)
unfolding read_flow
onward-flow m = onward-bind (onward-within 0 (2 ^ 24 - 1) onward-u32) (λ δ. onward-bind (onward-values m.variables) (λ values. onward-give _))

onward-jump : (m : Model) → Onward (read_jump m)
unfolding read_jump
onward-jump m =
    onward-bind (onward-within 0 15 onward-u8)
    (λ event.
    onward-bind (onward-each _ m.components (λ c. onward-must _ 5 onward-u8))
    (λ switches. onward-bind (onward-values m.variables) (λ values. onward-give _)))

onward-step-of : (m : Model) (kind : ℕ) → Onward (read_step_of m kind)
unfolding read_step_of
onward-step-of m zero = onward-flow m
onward-step-of m (suc kind) = onward-jump m

pub onward-step : (m : Model) → Onward (read_step m)
unfolding read_step
onward-step m = onward-bind (onward-within 0 1 onward-u8) (onward-step-of m)
