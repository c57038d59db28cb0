-- Where readings end: a value is followed by a place that is no earlier, within the sheet; a refusal has a number from 1 up to some bound,
-- which is 9 for the fields of all sheets and a model's limits, and a place within the sheet. A law for each way of putting readings together, then each reading. Assumes nothing.
use mathlib.Core.Path.{◌≡◌, refl, sym, subst}
use mathlib.Core.Bool.{Bool, true, false, cond}
use mathlib.Core.List.{List, [], ◌∷◌}
use Prim.Native.Nat.{ℕ, zero, suc, ◌+◌, ◌*◌, ◌-◌, ◌^◌, ◌≤◌}
use native.Mathlib.Omega.{arith}
use lib.Dec.{leb}
use lib.ListN.{length}
use borrow.Author.Tests.{leb-true}
use Rattle.formats.specs.Versions.{has_paper}
use Rattle.formats.specs.Reading.{Got, got, refused, Reader, and_then, ◌>>=◌, ◌>>◌, give, here, expect, field, u8, u16, u32, s32, passing, must, within, below, many, each, length_right, sized, header, paper_if, read_paper, finished, within_signed}
use Rattle.formats.specs.Rows.{read_strict, read_row, read_condition}
use Rattle.formats.specs.Model.{Component, Model, read_mode, read_switch, read_component, read_unsafe, read_model_body}
use Rattle.formats.specs.declared.Limits.{Limits}
use Rattle.formats.specs.ModelSheet.{limits_test, read_model}
use Rattle.formats.proofs.ModelSheet.{in-a-chain}
use Rattle.formats.proofs.Header.{header_read}
use Rattle.formats.specs.Certificate.{read_regions, read_entry, read_entries, read_proof}
use Rattle.formats.specs.RunSheet.{read_values, read_opening, read_flow, read_jump, read_step_of, read_step}

-- what a reading from p on comes to, where its refusals have numbers up to one
abbrev pub FineTo : ℕ → {A : Type 0} → List ℕ → ℕ → Got A → Type 0
FineTo most s p (got a next) = (p ≤ next) × (next ≤ length s)
FineTo most s p (refused number place) = (1 ≤ number) × (number ≤ most) × (place ≤ length s)

-- a reading from any place of a sheet, no earlier than some place
pub record PlacedTo {A : Type 0} (most least : ℕ) (r : Reader A) : Type 0 where
  pub fine : (s : List ℕ) (p : ℕ) → least ≤ p → p ≤ length s → FineTo most s p (r s p)

-- the numbers of fields and of a model's limits: 1 to 9
abbrev pub Fine : {A : Type 0} → List ℕ → ℕ → Got A → Type 0
Fine s p g = FineTo 9 s p g

abbrev pub Placed : {A : Type 0} → ℕ → Reader A → Type 0
Placed least r = PlacedTo 9 least r

pub fine_up : {A : Type 0} (most more : ℕ) (s : List ℕ) (p : ℕ) (g : Got A) → most ≤ more → FineTo most s p g → FineTo more s p g
fine_up most more s p (got a next) h w = w
fine_up most more s p (refused number place) h w = (w.0, omega (arith, w.1), w.2)

pub placed-up : {A : Type 0} {most more least : ℕ} {r : Reader A} → most ≤ more → PlacedTo most least r → PlacedTo more least r
placed-up {most = most} {more = more} {r = r} h g = record { fine = λ s p l k. fine_up most more s p (r s p) h (g.fine s p l k) }

later : {A : Type 0} (most : ℕ) (s : List ℕ) (p q : ℕ) (g : Got A) → p ≤ q → FineTo most s q g → FineTo most s p g
later most s p q (got a next) h w = (omega arith, w.1)
later most s p q (refused number place) h w = w

then-fine : {A B : Type 0} (most least : ℕ) (s : List ℕ) (p : ℕ) (g : Got A) (f : A → Reader B) → least ≤ p → FineTo most s p g → ((a : A) → PlacedTo most least (f a)) → FineTo most s p (and_then g f s)
unfolding and_then
then-fine most least s p (got a next) f h w k = later most s p next (f a s next) w.0 ((k a).fine s next (omega arith) w.1)
then-fine most least s p (refused number place) f h w k = w

pub placed-bind : {A B : Type 0} {most least : ℕ} {r : Reader A} {f : A → Reader B} → PlacedTo most least r → ((a : A) → PlacedTo most least (f a)) → PlacedTo most least (r >>= f)
unfolding ◌>>=◌
placed-bind {most = most} {least = least} {r = r} {f = f} g k = record { fine = λ s p h l. then-fine most least s p (r s p) f h (g.fine s p h l) k }

pub placed-then : {A B : Type 0} {most least : ℕ} {r : Reader A} {t : Reader B} → PlacedTo most least r → PlacedTo most least t → PlacedTo most least (r >> t)
unfolding ◌>>◌
placed-then {most = most} {least = least} {r = r} {t = t} g k = record { fine = λ s p h l. then-fine most least s p (r s p) (λ a. t) h (g.fine s p h l) (λ a. k) }

-- the place that is read here is a place no earlier for what follows
pub placed-here : {B : Type 0} {least : ℕ} {f : ℕ → Reader B} → ((place : ℕ) → Placed place (f place)) → Placed least (here >>= f)
unfolding ◌>>=◌ here and_then
placed-here k = record { fine = λ s p h l. (k p).fine s p (omega arith) l }

pub placed-give : {A : Type 0} {most least : ℕ} (a : A) → PlacedTo most least (give a)
unfolding give
placed-give a = record { fine = λ s p h l. (omega arith, l) }

pub placed-expect : {most least : ℕ} (ok : Bool) (number place : ℕ) → 1 ≤ number → number ≤ most → place ≤ least → PlacedTo most least (expect ok number place)
unfolding expect
placed-expect {most} {least} ok number place i j k = record { fine = λ s p h l. go ok s p h l }
  where
    go : (b : Bool) (s : List ℕ) (p : ℕ) → least ≤ p → p ≤ length s → FineTo most {A = Unit {0}} s p (cond b (got tt p) (refused number place))
    go true s p h l = (omega arith, l)
    go false s p h l = (i, j, omega arith)

pub placed-field : {least : ℕ} (size : ℕ) → Placed least (field size)
unfolding field
placed-field {least} size = record { fine = λ s p h l. go (leb (p + size) (length s)) s p _ refl l }
  where
    go : (b : Bool) (s : List ℕ) (p v : ℕ) → leb (p + size) (length s) ≡ b → p ≤ length s → Fine s p (cond b (got v (p + size)) (refused 4 p))
    go true s p v e l = (omega arith, leb-true (p + size) (length s) e)
    go false s p v e l = (omega arith, omega arith, l)

passing-fine : {A : Type 0} (most : ℕ) (test : A → Bool) (number : ℕ) (s : List ℕ) (p : ℕ) (g : Got A) → 1 ≤ number → number ≤ most → p ≤ length s → FineTo most s p g → FineTo most s p (passing test number p g)
unfolding passing
passing-fine most test number s p (got a next) i j l w = go (test a)
  where
    go : (b : Bool) → FineTo most s p (cond b (got a next) (refused number p))
    go true = w
    go false = (i, j, l)
passing-fine most test number s p (refused n place) i j l w = w

pub placed-must : {A : Type 0} {most least : ℕ} {r : Reader A} (test : A → Bool) (number : ℕ) → 1 ≤ number → number ≤ most → PlacedTo most least r → PlacedTo most least (must test number r)
unfolding must
placed-must {most = most} {r = r} test number i j g = record { fine = λ s p h l. passing-fine most test number s p (r s p) i j l (g.fine s p h l) }

pub placed-within : {least : ℕ} (low high : ℕ) {r : Reader ℕ} → Placed least r → Placed least (within low high r)
unfolding within
placed-within low high g = placed-must _ 5 (omega arith) (omega arith) g

pub placed_below : {least : ℕ} (count : ℕ) {r : Reader ℕ} → Placed least r → Placed least (below count r)
unfolding below
placed_below count g = placed-must _ 5 (omega arith) (omega arith) g

pub placed-u8 : {least : ℕ} → Placed least u8
unfolding u8
placed-u8 = placed-field 1

pub placed-u16 : {least : ℕ} → Placed least u16
unfolding u16
placed-u16 = placed-field 2

pub placed-u32 : {least : ℕ} → Placed least u32
unfolding u32
placed-u32 = placed-field 4

pub placed-s32 : {least : ℕ} → Placed least s32
unfolding s32
placed-s32 = placed-bind placed-u32 (λ n. placed-give _)

pub placed-many : {A : Type 0} {least : ℕ} {r : Reader A} (n : ℕ) → Placed least r → Placed least (many n r)
unfolding many
placed-many zero g = placed-give []
placed-many (suc n) g = placed-bind g (λ a. placed-bind (placed-many n g) (λ rest. placed-give (a ∷ rest)))

pub placed-each : {A B : Type 0} {least : ℕ} (f : A → Reader B) (xs : List A) → ((a : A) → Placed least (f a)) → Placed least (each f xs)
unfolding each
placed-each f [] g = placed-give []
placed-each f (a ∷ xs) g = placed-bind (g a) (λ b. placed-bind (placed-each f xs g) (λ rest. placed-give (b ∷ rest)))

placed-sized : {least : ℕ} → Placed least sized
unfolding sized
placed-sized {least} = record { fine = λ s p h l. go (length_right s) s p l }
  where
    go : (b : Bool) (s : List ℕ) (p : ℕ) → p ≤ length s → Fine {A = Unit {0}} s p (cond b (got tt p) (refused 1 0))
    go true s p l = (omega arith, l)
    go false s p l = (omega arith, omega arith, omega arith)

pub placed-header : {least : ℕ} (kind : ℕ) → Placed least (header kind)
unfolding header
placed-header kind =
    placed-then placed-sized
    (placed-then placed-u16
    (placed-bind (placed-must _ 2 (omega arith) (omega arith) placed-u8)
    (λ version. placed-then (placed-must _ 3 (omega arith) (omega arith) placed-u8) (placed-give version))))

-- what follows a header begins after its four bytes
pub placed-headed : {B : Type 0} {most least : ℕ} (kind : ℕ) {f : ℕ → Reader B} → 9 ≤ most → ((version : ℕ) → PlacedTo most 4 (f version)) → PlacedTo most least (header kind >>= f)
unfolding ◌>>=◌ and_then
placed-headed {B} {most} {least} kind {f} up k = record { fine = λ s p h l. go s p (header kind s p) refl ((placed-up up (placed-header {least = least} kind)).fine s p h l) }
  where
    go : (s : List ℕ) (p : ℕ) (g : Got ℕ) → header kind s p ≡ g → FineTo most s p g → FineTo most s p (and_then g f s)
    go s p (got v next) e w = later most s p next (f v s next) w.0 ((k v).fine s next (omega (arith, (header_read kind s p v next e).ends)) w.1)
    go s p (refused number place) e w = w

pub placed-finished : {least : ℕ} → Placed least finished
unfolding finished
placed-finished {least} = record { fine = λ s p h l. go (leb (length s) p) s p l }
  where
    go : (b : Bool) (s : List ℕ) (p : ℕ) → p ≤ length s → Fine {A = Unit {0}} s p (cond b (got tt p) (refused 4 p))
    go true s p l = (omega arith, l)
    go false s p l = (omega arith, omega arith, l)

placed-strict : {least : ℕ} (version : ℕ) → Placed least (read_strict version)
unfolding read_strict
placed-strict version = record { fine = λ s p h l. (omega arith, l) }

placed_row : {least : ℕ} (version n : ℕ) → Placed least (read_row version n)
unfolding read_row
placed_row version n =
    placed-here
    (λ place. placed-bind (placed-strict version) (λ strict. placed-bind (placed-many n placed-s32) (λ coefficients. placed-bind placed-s32 (λ bound. placed-give _))))

pub placed-condition : {least : ℕ} (most version n : ℕ) → Placed least (read_condition version most n)
unfolding read_condition
placed-condition most version n = placed-bind (placed-within 0 most placed-u8) (λ count. placed-many count (placed_row version n))

placed-mode : {least : ℕ} (version n : ℕ) → Placed least (read_mode version n)
unfolding read_mode
placed-mode version n =
    placed-bind (placed-within 0 1 placed-u8)
    (λ start. placed-bind (placed-condition _ version n) (λ initial. placed-bind (placed-condition 8 version n) (λ invariant. placed-bind (placed-condition 8 version n) (λ flow. placed-give _))))

placed-switch : {least : ℕ} (version n alphabet modes : ℕ) → Placed least (read_switch version n alphabet modes)
unfolding read_switch
placed-switch version n alphabet modes =
    placed-bind (placed_below modes placed-u8)
    (λ source.
    placed-bind (placed_below modes placed-u8)
    (λ target.
    placed-bind (placed-must _ 6 (omega arith) (omega arith) (placed-within 0 15 placed-u8))
    (λ label. placed-bind (placed-condition 8 version (2 * n)) (λ jump. placed-give _))))

placed-component : {least : ℕ} (version n : ℕ) → Placed least (read_component version n)
unfolding read_component
placed-component version n =
    placed-bind (placed-must _ 5 (omega arith) (omega arith) placed-u16)
    (λ alphabet.
    placed-bind (placed-within 1 8 placed-u8)
    (λ mode_count.
    placed-bind (placed-within 0 32 placed-u8)
    (λ switch_count.
    placed-bind (placed-many mode_count (placed-mode version n))
    (λ modes. placed-bind (placed-many switch_count (placed-switch version n alphabet mode_count)) (λ switches. placed-give _)))))

placed-unsafe : {least : ℕ} (version n : ℕ) (components : List Component) → Placed least (read_unsafe version n components)
unfolding read_unsafe
placed-unsafe version n components =
    placed-bind (placed-each _ components (λ c. placed-must _ 5 (omega arith) (omega arith) placed-u8))
    (λ modes. placed-bind (placed-condition 8 version n) (λ rows. placed-give _))

pub placed-paper : {least : ℕ} (version : ℕ) → Placed least (read_paper version)
unfolding read_paper paper_if
placed-paper version = go (has_paper version)
  where
    go : {least : ℕ} (b : Bool) → Placed least (paper_if b)
    go true = placed-u32
    go false = placed-give 0

placed-body : {least : ℕ} (version paper : ℕ) → Placed least (read_model_body version paper)
unfolding read_model_body
placed-body version paper =
    placed-bind (placed-within 1 8 placed-u8)
    (λ n.
    placed-bind (placed-within 1 4 placed-u8)
    (λ c.
    placed-bind (placed-within 0 16 placed-u8)
    (λ conditions.
    placed-bind (placed-many n (placed_below c placed-u8))
    (λ owners.
    placed-bind (placed-many c (placed-component version n))
    (λ components. placed-bind (placed-many conditions (placed-unsafe version n components)) (λ unsafe. placed-give _))))))

-- a model sheet
pub model-fine : (limits : Limits) (s : List ℕ) → Fine s 0 (read_model limits s)
unfolding limits_test
model-fine limits s =
    subst (Fine s 0) (sym (in-a-chain limits s))
    ((placed-bind {least = 0} (placed-header 1)
    (λ version.
    placed-bind (placed-paper version)
    (λ paper.
    placed-here
    (λ place.
    placed-bind (placed-body version paper)
    (λ m.
    placed-then placed-finished
    (placed-then
    (placed-then (placed-expect _ 7 place (omega arith) (omega arith) (omega arith)) (placed-expect _ 8 place (omega arith) (omega arith) (omega arith)))
    (placed-give m))))))
    ).fine s 0 (omega arith) (omega arith))

-- a certificate's fields
pub placed-regions : {least : ℕ} (m : Model) → Placed least (read_regions m)
unfolding read_regions
placed-regions m = placed-bind (placed-must _ 5 (omega arith) (omega arith) placed-u8) (λ count. placed-many count (placed-condition 16 m.version m.variables))

pub placed-entry : {least : ℕ} (hypotheses first : ℕ) → Placed least (read_entry hypotheses first)
unfolding read_entry
placed-entry hypotheses first =
    placed-bind (placed-must _ 9 (omega arith) (omega arith) (placed_below hypotheses placed-u8))
    (λ hypothesis. placed-bind (placed-within 1 (2 ^ 24 - 1) placed-u32) (λ multiplier. placed-give _))

pub placed-entries : {least : ℕ} (hypotheses first count : ℕ) → Placed least (read_entries hypotheses first count)
unfolding read_entries
placed-entries hypotheses first zero = placed-give []
placed-entries hypotheses first (suc n) =
    placed-bind (placed-entry hypotheses first)
    (λ e. placed-bind (placed-entries hypotheses (suc e.hypothesis) n) (λ rest. placed-give _))

pub placed-proof : {least : ℕ} (hypotheses : ℕ) (unsafe : Bool) → Placed least (read_proof hypotheses unsafe)
unfolding read_proof
placed-proof hypotheses unsafe =
    placed-bind (placed-within 0 _ placed-u32)
    (λ k. placed-bind (placed-within 0 128 placed-u8) (λ count. placed-bind (placed-entries hypotheses 0 count) (λ entries. placed-give _)))

-- a run sheet's fields
placed-values : {least : ℕ} (n : ℕ) → Placed least (read_values n)
unfolding read_values within_signed
placed-values n = placed-many n (placed-must _ 5 (omega arith) (omega arith) placed-s32)

pub placed-opening : {least : ℕ} (m : Model) → Placed least (read_opening m)
unfolding read_opening
placed-opening m =
    placed-bind (placed-within 1 (2 ^ 24 - 1) placed-u32)
    (λ q.
    placed-bind (placed-within 0 4095 placed-u16)
    (λ steps. placed-here (λ place. placed-bind (placed_below _ placed-u8) (λ location. placed-bind (placed-values m.variables) (λ values. placed-give _)))))

placed-flow : {least : ℕ} (m : Model) → Placed least (read_flow m)
unfolding read_flow
placed-flow m = placed-bind (placed-within 0 (2 ^ 24 - 1) placed-u32) (λ δ. placed-bind (placed-values m.variables) (λ values. placed-give _))

placed-jump : {least : ℕ} (m : Model) → Placed least (read_jump m)
unfolding read_jump
placed-jump m =
    placed-bind (placed-within 0 15 placed-u8)
    (λ event.
    placed-bind (placed-each _ m.components (λ c. placed-must _ 5 (omega arith) (omega arith) placed-u8))
    (λ switches. placed-bind (placed-values m.variables) (λ values. placed-give _)))

placed-step-of : {least : ℕ} (m : Model) (kind : ℕ) → Placed least (read_step_of m kind)
unfolding read_step_of
placed-step-of m zero = placed-flow m
placed-step-of m (suc kind) = placed-jump m

pub placed-step : {least : ℕ} (m : Model) → Placed least (read_step m)
unfolding read_step
placed-step m = placed-bind (placed-within 0 1 placed-u8) (placed-step-of m)
