-- The certificate's readings: regions read one after the other into places, and how a proof and an entry are read field by field.
-- Assumes nothing.
use mathlib.Core.Path.{◌≡◌, refl, sym, ap, ◌∙◌, subst}
use mathlib.Core.Bool.{Bool, cond}
use mathlib.Core.List.{List, [], ◌∷◌}
use Prim.Native.Nat.{ℕ, zero, suc, ◌+◌, ◌*◌, ◌-◌, ◌^◌, ◌≤◌, ◌<◌}
use native.Mathlib.Decide.{dec_le}
use native.Mathlib.Nat.{mul-le-mul_left}
use native.Mathlib.Omega.{arith}
use lib.Dec.{leb, eqb}
use lib.ListN.{length, set}
use borrow.Author.Tests.{le-leb, lt-leb}
use Rattle.farkas.specs.Farkas.{Proof}
use Rattle.farkas.specs.Lists.{All, none, more}
use Rattle.fields.proofs.AnswerLaws.{Next}
use Rattle.fields.specs.Answers.{got_as}
use Rattle.formats.specs.Reading.{got, refused, Reader, and_then, ◌>>=◌, give, u8, u32, passing, must, within, many}
use Rattle.formats.specs.Rows.{Condition, read_row, read_condition}
use Rattle.fields.specs.Places.{row_at, rows_from}
use Rattle.formats.specs.Model.{Model}
use Rattle.formats.specs.Locations.{location_count}
use Rattle.models.specs.Index.{entry, span_rows, Kept}
use Rattle.formats.specs.Certificate.{read_regions, read_entries, read_proof}
use Rattle.second_sheets.specs.CertificateAnswers.{regions_from, regions_for, GoodRegions, read_head}
use Rattle.second_sheets.specs.declared.Head.{Head}
use Rattle.formats.proofs.Gives.{got-value, passes, bind-got}
use Rattle.fields.proofs.Skipping.{rows-got, rows_cut}
use Rattle.fields.proofs.ChainLaws.{regroup}
use Rattle.formats.proofs.FieldLaws.{range-read, byte-read}
use Rattle.fields.proofs.ConditionLaws.{length-rows}
use Rattle.models.proofs.IndexLaws.{kept_set, kept_then, agree-low, span_same, span-put}
use Rattle.formats.proofs.Members.{all_in, in_map, in_count}
use Rattle.fields.proofs.ReadLoop.{up_to, Reading, reading-starts, reading-goes-on, reading-stops, reading-ends}
use Rattle.formats.specs.Versions.{row_bytes}

-- Regions: so many of them, read from a place on into numbers
module _ (s : List ℕ) (version n count at : ℕ) where
  -- the first l regions are kept, and the rest is read from this place on
  abbrev pub Regions : List ℕ → ℕ → ℕ → Type 0
  Regions regions l place = Reading (read_condition version 16 n) count s (many count (read_condition version 16 n) s at) (λ j. span_rows s version n regions (2 * j)) l place

  pub regions-start : (regions : List ℕ) → Regions regions 0 at
  regions-start regions = reading-starts (read_condition version 16 n) count s (many count (read_condition version 16 n) s at) (λ j. span_rows s version n regions (2 * j)) at refl

  module _ (xs : List ℕ) (l place : ℕ) (before : Regions xs l place) (h : l < count) where
    pub regions-go-on : (ys : List ℕ) (rows next : ℕ) → 2 * l + 1 < length xs → ys ≡ set (set xs (2 * l) (place + 1)) (2 * l + 1) rows → read_condition version 16 n s place ≡ got (rows_from s version n (place + 1) rows) next → Regions ys (l + 1) next
    regions-go-on ys rows next room put read =
        let v = span-put s version n xs ys (2 * l) (place + 1) rows room put in
        reading-goes-on (read_condition version 16 n) count s (many count (read_condition version 16 n) s at)
        (λ j. span_rows s version n xs (2 * j))
        (λ j. span_rows s version n ys (2 * j))
        l place next before h
        (read ∙ ap (λ c. got c next) (sym v.0))
        (λ j k. span_same s version n xs ys (2 * j) (agree-low v.1 (omega arith)))

    pub regions-stop : (number cut : ℕ) → read_condition version 16 n s place ≡ refused number cut → refused number cut ≡ many count (read_condition version 16 n) s at
    regions-stop number cut read =
        reading-stops (read_condition version 16 n) count s (many count (read_condition version 16 n) s at) (λ j. span_rows s version n xs (2 * j)) l place number cut before h read

  -- a turn changes no number but the region's two
  pub regions-kept : (old xs : List ℕ) (l : ℕ) (p rows : ℕ) → Kept 0 (2 * count) old xs → l < count → Kept 0 (2 * count) old (set (set xs (2 * l) p) (2 * l + 1) rows)
  regions-kept old xs l p rows k h =
      kept_then k
      (kept_then (kept_set 0 (2 * count) xs (2 * l) p (omega arith) (omega arith)) (kept_set 0 (2 * count) (set xs (2 * l) p) (2 * l + 1) rows (omega arith) (omega arith)))

  pub regions-end : (regions : List ℕ) (l place : ℕ) → Regions regions l place → l ≡ count → got (regions_from s version n regions count) place ≡ many count (read_condition version 16 n) s at
  unfolding regions_from up_to
  regions-end regions l place before h =
      reading-ends (read_condition version 16 n) count s (many count (read_condition version 16 n) s at) (λ j. span_rows s version n regions (2 * j)) l place before h

-- after the count the regions are what is left
pub regions-then : (s : List ℕ) (version n locations at after : ℕ) → must (λ v. eqb v locations) 5 u8 s at ≡ got locations after → (regions : List ℕ) (r : Next) → got_as (regions_from s version n regions locations) r ≡ many locations (read_condition version 16 n) s after → got_as (regions_from s version n regions locations) r ≡ regions_for locations version n s at
unfolding regions_for
regions-then s version n locations at after e regions r h = h ∙ sym (bind-got (must (λ v. eqb v locations) 5 u8) _ s at e refl)

-- the regions that a model wants are those for its numbers of locations and variables
pub regions-of : (m : Model) → read_regions m ≡ regions_for (location_count m.components) m.version m.variables
unfolding read_regions regions_for
regions-of m = refl

-- Where regions were read, they have at most 16 rows each, and every row lies within the sheet
record SpanWithin (s : List ℕ) (version n : ℕ) (c : Condition) : Type 0 where
  few : (p k : ℕ) → c ≡ rows_from s version n p k → k ≤ 16
  within : (p k : ℕ) → c ≡ rows_from s version n p k → (j : ℕ) → j < k → p + row_bytes version n * (j + 1) ≤ length s

-- rows that are the same begin at the same place, if there are any
same_count : (s : List ℕ) (version n p q i k : ℕ) → rows_from s version n p i ≡ rows_from s version n q k → i ≡ k
same_count s version n p q i k e = sym (length-rows s version n p i) ∙ ap length e ∙ length-rows s version n q k

first_place : ℕ → Condition → ℕ
first_place d [] = d
first_place d (r ∷ rows) = r.place

first-place : (s : List ℕ) (version n p k : ℕ) → 0 < k → first_place 0 (rows_from s version n p k) ≡ p
unfolding rows_from row_at first_place
first-place s version n p zero h = absurd (omega arith)
first-place s version n p (suc k) h = refl

same_place : (s : List ℕ) (version n p q i k : ℕ) → 0 < i → rows_from s version n p i ≡ rows_from s version n q k → p ≡ q
same_place s version n p q i k h e =
    let l : i ≡ k = same_count s version n p q i k e in
    sym (first-place s version n p i h) ∙ ap (first_place 0) e ∙ first-place s version n q k (omega arith)

row_before : (w j k : ℕ) → j < k → w * (j + 1) ≤ w * k
row_before w j k h = omega (arith, mul-le-mul_left w h)

condition-within : (s : List ℕ) (version n at : ℕ) (c : Condition) (next : ℕ) → read_condition version 16 n s at ≡ got c next → SpanWithin s version n c
unfolding read_condition ◌>>=◌
condition-within s version n at c next e =
    let w = passes (Rattle.formats.specs.Reading.within 0 16 u8 s at) (λ k. many k (read_row version n)) s c next e in
    let v = range-read u8 0 16 s at w.value w.place w.first in
    let b = byte-read s at w.value w.place v.read in
    go w.value w.place v.high (omega arith) w.second (dec_le (w.place + row_bytes version n * w.value) (length s))
  where
    go : (i q : ℕ) → i ≤ 16 → q ≤ length s → many i (read_row version n) s q ≡ got c next → Dec (q + row_bytes version n * i ≤ length s) → SpanWithin s version n c
    go i q few inside read (yes fit) =
        let same : c ≡ rows_from s version n q i = sym (got-value (sym (rows-got s version n q i fit) ∙ read)) in
        record {
          few = λ p k f. subst (λ (x : ℕ). x ≤ 16) (same_count s version n q p i k (sym same ∙ f)) few;
          within = λ p k f j h.
              let l : i ≡ k = same_count s version n q p i k (sym same ∙ f) in
              let m : q ≡ p = same_place s version n q p i k (omega arith) (sym same ∙ f) in
              let o = row_before (row_bytes version n) j i (omega arith) in
              omega arith;
        }
    go i q few inside read (no cut) =
        let refusal = rows_cut s version n q i inside (omega arith) in
        let z : ◌≡◌ {A = ℕ} 0 1 = cc in
        absurd (omega arith)

-- each value that several readings of a sheet give was read at some place of it
many-all : {A : Type 0} {P : A → Type 0} (r : Reader A) (s : List ℕ) → ((p : ℕ) (a : A) (next : ℕ) → r s p ≡ got a next → P a) → (k p : ℕ) (xs : List A) (next : ℕ) → many k r s p ≡ got xs next → All P xs
unfolding many ◌>>=◌ give
many-all {P = P} r s f zero p xs next e = subst (λ ys. All P ys) (got-value e) none
many-all {P = P} r s f (suc k) p xs next e =
    let w = passes (r s p) _ s xs next e in
    let v = passes (many k r s w.place) _ s xs next w.second in
    subst (λ ys. All P ys) (got-value v.second) (more (f p w.value w.place w.first) (many-all r s f k w.place v.value v.place v.first))

pub good-regions : (s : List ℕ) (version n locations at : ℕ) (regions : List ℕ) (next : ℕ) → regions_for locations version n s at ≡ got (regions_from s version n regions locations) next → GoodRegions s version n locations regions
unfolding regions_for regions_from span_rows ◌>>=◌
good-regions s version n locations at regions next e =
    let w = passes (must (λ v. eqb v locations) 5 u8 s at) (λ count. many count (read_condition version 16 n)) s _ next e in
    let all = many-all (read_condition version 16 n) s (λ p c q f. condition-within s version n p c q f) w.value w.place _ next w.second in
    let at : (l : ℕ) → l < locations → SpanWithin s version n (span_rows s version n regions (2 * l)) = λ l h. all_in all (in_map (λ l. span_rows s version n regions (2 * l)) (in_count 0 locations l (omega arith) (omega arith))) in
    record {
      few = λ l h. (at l h).few (entry regions (2 * l)) (entry regions (2 * l + 1)) refl;
      within = λ l h j k. (at l h).within (entry regions (2 * l)) (entry regions (2 * l + 1)) refl j k;
    }

-- a proof is how it begins, then its entries
pub proof-reads : (hypotheses : ℕ) (unsafe : Bool) → ◌≡◌ {A = Reader Proof} (read_proof hypotheses unsafe) (read_head unsafe >>= λ h. read_entries hypotheses 0 h.count >>= λ entries. give (record { k = h.k; entries = entries }))
unfolding read_proof read_head ◌>>=◌ give and_then
proof-reads hypotheses unsafe =
    let most = cond unsafe 0 (2 ^ 24 - 1) in
    let rest : Head → Reader Proof = λ h. read_entries hypotheses 0 h.count >>= λ entries. give (record { k = h.k; entries = entries }) in
    let start : ℕ → Reader Head = λ k. within 0 128 u8 >>= λ count. give (record { k = k; count = count }) in
    sym (regroup (within 0 most u32) start rest ∙ λ i. within 0 most u32 >>= λ k. regroup (within 0 128 u8) (λ count. give (record { k = k; count = count })) rest i)

-- an entry's hypothesis, not below the least
pub least-in : (least v p next : ℕ) → least ≤ v → passing (λ v. leb least v) 9 p (got v next) ≡ got v next
unfolding passing
least-in least v p next h = rw (le-leb least v h) refl

pub least-out : (least v p next : ℕ) → v < least → passing (λ v. leb least v) 9 p (got v next) ≡ refused 9 p
unfolding passing
least-out least v p next h = rw (lt-leb least v h) refl
