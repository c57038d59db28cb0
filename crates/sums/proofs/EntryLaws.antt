-- The entries of a proof, read one by one and summed as they are read: what one entry more gives, where reading them is refused, and that
-- the sums of those so far leave room for the next. Assumes nothing.
use mathlib.Core.Path.{◌≡◌, refl, sym, ap, ap₂, ◌∙◌, subst}
use mathlib.Core.Bool.{Bool, false}
use mathlib.Core.List.{List, [], ◌∷◌, ◌++◌}
use Prim.Native.Nat.{ℕ, zero, suc, ◌+◌, ◌-◌, ◌^◌, ◌≤◌, ◌<◌}
use native.Mathlib.Numerals.{add-one}
use native.Mathlib.Omega.{arith}
use lib.Dec.{leb→le, lit<}
use lib.IntN.{ℤ, pos}
use lib.ListN.{get_or, take, replicate}
use Rattle.farkas.specs.Rows.{Row, row_of, strictly, zero_row}
use Rattle.farkas.specs.Farkas.{Entry, strict_after, add_row, add_entry, SumsOf}
use Rattle.farkas.specs.Lists.{All, none, more}
use Rattle.farkas.specs.Sizes.{Bytes, Within, Bounded}
use Rattle.farkas.specs.Sums.{Spare}
use Rattle.farkas.proofs.All.{all_map}
use Rattle.farkas.proofs.Promise.{none-summed, sums_next, sums-room}
use Rattle.formats.specs.Reading.{Got, got, refused, Reader, and_then, ◌>>=◌, give, u8, u32}
use Rattle.formats.specs.Certificate.{read_entry, read_entries}
use Rattle.formats.proofs.Gives.{Gives, got-value, got-next, passes, gives-bind, gives-give, gives-must, gives-below, gives-within, bind-got}
use Rattle.fields.proofs.Skipping.{bind-refused}
use Rattle.fields.proofs.ChainLaws.{bind_assoc}
use Rattle.rules.proofs.Ranges.{Ascending, entries-range}
use Rattle.hypotheses.specs.declared.Group.{Group}
use Rattle.hypotheses.specs.Tables.{TableLine, lines_in, hypothesis_of, hypotheses_from, hypothesis_rows}
use Rattle.sums.specs.declared.Reached.{Reached}
use Rattle.sums.specs.Summing.{rows_in, least_after, SoFar}
use Rattle.sums.proofs.RowSizes.{hypothesis-within}

-- What an entry has: a hypothesis that is not too low and below the count, and a multiplier below 2 ^ 24
pub record EntryWithin (hypotheses least : ℕ) (e : Entry) : Type 0 where
  pub from : least ≤ e.hypothesis
  pub hypothesis : e.hypothesis < hypotheses
  pub multiplier : e.multiplier < 2 ^ 24

pub entry-within : (hypotheses least : ℕ) → Gives (EntryWithin hypotheses least) (read_entry hypotheses least)
unfolding read_entry
entry-within hypotheses least =
    gives-bind (gives-must _ 9 (gives-below hypotheses u8))
    (λ h low. gives-bind (gives-within 1 (2 ^ 24 - 1) u32) (λ m range. gives-give _ (record { from = leb→le least h low.0; hypothesis = low.1; multiplier = omega arith })))

-- and so of all entries that are read
multipliers-small : {hypotheses least : ℕ} {es : List Entry} → Ascending hypotheses least es → All (λ e. e.multiplier < 2 ^ 24) es
multipliers-small Ascending.none = none
multipliers-small (Ascending.more {e = e} from below some small rest) = more {a = e} (omega arith) (multipliers-small rest)

-- Where a reading refuses that a value is made from, it refused before
refused-first : {A B : Type 0} (r : Reader A) (f : A → B) (s : List ℕ) (p number place : ℕ) → (r >>= λ a. give (f a)) s p ≡ refused number place → r s p ≡ refused number place
unfolding ◌>>=◌ give and_then
refused-first {A} {B} r f s p number place e = go (r s p) e
  where
    go : (g : Got A) → and_then g (λ a. give (f a)) s ≡ refused number place → g ≡ refused number place
    go (got a q) e = let z : ◌≡◌ {A = ℕ} 0 1 = cc in absurd (omega arith)
    go (refused n q) e = cc

-- one entry more is read after those so far
one_more : (hypotheses least i : ℕ) (s : List ℕ) (p : ℕ) (es : List Entry) (q : ℕ) → read_entries hypotheses least i s p ≡ got es q → read_entries hypotheses least (suc i) s p ≡ (read_entry hypotheses (least_after least es) >>= λ e. give (es ++ (e ∷ []))) s q
unfolding read_entries least_after ◌>>=◌ give and_then
one_more hypotheses least zero s p es q h = ap₂ (λ (l : List Entry) (k : ℕ). (read_entry hypotheses (least_after least l) >>= λ e. give (l ++ (e ∷ []))) s k) (got-value h) (got-next h)
one_more hypotheses least (suc i) s p es q h =
    let w = passes (read_entry hypotheses least s p) (λ e. read_entries hypotheses (suc e.hypothesis) i >>= λ l. give (e ∷ l)) s es q h in
    let x = w.value in
    let v = passes (read_entries hypotheses (suc x.hypothesis) i s w.place) (λ l. give (x ∷ l)) s es q w.second in
    let after = least_after (suc x.hypothesis) v.value in
    let again = one_more hypotheses (suc x.hypothesis) i s w.place v.value v.place v.first in
    bind-got (read_entry hypotheses least) _ s p w.first (ap (λ g. and_then g (λ l. give (x ∷ l)) s) again ∙ bind_assoc (read_entry hypotheses after) (λ e. give (v.value ++ (e ∷ []))) (λ l. give (x ∷ l)) s v.place)
    ∙ ap₂ (λ (l : List Entry) (k : ℕ). (read_entry hypotheses (least_after least l) >>= λ e. give (l ++ (e ∷ []))) s k) (got-value v.second) (got-next v.second)

moved : (i n : ℕ) → suc i + n ≡ suc (i + n)
moved i n = omega arith

-- a refusal of the first entries is one of all
refused-longer : (hypotheses least i n : ℕ) (s : List ℕ) (p number place : ℕ) → read_entries hypotheses least i s p ≡ refused number place → read_entries hypotheses least (i + n) s p ≡ refused number place
unfolding read_entries give
refused-longer hypotheses least zero n s p number place h = let z : ◌≡◌ {A = ℕ} 0 1 = cc in absurd (omega arith)
refused-longer hypotheses least (suc i) n s p number place h =
    ap (λ (k : ℕ). read_entries hypotheses least k s p) (moved i n)
    ∙ go (λ x q. refused-longer hypotheses (suc x.hypothesis) i n s q number place) (read_entry hypotheses least s p) refl
  where
    rest : ℕ → Entry → Reader (List Entry)
    rest n e = read_entries hypotheses (suc e.hypothesis) n >>= λ l. give (e ∷ l)

    go :
        ((x : Entry) (q : ℕ) → read_entries hypotheses (suc x.hypothesis) i s q ≡ refused number place → read_entries hypotheses (suc x.hypothesis) (i + n) s q ≡ refused number place)
        → (g : Got Entry) → read_entry hypotheses least s p ≡ g → read_entries hypotheses least (suc (i + n)) s p ≡ refused number place
    go again (refused a b) e = bind-refused (read_entry hypotheses least) (rest (i + n)) s p e ∙ sym (bind-refused (read_entry hypotheses least) (rest i) s p e) ∙ h
    go again (got x q) e =
        let first = refused-first (read_entries hypotheses (suc x.hypothesis) i) (λ l. x ∷ l) s q number place (sym (bind-got (read_entry hypotheses least) (rest i) s p e refl) ∙ h) in
        bind-got (read_entry hypotheses least) (rest (i + n)) s p e (bind-refused (read_entries hypotheses (suc x.hypothesis) (i + n)) (λ l. give (x ∷ l)) s q (again x q first))

pub refused-on : (hypotheses i : ℕ) (s : List ℕ) (at number cut count : ℕ) → i ≤ count → read_entries hypotheses 0 i s at ≡ refused number cut → read_entries hypotheses 0 count s at ≡ refused number cut
refused-on hypotheses i s at number cut count h first =
    let all : count ≡ i + (count - i) = omega arith in
    ap (λ (k : ℕ). read_entries hypotheses 0 k s at) all ∙ refused-longer hypotheses 0 i (count - i) s at number cut first

-- the first entries that are read are the first of all
pub first-entries : (hypotheses least i n : ℕ) (s : List ℕ) (p : ℕ) (es : List Entry) (q : ℕ) → read_entries hypotheses least (i + n) s p ≡ got es q → (place : ℕ) × (read_entries hypotheses least i s p ≡ got (take i es) place)
unfolding read_entries ◌>>=◌ give
first-entries hypotheses least zero n s p es q h = (p, refl)
first-entries hypotheses least (suc i) n s p es q h =
    let all = ap (λ (k : ℕ). read_entries hypotheses least k s p) (moved i n) in
    let w = passes (read_entry hypotheses least s p) (λ e. read_entries hypotheses (suc e.hypothesis) (i + n) >>= λ l. give (e ∷ l)) s es q (sym all ∙ h) in
    let x = w.value in
    let v = passes (read_entries hypotheses (suc x.hypothesis) (i + n) s w.place) (λ l. give (x ∷ l)) s es q w.second in
    let again = first-entries hypotheses (suc x.hypothesis) i n s w.place v.value v.place v.first in
    (again.0, bind-got (read_entry hypotheses least) _ s p w.first (bind-got (read_entries hypotheses (suc x.hypothesis) i) _ s w.place again.1 refl) ∙ ap (λ (l : List Entry). got (take (suc i) l) again.0) (got-value v.second))

least-last : (least : ℕ) (es : List Entry) (e : Entry) → least_after least (es ++ (e ∷ [])) ≡ suc e.hypothesis
unfolding least_after
least-last least [] e = refl
least-last least (x ∷ es) e = least-last (suc x.hypothesis) es e

-- rows of sheets are of numbers of 32 bits and their opposites
lines-within : (model second : List ℕ) (version n : ℕ) → Bytes model → Bytes second → (ls : List TableLine) → All (λ l. Within (2 ^ 31) (hypothesis_of model second version n l).row) ls
unfolding hypothesis_of
lines-within model second version n b c [] = none
lines-within model second version n b c (l ∷ ls) = more (hypothesis-within model second version n l.form l.place l.row b c) (lines-within model second version n b c ls)

module _ {model second : List ℕ} {n : ℕ} {table : List ℕ} {g : Group} where
  -- Before the first entry
  pub so-far-none : (at segment : ℕ) → SoFar model second n table g at 0 (record { place = at; least = 0; segment = segment; bound = pos 0; strict = false }) (replicate g.width (pos 0))
  unfolding read_entries give least_after
  so-far-none at segment = record { entries = []; read = refl; least = refl; held = none-summed (rows_in model second n table g) g.width }

  module _ {at i : ℕ} {reached : Reached} {sums : List ℤ} (so : SoFar model second n table g at i reached sums) where
    read-on : read_entries g.hypotheses 0 (i + 1) second at ≡ (read_entry g.hypotheses reached.least >>= λ e. give (so.entries ++ (e ∷ []))) second reached.place
    read-on =
        ap (λ (k : ℕ). read_entries g.hypotheses 0 k second at) (add-one i)
        ∙ one_more g.hypotheses 0 i second at so.entries reached.place so.read
        ∙ ap (λ (k : ℕ). (read_entry g.hypotheses k >>= λ e. give (so.entries ++ (e ∷ []))) second reached.place) (sym so.least)

    -- The next entry: its row is added as often as it says, and the sums are those of one entry more
    pub so-far-next :
        (e : Entry) (place segment : ℕ) (after : List ℤ) (bound : ℤ) (strict : Bool)
        → read_entry g.hypotheses reached.least second reached.place ≡ got e place
        → row_of after bound ≡ add_row (row_of sums reached.bound) e.multiplier (strictly false (get_or (rows_in model second n table g) e.hypothesis zero_row))
        → strict ≡ strict_after reached.strict e.multiplier (get_or (rows_in model second n table g) e.hypothesis zero_row).strict
        → SoFar model second n table g at (i + 1) (record { place = place; least = e.hypothesis + 1; segment = segment; bound = bound; strict = strict }) after
    unfolding give add_entry add_row
    so-far-next e place segment after bound strict read added marked =
        let rows = rows_in model second n table g in
        let row : strictly strict (row_of after bound) ≡ add_entry rows (strictly reached.strict (row_of sums reached.bound)) e = ap₂ strictly marked added in
        record {
          entries = so.entries ++ (e ∷ []);
          read = read-on ∙ bind-got (read_entry g.hypotheses reached.least) _ second reached.place read refl;
          least = add-one e.hypothesis ∙ sym (least-last 0 so.entries e);
          held = subst (SumsOf rows (so.entries ++ (e ∷ []))) (sym row) (sums_next rows so.entries e so.held);
        }

    -- or it is refused, and so are the entries
    pub so-far-stops : (number cut : ℕ) → read_entry g.hypotheses reached.least second reached.place ≡ refused number cut → read_entries g.hypotheses 0 (i + 1) second at ≡ refused number cut
    so-far-stops number cut read = read-on ∙ bind-refused (read_entry g.hypotheses reached.least) _ second reached.place read

    -- Below 128 entries there is room for one more
    pub so-far-room : Bytes model → Bytes second → i < 128 → Spare (2 ^ 24 - 1) (row_of sums reached.bound)
    unfolding hypothesis_rows hypotheses_from
    so-far-room b c few =
        let rows = rows_in model second n table g in
        let known = (entries-range g.hypotheses 0 i).holds second at so.entries reached.place so.read in
        let bounded : Bounded rows so.entries =
        record {
          rows = all_map (λ h. h.row) (all_map (hypothesis_of model second g.version n) (lines-within model second g.version n b c (lines_in table g.segments)));
          multipliers = multipliers-small known.1;
          few = omega (arith, known.0);
        } in
        let room = sums-room rows so.entries bounded so.held (2 ^ 24 - 1) (lit< tt) (omega (arith, known.0)) in
        record { coefficient = room.coefficient; bound = room.bound }

-- room for the largest multiplier is room for any
pub less-room : {m : ℕ} {r : Row} → m < 2 ^ 24 → Spare (2 ^ 24 - 1) r → Spare m r
less-room h room = record { coefficient = λ i. omega (arith, room.coefficient i); bound = omega (arith, room.bound) }
