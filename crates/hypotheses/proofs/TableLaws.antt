-- Hypotheses by segments: how many there are, which one has a number, and segments pushed one after the other. Assumes nothing.
use mathlib.Core.Path.{◌≡◌, refl, sym, ap, ap₂, ◌∙◌, subst}
use mathlib.Core.List.{List, [], ◌++◌, append_assoc, append-nil}
use Prim.Native.Nat.{ℕ, zero, suc, ◌+◌, ◌*◌, ◌-◌, ◌≤◌, ◌<◌}
use native.Mathlib.Decide.{dec_le}
use native.Mathlib.Numerals.{add-one}
use native.Mathlib.Omega.{arith}
use lib.ListN.{length, get_or, set, length-set, length-append, get_or-append}
use lib.Seq.{get_or-append-add}
use Rattle.models.specs.Index.{entry, Kept}
use Rattle.models.proofs.GoodIndexLaws.{counted-length, counted-at}
use Rattle.models.proofs.IndexLaws.{entry-same, entry_other, kept-none, kept_set, kept_then, kept-wider}
use Rattle.hypotheses.specs.Tables.{Onto, TableLine, line, segment, end_of, form_of, place_of, owner_of, segment_in, lines_in, Stacked}

-- a segment's hypotheses
pub segment-length : (form place owner count : ℕ) → length (segment form place owner count) ≡ count
unfolding segment
segment-length form place owner count = counted-length (line form place owner) 0 count

segment-at : (form place owner count j : ℕ) (d : TableLine) → j < count → get_or (segment form place owner count) j d ≡ line form place owner j
unfolding segment
segment-at form place owner count j d h = counted-at (line form place owner) count j d h

-- fewer segments
pub stacked-less : {table : List ℕ} {n : ℕ} (k : ℕ) → k ≤ n → Stacked table n → Stacked table k
stacked-less k h s = record { first = s.first; ascending = λ g a b. s.ascending g a (omega arith); small = λ g b. s.small g (omega arith) }

-- ends do not fall
climbs-to : (table : List ℕ) (g k : ℕ) → Stacked table (g + k) → end_of table g ≤ end_of table (g + k)
climbs-to table g zero s = omega (arith, ap (end_of table) (none g))
  where
    none : (g : ℕ) → g + 0 ≡ g
    none g = omega arith
climbs-to table g (suc k) s =
    let same : end_of table (g + suc k - 1) ≡ end_of table (g + k) = ap (end_of table) (less g k) in
    omega (arith, climbs-to table g k (stacked-less (g + k) (omega arith) s), s.ascending (g + suc k) (omega arith) (omega arith), same)
  where
    less : (g k : ℕ) → g + suc k - 1 ≡ g + k
    less g k = omega arith

module _ (table : List ℕ) where
  climbs : (g n : ℕ) → Stacked table n → g ≤ n → end_of table g ≤ end_of table n
  climbs g n s h = rw (whole g n h) (climbs-to table g (n - g) (rw (whole g n h) at s))
    where
      whole : (g n : ℕ) → g ≤ n → n ≡ g + (n - g)
      whole g n h = omega arith

  pub lines-length : (n : ℕ) → Stacked table n → length (lines_in table n) ≡ end_of table n
  unfolding lines_in segment_in
  lines-length zero s = sym s.first
  lines-length (suc n) s =
      let same : end_of table (suc n - 1) ≡ end_of table n = ap (end_of table) (less n) in
      length-append (lines_in table n) (segment_in table (suc n))
      ∙ omega (arith, lines-length n (stacked-less n (omega arith) s), segment-length (form_of table (suc n)) (place_of table (suc n)) (owner_of table (suc n)) (end_of table (suc n) - end_of table (suc n - 1)), s.ascending (suc n) (omega arith) (omega arith), same)
    where
      less : (n : ℕ) → suc n - 1 ≡ n
      less n = omega arith

  -- the hypothesis with a number, by its segment
  pub line_at : (n : ℕ) → Stacked table n → (g h : ℕ) (d : TableLine) → 1 ≤ g → g ≤ n → end_of table (g - 1) ≤ h → h < end_of table g → get_or (lines_in table n) h d ≡ line (form_of table g) (place_of table g) (owner_of table g) (h - end_of table (g - 1))
  unfolding lines_in segment_in
  line_at zero s g h d a b l u = absurd (omega arith)
  line_at (suc n) s g h d a b l u = go (dec_le g n) (λ k. line_at n (stacked-less n (omega arith) s) g h d a k l u)
    where
      rest : Stacked table n
      rest = stacked-less n (omega arith) s

      less : (n g : ℕ) → g ≡ suc n → g - 1 ≡ n
      less n g e = omega arith

      last : (g ≤ n → ⊥) → g ≤ suc n → g ≡ suc n
      last x y = omega arith

      go : Dec (g ≤ n) → (g ≤ n → get_or (lines_in table n) h d ≡ line (form_of table g) (place_of table g) (owner_of table g) (h - end_of table (g - 1))) → get_or (lines_in table n ++ segment_in table (suc n)) h d ≡ line (form_of table g) (place_of table g) (owner_of table g) (h - end_of table (g - 1))
      go (yes k) earlier = get_or-append (lines_in table n) (segment_in table (suc n)) d h (omega (arith, lines-length n rest, climbs g n rest k)) ∙ earlier k
      go (no k) earlier =
          let e : g ≡ suc n = last k b in
          let m = end_of table (g - 1) in
          let same : length (lines_in table n) ≡ m = lines-length n rest ∙ ap (end_of table) (sym (less n g e)) in
          ap (λ (x : ℕ). get_or (lines_in table n ++ segment_in table x) h d) (sym e)
          ∙ ap (λ (x : ℕ). get_or (lines_in table n ++ segment_in table g) x d) (apart (length (lines_in table n)) m h same l)
          ∙ get_or-append-add (lines_in table n) (segment_in table g) (h - m) d
          ∙ segment-at (form_of table g) (place_of table g) (owner_of table g) (end_of table g - m) (h - m) d (omega arith)
        where
          apart : (n m h : ℕ) → n ≡ m → m ≤ h → h ≡ n + (h - m)
          apart n m h p q = omega arith

-- segments that are not touched
pub lines-kept : {before after : List ℕ} {at until : ℕ} (k : ℕ) → k ≤ at → Kept (4 * at + 4) until before after → lines_in after k ≡ lines_in before k
unfolding lines_in segment_in
lines-kept zero h w = refl
lines-kept {before} {after} {at} (suc k) h w =
    ap₂ (λ (xs ys : List TableLine). xs ++ ys) (lines-kept {at = at} k (omega arith) w)
    (rw (w.kept (4 * suc k) (λ p q. omega arith), w.kept (4 * (suc k - 1)) (λ p q. omega arith), w.kept (4 * suc k + 1) (λ p q. omega arith), w.kept (4 * suc k + 2) (λ p q. omega arith), w.kept (4 * suc k + 3) (λ p q. omega arith)) refl)

pub stacked-kept : {before after : List ℕ} {at until : ℕ} → Kept (4 * at + 4) until before after → Stacked before at → Stacked after at
stacked-kept {before} {after} {at} w s =
    record {
      first = w.kept 0 (λ p q. omega arith) ∙ s.first;
      ascending = λ g a b. rw (w.kept (4 * (g - 1)) (λ p q. omega arith), w.kept (4 * g) (λ p q. omega arith)) (s.ascending g a b);
      small = λ g b. rw (w.kept (4 * g) (λ p q. omega arith)) (s.small g b);
    }

-- hypotheses pushed onto the first segments of a table, by at most so many segments: what a push promises, as one
pub record Pushed (before : List ℕ) (at : ℕ) (lines : List TableLine) (most : ℕ) (after : List ℕ) (r : ℕ) : Type 0 where
  pub told : lines_in after r ≡ lines_in before at ++ lines
  pub onto : Onto before at most after r

pub pushed : {a b : List ℕ} {at r n : ℕ} {xs : List TableLine} → (lines_in b r ≡ lines_in a at ++ xs) × Onto a at n b r → Pushed a at xs n b r
pushed p = record { told = p.0; onto = p.1 }

pub as-promised : {a b : List ℕ} {at r n : ℕ} {xs : List TableLine} → Pushed a at xs n b r → (lines_in b r ≡ lines_in a at ++ xs) × Onto a at n b r
as-promised p = (p.told, p.onto)

-- one segment more: four numbers are written after those of the earlier segments
module _ (table : List ℕ) (n form place owner count : ℕ) (long : 4 * n + 7 < length table) (few : n ≤ 22) where
  unfoldable pub after : List ℕ
  after = set (set (set (set table (4 * n + 4) (entry table (4 * n) + count)) (4 * n + 5) form) (4 * n + 6) place) (4 * n + 7) owner

  abbrev once : List ℕ
  once = set table (4 * n + 4) (entry table (4 * n) + count)

  abbrev twice : List ℕ
  twice = set once (4 * n + 5) form

  abbrev thrice : List ℕ
  thrice = set twice (4 * n + 6) place

  kept : Kept (4 * n + 4) 96 table after
  unfolding after
  kept =
      kept_then (kept_set (4 * n + 4) 96 table (4 * n + 4) (entry table (4 * n) + count) (omega arith) (omega arith))
      (kept_then (kept_set (4 * n + 4) 96 once (4 * n + 5) form (omega arith) (omega arith))
      (kept_then (kept_set (4 * n + 4) 96 twice (4 * n + 6) place (omega arith) (omega arith)) (kept_set (4 * n + 4) 96 thrice (4 * n + 7) owner (omega arith) (omega arith))))

  end-at : entry after (4 * n + 4) ≡ entry table (4 * n) + count
  unfolding after
  end-at =
      entry_other thrice (4 * n + 7) (4 * n + 4) owner (λ e. omega arith)
      ∙ entry_other twice (4 * n + 6) (4 * n + 4) place (λ e. omega arith)
      ∙ entry_other once (4 * n + 5) (4 * n + 4) form (λ e. omega arith)
      ∙ entry-same table (4 * n + 4) (entry table (4 * n) + count) (omega arith)

  form-at : entry after (4 * n + 5) ≡ form
  unfolding after
  form-at =
      entry_other thrice (4 * n + 7) (4 * n + 5) owner (λ e. omega arith)
      ∙ entry_other twice (4 * n + 6) (4 * n + 5) place (λ e. omega arith)
      ∙ entry-same once (4 * n + 5) form (omega (arith, length-set table (4 * n + 4) (entry table (4 * n) + count)))

  place_at : entry after (4 * n + 6) ≡ place
  unfolding after
  place_at =
      entry_other thrice (4 * n + 7) (4 * n + 6) owner (λ e. omega arith)
      ∙ entry-same twice (4 * n + 6) place (omega (arith, length-set table (4 * n + 4) (entry table (4 * n) + count), length-set once (4 * n + 5) form))

  owner_at : entry after (4 * n + 7) ≡ owner
  unfolding after
  owner_at =
      entry-same thrice (4 * n + 7) owner (omega (arith, length-set table (4 * n + 4) (entry table (4 * n) + count), length-set once (4 * n + 5) form, length-set twice (4 * n + 6) place))

  push-lines : lines_in after (suc n) ≡ lines_in table n ++ segment form place owner count
  unfolding lines_in segment_in
  push-lines =
      let a : entry after (4 * suc n) ≡ entry table (4 * n) + count = ap (entry after) (places n).0 ∙ end-at in
      let b : entry after (4 * suc n + 1) ≡ form = ap (entry after) (places n).1 ∙ form-at in
      let c : entry after (4 * suc n + 2) ≡ place = ap (entry after) (places n).2 ∙ place_at in
      let o : entry after (4 * suc n + 3) ≡ owner = ap (entry after) (places n).3 ∙ owner_at in
      let d : entry after (4 * (suc n - 1)) ≡ entry table (4 * n) = ap (entry after) (places n).4 ∙ kept.kept (4 * n) (λ p q. omega arith) in
      ap₂ (λ (xs ys : List TableLine). xs ++ ys) (lines-kept {at = n} n (omega arith) kept) (rw (a, b, c, o, d, counted (entry table (4 * n)) count) refl)
    where
      places : (n : ℕ) → (4 * suc n ≡ 4 * n + 4) × (4 * suc n + 1 ≡ 4 * n + 5) × (4 * suc n + 2 ≡ 4 * n + 6) × (4 * suc n + 3 ≡ 4 * n + 7) × (4 * (suc n - 1) ≡ 4 * n)
      places n = (omega arith, omega arith, omega arith, omega arith, omega arith)

      counted : (before count : ℕ) → before + count - before ≡ count
      counted before count = omega arith

  push-stacked : count ≤ 16 → Stacked table n → Stacked after (suc n)
  push-stacked short s =
      let old = stacked-kept kept s in
      record { first = old.first; ascending = λ g a b. climb g a b (dec_le g n); small = λ g b. low g b (dec_le g n) }
    where
      climb : (g : ℕ) → 1 ≤ g → g ≤ suc n → Dec (g ≤ n) → end_of after (g - 1) ≤ end_of after g
      climb g a b (yes k) = (stacked-kept kept s).ascending g a k
      climb g a b (no k) =
          let same : 4 * g ≡ 4 * n + 4 = omega arith in
          let less : 4 * (g - 1) ≡ 4 * n = omega arith in
          rw (same, less, end-at, kept.kept (4 * n) (λ p q. omega arith)) (omega arith)

      low : (g : ℕ) → g ≤ suc n → Dec (g ≤ n) → end_of after g ≤ 16 * g
      low g b (yes k) = (stacked-kept kept s).small g k
      low g b (no k) =
          let same : 4 * g ≡ 4 * n + 4 = omega arith in
          rw (same, end-at) (omega (arith, s.small n (omega arith)))

  pub pushed-one : count ≤ 16 → Stacked table n → Pushed table n (segment form place owner count) 1 after (n + 1)
  pushed-one short s =
      record {
        told = rw (add-one n) push-lines;
        onto = record { stacked = rw (add-one n) (push-stacked short s); kept = kept; least = omega arith; few = omega arith };
      }

-- nothing pushed, one part after the other, and what a push is named by
pub pushed_none : (table : List ℕ) (at most : ℕ) → Stacked table at → Pushed table at [] most table at
pushed_none table at most s =
    record {
      told = sym (append-nil (lines_in table at));
      onto = record { stacked = s; kept = kept-none (4 * at + 4) 96 table; least = omega arith; few = omega arith };
    }

pub pushed_then :
    {a b c : List ℕ} {at k r i j n : ℕ} {xs ys : List TableLine} → Pushed a at xs i b k → Pushed b k ys j c r → i + j ≤ n
    → Pushed a at (xs ++ ys) n c r
pushed_then {a} {b} {c} {at} {k} {r} {i} {j} {n} {xs} {ys} p q h =
    let f = p.onto in
    let g = q.onto in
    record {
      told = q.told ∙ ap (λ (zs : List TableLine). zs ++ ys) p.told ∙ append_assoc (lines_in a at) xs ys;
      onto =
          record {
            stacked = g.stacked;
            kept = kept_then f.kept (kept-wider (omega (arith, f.least)) (omega arith) g.kept);
            least = omega (arith, f.least, g.least);
            few = omega (arith, f.few, g.few);
          };
    }

pub pushed-as : {a b : List ℕ} {at r n : ℕ} {xs ys : List TableLine} → xs ≡ ys → Pushed a at xs n b r → Pushed a at ys n b r
pushed-as {a} {b} {at} {r} {n} e p = subst (λ (zs : List TableLine). Pushed a at zs n b r) e p

-- a table begun anew
pub lines_start : {a b : List ℕ} {r n : ℕ} {xs : List TableLine} → Pushed a 0 xs n b r → lines_in b r ≡ xs
unfolding lines_in
lines_start p = p.told

pub pushed-fewer : {a b : List ℕ} {at r i j : ℕ} {xs : List TableLine} → i ≤ j → Pushed a at xs i b r → Pushed a at xs j b r
pushed-fewer h p =
    let f = p.onto in
    record { told = p.told; onto = record { stacked = f.stacked; kept = f.kept; least = f.least; few = omega (arith, f.few) } }

-- A loop that pushes at most one segment in a turn: what is there, with what is still to push from number k on, is the whole. Where tests
-- decide what is pushed, that holds by each of them
pub record Pushing {I : Type 0} (on : I → ℕ → List TableLine) (before : List ℕ) (at k : ℕ) (after : List ℕ) (r : ℕ) : Type 0 where
  pub lines : List TableLine
  pub pushed : Pushed before at lines k after r
  pub whole : (i : I) → lines ++ on i k ≡ on i 0

module _ {I : Type 0} {on : I → ℕ → List TableLine} {at k r : ℕ} {before after : List ℕ} (w : Pushing on before at k after r) where
  pub pushing-on : {next : List ℕ} {to : ℕ} {xs : List TableLine} → ((i : I) → on i k ≡ xs ++ on i (k + 1)) → Pushed after r xs 1 next to → Pushing on before at (k + 1) next to
  pushing-on {xs = xs} e p =
      record {
        lines = w.lines ++ xs;
        pushed = pushed_then w.pushed p (omega arith);
        whole = λ i. append_assoc w.lines xs (on i (k + 1)) ∙ ap (λ (ys : List TableLine). w.lines ++ ys) (sym (e i)) ∙ w.whole i;
      }

  pub pushing-end : {most : ℕ} (i : I) → on i k ≡ [] → k ≤ most → Pushed before at (on i 0) most after r
  pushing-end i e h =
      pushed-as (sym (append-nil w.lines) ∙ ap (λ (ys : List TableLine). w.lines ++ ys) (sym e) ∙ w.whole i) (pushed-fewer h w.pushed)
