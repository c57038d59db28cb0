-- Hypotheses of a table found by their segment: each is the line of its number, and its row that of the same number. Assumes nothing.
use mathlib.Core.Path.{◌≡◌, refl, ap, ◌∙◌, subst}
use mathlib.Core.List.{List, map}
use Prim.Native.Nat.{ℕ, zero, suc, ◌+◌, ◌-◌, ◌≤◌, ◌<◌}
use native.Mathlib.Decide.{dec_le}
use native.Mathlib.Numerals.{add-one}
use native.Mathlib.Omega.{arith}
use lib.ListN.{length, get_or, length-map}
use borrow.Author.Tests.{lt-ltb, le-ltb}
use Rattle.farkas.specs.Rows.{zero_row}
use Rattle.farkas.specs.Lists.{All}
use Rattle.formats.proofs.Members.{all-below}
use Rattle.formats.proofs.JointCounts.{mapped_at}
use Rattle.rules.specs.Obligations.{Hypothesis}
use Rattle.hypotheses.specs.Tables.{TableLine, line, lines_in, end_of, form_of, place_of, owner_of, Stacked, hypothesis_of, hypothesis_in, hypotheses_from, hypothesis_rows, GoodLine}
use Rattle.hypotheses.proofs.TableLaws.{lines-length, line_at}
use Rattle.sums.specs.Summing.{segment_for, InSegment, line_in, table_line}

-- a segment that ends before the hypothesis is not the last
pub not_last : (table : List ℕ) (g segments h : ℕ) → g ≤ segments → end_of table g ≤ h → h < end_of table segments → g < segments
not_last table g segments h a b u = go (dec_le segments g)
  where
    same : (g s : ℕ) → g ≤ s → s ≤ g → g ≡ s
    same g s a b = omega arith

    go : Dec (segments ≤ g) → g < segments
    go (yes k) = let e : end_of table g ≡ end_of table segments = ap (end_of table) (same g segments a k) in absurd (omega (arith, e))
    go (no k) = omega arith

-- the first that ends after it: here, or later
pub segment-here : (table : List ℕ) (h g left : ℕ) → h < end_of table g → g ≡ segment_for table h g left
unfolding segment_for
segment-here table h g zero l = refl
segment-here table h g (suc left) l = rw (lt-ltb h (end_of table g) l) refl

pub segment-later : (table : List ℕ) (h g segments : ℕ) → g < segments → end_of table g ≤ h → segment_for table h (g + 1) (segments - (g + 1)) ≡ segment_for table h g (segments - g)
unfolding segment_for
segment-later table h g segments l k =
    let e : segments - g ≡ suc (segments - (g + 1)) = omega arith in
    rw (e, le-ltb h (end_of table g) k, add-one g) refl

module _ (table : List ℕ) (segments g h : ℕ) (s : Stacked table segments) (i : InSegment table segments g h) where
  pub line-there : (d : TableLine) → get_or (lines_in table segments) h d ≡ line (form_of table g) (place_of table g) (owner_of table g) (h - end_of table (g - 1))
  line-there d = line_at table segments s g h d i.least i.most i.from i.below

  -- where all rows lie within their sheets, its row does
  pub line-within : {model second : List ℕ} {version n width : ℕ} → All (GoodLine model second version n width) (lines_in table segments) → h < end_of table segments → GoodLine model second version n width (table_line (line_in table g h))
  unfolding line_in line
  line-within {model} {second} {version} {n} {width} all l =
      let d : TableLine = line 0 0 0 0 in
      let good = subst (GoodLine model second version n width) (line-there d) (all-below all h d (omega (arith, lines-length table segments s))) in
      record {
        in_model = good.in_model;
        in_second = good.in_second;
        jump = good.jump;
        staying = good.staying;
        before = good.before;
        after = good.after;
        timed = good.timed;
      }

  pub row_listed : (model second : List ℕ) (version n : ℕ) → h < end_of table segments → get_or (hypothesis_rows (hypotheses_from model second version n table segments)) h zero_row ≡ (hypothesis_in model second version n (line_in table g h).form (line_in table g h).place (line_in table g h).row).row
  unfolding hypothesis_rows hypotheses_from hypothesis_of line_in line
  row_listed model second version n l =
      let d : TableLine = line 0 0 0 0 in
      let lines = lines_in table segments in
      let hs = map (hypothesis_of model second version n) lines in
      let long : h < length lines = omega (arith, lines-length table segments s) in
      mapped_at (λ k. k.row) hs h (hypothesis_of model second version n d) zero_row (omega (arith, length-map lines (hypothesis_of model second version n)))
      ∙ ap (λ (k : Hypothesis). k.row) (mapped_at (hypothesis_of model second version n) lines h d (hypothesis_of model second version n d) long ∙ ap (hypothesis_of model second version n) (line-there d))

pub rows-count : (model second : List ℕ) (version n : ℕ) (table : List ℕ) (segments : ℕ) → Stacked table segments → length (hypothesis_rows (hypotheses_from model second version n table segments)) ≡ end_of table segments
unfolding hypothesis_rows hypotheses_from
rows-count model second version n table segments s =
    length-map (map (hypothesis_of model second version n) (lines_in table segments)) (λ h. h.row)
    ∙ length-map (lines_in table segments) (hypothesis_of model second version n)
    ∙ lines-length table segments s

-- where there is a hypothesis there is a segment
pub some-segment : (table : List ℕ) (segments h : ℕ) → Stacked table segments → h < end_of table segments → 1 ≤ segments
some-segment table segments h s l = go (dec_le 1 segments)
  where
    none : (k : ℕ) → (1 ≤ k → ⊥) → k ≡ 0
    none k n = omega arith

    go : Dec (1 ≤ segments) → 1 ≤ segments
    go (yes k) = k
    go (no k) = absurd (omega (arith, ap (end_of table) (none segments k), s.first))
