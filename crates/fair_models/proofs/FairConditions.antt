-- A condition's fair rows, and its rows without their places, hold where the condition holds; and what one change does after the other.
-- Assumes nothing.
use mathlib.Core.Path.{◌≡◌, refl, sym, ap, ◌∙◌}
use mathlib.Core.List.{List, map, map-map, map-id}
use Prim.Native.Nat.{ℕ}
use lib.IntN.{ℤ}
use Rattle.farkas.specs.Lists.{every}
use Rattle.farkas.specs.Rows.{Row, row_holds}
use Rattle.farkas.proofs.All.{all_map}
use Rattle.fair_rows.specs.FairRows.{fair_rows}
use Rattle.fair_rows.proofs.FairLaws.{fair-again}
use Rattle.fair_rows.proofs.TruthLaws.{fair-holds, fair-holds-plain}
use Rattle.fair_rows.proofs.BlankLaws.{blank_at, fair-blank}
use Rattle.formats.specs.Rows.{Condition}
use Rattle.writing.specs.Changed.{unplaced, bare_rows}
use Rattle.rules.specs.Runs.{condition_holds, unmentioned}
use Rattle.fair_models.specs.FairCopy.{fair_condition}
use Rattle.fair_models.proofs.SameRuns.{Faithful, every_map}

-- the rows themselves
abbrev pub rows_in : Condition → List Row
rows_in rows = map (λ r. r.row) rows

pub placed-none : (xs : List Row) → rows_in (map unplaced xs) ≡ xs
unfolding unplaced
placed-none xs = map-map (λ r. r.row) unplaced xs ∙ map-id xs

-- a condition holds where its rows hold
by_rows : (q : ℕ) (p : List ℤ) (rows : Condition) → condition_holds q p rows ≡ every (row_holds q p) (rows_in rows)
unfolding condition_holds
by_rows q p rows = sym (every_map (row_holds q p) (λ r. r.row) rows)

fair-by-rows : (q : ℕ) (p : List ℤ) (rows : Condition) → condition_holds q p (fair_condition rows) ≡ every (row_holds q p) (fair_rows (rows_in rows))
unfolding fair_condition
fair-by-rows q p rows = by_rows q p (map unplaced (fair_rows (rows_in rows))) ∙ ap (every (row_holds q p)) (placed-none (fair_rows (rows_in rows)))

-- and mentions what its rows mention
blank-by-rows : (i : ℕ) (rows : Condition) → unmentioned i rows ≡ every (blank_at i) (rows_in rows)
unfolding unmentioned
blank-by-rows i rows = sym (every_map (blank_at i) (λ r. r.row) rows)

fair-blank-by-rows : (i : ℕ) (rows : Condition) → unmentioned i (fair_condition rows) ≡ every (blank_at i) (fair_rows (rows_in rows))
unfolding fair_condition
fair-blank-by-rows i rows = blank-by-rows i (map unplaced (fair_rows (rows_in rows))) ∙ ap (every (blank_at i)) (placed-none (fair_rows (rows_in rows)))

pub fair-faithful : Faithful fair_condition
unfolding fair_condition fair_rows
fair-faithful =
    record {
      holds = λ q p rows l. fair-by-rows q p rows ∙ fair-holds q p (rows_in rows) l ∙ sym (by_rows q p rows);
      rates = λ δ p rows h. fair-by-rows δ p rows ∙ fair-holds-plain δ p (rows_in rows) (all_map (λ r. r.row) h) ∙ sym (by_rows δ p rows);
      blank = λ i rows. fair-blank-by-rows i rows ∙ fair-blank i (rows_in rows) ∙ sym (blank-by-rows i rows);
      none = refl;
    }

pub bare-by-rows : (rows : Condition) → rows_in (bare_rows rows) ≡ rows_in rows
unfolding bare_rows unplaced
bare-by-rows rows = map-map (λ r. r.row) (λ r. unplaced r.row) rows

bare-holds : (q : ℕ) (p : List ℤ) (rows : Condition) → condition_holds q p (bare_rows rows) ≡ condition_holds q p rows
bare-holds q p rows = by_rows q p (bare_rows rows) ∙ ap (every (row_holds q p)) (bare-by-rows rows) ∙ sym (by_rows q p rows)

pub bare-faithful : Faithful bare_rows
unfolding bare_rows
bare-faithful =
    record {
      holds = λ q p rows l. bare-holds q p rows;
      rates = λ δ p rows h. bare-holds δ p rows;
      blank = λ i rows. blank-by-rows i (bare_rows rows) ∙ ap (every (blank_at i)) (bare-by-rows rows) ∙ sym (blank-by-rows i rows);
      none = refl;
    }

-- places do not matter to the fair rows, which have none; and they are fair already
pub fair-bare : (rows : Condition) → fair_condition (bare_rows rows) ≡ fair_condition rows
unfolding fair_condition
fair-bare rows = ap (λ (xs : List Row). map unplaced (fair_rows xs)) (bare-by-rows rows)

pub bare-fair : (rows : Condition) → bare_rows (fair_condition rows) ≡ fair_condition rows
unfolding fair_condition bare_rows unplaced
bare-fair rows = map-map (λ r. unplaced r.row) unplaced (fair_rows (rows_in rows))

pub fair-twice : (rows : Condition) → fair_condition (fair_condition rows) ≡ fair_condition rows
unfolding fair_condition
fair-twice rows =
    ap (λ (xs : List Row). map unplaced (fair_rows xs)) (placed-none (fair_rows (rows_in rows)))
    ∙ ap (λ (xs : List Row). map unplaced xs) (fair-again (rows_in rows))
