-- Loops over the rows that an index keeps at a place, which test each and stop early: the rows that are left are tested exactly as all are.
-- Assumes nothing.
use mathlib.Core.Path.{◌≡◌, sym, ap, ◌∙◌}
use mathlib.Core.Bool.{Bool, true, false, ◌&&◌}
use mathlib.Core.List.{List}
use Prim.Native.Nat.{ℕ, zero, suc, ◌+◌, ◌*◌, ◌-◌, ◌≤◌, ◌<◌}
use native.Mathlib.Nat.{mul-add, mul-one, sub-zero}
use native.Mathlib.Omega.{arith}
use Rattle.farkas.specs.Lists.{every}
use Rattle.formats.specs.Versions.{row_bytes}
use Rattle.formats.specs.Rows.{SheetRow}
use Rattle.fields.specs.Places.{row_at, rows_from}
use Rattle.models.specs.Index.{entry, span_rows}

-- what is left of so many
pub left_less : (n k : ℕ) → k < n → n - (k + 1) ≡ n - k - 1
left_less n k h = omega arith

pub left-none : (n k : ℕ) → n ≤ k → 0 ≡ n - k
left-none n k h = omega arith

pub one_less : (left : ℕ) → left ≡ suc left - 1
one_less left = omega arith

-- where the rows that are left stand
module _ (from version n at j : ℕ) (here : at ≡ from + row_bytes version n * j) where
  pub row_room : (size : ℕ) → from + row_bytes version n * (j + 1) ≤ size → at + row_bytes version n ≤ size
  row_room size h = omega (arith, mul-add (row_bytes version n) j 1, mul-one (row_bytes version n))

  pub row_next : at + row_bytes version n ≡ from + row_bytes version n * (j + 1)
  row_next = omega (arith, mul-add (row_bytes version n) j 1, mul-one (row_bytes version n))

-- a row that passes is passed, one that fails decides, and after the last all pass
module _ (test : SheetRow → Bool) (s : List ℕ) (version n : ℕ) where
  rows-first : (at left : ℕ) → 0 < left → every test (rows_from s version n at left) ≡ (test (row_at s version n at) && every test (rows_from s version n (at + row_bytes version n) (left - 1)))
  unfolding rows_from every
  rows-first at zero h = absurd (omega arith)
  rows-first at (suc left) h = ap (λ (k : ℕ). test (row_at s version n at) && every test (rows_from s version n (at + row_bytes version n) k)) (one_less left)

  module _ (whole : Bool) where
    pub rows_pass : (at rows j : ℕ) (r : Bool) → j < rows → r ≡ test (row_at s version n at) → r ≡ true → every test (rows_from s version n at (rows - j)) ≡ whole → every test (rows_from s version n (at + row_bytes version n) (rows - (j + 1))) ≡ whole
    rows_pass at rows j r h p t e =
        ap (λ (k : ℕ). every test (rows_from s version n (at + row_bytes version n) k)) (left_less rows j h)
        ∙ ap (λ b. b && every test (rows_from s version n (at + row_bytes version n) (rows - j - 1))) (sym t ∙ p)
        ∙ sym (rows-first at (rows - j) (omega arith)) ∙ e

    pub rows-fail : (at rows j : ℕ) (r : Bool) → j < rows → r ≡ test (row_at s version n at) → r ≡ false → every test (rows_from s version n at (rows - j)) ≡ whole → false ≡ whole
    rows-fail at rows j r h p t e =
        ap (λ b. b && every test (rows_from s version n (at + row_bytes version n) (rows - j - 1))) (sym t ∙ p)
        ∙ sym (rows-first at (rows - j) (omega arith)) ∙ e

    pub rows_none : (at rows j : ℕ) → rows ≤ j → every test (rows_from s version n at (rows - j)) ≡ whole → true ≡ whole
    unfolding rows_from every
    rows_none at rows j h e = ap (λ (k : ℕ). every test (rows_from s version n at k)) (left-none rows j h) ∙ e

  pub rows_start : (index : List ℕ) (place at rows : ℕ) → at ≡ entry index place → rows ≡ entry index (place + 1) → every test (rows_from s version n at (rows - 0)) ≡ every test (span_rows s version n index place)
  unfolding span_rows
  rows_start index place at rows p r = rw (p, r) (ap (λ (k : ℕ). every test (rows_from s version n (entry index place) k)) (sub-zero (entry index (place + 1))))
