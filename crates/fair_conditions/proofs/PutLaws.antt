-- Rows as they are written: number by number, row by row, after their count. Assumes nothing.
use mathlib.Core.Path.{◌≡◌, sym, ap, ap₂, ◌∙◌}
use mathlib.Core.List.{List, [], ◌∷◌, ◌++◌, map, append_assoc, append-nil}
use Prim.Native.Nat.{ℕ, ◌+◌, ◌*◌, ◌-◌, ◌≤◌, ◌<◌}
use native.Mathlib.Numerals.{add-one}
use native.Mathlib.Omega.{arith}
use lib.IntN.{ℤ}
use lib.ListN.{length, get_or, take, drop, drop_of_length-le, length-map}
use lib.Seq.{drop-cons, get_or-take, length-take-le}
use Rattle.farkas.specs.Rows.{Row}
use Rattle.formats.specs.Joint.{join_all}
use Rattle.formats.specs.Rows.{SheetRow}
use Rattle.writing.specs.Changed.{unplaced}
use Rattle.writing.specs.Writing.{twos, word, write_number, write_mark, write_row, write_condition}
use Rattle.buffers.specs.Written.{Written}
use Rattle.buffers.proofs.WritingLaws.{Left, left-on, left_as, left-none}
use Rattle.fair_rows.specs.FairRows.{fair_rows}
use Rattle.fair_models.specs.FairCopy.{fair_condition}
use Rattle.fair_conditions.specs.Held.{lowered, kept_numbers, kept_row, rows_by}
use Rattle.fair_conditions.proofs.SortLaws.{left-numbers, numbers-last}

-- numbers that are left to be written
abbrev numbers_left : List ℕ → ℕ → ℕ → ℕ → List ℕ
numbers_left kept base count i = join_all write_number (kept_numbers kept (base + i) (count - i))

pub record NumbersPut (out₀ : List ℕ) (at : ℕ) (kept : List ℕ) (base count : ℕ) (out : List ℕ) (next i : ℕ) : Type 0 where
  pub few : i ≤ count
  pub place : next ≡ at + 4 * i
  pub left : Left out₀ at (join_all write_number (kept_numbers kept base count)) (numbers_left kept base count i) out next

module _ (out₀ : List ℕ) (at : ℕ) (kept : List ℕ) (base count : ℕ) where
  pub numbers-go-on : (out after : List ℕ) (next end i code : ℕ) → i < count → code ≡ twos (lowered (get_or kept (base + i) 0)) → Written out next (word code) after end → NumbersPut out₀ at kept base count out next i → NumbersPut out₀ at kept base count after end (i + 1)
  unfolding join_all write_number word
  numbers-go-on out after next end i code h e w p = record {
    few = omega arith;
    place = omega (arith, w.ends, p.place);
    left =
        left-on (word code) (numbers_left kept base count (i + 1))
        (left_as (ap (join_all write_number) (left-numbers kept base i count h) ∙ ap (λ (k : ℕ). word k ++ numbers_left kept base count (i + 1)) (sym e)) p.left)
        w;
  }

  pub numbers-end : (out : List ℕ) (next i : ℕ) → count ≤ i → NumbersPut out₀ at kept base count out next i → Written out₀ at (join_all write_number (kept_numbers kept base count)) out next × (next ≡ at + 4 * count)
  unfolding join_all kept_numbers
  numbers-end out next i h p =
      (left-none (left_as (ap (λ (k : ℕ). join_all write_number (kept_numbers kept (base + i) k)) (none count i h)) p.left), omega (arith, p.place, p.few))
    where
      none : (count i : ℕ) → count ≤ i → count - i ≡ 0
      none count i h = omega arith

-- a row is its numbers
joined-last : (xs : List ℤ) (z : ℤ) → join_all write_number (xs ++ (z ∷ [])) ≡ join_all write_number xs ++ write_number z
unfolding join_all
joined-last [] z = append-nil (write_number z)
joined-last (x ∷ xs) z = ap (λ (l : List ℕ). write_number x ++ l) (joined-last xs z) ∙ sym (append_assoc (write_number x) (join_all write_number xs) (write_number z))

pub row_written : (version : ℕ) (kept : List ℕ) (n k : ℕ) → join_all write_number (kept_numbers kept (17 * k) (n + 1)) ≡ write_row version (unplaced (kept_row kept n k))
unfolding write_row write_mark unplaced kept_row
row_written version kept n k =
    ap (join_all write_number) (numbers-last kept (17 * k) n) ∙ joined-last (kept_numbers kept (17 * k) n) (lowered (get_or kept (17 * k + n) 0))

-- rows that are left to be written
abbrev rows_left : ℕ → List ℕ → ℕ → List ℕ → List ℕ
rows_left version kept n ks = join_all (write_row version) (map unplaced (map (kept_row kept n) ks))

pub record RowsPut (out₀ : List ℕ) (at : ℕ) (kept sorted : List ℕ) (count version n : ℕ) (out : List ℕ) (next i : ℕ) : Type 0 where
  pub few : i ≤ count
  pub place : next ≤ at + 68 * i
  pub left : Left out₀ at (rows_left version kept n (take count sorted)) (rows_left version kept n (drop i (take count sorted))) out next

module _ (out₀ : List ℕ) (at : ℕ) (kept sorted : List ℕ) (count version n : ℕ) where
  first-row : (i : ℕ) → i < count → count ≤ length sorted → rows_left version kept n (drop i (take count sorted)) ≡ join_all write_number (kept_numbers kept (17 * get_or sorted i 0) (n + 1)) ++ rows_left version kept n (drop (i + 1) (take count sorted))
  unfolding join_all
  first-row i h l =
      ap (rows_left version kept n) (drop-cons (take count sorted) i 0 (omega (arith, length-take-le count sorted l)) ∙ ap₂ (λ (x k : ℕ). x ∷ drop k (take count sorted)) (get_or-take count sorted i 0 h) (sym (add-one i)))
      ∙ ap (λ (b : List ℕ). b ++ rows_left version kept n (drop (i + 1) (take count sorted))) (sym (row_written version kept n (get_or sorted i 0)))

  pub rows-go-on : (out after : List ℕ) (next end i base : ℕ) → i < count → count ≤ length sorted → n ≤ 16 → base ≡ 17 * get_or sorted i 0 → Written out next (join_all write_number (kept_numbers kept base (n + 1))) after end → end ≡ next + 4 * (n + 1) → RowsPut out₀ at kept sorted count version n out next i → RowsPut out₀ at kept sorted count version n after end (i + 1)
  rows-go-on out after next end i base h l m e w q p = record {
    few = omega arith;
    place = omega (arith, q, p.place);
    left =
        left-on (join_all write_number (kept_numbers kept base (n + 1))) (rows_left version kept n (drop (i + 1) (take count sorted)))
        (left_as (first-row i h l ∙ ap (λ (b : ℕ). join_all write_number (kept_numbers kept b (n + 1)) ++ rows_left version kept n (drop (i + 1) (take count sorted))) (sym e)) p.left)
        w;
  }

  pub rows_end : (out : List ℕ) (next i : ℕ) → count ≤ i → count ≤ length sorted → RowsPut out₀ at kept sorted count version n out next i → Written out₀ at (rows_left version kept n (take count sorted)) out next × (next ≤ at + 68 * count)
  unfolding join_all
  rows_end out next i h l p =
      (left-none (left_as (ap (rows_left version kept n) (drop_of_length-le (take count sorted) {i = i} (omega (arith, length-take-le count sorted l)))) p.left), omega (arith, p.place, p.few))

-- a condition: the count of its fair rows, then the rows
pub condition-written : (version : ℕ) (kept : List ℕ) (n : ℕ) (sorted : List ℕ) (count : ℕ) (rows : List SheetRow) → count ≤ length sorted → rows_by kept n sorted count ≡ fair_rows (map (λ x. x.row) rows) → (count ∷ []) ++ join_all (write_row version) (map unplaced (rows_by kept n sorted count)) ≡ write_condition version (fair_condition rows)
unfolding write_condition fair_condition
condition-written version kept n sorted count rows h e =
    ap₂ (λ (k : ℕ) (b : List ℕ). (k ∷ []) ++ b)
    (sym (length-map (fair_rows (map (λ x. x.row) rows)) unplaced ∙ ap (λ (rs : List Row). length rs) (sym e) ∙ length-map (take count sorted) (kept_row kept n) ∙ length-take-le count sorted h))
    (ap (λ (rs : List Row). join_all (write_row version) (map unplaced rs)) e)
