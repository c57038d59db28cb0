-- One row taken into the order, and all of them, the last first. Assumes nothing.
use mathlib.Core.Path.{◌≡◌, refl, sym, ap, ap₂, ◌∙◌, subst}
use mathlib.Core.Bool.{false}
use mathlib.Core.List.{List, [], ◌∷◌, ◌++◌, map, head-eq_of_cons-eq}
use Prim.Native.Nat.{ℕ, zero, suc, ◌+◌, ◌*◌, ◌-◌, ◌≤◌, ◌<◌}
use native.Mathlib.Omega.{arith}
use lib.IntN.{ℤ}
use lib.ListN.{length, get_or, take}
use Rattle.farkas.specs.Lists.{none, more}
use Rattle.farkas.specs.Rows.{Row}
use Rattle.farkas.specs.Words.{signed_at, numbers_at, row_in}
use Rattle.fair_rows.specs.FairRows.{quotient, divided, insert, insert_all, fair_rows}
use Rattle.fair_rows.proofs.OrderLaws.{Ascending, ends}
use Rattle.fair_rows.proofs.FairLaws.{fair-ascending}
use Rattle.formats.specs.Versions.{row_bytes, strict_at}
use Rattle.fields.specs.Places.{row_at, rows_from}
use Rattle.fair_conditions.specs.Held.{RowDivisor, lowered, kept_numbers, KeptOutside, kept_row, slip, Among, rows_by}
use Rattle.fair_conditions.proofs.SortLaws.{numbers-last, slip-insert, slip-all}
use Rattle.fair_conditions.proofs.KeptLaws.{row-alike}

-- a row's numbers: its coefficients and its bound
at_last : (s : List ℕ) (at n : ℕ) → numbers_at s at (n + 1) ≡ numbers_at s at n ++ (signed_at s (at + 4 * n) ∷ [])
unfolding numbers_at
at_last s at zero = ap (λ (p : ℕ). signed_at s p ∷ []) (start at)
  where
    start : (at : ℕ) → at ≡ at + 4 * 0
    start at = omega arith
at_last s at (suc n) =
    ap (numbers_at s at) (suc-first n)
    ∙ ap (λ (z : List ℤ). signed_at s at ∷ z)
    (at_last s (at + 4) n ∙ ap (λ (p : ℕ). numbers_at s (at + 4) n ++ (signed_at s p ∷ [])) (onward at n))
  where
    suc-first : (n : ℕ) → suc n + 1 ≡ suc (n + 1)
    suc-first n = omega arith

    onward : (at n : ℕ) → at + 4 + 4 * n ≡ at + 4 * suc n
    onward at n = omega arith

map_last : (d : ℕ) (xs : List ℤ) (z : ℤ) → map (quotient d) (xs ++ (z ∷ [])) ≡ map (quotient d) xs ++ (quotient d z ∷ [])
map_last d [] z = refl
map_last d (x ∷ xs) z = ap (λ (ys : List ℤ). quotient d x ∷ ys) (map_last d xs z)

kept-divided : (s : List ℕ) (at n d : ℕ) (kept : List ℕ) (j : ℕ) → kept_numbers kept (17 * j) (n + 1) ≡ map (quotient d) (numbers_at s at (n + 1)) → kept_row kept n j ≡ divided d (row_in s at n)
unfolding kept_row divided row_in
kept-divided s at n d kept j e =
    let w = ends (kept_numbers kept (17 * j) n) (map (quotient d) (numbers_at s at n)) (lowered (get_or kept (17 * j + n) 0) ∷ []) (quotient d (signed_at s (at + 4 * n)) ∷ []) refl
    (sym (numbers-last kept (17 * j) n) ∙ e ∙ ap (map (quotient d)) (at_last s at n) ∙ map_last d (numbers_at s at n) (signed_at s (at + 4 * n))) in
    ap₂ (λ (xs : List ℤ) (b : ℤ). record { coefficients = xs; bound = b; strict = false }) w.0 (head-eq_of_cons-eq w.1)

-- rows with greater numbers stay where they are
others-stay : (before after : List ℕ) (n j : ℕ) {ks : List ℕ} → n ≤ 16 → KeptOutside (17 * j) (n + 1) before after → Among (j + 1) ks → map (kept_row after n) ks ≡ map (kept_row before n) ks
others-stay before after n j h w none = refl
others-stay before after n j h w (more {a = k} l a) =
    ap₂ (λ (r : Row) (rs : List Row). r ∷ rs)
    (row-alike before after n k (λ i p q. w.outside i (λ x y. omega (arith, l.0))))
    (others-stay before after n j h w a)

-- a row that is dropped
pub row-dropped : (s : List ℕ) (at n r : ℕ) (rows sorted : List Row) → RowDivisor (row_in s at n) r → r ≡ 0 → sorted ≡ fair_rows rows → sorted ≡ fair_rows (row_in s at n ∷ rows)
unfolding fair_rows insert_all
row-dropped s at n r rows sorted w z e = e ∙ sym (ap (λ (rs : List Row). insert_all rs (fair_rows rows)) (w.dropped z))

-- a row that is taken
module _ (s : List ℕ) (at n d : ℕ) (before after : List ℕ) (j : ℕ) (few : n ≤ 16) (w : RowDivisor (row_in s at n) d) (some : d ≡ 0 → ⊥) (numbers : kept_numbers after (17 * j) (n + 1) ≡ map (quotient d) (numbers_at s at (n + 1))) (outside : KeptOutside (17 * j) (n + 1) before after) where
  pub row-taken : (ks now : List ℕ) → Among (j + 1) ks → now ≡ slip (kept_row after n) j ks → (rows : List Row) → map (kept_row before n) ks ≡ fair_rows rows → map (kept_row after n) now ≡ fair_rows (row_in s at n ∷ rows)
  unfolding fair_rows insert_all
  row-taken ks now a e rows f =
      let stay : map (kept_row after n) ks ≡ fair_rows rows = others-stay before after n j few outside a ∙ f in
      ap (map (kept_row after n)) e
      ∙ slip-insert (kept_row after n) j ks (subst Ascending (sym stay) (fair-ascending rows))
      ∙ ap₂ insert (kept-divided s at n d after j numbers) stay
      ∙ sym (ap (λ (rs : List Row). insert_all rs (fair_rows rows)) (w.divides some))

-- row numbers: those of the rows before, and this one
pub among-stays : {j : ℕ} {ks : List ℕ} → Among (j + 1) ks → Among j ks
among-stays none = none
among-stays {j = j} (more {a = k} h a) = more {a = k} (omega (arith, h.0), h.1) (among-stays a)

pub among-slips : (f : ℕ → Row) (j : ℕ) (ks now : List ℕ) → j < 8 → Among (j + 1) ks → now ≡ slip f j ks → Among j now
among-slips f j ks now h a e = subst (λ (l : List ℕ). Among j l) (sym e) (slip-all f j (omega arith, h) (among-stays a))

pub among-all : {j : ℕ} {ks : List ℕ} → Among j ks → Among 0 ks
among-all none = none
among-all (more {a = k} h a) = more {a = k} (omega arith, h.1) (among-all a)

-- the rows from the j-th on, by the first of them
pub rows_before : (s : List ℕ) (version n place rows i j : ℕ) → i ≡ j + 1 → i ≤ rows → map (λ x. x.row) (rows_from s version n (place + row_bytes version n * j) (rows - j)) ≡ row_in s (place + row_bytes version n * j) n ∷ map (λ x. x.row) (rows_from s version n (place + row_bytes version n * i) (rows - i))
unfolding rows_from row_at row_in strict_at
rows_before s version n place rows i j e h =
    ap (λ (k : ℕ). map (λ x. x.row) (rows_from s version n (place + row_bytes version n * j) k)) (one_less rows i j e h)
    ∙ ap (λ (p : ℕ). row_in s (place + row_bytes version n * j) n ∷ map (λ x. x.row) (rows_from s version n p (rows - i))) (onward place (row_bytes version n) i j e)
  where
    one_less : (rows i j : ℕ) → i ≡ j + 1 → i ≤ rows → rows - j ≡ suc (rows - i)
    one_less rows i j e h = omega arith

    onward : (place size i j : ℕ) → i ≡ j + 1 → place + size * j + size ≡ place + size * i
    onward place size i j e = subst (λ (x : ℕ). place + size * j + size ≡ place + size * x) (sym e) (law place size j)
      where
        law : (place size j : ℕ) → place + size * j + size ≡ place + size * (j + 1)
        law place size j = omega arith

-- The rows from the j-th on are gathered
pub record Gathered (s : List ℕ) (place version n rows : ℕ) (kept₀ sorted₀ kept sorted : List ℕ) (count j : ℕ) : Type 0 where
  pub few : count + j ≤ rows
  pub among : Among j (take count sorted)
  pub long : length kept ≡ length kept₀
  pub wide : length sorted ≡ length sorted₀
  pub fair : rows_by kept n sorted count ≡ fair_rows (map (λ x. x.row) (rows_from s version n (place + row_bytes version n * j) (rows - j)))

module _ (s : List ℕ) (place version n rows : ℕ) (kept₀ sorted₀ : List ℕ) where
  pub gather-starts : Gathered s place version n rows kept₀ sorted₀ kept₀ sorted₀ 0 rows
  unfolding fair_rows rows_from
  gather-starts = record {
    few = omega arith;
    among = none;
    long = refl;
    wide = refl;
    fair = sym (ap (λ (k : ℕ). fair_rows (map (λ x. x.row) (rows_from s version n (place + row_bytes version n * rows) k))) (nought rows));
  }
    where
      nought : (rows : ℕ) → rows - rows ≡ 0
      nought rows = omega arith

  pub gather-goes-on : (kept sorted after now : List ℕ) (count i j r : ℕ) → i ≡ j + 1 → Gathered s place version n rows kept₀ sorted₀ kept sorted count i → length after ≡ length kept → length now ≡ length sorted → ((given : List Row) → rows_by kept n sorted count ≡ fair_rows given → rows_by after n now r ≡ fair_rows (row_in s (place + row_bytes version n * j) n ∷ given)) → r ≤ count + 1 → Among j (take r now) → Gathered s place version n rows kept₀ sorted₀ after now r j
  gather-goes-on kept sorted after now count i j r e g l m f h a = record {
    few = omega (arith, g.few);
    among = a;
    long = l ∙ g.long;
    wide = m ∙ g.wide;
    fair = f (map (λ x. x.row) (rows_from s version n (place + row_bytes version n * i) (rows - i))) g.fair ∙ sym (ap fair_rows (rows_before s version n place rows i j e (omega (arith, g.few))));
  }
