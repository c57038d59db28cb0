-- Rows are fields of one size with no range, so they can be passed over at once: they are whole where all their bytes are there, and
-- else the first number that is cut is the last place that is a whole number of fields on. Assumes nothing.
use mathlib.Core.Path.{◌≡◌, refl, ap, ◌∙◌}
use mathlib.Core.List.{List, [], ◌∷◌}
use Prim.Native.Nat.{ℕ, zero, suc, ◌+◌, ◌*◌, ◌-◌, ◌/◌, ◌≤◌, ◌<◌}
use native.Mathlib.Decide.{dec_le}
use native.Mathlib.Omega.{arith}
use lib.ListN.{length}
use Rattle.formats.specs.Reading.{got, refused, Reader, and_then, ◌>>=◌, give, here, signed, field, u32, s32, many}
use Rattle.formats.specs.Rows.{sheet_row, read_strict, read_row}
use Rattle.fields.specs.Places.{signed_at, numbers_at, row_at, rows_from}
use Rattle.formats.proofs.Gives.{bind-got}
use Rattle.formats.proofs.FieldLaws.{field-got, field_cut}
use Rattle.formats.specs.Versions.{row_bytes, strict_at}

-- a reading whose first part is refused is refused there
pub bind-refused : {A B : Type 0} (r : Reader A) (f : A → Reader B) (s : List ℕ) (p : ℕ) {number place : ℕ} → r s p ≡ refused number place → (r >>= f) s p ≡ refused number place
unfolding ◌>>=◌ and_then
bind-refused r f s p e = ap (λ g. and_then g f s) e

signed-got : (s : List ℕ) (p : ℕ) → p + 4 ≤ length s → s32 s p ≡ got (signed_at s p) (p + 4)
unfolding s32 u32 give signed_at
signed-got s p h = bind-got (field 4) (λ n. give (signed n)) s p (field-got 4 s p h) refl

signed_cut : (s : List ℕ) (p : ℕ) → length s < p + 4 → s32 s p ≡ refused 4 p
unfolding s32 u32
signed_cut s p h = bind-refused (field 4) (λ n. give (signed n)) s p (field_cut 4 s p h)

-- numbers
pub numbers-got : (s : List ℕ) (p k : ℕ) → p + 4 * k ≤ length s → many k s32 s p ≡ got (numbers_at s p k) (p + 4 * k)
unfolding many numbers_at give
numbers-got s p zero h = ap (λ (n : ℕ). got [] n) (nothing p)
  where
    nothing : (p : ℕ) → p ≡ p + 4 * 0
    nothing p = omega arith
numbers-got s p (suc k) h =
    bind-got s32 (λ a. many k s32 >>= λ rest. give (a ∷ rest)) s p (signed-got s p (omega arith))
    (bind-got (many k s32) (λ rest. give (signed_at s p ∷ rest)) s (p + 4) (numbers-got s (p + 4) k (omega arith)) (ap (λ (n : ℕ). got (signed_at s p ∷ numbers_at s (p + 4) k) n) (one_more p k)))
  where
    one_more : (p k : ℕ) → p + 4 + 4 * k ≡ p + 4 * suc k
    one_more p k = omega arith

-- the first cut number
abbrev pub number_cut_at : List ℕ → ℕ → ℕ
number_cut_at s p = p + (length s - p) / 4 * 4

cut_later : (n p : ℕ) → p + 4 ≤ n → p + 4 + (n - (p + 4)) / 4 * 4 ≡ p + (n - p) / 4 * 4
cut_later n p h = omega arith

cut-now : (n p : ℕ) → n < p + 4 → p ≡ p + (n - p) / 4 * 4
cut-now n p h = omega arith

numbers-cut-step : (s : List ℕ) (p k : ℕ) → Dec (p + 4 ≤ length s) → (p + 4 ≤ length s → many k s32 s (p + 4) ≡ refused 4 (number_cut_at s (p + 4))) → (s32 >>= λ a. many k s32 >>= λ rest. give (a ∷ rest)) s p ≡ refused 4 (number_cut_at s p)
numbers-cut-step s p k (yes h) later =
    bind-got s32 (λ a. many k s32 >>= λ rest. give (a ∷ rest)) s p (signed-got s p h)
    (bind-refused (many k s32) (λ rest. give (signed_at s p ∷ rest)) s (p + 4) (later h ∙ ap (λ (n : ℕ). refused 4 n) (cut_later (length s) p h)))
numbers-cut-step s p k (no f) later =
    let l : length s < p + 4 = omega arith in
    bind-refused s32 (λ a. many k s32 >>= λ rest. give (a ∷ rest)) s p (signed_cut s p l ∙ ap (λ (n : ℕ). refused 4 n) (cut-now (length s) p l))

pub numbers-cut : (s : List ℕ) (p k : ℕ) → p ≤ length s → length s < p + 4 * k → many k s32 s p ≡ refused 4 (number_cut_at s p)
unfolding many
numbers-cut s p zero h l = absurd (omega arith)
numbers-cut s p (suc k) h l = numbers-cut-step s p k (dec_le (p + 4) (length s)) (λ i. numbers-cut s (p + 4) k i (omega arith))

-- a row: where it ends after its bound, where its bound is cut, and where the first number is cut after it
row_ends : (p version n : ℕ) → p + 4 * n + 4 ≡ p + row_bytes version n
unfolding row_bytes
row_ends p version n = omega arith

bound-cut : (len version n p : ℕ) → p + 4 * n ≤ len → len < p + row_bytes version n → p + 4 * n ≡ p + (len - p) / 4 * 4
unfolding row_bytes
bound-cut len version n p i l = omega arith

cut-after : (len p version n : ℕ) → p + row_bytes version n ≤ len → p + row_bytes version n + (len - (p + row_bytes version n)) / 4 * 4 ≡ p + (len - p) / 4 * 4
unfolding row_bytes
cut-after len p version n i = omega arith

pub row-got : (s : List ℕ) (version n p : ℕ) → p + row_bytes version n ≤ length s → read_row version n s p ≡ got (row_at s version n p) (p + row_bytes version n)
unfolding read_row read_strict row_bytes here ◌>>=◌ and_then give row_at
row-got s version n p h =
    bind-got (many n s32) (λ xs. s32 >>= λ b. give (sheet_row version n p (strict_at version s p) xs b)) s p (numbers-got s p n (omega arith))
    (bind-got s32 (λ b. give (sheet_row version n p (strict_at version s p) (numbers_at s p n) b)) s (p + 4 * n) (signed-got s (p + 4 * n) (omega arith))
    (ap (λ (k : ℕ). got (row_at s version n p) k) (row_ends p version n)))

row-cut-step : (s : List ℕ) (version n p : ℕ) → p ≤ length s → length s < p + row_bytes version n → Dec (p + 4 * n ≤ length s) → read_row version n s p ≡ refused 4 (number_cut_at s p)
unfolding read_row read_strict row_bytes here ◌>>=◌ and_then
row-cut-step s version n p h l (yes i) =
    bind-got (many n s32) (λ xs. s32 >>= λ b. give (sheet_row version n p (strict_at version s p) xs b)) s p (numbers-got s p n i)
    (bind-refused s32 (λ b. give (sheet_row version n p (strict_at version s p) (numbers_at s p n) b)) s (p + 4 * n) (signed_cut s (p + 4 * n) (omega arith) ∙ ap (λ (k : ℕ). refused 4 k) (bound-cut (length s) version n p i l)))
row-cut-step s version n p h l (no f) =
    bind-refused (many n s32) (λ xs. s32 >>= λ b. give (sheet_row version n p (strict_at version s p) xs b)) s p (numbers-cut s p n h (omega arith))

pub row_cut : (s : List ℕ) (version n p : ℕ) → p ≤ length s → length s < p + row_bytes version n → read_row version n s p ≡ refused 4 (number_cut_at s p)
row_cut s version n p h l = row-cut-step s version n p h l (dec_le (p + 4 * n) (length s))

-- rows
pub rows-got : (s : List ℕ) (version n p k : ℕ) → p + row_bytes version n * k ≤ length s → many k (read_row version n) s p ≡ got (rows_from s version n p k) (p + row_bytes version n * k)
unfolding many rows_from give
rows-got s version n p zero h = ap (λ (i : ℕ). got [] i) (nothing p version n)
  where
    nothing : (p version n : ℕ) → p ≡ p + row_bytes version n * 0
    nothing p version n = omega arith
rows-got s version n p (suc k) h =
    bind-got (read_row version n) (λ a. many k (read_row version n) >>= λ rest. give (a ∷ rest)) s p (row-got s version n p (first p version n k (length s) h))
    (bind-got (many k (read_row version n)) (λ rest. give (row_at s version n p ∷ rest)) s (p + row_bytes version n) (rows-got s version n (p + row_bytes version n) k (later p version n k (length s) h)) (ap (λ (i : ℕ). got (row_at s version n p ∷ rows_from s version n (p + row_bytes version n) k) i) (one_more p version n k)))
  where
    first : (p version n k len : ℕ) → p + row_bytes version n * suc k ≤ len → p + row_bytes version n ≤ len
    first p version n k len h = omega arith

    later : (p version n k len : ℕ) → p + row_bytes version n * suc k ≤ len → p + row_bytes version n + row_bytes version n * k ≤ len
    later p version n k len h = omega arith

    one_more : (p version n k : ℕ) → p + row_bytes version n + row_bytes version n * k ≡ p + row_bytes version n * suc k
    one_more p version n k = omega arith

rows-cut-step : (s : List ℕ) (version n p k : ℕ) → p ≤ length s → Dec (p + row_bytes version n ≤ length s) → (p + row_bytes version n ≤ length s → many k (read_row version n) s (p + row_bytes version n) ≡ refused 4 (number_cut_at s (p + row_bytes version n))) → (read_row version n >>= λ a. many k (read_row version n) >>= λ rest. give (a ∷ rest)) s p ≡ refused 4 (number_cut_at s p)
rows-cut-step s version n p k h (yes i) next =
    bind-got (read_row version n) (λ a. many k (read_row version n) >>= λ rest. give (a ∷ rest)) s p (row-got s version n p i)
    (bind-refused (many k (read_row version n)) (λ rest. give (row_at s version n p ∷ rest)) s (p + row_bytes version n) (next i ∙ ap (λ (x : ℕ). refused 4 x) (cut-after (length s) p version n i)))
rows-cut-step s version n p k h (no f) next =
    bind-refused (read_row version n) (λ a. many k (read_row version n) >>= λ rest. give (a ∷ rest)) s p (row_cut s version n p h (omega arith))

pub rows_cut : (s : List ℕ) (version n p k : ℕ) → p ≤ length s → length s < p + row_bytes version n * k → many k (read_row version n) s p ≡ refused 4 (number_cut_at s p)
unfolding many
rows_cut s version n p zero h l = absurd (omega arith)
rows_cut s version n p (suc k) h l =
    rows-cut-step s version n p k h (dec_le (p + row_bytes version n) (length s)) (λ i. rows_cut s version n (p + row_bytes version n) k i (later p version n k (length s) l))
  where
    later : (p version n k len : ℕ) → len < p + row_bytes version n * suc k → len < p + row_bytes version n + row_bytes version n * k
    later p version n k len h = omega arith
