-- Where the rows of a sheet stand: every row that a model or a certificate's regions give ends within the sheet that it was read from.
-- Assumes nothing.
use mathlib.Core.Path.{◌≡◌, refl}
use mathlib.Core.Bool.{Bool, true, false, cond}
use mathlib.Core.List.{List}
use Prim.Native.Nat.{ℕ, zero, suc, ◌+◌, ◌*◌, ◌≤◌}
use native.Mathlib.Omega.{arith}
use lib.Dec.{leb}
use lib.IntN.{ℤ}
use lib.ListN.{length}
use borrow.Author.Tests.{leb-true}
use Rattle.farkas.specs.Lists.{All}
use Rattle.formats.specs.Versions.{row_bytes, strict_at}
use Rattle.formats.specs.Reading.{got, refused, and_then, ◌>>=◌, give, here, field, u32, s32, many}
use Rattle.formats.specs.Rows.{SheetRow, Condition, read_strict, read_row, sheet_row}
use Rattle.formats.specs.Model.{Mode, Component, Model, read_model_body}
use Rattle.formats.specs.declared.Limits.{Limits}
use Rattle.formats.specs.ModelSheet.{read_model}
use Rattle.formats.specs.Certificate.{read_regions}
use Rattle.formats.proofs.Gives.{got-value, got-next, passes}
use Rattle.formats.proofs.EveryRow.{GivesFrom, ModeRows, ComponentRows, ModelRows, body-rows, model-rows, regions-rows}

-- a field ends as many bytes on as it has, within the sheet; a row's numbers have four bytes each
field-ends : (size : ℕ) (s : List ℕ) (p v next : ℕ) → field size s p ≡ got v next → (next ≡ p + size) × (next ≤ length s)
unfolding field
field-ends size s p v next e = go (leb (p + size) (length s)) _ refl e
  where
    go : (b : Bool) (w : ℕ) → leb (p + size) (length s) ≡ b → cond b (got w (p + size)) (refused 4 p) ≡ got v next → (next ≡ p + size) × (next ≤ length s)
    go true w k d = let l = leb-true (p + size) (length s) k in let n = got-next d in omega arith
    go false w k d = let z : ◌≡◌ {A = ℕ} 0 1 = cc in absurd (omega arith)

number-ends : (s : List ℕ) (p : ℕ) (v : ℤ) (next : ℕ) → s32 s p ≡ got v next → (next ≡ p + 4) × (next ≤ length s)
unfolding s32 u32 ◌>>=◌ give
number-ends s p v next e =
    let w = passes _ _ s v next e in
    let h = field-ends 4 s p w.value w.place w.first in
    let n = got-next w.second in
    omega arith

numbers-end : (n : ℕ) (s : List ℕ) (p : ℕ) (xs : List ℤ) (next : ℕ) → many n s32 s p ≡ got xs next → next ≡ p + 4 * n
unfolding many ◌>>=◌ give
numbers-end zero s p xs next e = let n = got-next e in omega arith
numbers-end (suc n) s p xs next e =
    let w = passes (s32 s p) _ s xs next e in
    let v = passes (many n s32 s w.place) _ s xs next w.second in
    let h = number-ends s p w.value w.place w.first in
    let k = numbers-end n s w.place v.value v.place v.first in
    let l = got-next v.second in
    omega arith

-- a row's bytes end within a sheet
abbrev pub EndsWithin : List ℕ → SheetRow → Type 0
EndsWithin s r = r.place + r.size ≤ length s

abbrev pub RowsWithin : List ℕ → Condition → Type 0
RowsWithin s rows = All (EndsWithin s) rows

row_within : (s : List ℕ) (version n : ℕ) → GivesFrom s (EndsWithin s) (read_row version n)
unfolding read_row read_strict row_bytes ◌>>=◌ here and_then give
row_within s version n = record {
  holds = λ p r next e.
      let w = passes (many n s32 s p) (λ coefficients. s32 >>= λ bound. give (sheet_row version n p (strict_at version s p) coefficients bound)) s r next e in
      let v = passes (s32 s w.place) (λ bound. give (sheet_row version n p (strict_at version s p) w.value bound)) s r next w.second in
      let h = numbers-end n s p w.value w.place w.first in
      let k = number-ends s w.place v.value v.place v.first in
      rw (← (got-value v.second)) (omega arith);
}

-- a model's rows
abbrev pub ModeWithin : List ℕ → Mode → Type 0
ModeWithin s = ModeRows (EndsWithin s)

abbrev pub ComponentWithin : List ℕ → Component → Type 0
ComponentWithin s = ComponentRows (EndsWithin s)

abbrev pub ModelWithin : List ℕ → Model → Type 0
ModelWithin s = ModelRows (EndsWithin s)

pub body-within : (s : List ℕ) (version paper : ℕ) → GivesFrom s (ModelWithin s) (read_model_body version paper)
body-within s = body-rows s (EndsWithin s) (row_within s)

pub rows-within : (limits : Limits) (s : List ℕ) (m : Model) (next : ℕ) → read_model limits s ≡ got m next → ModelWithin s m
rows-within limits s = model-rows s (EndsWithin s) (row_within s) limits

-- the regions of a certificate
pub regions-within : (m : Model) (s : List ℕ) (p : ℕ) (regions : List Condition) (next : ℕ) → read_regions m s p ≡ got regions next → All (RowsWithin s) regions
regions-within m s = regions-rows s (EndsWithin s) (row_within s) m
