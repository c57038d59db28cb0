-- Rows, and where they hold (01, Sheet and Runs).
-- A row has coefficients a and a bound b, whole numbers of either sign; it means a·x ≤ b, or a·x < b where it is strict. The unknowns are
-- counted from 0, and a coefficient or a value that a list does not reach counts as 0. Assumes nothing.
use Rattle.std.specs.Prelude.{Bool, false, cond, List, [], ◌∷◌, ◌++◌, map, ◌≡◌, ℕ, T, ℤ, pos, neg_ℤ, ◌+ℤ◌, ◌*ℤ◌, get_or, replicate, ◌≤ℤ◌, ◌<ℤ◌}
use Rattle.std.specs.Int.Signed.{le_z, lt_z}

-- "A row is n coefficients a and a bound b, all s32, and means a·x ≤ b"; a strict one means a·x < b (02, order 8)
pub record Row : Type 0 where
  pub coefficients : List ℤ
  pub bound : ℤ
  pub strict : Bool

-- the i-th coefficient of a row, or the i-th value of a point
unfoldable pub item : List ℤ → ℕ → ℤ
item xs i = get_or xs i (pos 0)

-- a·p
unfoldable pub dot : List ℤ → List ℤ → ℤ
dot [] ps = pos 0
dot (a ∷ xs) [] = pos 0
dot (a ∷ xs) (p ∷ ps) = a *ℤ p +ℤ dot xs ps

-- at most, or below where it must be: the test, and what it means
unfoldable pub compared : Bool → ℤ → ℤ → Bool
compared strict a b = cond strict (lt_z a b) (le_z a b)

pub record Compared (strict : Bool) (a b : ℤ) : Type 0 where
  pub most : a ≤ℤ b
  pub below : T strict → a <ℤ b

-- "A row on values holds as a·p ≤ b·q" (01, Runs): the values are p over q; "rows are compared strictly where marked" (02, order 8)
unfoldable pub row_holds : ℕ → List ℤ → Row → Bool
row_holds q p r = compared r.strict (dot r.coefficients p) (r.bound *ℤ pos q)

-- the same as a proposition
abbrev pub Holds : ℕ → List ℤ → Row → Type 0
Holds q p r = T (row_holds q p r)

-- coefficients and a bound, as a row that is not strict
abbrev pub row_of : List ℤ → ℤ → Row
row_of coefficients bound = record { coefficients = coefficients; bound = bound; strict = false }

-- a row with this mark in place of its own
abbrev pub strictly : Bool → Row → Row
strictly strict r = record { coefficients = r.coefficients; bound = r.bound; strict = strict }

-- a row with its coefficients on the unknowns from one on
unfoldable pub onward : ℕ → Row → Row
onward shift r = record { coefficients = replicate shift (pos 0) ++ r.coefficients; bound = r.bound; strict = r.strict }

-- a row a·r ≤ b on the rates at which x becomes x' in the time d: −a on x, a on x', −b on d, bound 0. Rows on rates are not strict
unfoldable pub on_change : Row → Row
on_change r =
    record {
      coefficients = map neg_ℤ r.coefficients ++ (r.coefficients ++ (neg_ℤ r.bound ∷ []));
      bound = pos 0;
      strict = false;
    }

-- the row 0 ≤ 0, which holds everywhere
unfoldable pub zero_row : Row
zero_row = record { coefficients = []; bound = pos 0; strict = false }

-- rows of which each coefficient, the bound and the mark are the same: they differ only in zeros at the end
pub record Alike (r s : Row) : Type 0 where
  pub coefficient : (i : ℕ) → item r.coefficients i ≡ item s.coefficients i
  pub bound : r.bound ≡ s.bound
  pub strict : r.strict ≡ s.strict
