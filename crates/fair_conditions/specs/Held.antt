-- What the code keeps of a condition's rows: numbers raised by 2^31, row k from place 17·k on, and the order of the rows as a list of their
-- numbers. Assumes nothing.
use Rattle.std.specs.Prelude.{false, cond, List, [], ◌∷◌, map, ◌↔◌, ◌≡◌, ℕ, zero, suc, ◌+◌, ◌*◌, ◌-◌, ◌%◌, ◌^◌, ◌≤◌, ◌<◌, T, ltb, eqb, ℤ, pos, negsuc, length, get_or, take, Option, Some, None}
use Rattle.std.specs.declared.cmp.Ordering.{Ordering}
use Rattle.std.specs.declared.cmp.Ordering.TheVariants.{Less, Equal, Greater}
use Rattle.farkas.specs.Lists.{All}
use Rattle.farkas.specs.Rows.{Row}
use Rattle.formats.specs.Rows.{Condition}
use Rattle.formats.specs.Versions.{row_bytes}
use Rattle.fields.specs.Places.{rows_from}
use Rattle.writing.specs.Writing.{write_condition}
use Rattle.fair_models.specs.FairCopy.{fair_condition}
use Rattle.fair_conditions.specs.declared.conditions.Stretch.{Stretch}
use Rattle.fair_rows.specs.FairRows.{divides_all, divided, fair_row, Order, lower, same, higher, order, keys_of}

-- a number whose divisors are the common ones of two numbers, and of a list
abbrev pub Divides : ℕ → ℕ → Type 0
Divides d n = T (eqb (n % d) 0)

pub record Common (a b r : ℕ) : Type 0 where
  pub divides : (d : ℕ) → 1 ≤ d → Divides d r ↔ (Divides d a × Divides d b)

pub record CommonOf (xs : List ℤ) (r : ℕ) : Type 0 where
  pub divides : (d : ℕ) → 1 ≤ d → Divides d r ↔ T (divides_all d xs)

-- what a row is divided by; 0 where it is dropped
pub record RowDivisor (row : Row) (divisor : ℕ) : Type 0 where
  pub dropped : divisor ≡ 0 → fair_row row ≡ []
  pub divides : (divisor ≡ 0 → ⊥) → fair_row row ≡ divided divisor row ∷ []

-- the number that is kept raised by 2^31
unfoldable pub lowered : ℕ → ℤ
lowered k = cond (ltb k (2 ^ 31)) (negsuc (2 ^ 31 - suc k)) (pos (k - 2 ^ 31))

-- so many kept numbers from a place on
unfoldable pub kept_numbers : List ℕ → ℕ → ℕ → List ℤ
kept_numbers kept p zero = []
kept_numbers kept p (suc n) = lowered (get_or kept p 0) ∷ kept_numbers kept (p + 1) n

-- nothing else has changed
pub record KeptOutside (base count : ℕ) (before after : List ℕ) : Type 0 where
  pub outside : (i : ℕ) → (base ≤ i → i < base + count → ⊥) → get_or after i 0 ≡ get_or before i 0

-- row k, with n coefficients
unfoldable pub kept_row : List ℕ → ℕ → ℕ → Row
kept_row kept n k = record { coefficients = kept_numbers kept (17 * k) n; bound = lowered (get_or kept (17 * k + n) 0); strict = false }

-- how two rows stand to each other, as the library says it
unfoldable pub standing : Order → Ordering
standing lower = Less
standing same = Equal
standing higher = Greater

-- row k meets row j of the order: what is carried on, and what stays
unfoldable pub carried_on : Order → ℕ → ℕ → Option ℕ
carried_on lower k j = Some j
carried_on same k j = None
carried_on higher k j = Some k

unfoldable pub left_behind : Order → ℕ → ℕ → ℕ
left_behind lower k j = k
left_behind same k j = j
left_behind higher k j = j

-- a row goes through the order: by how it stands to the first, and by what comes of the others with either of the two
unfoldable pub slip_by : Order → ℕ → ℕ → List ℕ → List ℕ → List ℕ → List ℕ
slip_by lower k j js with_j with_k = k ∷ with_j
slip_by same k j js with_j with_k = j ∷ js
slip_by higher k j js with_j with_k = j ∷ with_k

unfoldable pub slip : (ℕ → Row) → ℕ → List ℕ → List ℕ
slip f k [] = k ∷ []
slip f k (j ∷ js) = slip_by (order (keys_of (f k)) (keys_of (f j))) k j js (slip f j js) (slip f k js)

-- row numbers from one on, below 8
abbrev pub Among : ℕ → List ℕ → Type 0
Among least ks = All (λ k. (least ≤ k) × (k < 8)) ks

-- the rows of an order
abbrev pub rows_by : List ℕ → ℕ → List ℕ → ℕ → List Row
rows_by kept n sorted count = map (kept_row kept n) (take count sorted)

-- a condition of the copy: the fair rows of so many rows of a sheet
abbrev pub stretch_rows : List ℕ → Stretch → Condition
stretch_rows s stretch = rows_from s stretch.version stretch.n stretch.place stretch.rows

abbrev pub stretch_bytes : List ℕ → Stretch → List ℕ
stretch_bytes s stretch = write_condition stretch.version (fair_condition (stretch_rows s stretch))

-- rows that stand within their sheet, of sizes in use
pub record GoodStretch (s : List ℕ) (stretch : Stretch) : Type 0 where
  pub within : (j : ℕ) → j < stretch.rows → stretch.place + row_bytes stretch.version stretch.n * (j + 1) ≤ length s
  pub short : length s ≤ 32768
  pub wide : stretch.n ≤ 16
  pub few : stretch.rows ≤ 8
