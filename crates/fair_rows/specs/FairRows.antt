-- The fair rows of a condition (02, order 4; of strict rows, order 8). Assumes nothing.
use Rattle.std.specs.Prelude.{Bool, true, false, cond, List, [], ◌∷◌, ◌++◌, map, ℕ, zero, suc, ◌/◌, ◌%◌, max, eqb, ℤ, pos, negsuc, neg_ℤ, nat_abs}
use Rattle.std.specs.Int.Signed.{lt_z}
use Rattle.farkas.specs.Rows.{Row, compared}
use Rattle.farkas.specs.Lists.{every}

-- a row's numbers: its coefficients, then its bound. Its mark is none of them
unfoldable pub numbers_of : Row → List ℤ
numbers_of r = r.coefficients ++ (r.bound ∷ [])

-- whether a whole number divides each of them
unfoldable pub divides_all : ℕ → List ℤ → Bool
divides_all d xs = every (λ z. eqb (nat_abs z % d) 0) xs

-- the greatest number, of those up to n, that passes a test; 0 where none does
unfoldable pub greatest : (ℕ → Bool) → ℕ → ℕ
greatest f zero = zero
greatest f (suc n) = cond (f (suc n)) (suc n) (greatest f n)

-- no number that divides them all is greater than the largest of them without their signs, where they are not all 0
unfoldable pub size : List ℤ → ℕ
size [] = zero
size (z ∷ zs) = max (nat_abs z) (size zs)

-- "the greatest common divisor of its numbers": the greatest whole number that divides them all, 0 where all are 0
unfoldable pub divisor : List ℤ → ℕ
divisor xs = greatest (λ d. divides_all d xs) (size xs)

unfoldable pub quotient : ℕ → ℤ → ℤ
quotient d (pos n) = pos (n / d)
quotient d (negsuc n) = neg_ℤ (pos (suc n / d))

unfoldable pub divided : ℕ → Row → Row
divided d r = record { coefficients = map (quotient d) r.coefficients; bound = quotient d r.bound; strict = r.strict }

-- "each row divided by the greatest common divisor of its numbers"
unfoldable pub lowest : Row → Row
lowest r = divided (divisor (numbers_of r)) r

unfoldable pub is_zero : ℤ → Bool
is_zero z = eqb (nat_abs z) 0

-- "given bound −1"; of a strict row "bound −1 with mark 0"
unfoldable pub never : Row → Row
never r = record { coefficients = r.coefficients; bound = negsuc 0; strict = false }

-- "a row with zero coefficients dropped if its bound is at least 0, else given bound −1"; "a strict row of zeros is dropped only if its
-- bound is above 0": by whether 0 is at most the bound, or below it where the row is strict
unfoldable pub fair_zeros : Bool → Row → List Row
fair_zeros true r = []
fair_zeros false r = never r ∷ []

-- by whether all coefficients are zero
unfoldable pub fair_by : Bool → Row → List Row
fair_by true r = fair_zeros (compared r.strict (pos 0) r.bound) r
fair_by false r = lowest r ∷ []

-- one row: none or one
unfoldable pub fair_row : Row → List Row
fair_row r = fair_by (every is_zero r.coefficients) r

-- "sorted ascending by coefficients, then bound": the first number that differs decides; "the mark is the last sorting key"
pub data Order : Type 0 where
  lower same higher : Order

unfoldable pub order_of : Bool → Bool → Order
order_of true b = lower
order_of false true = higher
order_of false false = same

unfoldable pub first_of : Order → Order → Order
first_of lower o = lower
first_of higher o = higher
first_of same o = o

unfoldable pub order : List ℤ → List ℤ → Order
order [] [] = same
order [] (y ∷ ys) = lower
order (x ∷ xs) [] = higher
order (x ∷ xs) (y ∷ ys) = first_of (order_of (lt_z x y) (lt_z y x)) (order xs ys)

unfoldable pub mark_of : Bool → ℤ
mark_of strict = cond strict (pos 1) (pos 0)

unfoldable pub keys_of : Row → List ℤ
keys_of r = r.coefficients ++ (r.bound ∷ mark_of r.strict ∷ [])

-- a row among sorted ones; "repeats dropped". By how it stands to the first of them, and by what inserting it among the others gives
unfoldable pub placed : Order → Row → Row → List Row → List Row → List Row
placed lower r x xs inserted = r ∷ x ∷ xs
placed same r x xs inserted = x ∷ xs
placed higher r x xs inserted = x ∷ inserted

unfoldable pub insert : Row → List Row → List Row
insert r [] = r ∷ []
insert r (x ∷ xs) = placed (order (keys_of r) (keys_of x)) r x xs (insert r xs)

unfoldable pub insert_all : List Row → List Row → List Row
insert_all [] sorted = sorted
insert_all (r ∷ rs) sorted = insert r (insert_all rs sorted)

-- the rows of a condition
unfoldable pub fair_rows : List Row → List Row
fair_rows [] = []
fair_rows (r ∷ rows) = insert_all (fair_row r) (fair_rows rows)
