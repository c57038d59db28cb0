-- Texts and their answers with all their numbers, by computation. Assumes nothing.
use mathlib.Core.Path.{◌≡◌, refl}
use mathlib.Core.List.{List, [], ◌∷◌, ◌++◌, map}
use Prim.Native.Nat.{ℕ, ◌+◌}
use lib.IntN.{ℤ, pos, negsuc}
use lib.ListN.{replicate}
use Rattle.farkas.specs.Lists.{every}
use Rattle.std.specs.Prelude.{Ok}
use Rattle.typed.specs.Signs.{sign_of, signs, sign_at}
use Rattle.typed.specs.Turns.{by_sum, sense_of, by_product, by_close, by_factor}
use Rattle.typed.specs.Scan.{run, passes_by, passes, start, scanned}
use Rattle.typed.specs.Forms.{plus, combined, s32, fit, next, is_zero, varies, joined, product, multiplied, variable_at, number_at, collected, collected_at}
use Rattle.typed.specs.Working.{lead_by, lead, skip, on_digit, digit_count, decimal, whole_at, closed_at, expression_at, sums_at, term_at, products_at, factor_at, row_in, enough, row_at}
use Rattle.typed.specs.Typed.{Answered, count_refused, length_refused, text_refused, value_refused, worked_row, scanned_row, short_row, counted_row, typed_row}

-- bytes
abbrev Text : Type 0
Text = List ℕ

abbrev a : Text
a = 97 ∷ []

abbrev b : Text
b = 98 ∷ []

abbrev c : Text
c = 99 ∷ []

abbrev space : Text
space = 32 ∷ []

abbrev opens : Text
opens = 40 ∷ []

abbrev closes : Text
closes = 41 ∷ []

abbrev times : Text
times = 42 ∷ []

abbrev adds : Text
adds = 43 ∷ []

abbrev minus : Text
minus = 45 ∷ []

abbrev less : Text
less = 60 ∷ []

abbrev equal : Text
equal = 61 ∷ []

abbrev at_most : Text
at_most = 60 ∷ 61 ∷ []

abbrev digits : List ℕ → Text
digits ds = map (λ d. 48 + d) ds

-- 2147483647 and the next number, the first outside s32
abbrev largest : Text
largest = digits (2 ∷ 1 ∷ 4 ∷ 7 ∷ 4 ∷ 8 ∷ 3 ∷ 6 ∷ 4 ∷ 7 ∷ [])

abbrev outside : Text
outside = digits (2 ∷ 1 ∷ 4 ∷ 7 ∷ 4 ∷ 8 ∷ 3 ∷ 6 ∷ 4 ∷ 8 ∷ [])

-- a row in two variables
abbrev row : ℤ → ℤ → ℤ → Answered
row x y bound = Ok (record { coefficients = x ∷ y ∷ replicate 6 (pos 0); bound = bound })

-- n outside 1 to 8 before all else; then the length, whatever the text holds. 255 opening brackets are only cut short
pub tested-first :
    (typed_row 0 a
    ∷ typed_row 9 a
    ∷ typed_row 9 (replicate 256 40)
    ∷ typed_row 8 (replicate 256 33)
    ∷ typed_row 8 (replicate 255 40)
    ∷ [])
    ≡ (count_refused
    ∷ count_refused
    ∷ count_refused
    ∷ length_refused
    ∷ text_refused 255
    ∷ [])
unfolding sign_of signs run passes_by passes start scanned scanned_row short_row counted_row typed_row
tested-first = refl

-- 16: the empty text, `a`, `1 2`, `(a<=1)`, `1< =2`, `1<2`, `a<=1<`, `a)`, `()`, `+a`, `2a`, `i`
pub breaking :
    (typed_row 8 []
    ∷ typed_row 8 a
    ∷ typed_row 8 (digits (1 ∷ []) ++ space ++ digits (2 ∷ []))
    ∷ typed_row 8 (opens ++ a ++ at_most ++ digits (1 ∷ []) ++ closes)
    ∷ typed_row 8 (digits (1 ∷ []) ++ less ++ space ++ equal ++ digits (2 ∷ []))
    ∷ typed_row 8 (digits (1 ∷ []) ++ less ++ digits (2 ∷ []))
    ∷ typed_row 8 (a ++ at_most ++ digits (1 ∷ []) ++ less)
    ∷ typed_row 8 (a ++ closes)
    ∷ typed_row 8 (opens ++ closes)
    ∷ typed_row 8 (adds ++ a)
    ∷ typed_row 8 (digits (2 ∷ []) ++ a)
    ∷ typed_row 8 (105 ∷ [])
    ∷ [])
    ≡ (text_refused 0
    ∷ text_refused 1
    ∷ text_refused 2
    ∷ text_refused 2
    ∷ text_refused 2
    ∷ text_refused 2
    ∷ text_refused 4
    ∷ text_refused 1
    ∷ text_refused 1
    ∷ text_refused 0
    ∷ text_refused 1
    ∷ text_refused 0
    ∷ [])
unfolding sign_of signs run passes_by passes start scanned scanned_row short_row counted_row typed_row
breaking = refl

-- 17: `2147483648<=a`, `-2147483648<=a`, `1+2147483647-1 <= a`, `2*a*3*b<=1`, `a*c<=1`, `a*b<=c`, `-2147483647-1<=a`, with 252 nines, and
-- a letter beyond n in a text that breaks the rules, which is 16
pub valueless :
    (typed_row 2 (outside ++ at_most ++ a)
    ∷ typed_row 2 (minus ++ outside ++ at_most ++ a)
    ∷ typed_row 2 (digits (1 ∷ []) ++ adds ++ largest ++ minus ++ digits (1 ∷ []) ++ space ++ at_most ++ space ++ a)
    ∷ typed_row 2 (digits (2 ∷ []) ++ times ++ a ++ times ++ digits (3 ∷ []) ++ times ++ b ++ at_most ++ digits (1 ∷ []))
    ∷ typed_row 2 (a ++ times ++ c ++ at_most ++ digits (1 ∷ []))
    ∷ typed_row 2 (a ++ times ++ b ++ at_most ++ c)
    ∷ typed_row 2 (minus ++ largest ++ minus ++ digits (1 ∷ []) ++ at_most ++ a)
    ∷ typed_row 2 (replicate 252 57 ++ at_most ++ a)
    ∷ typed_row 2 (c ++ at_most)
    ∷ [])
    ≡ (value_refused 0
    ∷ value_refused 1
    ∷ value_refused 1
    ∷ value_refused 5
    ∷ value_refused 2
    ∷ value_refused 1
    ∷ value_refused 13
    ∷ value_refused 0
    ∷ text_refused 3
    ∷ [])
unfolding every sign_of signs sign_at by_sum sense_of by_product by_close by_factor run passes_by passes start scanned plus combined s32 fit next is_zero varies joined product multiplied variable_at number_at collected collected_at lead_by lead skip on_digit digit_count decimal whole_at closed_at expression_at sums_at term_at products_at factor_at row_in enough row_at worked_row scanned_row short_row counted_row typed_row
valueless = refl

-- rows: `(a-a)*b<=1`, `a<=-2147483647-1`, `2*a - b <= 5` and `-a + 2*b <= -11`, as rows are shown, and ` - -a+3<=2*(b_1)`
pub accepted :
    (typed_row 2 (opens ++ a ++ minus ++ a ++ closes ++ times ++ b ++ at_most ++ digits (1 ∷ []))
    ∷ typed_row 2 (a ++ at_most ++ minus ++ largest ++ minus ++ digits (1 ∷ []))
    ∷ typed_row 2 (digits (2 ∷ []) ++ times ++ a ++ space ++ minus ++ space ++ b ++ space ++ at_most ++ space ++ digits (5 ∷ []))
    ∷ typed_row 2 (minus ++ a ++ space ++ adds ++ space ++ digits (2 ∷ []) ++ times ++ b ++ space ++ at_most ++ space ++ minus ++ digits (1 ∷ 1 ∷ []))
    ∷ typed_row 2 (space ++ minus ++ space ++ minus ++ a ++ adds ++ digits (3 ∷ []) ++ at_most ++ digits (2 ∷ []) ++ times ++ opens ++ b ++ minus ++ digits (1 ∷ []) ++ closes)
    ∷ [])
    ≡ (row (pos 0) (pos 0) (pos 1)
    ∷ row (pos 1) (pos 0) (negsuc 2147483647)
    ∷ row (pos 2) (negsuc 0) (pos 5)
    ∷ row (negsuc 0) (pos 2) (negsuc 10)
    ∷ row (pos 1) (negsuc 1) (negsuc 4)
    ∷ [])
unfolding every sign_of signs sign_at by_sum sense_of by_product by_close by_factor run passes_by passes start scanned plus combined s32 fit next is_zero varies joined product multiplied variable_at number_at collected collected_at lead_by lead skip on_digit digit_count decimal whole_at closed_at expression_at sums_at term_at products_at factor_at row_in enough row_at worked_row scanned_row short_row counted_row typed_row
accepted = refl
