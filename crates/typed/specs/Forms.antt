-- Linear forms (02, order 1): a coefficient for each of eight variables, and a number. Every one of them lies in s32.
-- Working out gives a form and the place reached, or the place of what is refused as 17. Assumes nothing.
use Rattle.std.specs.Prelude.{Bool, cond, not, ◌&&◌, List, [], ◌∷◌, ℕ, ◌+◌, ◌^◌, ltb, ℤ, pos, negsuc, ◌+ℤ◌, ◌*ℤ◌, replicate, set, Option, Some, None, Result, Ok, Err}
use Rattle.std.specs.Int.Signed.{le_z}
use Rattle.farkas.specs.Lists.{every}
use Rattle.typed.specs.declared.forms.Form.{Form}
use Rattle.typed.specs.declared.forms.Worked.{Worked}
use Rattle.typed.specs.declared.forms.Fault.{Fault}

-- the form 0
abbrev pub zero_form : Form
zero_form = record { coefficients = replicate 8 (pos 0); number = pos 0 }

-- a whole number, and a variable, as forms
abbrev pub constant : ℤ → Form
constant z = record { coefficients = replicate 8 (pos 0); number = z }

abbrev pub single : ℕ → Form
single v = record { coefficients = set (replicate 8 (pos 0)) v (pos 1); number = pos 0 }

-- a and m times b, coefficient by coefficient
unfoldable pub plus : ℤ → List ℤ → List ℤ → List ℤ
plus m [] bs = []
plus m (a ∷ xs) [] = a ∷ plus m xs []
plus m (a ∷ xs) (b ∷ bs) = (a +ℤ m *ℤ b) ∷ plus m xs bs

-- the same of forms
unfoldable pub combined : Form → ℤ → Form → Form
combined a m b = record { coefficients = plus m a.coefficients b.coefficients; number = a.number +ℤ m *ℤ b.number }

-- the least number of s32, -2147483648, and the largest
abbrev pub least_number : ℤ
least_number = negsuc 2147483647

abbrev pub largest_number : ℤ
largest_number = pos 2147483647

-- whether a whole number lies in s32
unfoldable pub s32 : ℤ → Bool
s32 z = le_z least_number z && le_z z largest_number

-- the number, if it does
unfoldable pub entry_of : ℤ → Option ℤ
entry_of z = cond (s32 z) (Some z) None

-- worked out as far as a place; refused at a place
abbrev pub Reading : Type 0
Reading = Result Worked Fault

abbrev pub reaches : ℕ → Form → Reading
reaches q x = Ok (record { form = x; next = q })

abbrev pub refused : ℕ → Reading
refused p = Err (record { place = p })

-- "a result outside s32, at the operator, letter or number": each result is tested, its coefficients and its number
unfoldable pub fit : ℕ → ℕ → Form → Reading
fit p q x = cond (every s32 x.coefficients && s32 x.number) (reaches q x) (refused p)

-- what is worked out next, unless something has been refused
unfoldable pub next : Reading → (ℕ → Form → Reading) → Reading
next (Ok w) f = f w.next w.form
next (Err e) f = Err e

-- whether a number is 0
unfoldable pub is_zero : ℤ → Bool
is_zero z = le_z z (pos 0) && le_z (pos 0) z

-- whether a form has a coefficient other than 0
unfoldable pub varies : Form → Bool
varies x = not (every is_zero x.coefficients)

-- left operand, right operand, operator: a right operand that is worked out is joined to the left at the operator's place
unfoldable pub joined : ℕ → Form → ℤ → Reading → Reading
joined p a m w = next w (λ q b. fit p q (combined a m b))

-- "a product whose factors both have a coefficient other than 0"
unfoldable pub product : ℕ → ℕ → Form → Form → Reading
product p q a b =
    cond (varies a)
    (cond (varies b) (refused p) (fit p q (combined zero_form b.number a)))
    (fit p q (combined zero_form a.number b))

-- the same of a right factor that is worked out
unfoldable pub multiplied : ℕ → Form → Reading → Reading
multiplied p a w = next w (λ q b. product p q a b)

-- "a letter beyond n", at the letter
unfoldable pub variable_at : ℕ → ℕ → ℕ → Reading
variable_at n p v = cond (ltb v n) (reaches (p + 1) (single v)) (refused p)

-- a whole number, from one place to another: it is a result too, tested before a minus or a product can change it
unfoldable pub number_at : ℕ → ℕ → ℕ → Reading
number_at p q v = cond (ltb v (2 ^ 31)) (reaches q (constant (pos v))) (refused p)

-- "Variables are collected left, numbers right": the coefficients are those of left minus right, the number that of right minus left
unfoldable pub collected : Form → Form → Form
collected a b = record { coefficients = plus (negsuc 0) a.coefficients b.coefficients; number = b.number +ℤ negsuc 0 *ℤ a.number }

-- the same of a right side that is worked out, at the `<`
unfoldable pub collected_at : ℕ → Form → Reading → Reading
collected_at p a w = next w (λ q b. fit p q (collected a b))
