-- The signs of a typed row (02, order 1). Assumes nothing.
use Rattle.std.specs.Prelude.{cond, List, map, ℕ, ◌-◌, leb, eqb, get_or}
use Rattle.typed.specs.declared.signs.Sign.{Sign}
use Rattle.typed.specs.declared.signs.Sign.TheVariants.{Blank, Digit, Letter, Open, Close, Plus, Minus, Times, Less, Equal, Other}

-- the sign that a byte is: a space, `(`, `)`, `*`, `+`, `-`, `<`, `=`, the digits 0 to 9, the letters a to h, or none
unfoldable pub sign_of : ℕ → Sign
sign_of b =
    cond (eqb b 32) Blank
    (cond (eqb b 40) Open
    (cond (eqb b 41) Close
    (cond (eqb b 42) Times
    (cond (eqb b 43) Plus
    (cond (eqb b 45) Minus
    (cond (eqb b 60) Less
    (cond (eqb b 61) Equal
    (cond (leb 48 b) (cond (leb b 57) (Digit (b - 48)) (cond (leb 97 b) (cond (leb b 104) (Letter (b - 97)) Other) Other)) Other))))))))

unfoldable pub signs : List ℕ → List Sign
signs text = map sign_of text

-- the sign at a place; past the end there is none
unfoldable pub sign_at : List ℕ → ℕ → Sign
sign_at text p = sign_of (get_or text p 0)
