-- Which sign a byte is, and what the arms of a match that names some signs say of the others. Assumes nothing.
use mathlib.Core.Path.{◌≡◌, refl, ap}
use mathlib.Core.List.{List, [], ◌∷◌}
use Prim.Native.Nat.{ℕ, suc, ◌+◌, ◌≤◌, ◌<◌}
use native.Mathlib.Numerals.{add-one}
use lib.ListN.{length, drop, get_or-eq_default}
use lib.Seq.{drop-cons}
use Rattle.typed.specs.declared.signs.Sign.TheVariants.{Other}
use Rattle.typed.specs.Signs.{sign_of, signs, sign_at}

-- past the end there is no sign
pub sign-past : (text : List ℕ) (p : ℕ) → length text ≤ p → sign_at text p ≡ Other
unfolding sign_at sign_of
sign-past text p h = ap sign_of (get_or-eq_default text 0 h)

-- the text's signs from a place
pub signs-from : (text : List ℕ) (p : ℕ) → p < length text → signs (drop p text) ≡ sign_at text p ∷ signs (drop (p + 1) text)
unfolding signs sign_at
signs-from text p h = rw (add-one, drop-cons text p 0 h)

pub signs-length : (xs : List ℕ) → length (signs xs) ≡ length xs
unfolding signs
signs-length [] = refl
signs-length (x ∷ xs) = ap suc (signs-length xs)
