-- What stands at a place: the sign there, the blanks, and the first sign after them, from the spelling of the rest. Assumes nothing.
use mathlib.Core.Path.{◌≡◌, refl, sym, ap, ◌∙◌, subst}
use mathlib.Core.Logic.{⊎_elim}
use mathlib.Core.Bool.{Bool, true, false}
use mathlib.Core.List.{List, [], ◌∷◌, ◌++◌}
use Prim.Native.Nat.{ℕ, zero, suc, ◌+◌, ◌*◌, ◌≤◌, ◌<◌}
use native.Mathlib.Omega.{arith}
use lib.Dec.{T}
use lib.ListN.{length, drop, drop_of_length-le}
use lib.Seq.{drop-drop, drop-append_seam}
use Rattle.typed.specs.declared.signs.Sign.{Sign}
use Rattle.typed.specs.declared.signs.Sign.TheVariants.{Blank, Digit, Letter, Open, Close, Plus, Minus, Times, Less, Equal, Other}
use Rattle.typed.specs.Signs.{signs, sign_at}
use Rattle.typed.specs.Text.{blanks, digits}
use Rattle.typed.specs.Working.{lead_by, lead, skip, on_digit, digit_count, decimal}
use Rattle.typed.specs.Values.{decimal_of}
use Rattle.typed.proofs.SignLaws.{sign-past, signs-from}
use Rattle.farkas.proofs.Order.{compare}

-- the first sign, and the first that is no blank
unfoldable pub first : List Sign → Sign
first [] = Other
first (x ∷ xs) = x

unfoldable pub head_by : Sign → Sign → Sign
head_by Blank h = h
head_by (Digit d) h = Digit d
head_by (Letter v) h = Letter v
head_by Open h = Open
head_by Close h = Close
head_by Plus h = Plus
head_by Minus h = Minus
head_by Times h = Times
head_by Less h = Less
head_by Equal h = Equal
head_by Other h = Other

unfoldable pub head : List Sign → Sign
head [] = Other
head (x ∷ xs) = head_by x (head xs)

pub lead-blanks : (i : ℕ) (ys : List Sign) → lead (blanks i ++ ys) ≡ i + lead ys
unfolding lead lead_by blanks
lead-blanks zero ys = omega arith
lead-blanks (suc i) ys = let e = lead-blanks i ys in omega arith

pub head-blanks : (i : ℕ) (ys : List Sign) → head (blanks i ++ ys) ≡ head ys
unfolding head head_by blanks
head-blanks zero ys = refl
head-blanks (suc i) ys = head-blanks i ys

pub length-blanks : (i : ℕ) → length (blanks i) ≡ i
unfolding blanks
length-blanks zero = refl
length-blanks (suc i) = ap suc (length-blanks i)

after-lead : (xs : List Sign) → first (drop (lead xs) xs) ≡ head xs
unfolding first lead lead_by head head_by
after-lead [] = refl
after-lead (Blank ∷ xs) = after-lead xs
after-lead (Digit d ∷ xs) = refl
after-lead (Letter v ∷ xs) = refl
after-lead (Open ∷ xs) = refl
after-lead (Close ∷ xs) = refl
after-lead (Plus ∷ xs) = refl
after-lead (Minus ∷ xs) = refl
after-lead (Times ∷ xs) = refl
after-lead (Less ∷ xs) = refl
after-lead (Equal ∷ xs) = refl
after-lead (Other ∷ xs) = refl

signs-drop : (i : ℕ) (xs : List ℕ) → signs (drop i xs) ≡ drop i (signs xs)
unfolding signs
signs-drop zero xs = refl
signs-drop (suc i) [] = refl
signs-drop (suc i) (x ∷ xs) = signs-drop i xs

-- the digits of a spelled number, and no more
unfoldable pub not_digit : Sign → Bool
not_digit Blank = true
not_digit (Digit d) = false
not_digit (Letter v) = true
not_digit Open = true
not_digit Close = true
not_digit Plus = true
not_digit Minus = true
not_digit Times = true
not_digit Less = true
not_digit Equal = true
not_digit Other = true

no_digit : {A : Type 0} (s : Sign) (f : ℕ → A) (x : A) → T (not_digit s) → on_digit s f x ≡ x
unfolding not_digit on_digit
no_digit Blank f x t = refl
no_digit (Digit d) f x t = absurd t
no_digit (Letter v) f x t = refl
no_digit Open f x t = refl
no_digit Close f x t = refl
no_digit Plus f x t = refl
no_digit Minus f x t = refl
no_digit Times f x t = refl
no_digit Less f x t = refl
no_digit Equal f x t = refl
no_digit Other f x t = refl

pub spelled_count : (ds : List ℕ) (rest : List Sign) → T (not_digit (first rest)) → digit_count (digits ds ++ rest) ≡ length ds
unfolding digit_count digits first on_digit
spelled_count [] [] t = refl
spelled_count [] (x ∷ xs) t = no_digit x (λ d. suc (digit_count xs)) zero t
spelled_count (d ∷ ds) rest t = ap suc (spelled_count ds rest t)

pub spelled-decimal : (v : ℕ) (ds : List ℕ) (rest : List Sign) → T (not_digit (first rest)) → decimal v (digits ds ++ rest) ≡ decimal_of v ds
unfolding decimal digits first on_digit decimal_of
spelled-decimal v [] [] t = refl
spelled-decimal v [] (x ∷ xs) t = no_digit x (λ d. decimal (10 * v + d) xs) v t
spelled-decimal v (d ∷ ds) rest t = spelled-decimal (10 * v + d) ds rest t

module _ (text : List ℕ) where
  -- signs that stand at a place, to the end of the text
  abbrev pub Stands : ℕ → List Sign → Type 0
  Stands p xs = signs (drop p text) ≡ xs

  gone : (p : ℕ) → length text ≤ p → signs (drop p text) ≡ []
  unfolding signs
  gone p h = ap signs (drop_of_length-le text h)

  pub sign-here : (p : ℕ) (xs : List Sign) → Stands p xs → sign_at text p ≡ first xs
  unfolding first
  sign-here p xs e = ⊎_elim (λ h. there xs h e) (λ h. sign-past text p h ∙ sym (ap first (sym e ∙ gone p h))) (compare p (length text))
    where
      there : (ys : List Sign) → p < length text → Stands p ys → sign_at text p ≡ first ys
      there [] h f = absurd (let g = signs-from text p h in let z : ◌≡◌ {A = ℕ} 0 1 = cc in omega arith)
      there (y ∷ ys) h f = let g = signs-from text p h in cc

  pub onward : (p i : ℕ) (xs : List Sign) → Stands p xs → Stands (p + i) (drop i xs)
  onward p i xs e = ap signs (sym (drop-drop i p text)) ∙ signs-drop i (drop p text) ∙ ap (drop i) e

  pub past : (p : ℕ) (ys rest : List Sign) → Stands p (ys ++ rest) → Stands (p + length ys) rest
  past p ys rest e = onward p (length ys) (ys ++ rest) e ∙ drop-append_seam ys rest

  pub past_one : (p : ℕ) (y : Sign) (rest : List Sign) → Stands p (y ∷ rest) → Stands (p + 1) rest
  past_one p y rest e = onward p 1 (y ∷ rest) e

  pub past-blanks : (p i : ℕ) (rest : List Sign) → Stands p (blanks i ++ rest) → Stands (p + i) rest
  past-blanks p i rest e = subst (λ n. Stands (p + n) rest) (length-blanks i) (past p (blanks i) rest e)

  pub skip-here : (p i : ℕ) (ys : List Sign) → lead ys ≡ zero → Stands p (blanks i ++ ys) → p + i ≡ skip text p
  unfolding skip
  skip-here p i ys l e = let f = ap lead e in let g = lead-blanks i ys in let z : p + i ≡ p + lead (signs (drop p text)) = omega arith in z

  pub head-here : (p : ℕ) (xs : List Sign) → Stands p xs → sign_at text (skip text p) ≡ head xs
  unfolding skip
  head-here p xs e = ap (λ ys. sign_at text (p + lead ys)) e ∙ sign-here (p + lead xs) (drop (lead xs) xs) (onward p (lead xs) xs e) ∙ after-lead xs
