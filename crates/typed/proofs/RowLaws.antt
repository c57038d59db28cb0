-- The readers work out every row whose spelling is the text: both sides, then the collecting. Assumes nothing.
use mathlib.Core.Path.{◌≡◌, refl, sym, ap, ◌∙◌, subst}
use mathlib.Core.List.{List, [], ◌∷◌, ◌++◌}
use Prim.Native.Nat.{ℕ, zero, suc, ◌+◌, ◌≤◌}
use native.Mathlib.Omega.{arith}
use lib.Dec.{T}
use lib.ListN.{length, drop, length-drop}
use Rattle.typed.specs.declared.signs.Sign.{Sign}
use Rattle.typed.specs.declared.signs.Sign.TheVariants.{Blank, Digit, Letter, Open, Close, Plus, Minus, Times, Less, Equal, Other}
use Rattle.typed.specs.declared.forms.Form.{Form}
use Rattle.typed.specs.Signs.{signs}
use Rattle.typed.specs.Text.{blanks, spell, Comparison, spell_row}
use Rattle.typed.specs.Forms.{Reading, reaches, refused, next, collected_at}
use Rattle.typed.specs.Working.{lead_by, lead, skip, expression_at, row_in, enough, row_at}
use Rattle.typed.specs.Values.{work_expression, work_row}
use Rattle.typed.proofs.SignLaws.{signs-length}
use Rattle.typed.proofs.StandLaws.{first, head, head_by, head-blanks, not_digit, Stands, past, past_one, past-blanks, skip-here}
use Rattle.typed.proofs.TurnLaws.{next-at, next-fault}
use Rattle.typed.proofs.EndLaws.{next-same, sum_count, expression_steps, expression-few, expression-end, row-length}
use Rattle.typed.proofs.TreeLaws.{ends, expression-works, blanks-first}

-- blanks at the end
last-first : (i : ℕ) → T (not_digit (first (blanks i)))
unfolding blanks first not_digit
last-first zero = tt
last-first (suc i) = tt

last-head : (i : ℕ) → T (ends (head (blanks i)))
unfolding blanks head head_by ends
last-head zero = tt
last-head (suc i) = last-head i

-- blanks are no longer than the text
lead-within : (xs : List Sign) → lead xs ≤ length xs
unfolding lead lead_by
lead-within [] = omega arith
lead-within (Blank ∷ xs) = omega (arith, lead-within xs)
lead-within (Digit d ∷ xs) = omega arith
lead-within (Letter v ∷ xs) = omega arith
lead-within (Open ∷ xs) = omega arith
lead-within (Close ∷ xs) = omega arith
lead-within (Plus ∷ xs) = omega arith
lead-within (Minus ∷ xs) = omega arith
lead-within (Times ∷ xs) = omega arith
lead-within (Less ∷ xs) = omega arith
lead-within (Equal ∷ xs) = omega arith
lead-within (Other ∷ xs) = omega arith

pub skip-within : (text : List ℕ) (p : ℕ) → p ≤ length text → skip text p ≤ length text
unfolding skip
skip-within text p h = omega (arith, lead-within (signs (drop p text)), signs-length (drop p text), length-drop p text)

-- the readers' results at the number of steps that a row takes
module _ (n : ℕ) (text : List ℕ) (w : Reading) (l : w ≡ expression_at (enough text) n text 0) where
  pub row-refused : (p : ℕ) → w ≡ refused p → w ≡ row_at n text
  unfolding row_at row_in
  row-refused p r = l ∙ sym (next-fault (expression_at (enough text) n text 0) _ p (sym l ∙ r))

  pub row-collected :
      (v r : Reading) (q place : ℕ) (x : Form)
      → w ≡ reaches q x
      → place ≡ skip text q
      → v ≡ expression_at (enough text) n text (place + 2)
      → r ≡ collected_at place x v
      → r ≡ row_at n text
  unfolding row_at row_in
  row-collected v r q place x e f g h =
      h
      ∙ ap (collected_at place x) g
      ∙ ap (λ p. collected_at p x (expression_at (enough text) n text (p + 2))) f
      ∙ sym (next-at (expression_at (enough text) n text 0) _ q x (sym l ∙ e))

-- a row whose spelling is the text
module _ (n : ℕ) (text : List ℕ) (c : Comparison) (e : spell_row c ≡ signs text) where
  rest : List Sign
  rest = blanks c.beyond ++ (spell c.right ++ blanks c.after)

  after-left : List Sign
  after-left = blanks c.between ++ (Less ∷ (Equal ∷ rest))

  whole : Stands text 0 (blanks c.before ++ (spell c.left ++ after-left))
  unfolding spell_row after-left rest
  whole = sym e

  -- the steps of both sides
  text-length : length text ≡ c.before + length (spell c.left) + c.between + 2 + c.beyond + length (spell c.right) + c.after
  text-length = sym (signs-length text) ∙ ap length (sym e) ∙ row-length c

  steps-left : 2 + expression_steps c.left + sum_count c.left ≤ enough text
  unfolding enough
  steps-left = omega (arith, text-length, expression-few c.left)

  steps-right : 2 + expression_steps c.right + sum_count c.right ≤ enough text
  unfolding enough
  steps-right = omega (arith, text-length, expression-few c.right)

  -- the left side
  left-works : expression_at (enough text) n text 0 ≡ work_expression n c.before c.left
  unfolding after-left not_digit ends head head_by
  left-works =
      expression-works n text c.left (enough text) 0 c.before after-left steps-left (blanks-first c.between Less (Equal ∷ rest) tt) (subst (λ x. T (ends x)) (sym (head-blanks c.between (Less ∷ (Equal ∷ rest)))) tt) whole
      ∙ ap (λ p. work_expression n p c.left) (let z : 0 + c.before ≡ c.before = omega arith in z)

  -- where the left side ends: the place of the `<`, and the right side
  module _ (q : ℕ) (x : Form) (r : work_expression n c.before c.left ≡ reaches q x) where
    left-stands : Stands text q after-left
    left-stands =
        let z : 0 + c.before + length (spell c.left) ≡ q = omega (arith, expression-end c.left n c.before q x r) in
        subst (λ z. Stands text z after-left) z (past text (0 + c.before) (spell c.left) after-left (past-blanks text 0 c.before (spell c.left ++ after-left) whole))

    less-here : skip text q ≡ q + c.between
    unfolding after-left lead lead_by
    less-here = sym (skip-here text q c.between (Less ∷ (Equal ∷ rest)) refl left-stands)

    right-works : expression_at (enough text) n text (skip text q + 2) ≡ work_expression n (q + c.between + 2 + c.beyond) c.right
    unfolding after-left rest
    right-works =
        let a = c.between in
        let st = past_one text (q + a + 1) Equal rest (past_one text (q + a) Less (Equal ∷ rest) (past-blanks text q a (Less ∷ (Equal ∷ rest)) left-stands)) in
        let z : q + a + 1 + 1 ≡ skip text q + 2 = omega (arith, less-here) in
        expression-works n text c.right (enough text) (skip text q + 2) c.beyond (blanks c.after) steps-right (last-first c.after) (last-head c.after) (subst (λ z. Stands text z rest) z st)
        ∙ ap (λ p. work_expression n (p + 2 + c.beyond) c.right) less-here

  -- a row is worked out to what its tree is worth
  pub row-works : row_at n text ≡ work_row n c
  unfolding row_at row_in work_row
  row-works =
      ap (λ w. next w (λ q x. collected_at (skip text q) x (expression_at (enough text) n text (skip text q + 2)))) left-works
      ∙ next-same (work_expression n c.before c.left) _ _ λ q x r.
      ap (collected_at (skip text q) x) (right-works q x r)
      ∙ ap (λ p. collected_at p x (work_expression n (q + c.between + 2 + c.beyond) c.right)) (less-here q x r)
