-- The rules of a typed row (02, order 1), and where a text breaks them: "whole numbers (any run of digits), letters a to h for variables,
-- round brackets, `+`, `-`, `*` and one `<=` between two expressions; spaces may stand between them and at either end. A minus before a
-- factor binds first and may repeat, then `*`, then `+` and `-`, equals from the left. A bracket holds a whole expression again."
-- Assumes nothing.
use Rattle.std.specs.Prelude.{◌≡◌, List, [], ◌∷◌, ◌++◌, map, ℕ, zero, suc, ◌≤◌, ◌<◌, length, take}
use Rattle.typed.specs.declared.signs.Sign.{Sign}
use Rattle.typed.specs.declared.signs.Sign.TheVariants.{Blank, Digit, Letter, Open, Close, Plus, Minus, Times, Less, Equal}
use Rattle.typed.specs.Signs.{signs}

-- Trees keep the numbers of blanks between their signs, so that a tree is spelled in one way. "Equals from the left": the left operand of
-- a sum is a sum again, the right one is not
mutual
  pub data Expression : Type 0 where
    term : Term → Expression
    sum : Expression → ℕ → ℕ → Term → Expression
    difference : Expression → ℕ → ℕ → Term → Expression

  pub data Term : Type 0 where
    factor : Factor → Term
    product : Term → ℕ → ℕ → Factor → Term

  pub data Factor : Type 0 where
    number : ℕ → List ℕ → Factor
    variable : ℕ → Factor
    bracket : ℕ → Expression → ℕ → Factor
    negative : ℕ → Factor → Factor

unfoldable pub blanks : ℕ → List Sign
blanks zero = []
blanks (suc n) = Blank ∷ blanks n

unfoldable pub digits : List ℕ → List Sign
digits ds = map Digit ds

unfoldable mutual
  pub spell : Expression → List Sign
  spell (term t) = spell_term t
  spell (sum e n m t) = spell e ++ (blanks n ++ (Plus ∷ (blanks m ++ spell_term t)))
  spell (difference e n m t) = spell e ++ (blanks n ++ (Minus ∷ (blanks m ++ spell_term t)))

  pub spell_term : Term → List Sign
  spell_term (factor f) = spell_factor f
  spell_term (product t n m f) = spell_term t ++ (blanks n ++ (Times ∷ (blanks m ++ spell_factor f)))

  pub spell_factor : Factor → List Sign
  spell_factor (number d ds) = Digit d ∷ digits ds
  spell_factor (variable v) = Letter v ∷ []
  spell_factor (bracket n e m) = Open ∷ (blanks n ++ (spell e ++ (blanks m ++ (Close ∷ []))))
  spell_factor (negative n f) = Minus ∷ (blanks n ++ spell_factor f)

-- one `<=` between two expressions; blanks at either end
pub record Comparison : Type 0 where
  pub before : ℕ
  pub left : Expression
  pub between : ℕ
  pub beyond : ℕ
  pub right : Expression
  pub after : ℕ

unfoldable pub spell_row : Comparison → List Sign
spell_row c =
    blanks c.before
    ++ (spell c.left
    ++ (blanks c.between
    ++ (Less ∷ (Equal ∷ (blanks c.beyond ++ (spell c.right ++ blanks c.after))))))

-- what a text spells
abbrev pub Spells : List ℕ → Comparison → Type 0
Spells text c = spell_row c ≡ signs text

-- a text that keeps the rules
pub record Valid (text : List ℕ) : Type 0 where
  pub row : Comparison
  pub spelled : Spells text row

-- some ending of any length mends it
pub record Mendable (text : List ℕ) : Type 0 where
  pub ending : List ℕ
  pub mended : Valid (text ++ ending)

-- where a text breaks the rules: "at the first byte no ending of any length could mend (its length if cut short)"
pub record Breaks (text : List ℕ) (p : ℕ) : Type 0 where
  pub invalid : Valid text → ⊥
  pub within : p ≤ length text
  pub mendable : Mendable (take p text)
  pub first : p < length text → Mendable (take (suc p) text) → ⊥
