-- Tests and properties of lists. Assumes nothing.
use Rattle.std.specs.Prelude.{Bool, true, false, ◌&&◌, ◌||◌, List, [], ◌∷◌}

-- every element passes the test
unfoldable pub every : {A : Type 0} → (A → Bool) → List A → Bool
every f [] = true
every f (a ∷ xs) = f a && every f xs

-- some element passes the test
unfoldable pub some : {A : Type 0} → (A → Bool) → List A → Bool
some f [] = false
some f (a ∷ xs) = f a || some f xs

-- a property of every element, built as the list is
pub data All {A : Type 0} (P : A → Type 0) : List A → Type 0 where
  none : All P []
  more : {a : A} {xs : List A} → P a → All P xs → All P (a ∷ xs)
