-- A property of every element of a list, built as the list is: from nothing, from an element and the rest, from two parts.
-- It says the same as the property at every place, if a place past the end counts as an element that has it, and, of a test, the
-- same as `every`. Assumes nothing.
use mathlib.Core.Bool.{Bool}
use mathlib.Core.List.{List, [], ◌∷◌, ◌++◌, map}
use Prim.Native.Nat.{ℕ, zero, suc}
use lib.Dec.{T}
use lib.ListN.{get_or}
use mir.Facts.{and_yes, yes_and}
use Rattle.farkas.specs.Lists.{every, All, none, more}

pub all_append : {A : Type 0} {P : A → Type 0} {xs ys : List A} → All P xs → All P ys → All P (xs ++ ys)
all_append none k = k
all_append (more p h) k = more p (all_append h k)

pub all_map : {A B : Type 0} {P : B → Type 0} (f : A → B) {xs : List A} → All (λ a. P (f a)) xs → All P (map f xs)
all_map f none = none
all_map f (more p h) = more p (all_map f h)

pub all-at : {A : Type 0} {P : A → Type 0} {xs : List A} (d : A) → P d → All P xs → (i : ℕ) → P (get_or xs i d)
all-at d z none i = z
all-at d z (more p h) zero = p
all-at d z (more p h) (suc i) = all-at d z h i

pub all_of : {A : Type 0} (P : A → Type 0) (d : A) (xs : List A) → ((i : ℕ) → P (get_or xs i d)) → All P xs
all_of P d [] h = none
all_of P d (a ∷ xs) h = more (h zero) (all_of P d xs (λ i. h (suc i)))

-- the same as a test
pub every-all : {A : Type 0} (f : A → Bool) (xs : List A) → T (every f xs) → All (λ a. T (f a)) xs
unfolding every
every-all f [] t = none
every-all f (a ∷ xs) t = let h = and_yes (f a) (every f xs) t in more h.0 (every-all f xs h.1)

pub all-every : {A : Type 0} (f : A → Bool) {xs : List A} → All (λ a. T (f a)) xs → T (every f xs)
unfolding every
all-every f none = tt
all-every f (more {a = a} {xs = xs} p h) = yes_and (f a) (every f xs) p (all-every f h)
