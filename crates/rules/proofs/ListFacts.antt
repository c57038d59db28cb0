-- What several parts of the marking say of any list and of any test: lists that are joined, numbers that are counted up, and tests of
-- which one is settled. Assumes nothing.
use mathlib.Core.Path.{◌≡◌, refl, sym, ap, ap₂, ◌∙◌}
use mathlib.Core.Bool.{Bool, true, false, cond, not, ◌&&◌, ◌||◌}
use mathlib.Core.List.{List, [], ◌∷◌, ◌++◌, map, append_assoc, map-append}
use Prim.Native.Nat.{ℕ, zero, suc, ◌*◌, ◌≤◌, ◌<◌}
use native.Mathlib.Omega.{arith}
use borrow.Author.Tests.{not-true, not-false}
use lib.Dec.{T}
use lib.ListN.{length, get_or, length-append}
use Rattle.farkas.specs.Lists.{every}
use Rattle.formats.specs.Joint.{those, count_up, join_all}

-- lists that are joined
pub joined-few : {A B : Type 0} (f : A → List B) (b : ℕ) → ((a : A) → length (f a) ≤ b) → (xs : List A) → length (join_all f xs) ≤ b * length xs
unfolding join_all
joined-few f b h [] = omega arith
joined-few f b h (x ∷ xs) = omega (arith, length-append (f x) (join_all f xs), h x, joined-few f b h xs)

joined-both : {A B : Type 0} (f : A → List B) (xs ys : List A) → join_all f (xs ++ ys) ≡ join_all f xs ++ join_all f ys
unfolding join_all
joined-both f [] ys = refl
joined-both f (x ∷ xs) ys = ap (λ zs. f x ++ zs) (joined-both f xs ys) ∙ sym (append_assoc (f x) (join_all f xs) (join_all f ys))

pub joined-twice : {A B C : Type 0} (g : B → List C) (f : A → List B) (xs : List A) → join_all g (join_all f xs) ≡ join_all (λ a. join_all g (f a)) xs
unfolding join_all
joined-twice g f [] = refl
joined-twice g f (x ∷ xs) = joined-both g (f x) (join_all f xs) ∙ ap (λ zs. join_all g (f x) ++ zs) (joined-twice g f xs)

pub joined-alike : {A B : Type 0} (f g : A → List B) (xs : List A) → ((a : A) → f a ≡ g a) → join_all f xs ≡ join_all g xs
unfolding join_all
joined-alike f g [] h = refl
joined-alike f g (x ∷ xs) h = ap₂ (λ us vs. us ++ vs) (h x) (joined-alike f g xs h)

pub joined-told : {A B C : Type 0} (g : B → C) (f : A → List B) (xs : List A) → map g (join_all f xs) ≡ join_all (λ a. map g (f a)) xs
unfolding join_all
joined-told g f [] = refl
joined-told g f (x ∷ xs) = map-append g (f x) (join_all f xs) ∙ ap (λ ys. map g (f x) ++ ys) (joined-told g f xs)

-- the elements that pass a test, joined or tested: each element by itself
one-joined : {A B : Type 0} (f : A → List B) (b : Bool) (x : A) (rest : List A) → join_all f (cond b (x ∷ rest) rest) ≡ cond b (f x) [] ++ join_all f rest
unfolding join_all
one-joined f true x rest = refl
one-joined f false x rest = refl

pub joined-those : {A B : Type 0} (f : A → List B) (test : A → Bool) (xs : List A) → join_all f (those test xs) ≡ join_all (λ a. cond (test a) (f a) []) xs
unfolding join_all those
joined-those f test [] = refl
joined-those f test (x ∷ xs) = one-joined f (test x) x (those test xs) ∙ ap (λ zs. cond (test x) (f x) [] ++ zs) (joined-those f test xs)

one-tested : {A : Type 0} (f : A → Bool) (b : Bool) (x : A) (rest : List A) → every f (cond b (x ∷ rest) rest) ≡ ((not b || f x) && every f rest)
unfolding every
one-tested f true x rest = refl
one-tested f false x rest = refl

pub every-those : {A : Type 0} (f test : A → Bool) (xs : List A) → every f (those test xs) ≡ every (λ a. not (test a) || f a) xs
unfolding every those
every-those f test [] = refl
every-those f test (x ∷ xs) = one-tested f (test x) x (those test xs) ∙ ap (λ (b : Bool). (not (test x) || f x) && b) (every-those f test xs)

-- numbers that are counted up
pub count-length : (k n : ℕ) → length (count_up k n) ≡ n
unfolding count_up
count-length k zero = refl
count-length k (suc n) = ap suc (count-length (suc k) n)

-- an element that is there, whatever stands for a missing one
pub there : {A : Type 0} (xs : List A) (i : ℕ) (d e : A) → i < length xs → get_or xs i d ≡ get_or xs i e
there [] i d e h = absurd (omega arith)
there (x ∷ xs) zero d e h = refl
there (x ∷ xs) (suc i) d e h = there xs i d e (omega arith)

-- a test that passed
pub is_true : (b : Bool) → T b → b ≡ true
is_true true t = refl
is_true false t = absurd t

-- what a call that the code tests with `!` answered
pub test-failed : (r : Bool) {b : Bool} → not r ≡ true → r ≡ b → false ≡ b
test-failed r h e = sym (not-true r h) ∙ e

pub test-passed : (r : Bool) {b : Bool} → not r ≡ false → r ≡ b → true ≡ b
test-passed r h e = sym (not-false r h) ∙ e

-- tests in a row, by the first that fails
pub first-fails : (a b : Bool) → false ≡ a → false ≡ (a && b)
first-fails a b p = ap (λ x. x && b) p

pub first_passes : (a b : Bool) {r : Bool} → true ≡ a → r ≡ b → r ≡ (a && b)
first_passes a b p q = q ∙ ap (λ x. x && b) p
