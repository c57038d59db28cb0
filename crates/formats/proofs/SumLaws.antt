-- Laws of sums over lists, and over numbers from one on. Assumes nothing.
use mathlib.Core.Path.{◌≡◌, refl, sym, ap, ap₂, ◌∙◌}
use mathlib.Core.Bool.{Bool, true, false, cond}
use mathlib.Core.List.{List, [], ◌∷◌, ◌++◌, map}
use Prim.Native.Nat.{ℕ, zero, suc, ◌+◌, ◌*◌, ◌-◌, ◌≤◌, ◌<◌}
use native.Mathlib.Decide.{ℕ_discrete}
use native.Mathlib.Nat.{add_assoc, zero-mul, suc-mul}
use native.Mathlib.Numerals.{add-one}
use native.Mathlib.Omega.{arith}
use lib.Dec.{eqb}
use borrow.Author.Tests.{eq-eqb, ne_eqb}
use lib.ListN.{length, get_or}
use Rattle.formats.specs.Joint.{bit, count_up, join_all, numbers_from}
use Rattle.formats.specs.JointTotals.{sum_over}

module _ {A : Type 0} (f : A → ℕ) where
  pub sum-append : (xs ys : List A) → sum_over f (xs ++ ys) ≡ sum_over f xs + sum_over f ys
  unfolding sum_over
  sum-append [] ys = omega arith
  sum-append (a ∷ xs) ys = omega (arith, sum-append xs ys)

  pub sum_same : (g : A → ℕ) → ((a : A) → f a ≡ g a) → (xs : List A) → sum_over f xs ≡ sum_over g xs
  unfolding sum_over
  sum_same g h [] = refl
  sum_same g h (a ∷ xs) = omega (arith, h a, sum_same g h xs)

  pub sum-plus : (g : A → ℕ) (xs : List A) → sum_over (λ a. f a + g a) xs ≡ sum_over f xs + sum_over g xs
  unfolding sum_over
  sum-plus g [] = omega arith
  sum-plus g (a ∷ xs) = omega (arith, sum-plus g xs)

  pub sum-times : (k : ℕ) (xs : List A) → sum_over (λ a. f a * k) xs ≡ sum_over f xs * k
  unfolding sum_over
  sum-times k [] = omega arith
  sum-times k (a ∷ xs) = omega (arith, sum-times k xs)

  pub sum-before : (k : ℕ) (xs : List A) → sum_over (λ a. k * f a) xs ≡ k * sum_over f xs
  unfolding sum_over
  sum-before k [] = omega arith
  sum-before k (a ∷ xs) = omega (arith, sum-before k xs)

pub sum-none : {A : Type 0} (xs : List A) → sum_over (λ a. 0) xs ≡ 0
unfolding sum_over
sum-none [] = refl
sum-none (a ∷ xs) = omega (arith, sum-none xs)

pub sum-length : {A : Type 0} (xs : List A) → length xs ≡ sum_over (λ a. 1) xs
unfolding sum_over
sum-length [] = refl
sum-length (a ∷ xs) = omega (arith, sum-length xs)

pub sum-map : {A B : Type 0} (f : B → ℕ) (g : A → B) (xs : List A) → sum_over f (map g xs) ≡ sum_over (λ a. f (g a)) xs
unfolding sum_over
sum-map f g [] = refl
sum-map f g (a ∷ xs) = omega (arith, sum-map f g xs)

pub sum-joined : {A B : Type 0} (f : B → ℕ) (g : A → List B) (xs : List A) → sum_over f (join_all g xs) ≡ sum_over (λ a. sum_over f (g a)) xs
unfolding sum_over join_all
sum-joined f g [] = refl
sum-joined f g (a ∷ xs) = omega (arith, sum-append f (g a) (join_all g xs), sum-joined f g xs)

pub sum-swap : {A B : Type 0} (f : A → B → ℕ) (xs : List A) (ys : List B) → sum_over (λ a. sum_over (λ b. f a b) ys) xs ≡ sum_over (λ b. sum_over (λ a. f a b) xs) ys
unfolding sum_over
sum-swap f [] ys = sym (sum-none ys)
sum-swap f (a ∷ xs) ys =
    ap (λ (n : ℕ). sum_over (λ b. f a b) ys + n) (sum-swap f xs ys) ∙ sym (sum-plus (λ b. f a b) (λ b. sum_over (λ a. f a b) xs) ys)

-- numbers from one on
pub sum_below : (f g : ℕ → ℕ) (i n : ℕ) → ((k : ℕ) → k < i + n → f k ≡ g k) → sum_over f (count_up i n) ≡ sum_over g (count_up i n)
unfolding sum_over count_up
sum_below f g i zero h = refl
sum_below f g i (suc n) h = omega (arith, h i (omega arith), sum_below f g (suc i) n (λ k l. h k (omega arith)))

pub sum-shift : (f : ℕ → ℕ) (i j n : ℕ) → sum_over f (count_up (i + j) n) ≡ sum_over (λ k. f (i + k)) (count_up j n)
unfolding sum_over count_up
sum-shift f i j zero = refl
sum-shift f i j (suc n) =
    ap (λ (k : ℕ). f (i + j) + sum_over f (count_up k n)) (next i j) ∙ ap (λ (k : ℕ). f (i + j) + k) (sum-shift f i (suc j) n)
  where
    next : (i j : ℕ) → suc (i + j) ≡ i + suc j
    next i j = omega arith

pub sum-split : (f : ℕ → ℕ) (i m n : ℕ) → sum_over f (count_up i (m + n)) ≡ sum_over f (count_up i m) + sum_over f (count_up (i + m) n)
unfolding sum_over count_up
sum-split f i zero n = ap₂ (λ (k l : ℕ). sum_over f (count_up k l)) (same i) (none n) ∙ sym (none (sum_over f (count_up (i + 0) n)))
  where
    none : (n : ℕ) → 0 + n ≡ n
    none n = omega arith

    same : (i : ℕ) → i ≡ i + 0
    same i = omega arith
sum-split f i (suc m) n =
    ap (λ (k : ℕ). sum_over f (count_up i k)) (next m n)
    ∙ ap (λ (k : ℕ). f i + k) (sum-split f (suc i) m n)
    ∙ ap (λ (k : ℕ). f i + (sum_over f (count_up (suc i) m) + sum_over f (count_up k n))) (moved i m)
    ∙ sym (add_assoc (f i) (sum_over f (count_up (suc i) m)) (sum_over f (count_up (i + suc m) n)))
  where
    next : (m n : ℕ) → suc m + n ≡ suc (m + n)
    next m n = omega arith

    moved : (i m : ℕ) → suc i + m ≡ i + suc m
    moved i m = omega arith

-- a number by its two digits
pub sum-digits : (f : ℕ → ℕ) (i m n : ℕ) → sum_over f (count_up (i * n) (m * n)) ≡ sum_over (λ a. sum_over (λ b. f (a * n + b)) (count_up 0 n)) (count_up i m)
unfolding sum_over count_up
sum-digits f i zero n = ap (λ (k : ℕ). sum_over f (count_up (i * n) k)) (zero-mul n)
sum-digits f i (suc m) n =
    ap (λ (k : ℕ). sum_over f (count_up (i * n) k)) (more m n)
    ∙ sum-split f (i * n) n (m * n)
    ∙ ap₂ (λ (k l : ℕ). sum_over f (count_up k n) + sum_over f (count_up l (m * n))) (same (i * n)) (next i n)
    ∙ ap₂ (λ (k l : ℕ). k + l) (sum-shift f (i * n) 0 n) (sum-digits f (suc i) m n)
  where
    more : (m n : ℕ) → suc m * n ≡ n + m * n
    more m n = omega (arith, suc-mul m n)

    same : (i : ℕ) → i ≡ i + 0
    same i = omega arith

    next : (i n : ℕ) → i * n + n ≡ suc i * n
    next i n = omega (arith, suc-mul i n)

-- of a test for one number only that number's turn is left
bit-one : (x y : ℕ) → x ≡ y → bit (eqb x y) ≡ 1
unfolding bit
bit-one x y h = ap bit (eq-eqb x y h)

bit-none : (x y : ℕ) → (x ≡ y → ⊥) → bit (eqb x y) ≡ 0
unfolding bit
bit-none x y h = ap bit (ne_eqb x y h)

turn-none : (b v rest : ℕ) → b ≡ 0 → b * v + rest ≡ rest
turn-none b v rest h = rw (h, zero-mul v) (omega arith)

turn_one : (b v rest : ℕ) → b ≡ 1 → rest ≡ 0 → b * v + rest ≡ v
turn_one b v rest h k = rw (h, k) (omega arith)

pick-gone : (x : ℕ) (g : ℕ → ℕ) (i n : ℕ) → x < i → sum_over (λ m. bit (eqb x m) * g m) (count_up i n) ≡ 0
unfolding sum_over count_up
pick-gone x g i zero h = refl
pick-gone x g i (suc n) h =
    turn-none (bit (eqb x i)) (g i) (sum_over (λ m. bit (eqb x m) * g m) (count_up (suc i) n)) (bit-none x i (λ e. omega arith))
    ∙ pick-gone x g (suc i) n (omega arith)

pub sum-pick : (x : ℕ) (g : ℕ → ℕ) (i n : ℕ) → i ≤ x → x < i + n → sum_over (λ m. bit (eqb x m) * g m) (count_up i n) ≡ g x
unfolding sum_over count_up
sum-pick x g i zero h l = absurd (omega arith)
sum-pick x g i (suc n) h l = go (ℕ_discrete x i) (λ k. sum-pick x g (suc i) n k (omega arith))
  where
    rest : ℕ
    rest = sum_over (λ m. bit (eqb x m) * g m) (count_up (suc i) n)

    go : Dec (x ≡ i) → (suc i ≤ x → rest ≡ g x) → bit (eqb x i) * g i + rest ≡ g x
    go (yes e) later = turn_one (bit (eqb x i)) (g i) rest (bit-one x i e) (pick-gone x g (suc i) n (omega arith)) ∙ ap g (sym e)
    go (no d) later = turn-none (bit (eqb x i)) (g i) rest (bit-none x i d) ∙ later (omega (arith, d))

-- the numbers of the elements that pass a test
test-step : (b : Bool) (v : ℕ) (h : ℕ → ℕ) (i : ℕ) (rest : List ℕ) → h i ≡ v → sum_over h (cond b (i ∷ rest) rest) ≡ bit b * v + sum_over h rest
unfolding bit sum_over
test-step true v h i rest e = omega (arith, e)
test-step false v h i rest e = omega arith

pub sum-numbers : {A : Type 0} (h : ℕ → ℕ) (g : A → ℕ) (test : A → Bool) (d : A) (i : ℕ) (xs : List A) → ((j : ℕ) → j < length xs → h (i + j) ≡ g (get_or xs j d)) → sum_over h (numbers_from i test xs) ≡ sum_over (λ x. bit (test x) * g x) xs
unfolding sum_over numbers_from
sum-numbers h g test d i [] e = refl
sum-numbers h g test d i (x ∷ xs) e =
    test-step (test x) (g x) h i (numbers_from (suc i) test xs) (ap h (same i) ∙ e 0 (omega arith))
    ∙ ap (λ (n : ℕ). bit (test x) * g x + n) (sum-numbers h g test d (suc i) xs (λ j l. ap h (moved i j) ∙ e (suc j) (omega arith)))
  where
    same : (i : ℕ) → i ≡ i + 0
    same i = omega arith

    moved : (i j : ℕ) → suc i + j ≡ i + suc j
    moved i j = omega arith

-- a sum that is 0 has no other part
left-zero : (a b : ℕ) → a + b ≡ 0 → a ≡ 0
left-zero a b h = omega arith

right_zero : (a b : ℕ) → a + b ≡ 0 → b ≡ 0
right_zero a b h = omega arith

pub sum-zero : (f : ℕ → ℕ) (i n : ℕ) → sum_over f (count_up i n) ≡ 0 → (k : ℕ) → i ≤ k → k < i + n → f k ≡ 0
unfolding sum_over count_up
sum-zero f i zero h k a b = absurd (omega arith)
sum-zero f i (suc n) h k a b = go (ℕ_discrete i k) (λ l. sum-zero f (suc i) n (right_zero (f i) (sum_over f (count_up (suc i) n)) h) k l (omega arith))
  where
    go : Dec (i ≡ k) → (suc i ≤ k → f k ≡ 0) → f k ≡ 0
    go (yes e) later = ap f (sym e) ∙ left-zero (f i) (sum_over f (count_up (suc i) n)) h
    go (no d) later = later (omega (arith, d))

-- one number after the other: a turn, and how large the sum gets
pub sum-next : (f : ℕ → ℕ) (i n count : ℕ) → n ≡ f i → count ≡ sum_over f (count_up 0 i) → count + n ≡ sum_over f (count_up 0 (i + 1))
unfolding sum_over count_up
sum-next f i n count p q = let last : f (0 + i) ≡ f i = ap f (none i) in sym (sum-split f 0 i 1 ∙ omega (arith, p, q, last))
  where
    none : (i : ℕ) → 0 + i ≡ i
    none i = omega arith

pub sum-most : (f : ℕ → ℕ) (most : ℕ) → ((i : ℕ) → f i ≤ most) → (n : ℕ) → sum_over f (count_up 0 n) ≤ n * most
unfolding sum_over count_up
sum-most f most h zero = omega arith
sum-most f most h (suc n) =
    let all = ap (λ (k : ℕ). sum_over f (count_up 0 k)) (sym (add-one n)) ∙ sum-split f 0 n 1 in
    omega (arith, all, sum-most f most h n, h (0 + n))

-- no part is more than the sum
pub sum-part : (f : ℕ → ℕ) (i n k : ℕ) → i ≤ k → k < i + n → f k ≤ sum_over f (count_up i n)
unfolding sum_over count_up
sum-part f i zero k a b = absurd (omega arith)
sum-part f i (suc n) k a b = go (ℕ_discrete i k) (λ l. sum-part f (suc i) n k l (omega arith))
  where
    go : Dec (i ≡ k) → (suc i ≤ k → f k ≤ sum_over f (count_up (suc i) n)) → f k ≤ f i + sum_over f (count_up (suc i) n)
    go (yes e) later = omega (arith, ap f e)
    go (no d) later = omega (arith, later (omega (arith, d)))

-- nor is what comes first
pub sum_first : (f : ℕ → ℕ) (m n : ℕ) → m ≤ n → sum_over f (count_up 0 m) ≤ sum_over f (count_up 0 n)
sum_first f m n h =
    let all = ap (λ (k : ℕ). sum_over f (count_up 0 k)) (parted m n h) ∙ sum-split f 0 m (n - m) in
    omega (arith, all)
  where
    parted : (m n : ℕ) → m ≤ n → n ≡ m + (n - m)
    parted m n h = omega arith
