-- Loops over numbers from 0 on that test each and stop early: the numbers that are left are tested exactly as all are. Assumes nothing.
use mathlib.Core.Path.{◌≡◌, refl, sym, ap, ◌∙◌}
use mathlib.Core.Bool.{Bool, true, false, ◌&&◌, ◌||◌}
use mathlib.Core.List.{List, [], ◌∷◌, map}
use Prim.Native.Nat.{ℕ, zero, suc, ◌+◌, ◌-◌, ◌≤◌, ◌<◌}
use native.Mathlib.Numerals.{add-one}
use native.Mathlib.Omega.{arith}
use denote.Param.Members.{Mut}
use Rattle.std.specs.List.{list_all, list_any, range_with_len}
use Rattle.std.specs.Fn.{Called}
use Rattle.std.specs.Iterator.{ChecksAll, ChecksAny}
use Rattle.std.specs.declared.ops.Range.{Range}
use Rattle.std.proofs.iter.Yields.{nat_range_steps}
use Rattle.std.proofs.lemmas.Iterator.{YieldsList-from_range}
use Rattle.std.proofs.lemmas.Iterator.Search.{all_from_yields_List, any_from_yields_List}
use Rattle.farkas.specs.Lists.{every, some}
use Rattle.formats.specs.Joint.{count_up}
use Rattle.papers.proofs.RowLoops.{left_less, left-none, one_less}

count-first : (k left : ℕ) → 0 < left → count_up k left ≡ k ∷ count_up (k + 1) (left - 1)
unfolding count_up
count-first k zero h = absurd (omega arith)
count-first k (suc left) h = rw (add-one k) (ap (λ (m : ℕ). k ∷ count_up (suc k) m) (one_less left))

module _ (f : ℕ → Bool) where
  module _ (n k : ℕ) (whole r : Bool) (h : k < n) (p : r ≡ f k) where
    each_first : every f (count_up k (n - k)) ≡ (r && every f (count_up (k + 1) (n - (k + 1))))
    unfolding every
    each_first =
        ap (every f) (count-first k (n - k) (omega arith))
        ∙ ap (λ b. b && every f (count_up (k + 1) (n - k - 1))) (sym p)
        ∙ ap (λ (m : ℕ). r && every f (count_up (k + 1) m)) (sym (left_less n k h))

    pub each-pass : r ≡ true → every f (count_up k (n - k)) ≡ whole → every f (count_up (k + 1) (n - (k + 1))) ≡ whole
    each-pass t e = ap (λ b. b && every f (count_up (k + 1) (n - (k + 1)))) (sym t) ∙ sym each_first ∙ e

    pub each-fail : r ≡ false → every f (count_up k (n - k)) ≡ whole → false ≡ whole
    each-fail t e = ap (λ b. b && every f (count_up (k + 1) (n - (k + 1)))) (sym t) ∙ sym each_first ∙ e

  pub each_none : (n k : ℕ) (whole : Bool) → n ≤ k → every f (count_up k (n - k)) ≡ whole → true ≡ whole
  unfolding every count_up
  each_none n k whole h e = ap (λ (m : ℕ). every f (count_up k m)) (left-none n k h) ∙ e

-- `all` and `any` over a range answer as the tests of the numbers that are counted up, where the closure answers each as the test does
all-counted : (f : ℕ → Bool) (k n : ℕ) → list_all f (range_with_len k n) ≡ every f (count_up k n)
unfolding every count_up
all-counted f k zero = refl
all-counted f k (suc n) = ap (λ (m : ℕ). f k && list_all f (range_with_len m n)) (add-one k) ∙ ap (λ b. f k && b) (all-counted f (suc k) n)

any-counted : (f : ℕ → Bool) (k n : ℕ) → list_any f (range_with_len k n) ≡ some f (count_up k n)
unfolding some count_up
any-counted f k zero = refl
any-counted f k (suc n) = ap (λ (m : ℕ). f k || list_any f (range_with_len m n)) (add-one k) ∙ ap (λ b. f k || b) (any-counted f (suc k) n)

module _ {F : Type 0} {g : Mut F (ℕ × Unit {0}) Bool} {f : F} {r : Bool} {u : Range ℕ} (test : ℕ → Bool) where
  pub all-from : (k m n : ℕ) → m - k ≡ n → ChecksAll nat_range_steps g (record { start = k; end = m }) f r u → ((x : ℕ) (b : Bool) (q : F) → Called g f (x, tt) b q → (q ≡ f) × (b ≡ test x)) → r ≡ every test (count_up k n)
  all-from k m n e ran same = all_from_yields_List test _ _ _ ran (YieldsList-from_range k m n refl e) same ∙ all-counted test k n

  pub all-range : (m n : ℕ) → m ≡ n → ChecksAll nat_range_steps g (record { start = 0; end = m }) f r u → ((x : ℕ) (b : Bool) (q : F) → Called g f (x, tt) b q → (q ≡ f) × (b ≡ test x)) → r ≡ every test (count_up 0 n)
  all-range m n e = all-from 0 m n (omega (arith, e))

  pub any-range : (m n : ℕ) → m ≡ n → ChecksAny nat_range_steps g (record { start = 0; end = m }) f r u → ((x : ℕ) (b : Bool) (q : F) → Called g f (x, tt) b q → (q ≡ f) × (b ≡ test x)) → r ≡ some test (count_up 0 n)
  any-range m n e ran same = any_from_yields_List test _ _ _ ran (YieldsList-from_range 0 m n refl (omega (arith, e))) same ∙ any-counted test 0 n

-- a test of all that are left, told step by step, is that of each number that is left
pub each-step : (test whole : ℕ → Bool) (n : ℕ) → whole n ≡ true → ((k : ℕ) → k < n → whole k ≡ (test k && whole (k + 1))) → (k left : ℕ) → k + left ≡ n → every test (count_up k left) ≡ whole k
unfolding every count_up
each-step test whole n last next k zero e = sym last ∙ ap whole (here n k e)
  where
    here : (n k : ℕ) → k + zero ≡ n → n ≡ k
    here n k e = omega arith
each-step test whole n last next k (suc left) e =
    ap (λ b. test k && b) (each-step test whole n last next (suc k) left (omega arith) ∙ ap whole (sym (add-one k))) ∙ sym (next k (omega arith))

-- tests that agree on the numbers
agree-from : (f g : ℕ → Bool) (k n : ℕ) → ((i : ℕ) → k ≤ i → i < k + n → f i ≡ g i) → every f (count_up k n) ≡ every g (count_up k n)
unfolding every count_up
agree-from f g k zero h = refl
agree-from f g k (suc n) h =
    ap (λ b. b && every f (count_up (suc k) n)) (h k (omega arith) (omega arith))
    ∙ ap (λ b. g k && b) (agree-from f g (suc k) n (λ i p q. h i (omega arith) (omega arith)))

pub each-agree : (f g : ℕ → Bool) (n : ℕ) → ((i : ℕ) → i < n → f i ≡ g i) → every f (count_up 0 n) ≡ every g (count_up 0 n)
each-agree f g n h = agree-from f g 0 n (λ i p q. h i (omega arith))

some-agree-from : (f g : ℕ → Bool) (k n : ℕ) → ((i : ℕ) → k ≤ i → i < k + n → f i ≡ g i) → some f (count_up k n) ≡ some g (count_up k n)
unfolding some count_up
some-agree-from f g k zero h = refl
some-agree-from f g k (suc n) h =
    ap (λ b. b || some f (count_up (suc k) n)) (h k (omega arith) (omega arith))
    ∙ ap (λ b. g k || b) (some-agree-from f g (suc k) n (λ i p q. h i (omega arith) (omega arith)))

pub some-agree : (f g : ℕ → Bool) (n : ℕ) → ((i : ℕ) → i < n → f i ≡ g i) → some f (count_up 0 n) ≡ some g (count_up 0 n)
some-agree f g n h = some-agree-from f g 0 n (λ i p q. h i (omega arith))

-- a list that is told by its numbers
pub some-map : {A : Type 0} (f : A → Bool) (g : ℕ → A) (xs : List ℕ) → some f (map g xs) ≡ some (λ i. f (g i)) xs
unfolding some
some-map f g [] = refl
some-map f g (x ∷ xs) = ap (λ b. f (g x) || b) (some-map f g xs)

-- a test that every number passes
pub each-true : (f : ℕ → Bool) (xs : List ℕ) → ((i : ℕ) → f i ≡ true) → true ≡ every f xs
unfolding every
each-true f [] h = refl
each-true f (x ∷ xs) h = each-true f xs h ∙ ap (λ b. b && every f xs) (sym (h x))
