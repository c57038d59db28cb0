-- One law for every loop that reads: what has been read, put in front of what is still to come from here, is the whole. A turn, a
-- refusal and the end each follow. The values are told by a function of their number, since the code keeps them in an index.
-- Assumes nothing.
use mathlib.Core.Path.{◌≡◌, refl, sym, ap, ◌∙◌}
use mathlib.Core.List.{List, [], ◌∷◌, ◌++◌, map, append-nil, append_assoc}
use Prim.Native.Nat.{ℕ, zero, suc, ◌+◌, ◌-◌, ◌≤◌, ◌<◌}
use native.Mathlib.Numerals.{add-one}
use native.Mathlib.Omega.{arith}
use Rattle.formats.specs.Reading.{Got, got, refused, Reader, and_then, ◌>>=◌, give, many}
use Rattle.formats.specs.Joint.{count_up}

-- values in front of those that a reading gives
unfoldable pub onto : {A : Type 0} → List A → Got (List A) → Got (List A)
onto xs (got ys p) = got (xs ++ ys) p
onto xs (refused number place) = refused number place

-- the values of the numbers below n
unfoldable pub up_to : {A : Type 0} → (ℕ → A) → ℕ → List A
up_to f n = map f (count_up 0 n)

map_same : {A : Type 0} (f g : ℕ → A) (k n : ℕ) → ((j : ℕ) → k ≤ j → j < k + n → f j ≡ g j) → map f (count_up k n) ≡ map g (count_up k n)
unfolding count_up
map_same f g k zero h = refl
map_same f g k (suc n) h =
    let one : f k ≡ g k = h k (omega arith) (omega arith) in
    let rest : map f (count_up (suc k) n) ≡ map g (count_up (suc k) n) = map_same f g (suc k) n (λ j a b. h j (omega arith) (omega arith)) in
    cc

pub up-to-same : {A : Type 0} (f g : ℕ → A) (n : ℕ) → ((j : ℕ) → j < n → f j ≡ g j) → up_to f n ≡ up_to g n
unfolding up_to
up-to-same f g n h = map_same f g 0 n (λ j a b. h j (omega arith))

count-snoc : (k n : ℕ) → count_up k (suc n) ≡ count_up k n ++ ((k + n) ∷ [])
unfolding count_up
count-snoc k zero = ap (λ (i : ℕ). i ∷ []) (nothing k)
  where
    nothing : (k : ℕ) → k ≡ k + 0
    nothing k = omega arith
count-snoc k (suc n) = ap (λ xs. k ∷ xs) (count-snoc (suc k) n ∙ ap (λ (i : ℕ). count_up (suc k) n ++ (i ∷ [])) (one_more k n))
  where
    one_more : (k n : ℕ) → suc k + n ≡ k + suc n
    one_more k n = omega arith

map-append : {A : Type 0} (f : ℕ → A) (xs ys : List ℕ) → map f (xs ++ ys) ≡ map f xs ++ map f ys
map-append f [] ys = refl
map-append f (x ∷ xs) ys = ap (λ zs. f x ∷ zs) (map-append f xs ys)

pub up-to-snoc : {A : Type 0} (f : ℕ → A) (n : ℕ) → up_to f (suc n) ≡ up_to f n ++ (f n ∷ [])
unfolding up_to
up-to-snoc f n =
    ap (map f) (count-snoc 0 n) ∙ map-append f (count_up 0 n) ((0 + n) ∷ []) ∙ ap (λ (i : ℕ). map f (count_up 0 n) ++ (f i ∷ [])) (from_zero n)
  where
    from_zero : (n : ℕ) → 0 + n ≡ n
    from_zero n = omega arith

pub onto-nil : {A : Type 0} (g : Got (List A)) → onto [] g ≡ g
unfolding onto
onto-nil (got ys p) = refl
onto-nil (refused number place) = refl

pub onto-cons : {A : Type 0} (xs : List A) (a : A) (g : Got (List A)) (s : List ℕ) → onto xs (and_then g (λ rest. give (a ∷ rest)) s) ≡ onto (xs ++ (a ∷ [])) g
unfolding onto and_then give
onto-cons xs a (got ys p) s = ap (λ zs. got zs p) (sym (append_assoc xs (a ∷ []) ys))
onto-cons xs a (refused number place) s = refl

module _ {A : Type 0} (r : Reader A) (count : ℕ) (s : List ℕ) (whole : Got (List A)) where
  -- i values are read, told by f, and the rest is read from p on
  abbrev pub Reading : (ℕ → A) → ℕ → ℕ → Type 0
  Reading f i p = onto (up_to f i) (many (count - i) r s p) ≡ whole

  pub reading-starts : (f : ℕ → A) (p : ℕ) → many count r s p ≡ whole → Reading f 0 p
  unfolding up_to count_up
  reading-starts f p e = onto-nil (many (count - 0) r s p) ∙ ap (λ (n : ℕ). many n r s p) (all count) ∙ e
    where
      all : (n : ℕ) → n - 0 ≡ n
      all n = omega arith

  -- a turn
  turn : (n : ℕ) (f g : ℕ → A) (i p next : ℕ) → onto (up_to f i) (many (suc n) r s p) ≡ whole → r s p ≡ got (g i) next → ((j : ℕ) → j < i → g j ≡ f j) → onto (up_to g (suc i)) (many n r s next) ≡ whole
  unfolding many ◌>>=◌ and_then
  turn n f g i p next e read same =
      ap (λ xs. onto xs (many n r s next)) (up-to-snoc g i ∙ ap (λ xs. xs ++ (g i ∷ [])) (up-to-same g f i same))
      ∙ sym (onto-cons (up_to f i) (g i) (many n r s next) s)
      ∙ ap (λ x. onto (up_to f i) x) (sym (ap (λ x. and_then x (λ a. many n r >>= λ rest. give (a ∷ rest)) s) read))
      ∙ e

  one_less : (i : ℕ) → i < count → count - i ≡ suc (count - (i + 1))
  one_less i h = omega arith

  pub reading-goes-on : (f g : ℕ → A) (i p next : ℕ) → Reading f i p → i < count → r s p ≡ got (g i) next → ((j : ℕ) → j < i → g j ≡ f j) → Reading g (i + 1) next
  reading-goes-on f g i p next e h read same =
      ap (λ (k : ℕ). onto (up_to g k) (many (count - (i + 1)) r s next)) (add-one i)
      ∙ turn (count - (i + 1)) f g i p next (ap (λ (n : ℕ). onto (up_to f i) (many n r s p)) (sym (one_less i h)) ∙ e) read same

  -- a refusal
  stop : (n : ℕ) (f : ℕ → A) (i p number place : ℕ) → onto (up_to f i) (many (suc n) r s p) ≡ whole → r s p ≡ refused number place → refused number place ≡ whole
  unfolding many ◌>>=◌ onto and_then
  stop n f i p number place e read =
      ap (λ x. onto (up_to f i) x) (sym (ap (λ x. and_then x (λ a. many n r >>= λ rest. give (a ∷ rest)) s) read)) ∙ e

  pub reading-stops : (f : ℕ → A) (i p number place : ℕ) → Reading f i p → i < count → r s p ≡ refused number place → refused number place ≡ whole
  reading-stops f i p number place e h read = stop (count - (i + 1)) f i p number place (ap (λ (n : ℕ). onto (up_to f i) (many n r s p)) (sym (one_less i h)) ∙ e) read

  -- the end
  pub reading-ends : (f : ℕ → A) (i p : ℕ) → Reading f i p → i ≡ count → got (up_to f count) p ≡ whole
  unfolding many give onto
  reading-ends f i p e h =
      sym (ap (λ xs. got xs p) (append-nil (up_to f count)))
      ∙ ap (λ (n : ℕ). onto (up_to f count) (many n r s p)) (none_left count)
      ∙ ap (λ (k : ℕ). onto (up_to f k) (many (count - k) r s p)) (sym h)
      ∙ e
    where
      none_left : (n : ℕ) → 0 ≡ n - n
      none_left n = omega arith
