-- One law for every loop that reads once for each number below a count, by a reading that goes by the number: what has been read, put
-- in front of what is still to come from here, is the whole. A turn, a refusal and the end each follow. Assumes nothing.
use mathlib.Core.Path.{◌≡◌, sym, ap, ◌∙◌}
use mathlib.Core.List.{List, [], ◌∷◌, ◌++◌, append-nil}
use Prim.Native.Nat.{ℕ, suc, ◌+◌, ◌-◌, ◌<◌}
use native.Mathlib.Numerals.{add-one}
use native.Mathlib.Omega.{arith}
use Rattle.formats.specs.Reading.{Got, got, refused, Reader, and_then, ◌>>=◌, give, each}
use Rattle.formats.specs.Joint.{count_up}
use Rattle.fields.proofs.ReadLoop.{onto, up_to, up-to-same, up-to-snoc, onto-nil, onto-cons}

module _ {A : Type 0} (r : ℕ → Reader A) (count : ℕ) (s : List ℕ) (whole : Got (List A)) where
  -- k values are read, told by f, and the rest is read from p on
  abbrev pub ReadingEach : (ℕ → A) → ℕ → ℕ → Type 0
  ReadingEach f k p = onto (up_to f k) (each r (count_up k (count - k)) s p) ≡ whole

  pub each-starts : (f : ℕ → A) (p : ℕ) → each r (count_up 0 count) s p ≡ whole → ReadingEach f 0 p
  unfolding up_to count_up
  each-starts f p e = onto-nil (each r (count_up 0 (count - 0)) s p) ∙ ap (λ (n : ℕ). each r (count_up 0 n) s p) (all count) ∙ e
    where
      all : (n : ℕ) → n - 0 ≡ n
      all n = omega arith

  one_less : (k : ℕ) → k < count → count - k ≡ suc (count - (k + 1))
  one_less k h = omega arith

  -- the numbers from k on are k and those from k + 1 on
  next-number : (k : ℕ) → k < count → count_up k (count - k) ≡ k ∷ count_up (k + 1) (count - (k + 1))
  unfolding count_up
  next-number k h =
      ap (λ (n : ℕ). count_up k n) (one_less k h) ∙ ap (λ (j : ℕ). k ∷ count_up j (count - (k + 1))) (sym (add-one k))

  -- a turn
  pub each-goes-on : (f g : ℕ → A) (k p next : ℕ) → ReadingEach f k p → k < count → r k s p ≡ got (g k) next → ((j : ℕ) → j < k → g j ≡ f j) → ReadingEach g (k + 1) next
  unfolding each ◌>>=◌ and_then
  each-goes-on f g k p next e h read same =
      let rest = count_up (k + 1) (count - (k + 1)) in
      ap (λ (j : ℕ). onto (up_to g j) (each r rest s next)) (add-one k)
      ∙ ap (λ ys. onto ys (each r rest s next)) (up-to-snoc g k ∙ ap (λ ys. ys ++ (g k ∷ [])) (up-to-same g f k same))
      ∙ sym (onto-cons (up_to f k) (g k) (each r rest s next) s)
      ∙ ap (λ y. onto (up_to f k) y) (sym (ap (λ y. and_then y (λ b. each r rest >>= λ more. give (b ∷ more)) s) read))
      ∙ ap (λ ys. onto (up_to f k) (each r ys s p)) (sym (next-number k h))
      ∙ e

  -- a refusal
  pub each-stops : (f : ℕ → A) (k p number place : ℕ) → ReadingEach f k p → k < count → r k s p ≡ refused number place → refused number place ≡ whole
  unfolding each ◌>>=◌ onto and_then
  each-stops f k p number place e h read =
      let rest = count_up (k + 1) (count - (k + 1)) in
      ap (λ y. onto (up_to f k) y) (sym (ap (λ y. and_then y (λ b. each r rest >>= λ more. give (b ∷ more)) s) read))
      ∙ ap (λ ys. onto (up_to f k) (each r ys s p)) (sym (next-number k h))
      ∙ e

  -- the end
  pub each-ends : (f : ℕ → A) (k p : ℕ) → ReadingEach f k p → k ≡ count → got (up_to f count) p ≡ whole
  unfolding each count_up give onto
  each-ends f k p e h =
      sym (ap (λ xs. got xs p) (append-nil (up_to f count)))
      ∙ ap (λ (n : ℕ). onto (up_to f count) (each r (count_up count n) s p)) (none_left count)
      ∙ ap (λ (j : ℕ). onto (up_to f j) (each r (count_up j (count - j)) s p)) (sym h)
      ∙ e
    where
      none_left : (n : ℕ) → 0 ≡ n - n
      none_left n = omega arith
