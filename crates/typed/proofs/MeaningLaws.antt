-- An accepted row holds at exactly the values at which the typed comparison does: every form is worth what its tree is worth.
-- Assumes nothing.
use mathlib.Core.Path.{◌≡◌, refl, sym, ap, ◌∙◌, subst}
use mathlib.Core.Logic.{◌↔◌}
use mathlib.Core.Bool.{Bool, true, false, cond, not, ◌&&◌}
use mathlib.Core.List.{List, [], ◌∷◌}
use Prim.Native.Nat.{ℕ, zero, suc, ◌+◌, ◌^◌, ◌≤◌, ◌<◌}
use native.Mathlib.Nat.{suc_inj}
use native.Mathlib.Omega.{arith}
use lib.Dec.{T, ltb}
use lib.IntN.{ℤ, pos, negsuc, neg_ℤ, ◌+ℤ◌, ◌*ℤ◌, *ℤ_comm}
use lib.ListN.{length, set, replicate, length-set}
use lib.Signed.{le_z, ◌≤ℤ◌}
use borrow.Author.Tests.{leb-true, ltb-true}
use Rattle.farkas.specs.Lists.{every}
use Rattle.farkas.specs.Rows.{item, dot}
use Rattle.farkas.proofs.Integers.{split, by_parts}
use Rattle.typed.specs.declared.TypedRow.{TypedRow}
use Rattle.typed.specs.declared.Unread.{Unread}
use Rattle.typed.specs.declared.forms.Form.{Form}
use Rattle.std.specs.Prelude.{Ok, Err, is_err}
use Rattle.typed.specs.Text.{Expression, term, sum, difference, Term, factor, product, Factor, number, variable, bracket, negative, Comparison, Spells}
use Rattle.typed.specs.Forms.{s32, constant, single, plus, Reading, reaches, refused, fit, next, zero_form, combined, collected, joined, is_zero, varies, multiplied, variable_at, number_at, collected_at}
use Rattle.typed.specs.Forms as forms
use Rattle.typed.specs.Values.{decimal_of, work_expression, work_term, work_factor, work_row}
use Rattle.typed.specs.Typed.{Answered, Typed, count-refused, length-refused, text-refused, value-refused, accepted, typed_row}
use Rattle.typed.specs.Meaning.{value_of, term_value, factor_value, Says, Holds}
use Rattle.typed.proofs.CombineLaws.{plus-length}
use Rattle.typed.proofs.PlaceLaws.{no, same_form, passed}
use Rattle.typed.proofs.RowLaws.{row-works}
use Rattle.typed.proofs.TypedLaws.{typed-is}

-- sums and products with 0 and 1
zero-times : (x z : ℤ) → pos 0 *ℤ x +ℤ z ≡ z
zero-times x z = rw (split x, split z) (simp by_parts (omega arith))

one-times : (x : ℤ) → pos 1 *ℤ x +ℤ pos 0 ≡ x
one-times x = rw (split x) (simp by_parts (omega arith))

zero-plus : (z : ℤ) → pos 0 +ℤ z ≡ z
zero-plus z = rw (split z) (simp by_parts (omega arith))

plus-zero : (z : ℤ) → z +ℤ pos 0 ≡ z
plus-zero z = rw (split z) (simp by_parts (omega arith))

times_zero : (m : ℤ) → pos 0 ≡ pos 0 +ℤ m *ℤ pos 0
times_zero m = rw (split m) (simp by_parts (omega arith))

added : (y z : ℤ) → y +ℤ pos 1 *ℤ z ≡ y +ℤ z
added y z = rw (split y, split z) (simp by_parts (omega arith))

taken : (y z : ℤ) → y +ℤ negsuc 0 *ℤ z ≡ y +ℤ neg_ℤ z
taken y z = rw (split y, split z) (simp by_parts (omega arith))

-- a sum of sums, m times the right ones
apart : (d e m p q : ℤ) → (d +ℤ m *ℤ e) +ℤ (p +ℤ m *ℤ q) ≡ (d +ℤ p) +ℤ m *ℤ (e +ℤ q)
apart d e m p q = rw (split d, split e, split m, split p, split q) (simp by_parts (omega arith))

distributed : (a b x m y z : ℤ) → (a +ℤ m *ℤ b) *ℤ x +ℤ (y +ℤ m *ℤ z) ≡ (a *ℤ x +ℤ y) +ℤ m *ℤ (b *ℤ x +ℤ z)
distributed a b x m y z = rw (split a, split b, split x, split m, split y, split z) (simp by_parts (omega arith))

-- "Variables are collected left, numbers right"
moved : (d e p q : ℤ) → (d +ℤ negsuc 0 *ℤ e) ≤ℤ (q +ℤ negsuc 0 *ℤ p) → (d +ℤ p) ≤ℤ (e +ℤ q)
moved d e p q = rw (split d, split e, split p, split q) (simp by_parts (omega arith))

moved_back : (d e p q : ℤ) → (d +ℤ p) ≤ℤ (e +ℤ q) → (d +ℤ negsuc 0 *ℤ e) ≤ℤ (q +ℤ negsuc 0 *ℤ p)
moved_back d e p q = rw (split d, split e, split p, split q) (simp by_parts (omega arith))

-- a·x of the forms' coefficients
dot-zeros : (n : ℕ) (xs : List ℤ) → dot (replicate n (pos 0)) xs ≡ pos 0
unfolding dot
dot-zeros zero xs = refl
dot-zeros (suc n) [] = refl
dot-zeros (suc n) (x ∷ xs) = zero-times x (dot (replicate n (pos 0)) xs) ∙ dot-zeros n xs

dot-single : (n v : ℕ) (xs : List ℤ) → v < n → dot (set (replicate n (pos 0)) v (pos 1)) xs ≡ item xs v
unfolding dot item
dot-single zero v xs h = absurd (omega arith)
dot-single (suc n) zero [] h = refl
dot-single (suc n) zero (x ∷ xs) h = ap (λ z. pos 1 *ℤ x +ℤ z) (dot-zeros n xs) ∙ one-times x
dot-single (suc n) (suc v) [] h = refl
dot-single (suc n) (suc v) (x ∷ xs) h = zero-times x (dot (set (replicate n (pos 0)) v (pos 1)) xs) ∙ dot-single n v xs (omega arith)

dot-plus : (m : ℤ) (cs ds xs : List ℤ) → length ds ≡ length cs → dot (plus m cs ds) xs ≡ dot cs xs +ℤ m *ℤ dot ds xs
unfolding dot plus
dot-plus m [] [] xs e = times_zero m
dot-plus m [] (d ∷ ds) xs e = absurd (omega arith)
dot-plus m (c ∷ cs) [] xs e = absurd (omega arith)
dot-plus m (c ∷ cs) (d ∷ ds) [] e = times_zero m
dot-plus m (c ∷ cs) (d ∷ ds) (x ∷ xs) e = ap (λ z. (c +ℤ m *ℤ d) *ℤ x +ℤ z) (dot-plus m cs ds xs (suc_inj e)) ∙ distributed c d x m (dot cs xs) (dot ds xs)

and_left : (b c : Bool) → (b && c) ≡ true → b ≡ true
and_left true c e = refl
and_left false c e = e

zero_is : (z : ℤ) → is_zero z ≡ true → z ≡ pos 0
unfolding is_zero
zero_is (pos n) e = ap pos (omega (arith, leb-true n 0 (and_left (le_z (pos n) (pos 0)) (le_z (pos 0) (pos n)) e)))
zero_is (negsuc n) e = absurd (subst T (sym e) tt)

dot-still : (cs xs : List ℤ) → every is_zero cs ≡ true → dot cs xs ≡ pos 0
unfolding dot every
dot-still [] xs e = refl
dot-still (c ∷ cs) [] e = refl
dot-still (c ∷ cs) (x ∷ xs) e = go (is_zero c) refl e (dot-still cs xs)
  where
    go : (b : Bool) → is_zero c ≡ b → (b && every is_zero cs) ≡ true → (every is_zero cs ≡ true → dot cs xs ≡ pos 0) → c *ℤ x +ℤ dot cs xs ≡ pos 0
    go true f g r = ap (λ d. d *ℤ x +ℤ dot cs xs) (zero_is c f) ∙ zero-times x (dot cs xs) ∙ r g
    go false f g r = absurd (subst T (sym g) tt)

module _ (xs : List ℤ) where
  -- a form is worth a number
  record Worth (a : Form) (z : ℤ) : Type 0 where
    pub eight : length a.coefficients ≡ 8
    pub is : dot a.coefficients xs +ℤ a.number ≡ z

  constant-worth : (z : ℤ) → Worth (constant z) z
  constant-worth z = record { eight = refl; is = ap (λ d. d +ℤ z) (dot-zeros 8 xs) ∙ zero-plus z }

  single-worth : (v : ℕ) → v < 8 → Worth (single v) (item xs v)
  single-worth v h = record { eight = length-set (replicate 8 (pos 0)) v (pos 1); is = ap (λ d. d +ℤ pos 0) (dot-single 8 v xs h) ∙ plus-zero (item xs v) }

  combined-worth : (a : Form) (m : ℤ) (b : Form) {y z : ℤ} → Worth a y → Worth b z → Worth (combined a m b) (y +ℤ m *ℤ z)
  unfolding combined
  combined-worth a m b {y} {z} h k = record {
    eight = plus-length m a.coefficients b.coefficients ∙ h.eight;
    is =
        ap (λ d. d +ℤ (a.number +ℤ m *ℤ b.number)) (dot-plus m a.coefficients b.coefficients xs (k.eight ∙ sym h.eight))
        ∙ apart (dot a.coefficients xs) (dot b.coefficients xs) m a.number b.number
        ∙ ap (λ w. w +ℤ m *ℤ (dot b.coefficients xs +ℤ b.number)) h.is
        ∙ ap (λ w. y +ℤ m *ℤ w) k.is;
  }

  -- a form that does not vary is worth its number
  still-worth : (a : Form) {z : ℤ} → varies a ≡ false → Worth a z → a.number ≡ z
  unfolding varies
  still-worth a e h =
      sym (zero-plus a.number) ∙ ap (λ d. d +ℤ a.number) (sym (dot-still a.coefficients xs (yes (every is_zero a.coefficients) e))) ∙ h.is
    where
      yes : (b : Bool) → not b ≡ false → b ≡ true
      yes true e = refl
      yes false e = sym e

  -- a result that was tested and fits is the result
  chosen-worth : (b : Bool) (p q r : ℕ) (x y : Form) {z : ℤ} → cond b (reaches q x) (refused p) ≡ reaches r y → Worth x z → Worth y z
  chosen-worth true p q r x y {z} e h = subst (λ f. Worth f z) (same_form e) h
  chosen-worth false p q r x y e h = no e

  fit-worth : (p q r : ℕ) (x y : Form) {z : ℤ} → fit p q x ≡ reaches r y → Worth x z → Worth y z
  unfolding fit
  fit-worth p q r x y e h = chosen-worth (every s32 x.coefficients && s32 x.number) p q r x y e h

  scaled-worth : (p q r : ℕ) (b f : Form) {x y z : ℤ} → fit p q (combined zero_form x b) ≡ reaches r f → x ≡ y → Worth b z → Worth f (y *ℤ z)
  scaled-worth p q r b f {x} {y} {z} e i h =
      subst (Worth f) (zero-plus (x *ℤ z) ∙ ap (λ w. w *ℤ z) i) (fit-worth p q r (combined zero_form x b) f e (combined-worth zero_form x b (constant-worth (pos 0)) h))

  abbrev by-factors : ℕ → ℕ → Form → Form → Bool → Bool → Reading
  by-factors p q a b s t = cond s (cond t (refused p) (fit p q (combined zero_form b.number a))) (fit p q (combined zero_form a.number b))

  product-worth : (p q r : ℕ) (a b x : Form) {y z : ℤ} → forms.product p q a b ≡ reaches r x → Worth a y → Worth b z → Worth x (y *ℤ z)
  unfolding forms.product
  product-worth p q r a b x {y} {z} e h k = go (varies a) refl (varies b) refl e
    where
      go : (s : Bool) → varies a ≡ s → (t : Bool) → varies b ≡ t → by-factors p q a b s t ≡ reaches r x → Worth x (y *ℤ z)
      go true f true g e = no e
      go true f false g e = subst (Worth x) (*ℤ_comm z y) (scaled-worth p q r a x e (still-worth b g k) h)
      go false f t g e = scaled-worth p q r b x e (still-worth a f h) k

  -- what is worked out next
  next-worth :
      (w : Reading) (f : ℕ → Form → Reading) (r : ℕ) (y : Form) {z : ℤ}
      → next w f ≡ reaches r y
      → ((q : ℕ) (x : Form) → w ≡ reaches q x → f q x ≡ reaches r y → Worth y z)
      → Worth y z
  next-worth w f r y e h =
      let n = passed w f r y e in
      h n.at n.form n.was n.then

  joined-worth : (p : ℕ) (a : Form) (m : ℤ) (w : Reading) (r : ℕ) (x : Form) {y z : ℤ} → joined p a m w ≡ reaches r x → Worth a y → ((q : ℕ) (b : Form) → w ≡ reaches q b → Worth b z) → Worth x (y +ℤ m *ℤ z)
  unfolding joined
  joined-worth p a m w r x e h k =
      next-worth w (λ q b. fit p q (combined a m b)) r x e (λ q b f g. fit-worth p q r (combined a m b) x g (combined-worth a m b h (k q b f)))

  multiplied-worth : (p : ℕ) (a : Form) (w : Reading) (r : ℕ) (x : Form) {y z : ℤ} → multiplied p a w ≡ reaches r x → Worth a y → ((q : ℕ) (b : Form) → w ≡ reaches q b → Worth b z) → Worth x (y *ℤ z)
  unfolding multiplied
  multiplied-worth p a w r x e h k =
      next-worth w (λ q b. forms.product p q a b) r x e (λ q b f g. product-worth p q r a b x g h (k q b f))

  -- every tree in the first n ≤ 8 variables
  module _ (n : ℕ) (few : n ≤ 8) where
    letter-worth : (p v q : ℕ) (x : Form) → variable_at n p v ≡ reaches q x → Worth x (item xs v)
    unfolding variable_at
    letter-worth p v q x e = go (ltb v n) refl e
      where
        go : (b : Bool) → ltb v n ≡ b → cond b (reaches (p + 1) (single v)) (refused p) ≡ reaches q x → Worth x (item xs v)
        go true f g = subst (λ y. Worth y (item xs v)) (same_form g) (single-worth v (omega (arith, ltb-true v n f)))
        go false f g = no g

    mutual
      unfolding work_expression value_of number_at

      expression-worth : (e : Expression) (p q : ℕ) (x : Form) → work_expression n p e ≡ reaches q x → Worth x (value_of xs e)
      expression-worth (term t) p q x h = term-worth t p q x h
      expression-worth (sum e i j t) p q x h =
          next-worth (work_expression n p e) _ q x h λ o a f g.
          subst (Worth x) (added (value_of xs e) (term_value xs t))
          (joined-worth (o + i) a (pos 1) (work_term n (o + i + 1 + j) t) q x g (expression-worth e p o a f) (λ s b l. term-worth t (o + i + 1 + j) s b l))
      expression-worth (difference e i j t) p q x h =
          next-worth (work_expression n p e) _ q x h λ o a f g.
          subst (Worth x) (taken (value_of xs e) (term_value xs t))
          (joined-worth (o + i) a (negsuc 0) (work_term n (o + i + 1 + j) t) q x g (expression-worth e p o a f) (λ s b l. term-worth t (o + i + 1 + j) s b l))

      term-worth : (t : Term) (p q : ℕ) (x : Form) → work_term n p t ≡ reaches q x → Worth x (term_value xs t)
      term-worth (factor f) p q x h = factor-worth f p q x h
      term-worth (product t i j f) p q x h =
          next-worth (work_term n p t) _ q x h λ o a k g.
          multiplied-worth (o + i) a (work_factor n (o + i + 1 + j) f) q x g (term-worth t p o a k) (λ s b l. factor-worth f (o + i + 1 + j) s b l)

      factor-worth : (f : Factor) (p q : ℕ) (x : Form) → work_factor n p f ≡ reaches q x → Worth x (factor_value xs f)
      factor-worth (number d ds) p q x h = chosen-worth (ltb (decimal_of d ds) (2 ^ 31)) p (p + suc (length ds)) q _ x h (constant-worth (pos (decimal_of d ds)))
      factor-worth (variable v) p q x h = letter-worth p v q x h
      factor-worth (bracket i e j) p q x h =
          next-worth (work_expression n (p + 1 + i) e) _ q x h λ o a k g.
          subst (λ y. Worth y (value_of xs e)) (same_form g) (expression-worth e (p + 1 + i) o a k)
      factor-worth (negative i f) p q x h =
          subst (Worth x) (taken (pos 0) (factor_value xs f) ∙ zero-plus (neg_ℤ (factor_value xs f)))
          (joined-worth p zero_form (negsuc 0) (work_factor n (p + 1 + i) f) q x h (constant-worth (pos 0)) (λ s b l. factor-worth f (p + 1 + i) s b l))

    -- both sides, and the collecting
    collected-holds : (a b : Form) {y z : ℤ} → Worth a y → Worth b z → (dot (collected a b).coefficients xs ≤ℤ (collected a b).number) ↔ (y ≤ℤ z)
    unfolding collected
    collected-holds a b {y} {z} h k =
        let d = dot a.coefficients xs in
        let e = dot b.coefficients xs in
        let parted = dot-plus (negsuc 0) a.coefficients b.coefficients xs (k.eight ∙ sym h.eight) in (
          (λ l. subst (λ w. y ≤ℤ w) k.is (subst (λ w. w ≤ℤ (e +ℤ b.number)) h.is (moved d e a.number b.number (subst (λ w. w ≤ℤ (b.number +ℤ negsuc 0 *ℤ a.number)) parted l)))),
          λ l. subst (λ w. w ≤ℤ (b.number +ℤ negsuc 0 *ℤ a.number)) (sym parted) (moved_back d e a.number b.number (subst (λ w. (d +ℤ a.number) ≤ℤ w) (sym k.is) (subst (λ w. w ≤ℤ z) (sym h.is) l))),
        )

    chosen_is : (b : Bool) (p q r : ℕ) (x y : Form) → cond b (reaches q x) (refused p) ≡ reaches r y → x ≡ y
    chosen_is true p q r x y e = same_form e
    chosen_is false p q r x y e = no e

    fit_is : (p q r : ℕ) (x y : Form) → fit p q x ≡ reaches r y → x ≡ y
    unfolding fit
    fit_is p q r x y e = chosen_is (every s32 x.coefficients && s32 x.number) p q r x y e

    pub row-means : (c : Comparison) (q : ℕ) (x : Form) → work_row n c ≡ reaches q x → (dot x.coefficients xs ≤ℤ x.number) ↔ Says c xs
    unfolding work_row collected_at
    row-means c q x h =
        let l = passed (work_expression n c.before c.left) _ q x h in
        let w = work_expression n (l.at + c.between + 2 + c.beyond) c.right in
        let o = passed w _ q x l.then in
        subst (λ y. (dot y.coefficients xs ≤ℤ y.number) ↔ Says c xs) (fit_is (l.at + c.between) o.at q (collected l.form o.form) x o.then)
        (collected-holds l.form o.form (expression-worth c.left c.before l.at l.form l.was) (expression-worth c.right (l.at + c.between + 2 + c.beyond) o.at o.form o.was))

-- a refusal is no row
no-row : {A : Type 0} {e : Unread} {r : TypedRow} → ◌≡◌ {A = Answered} (Err e) (Ok r) → A
no-row f = absurd (subst (λ a. T (is_err a)) f tt)

abbrev row_in : TypedRow → Answered → TypedRow
row_in d (Ok r) = r
row_in d (Err e) = d

-- of every answer that is no refusal
typed-means : {n : ℕ} {text : List ℕ} {a : Answered} → Typed n text a → (r : TypedRow) → a ≡ Ok r → (c : Comparison) → Spells text c → (xs : List ℤ) → Holds r xs ↔ Says c xs
typed-means (count-refused h) r z c f xs = no-row z
typed-means (length-refused l m h) r z c f xs = no-row z
typed-means (text-refused l m s p b) r z c f xs = no-row z
typed-means (value-refused l m s d e p g) r z c f xs = no-row z
typed-means {n} {text} (accepted l m s d e q x g) r z c f xs =
    let same : work_row n c ≡ reaches q x = sym (row-works n text c f) ∙ row-works n text d e ∙ g in
    subst (λ y. Holds y xs ↔ Says c xs) (ap (row_in r) z) (row-means xs n m c q x same)

-- an accepted row holds where the comparison that the text spells holds, and nowhere else
pub row-holds : (n : ℕ) (text : List ℕ) (c : Comparison) → Spells text c → (r : TypedRow) → typed_row n text ≡ Ok r → (xs : List ℤ) → Holds r xs ↔ Says c xs
row-holds n text c e r z xs = typed-means (typed-is n text) r z c e xs
