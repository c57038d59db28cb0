-- The readers work out every tree whose spelling stands in the text: what they give is the tree's value, and the place after it.
-- Assumes nothing.
use mathlib.Core.Path.{◌≡◌, refl, sym, ap, ◌∙◌, subst}
use mathlib.Core.Bool.{Bool, true, false}
use mathlib.Core.List.{List, [], ◌∷◌, ◌++◌, append_assoc}
use Prim.Native.Nat.{ℕ, zero, suc, ◌+◌, ◌*◌, ◌-◌, ◌≤◌}
use native.Mathlib.Omega.{arith}
use lib.Dec.{T}
use lib.IntN.{ℤ, pos, negsuc}
use lib.ListN.{length}
use Rattle.typed.specs.declared.signs.Sign.{Sign}
use Rattle.typed.specs.declared.signs.Sign.TheVariants.{Blank, Digit, Letter, Open, Close, Plus, Minus, Times, Less, Equal, Other}
use Rattle.std.specs.Prelude.{Ok, Err}
use Rattle.typed.specs.declared.forms.Form.{Form}
use Rattle.typed.specs.Signs.{sign_at}
use Rattle.typed.specs.Turns.{by_sum, by_product, by_close}
use Rattle.typed.specs.Text.{Expression, term, sum, difference, Term, factor, product, Factor, number, variable, bracket, negative, blanks, digits, spell, spell_term, spell_factor}
use Rattle.typed.specs.Forms.{Reading, reaches, refused, next, zero_form, joined, multiplied, number_at}
use Rattle.typed.specs.Working.{lead_by, lead, skip, on_digit, digit_count, decimal, whole_at, closed_at, expression_at, sums_at, term_at, products_at, factor_at}
use Rattle.typed.specs.Values.{decimal_of, work_expression, work_term, work_factor}
use Rattle.typed.proofs.StandLaws.{first, head_by, head, head-blanks, not_digit, spelled_count, spelled-decimal, Stands, sign-here, past, past_one, past-blanks, skip-here, head-here}
use Rattle.typed.proofs.EndLaws.{next-same, expression-end, term-end, sum_count, product_count, expression_steps, term_steps, factor_steps}
use Rattle.typed.proofs.TurnLaws.{next-at, next-fault, sum-turn, sum-plus, sum-minus, sum-fault, product-turn, product-times, product-fault, factor-number, factor-letter, factor-bracket, factor-minus}

-- what may follow a term, and an expression
unfoldable pub ends_term : Sign → Bool
ends_term Blank = false
ends_term (Digit d) = false
ends_term (Letter v) = false
ends_term Open = false
ends_term Close = true
ends_term Plus = true
ends_term Minus = true
ends_term Times = false
ends_term Less = true
ends_term Equal = false
ends_term Other = true

unfoldable pub ends : Sign → Bool
ends Blank = false
ends (Digit d) = false
ends (Letter v) = false
ends Open = false
ends Close = true
ends Plus = false
ends Minus = false
ends Times = false
ends Less = true
ends Equal = false
ends Other = true

no-times : {A : Type 0} (s : Sign) (x y : A) → T (ends_term s) → by_product s x y ≡ y
unfolding by_product ends_term
no-times Blank x y t = absurd t
no-times (Digit d) x y t = absurd t
no-times (Letter v) x y t = absurd t
no-times Open x y t = absurd t
no-times Close x y t = refl
no-times Plus x y t = refl
no-times Minus x y t = refl
no-times Times x y t = absurd t
no-times Less x y t = refl
no-times Equal x y t = absurd t
no-times Other x y t = refl

no_sign : {A : Type 0} (s : Sign) (x y : A) → T (ends s) → by_sum s x y ≡ y
unfolding by_sum ends
no_sign Blank x y t = absurd t
no_sign (Digit d) x y t = absurd t
no_sign (Letter v) x y t = absurd t
no_sign Open x y t = absurd t
no_sign Close x y t = refl
no_sign Plus x y t = absurd t
no_sign Minus x y t = absurd t
no_sign Times x y t = absurd t
no_sign Less x y t = refl
no_sign Equal x y t = absurd t
no_sign Other x y t = refl

-- an expression's end is a term's
wider : (s : Sign) → T (ends s) → T (ends_term s)
unfolding ends ends_term
wider Blank t = absurd t
wider (Digit d) t = absurd t
wider (Letter v) t = absurd t
wider Open t = absurd t
wider Close t = tt
wider Plus t = absurd t
wider Minus t = absurd t
wider Times t = absurd t
wider Less t = tt
wider Equal t = absurd t
wider Other t = tt

-- after blanks a factor begins at once
solid : (f : Factor) (rest : List Sign) → lead (spell_factor f ++ rest) ≡ zero
unfolding spell_factor lead lead_by
solid (number d ds) rest = refl
solid (variable v) rest = refl
solid (bracket i e j) rest = refl
solid (negative i f) rest = refl

-- what follows an operand, or stands in a bracket
regroup : (xs ys rest : List Sign) (i j : ℕ) (s : Sign) → (xs ++ (blanks i ++ (s ∷ (blanks j ++ ys)))) ++ rest ≡ xs ++ (blanks i ++ (s ∷ (blanks j ++ (ys ++ rest))))
regroup xs ys rest i j s = simp append_assoc

regroup-bracket : (xs rest : List Sign) (i j : ℕ) → (blanks i ++ (xs ++ (blanks j ++ (Close ∷ [])))) ++ rest ≡ blanks i ++ (xs ++ (blanks j ++ (Close ∷ rest)))
regroup-bracket xs rest i j = simp append_assoc

pub blanks-first : (i : ℕ) (s : Sign) (rest : List Sign) → T (not_digit s) → T (not_digit (first (blanks i ++ (s ∷ rest))))
unfolding blanks first not_digit
blanks-first zero s rest t = t
blanks-first (suc i) s rest t = tt

module _ (n : ℕ) (text : List ℕ) where
  pub products-fault : (k p : ℕ) (w : Reading) → w ≡ refused p → products_at k n text w ≡ w
  unfolding products_at
  products-fault zero p w e = refl
  products-fault (suc k) p w e = product-fault n text w k p e

  pub sums-fault : (k p : ℕ) (w : Reading) → w ≡ refused p → sums_at k n text w ≡ w
  unfolding sums_at
  sums-fault zero p w e = refl
  sums-fault (suc k) p w e = sum-fault n text w k p e

  -- a whole number
  whole-law : (p d : ℕ) (ds : List ℕ) (rest : List Sign) → T (not_digit (first rest)) → Stands text p (Digit d ∷ (digits ds ++ rest)) → whole_at text p ≡ number_at p (p + suc (length ds)) (decimal_of d ds)
  unfolding whole_at digit_count decimal on_digit
  whole-law p d ds rest t e =
      ap (λ xs. number_at p (p + digit_count xs) (decimal 0 xs)) e
      ∙ ap (λ c. number_at p (p + suc c) (decimal (10 * 0 + d) (digits ds ++ rest))) (spelled_count ds rest t)
      ∙ ap (λ v. number_at p (p + suc (length ds)) v) (spelled-decimal (10 * 0 + d) ds rest t ∙ ap (λ v. decimal_of v ds) (omega arith))

  -- a bracket's end
  close-law : (w : Reading) (end b : ℕ) (rest : List Sign) → ((q : ℕ) (x : Form) → w ≡ reaches q x → q ≡ end) → Stands text end (blanks b ++ (Close ∷ rest)) → closed_at text w ≡ next w (λ q x. reaches (q + b + 1) x)
  unfolding closed_at by_close lead lead_by first
  close-law w end b rest h e =
      next-same w _ _ λ q x r.
      let s = subst (λ z. Stands text z (blanks b ++ (Close ∷ rest))) (sym (h q x r)) e in
      let k = skip-here text q b (Close ∷ rest) refl s in
      let c = sign-here text (q + b) (Close ∷ rest) (past-blanks text q b (Close ∷ rest) s) in
      ap (λ z. by_close (sign_at text z) (reaches (z + 1) x) (refused z)) (sym k) ∙ ap (λ z. by_close z (reaches (q + b + 1) x) (refused (q + b))) c

  -- one product more
  product_law :
      (k : ℕ) (w : Reading) (end a b : ℕ) (ys : List Sign) (g : ℕ → Reading)
      → ((q : ℕ) (x : Form) → w ≡ reaches q x → q ≡ end)
      → Stands text end (blanks a ++ (Times ∷ ys))
      → (factor_at k n text (end + a + 1) ≡ g (end + a + 1 + b))
      → products_at (suc k) n text w ≡ products_at k n text (next w (λ q x. multiplied (q + a) x (g (q + a + 1 + b))))
  unfolding lead lead_by first
  product_law k w end a b ys g h e f = go w refl
    where
      go : (u : Reading) → w ≡ u → products_at (suc k) n text w ≡ products_at k n text (next w (λ q x. multiplied (q + a) x (g (q + a + 1 + b))))
      go (Err e) r = product-fault n text w k e.place r ∙ sym (products-fault k e.place w r) ∙ ap (products_at k n text) (sym (next-fault w _ e.place r))
      go (Ok v) r =
          let q = v.next in
          let s = subst (λ z. Stands text z (blanks a ++ (Times ∷ ys))) (sym (h q v.form r)) e in
          let i = skip-here text q a (Times ∷ ys) refl s in
          let c = sign-here text (q + a) (Times ∷ ys) (past-blanks text q a (Times ∷ ys) s) in
          let o = subst (λ z. factor_at k n text (z + a + 1) ≡ g (z + a + 1 + b)) (sym (h q v.form r)) f in
          product-times n text w k q (q + a) v.form Times r i (sym c) refl
          ∙ ap (λ z. products_at k n text (multiplied (q + a) v.form z)) o
          ∙ ap (products_at k n text) (sym (next-at w _ q v.form r))

  -- and no more
  product-stop : (k : ℕ) (w : Reading) (end : ℕ) (rest : List Sign) → ((q : ℕ) (x : Form) → w ≡ reaches q x → q ≡ end) → Stands text end rest → T (ends_term (head rest)) → products_at (suc k) n text w ≡ w
  product-stop k w end rest h e t = go w refl
    where
      go : (u : Reading) → w ≡ u → products_at (suc k) n text w ≡ w
      go (Err e) r = product-fault n text w k e.place r
      go (Ok v) r =
          let q = v.next in
          let c = head-here text q rest (subst (λ z. Stands text z rest) (sym (h q v.form r)) e) in
          product-turn n text w k q (skip text q) v.form (head rest) r refl (sym c) ∙ no-times (head rest) _ w t

  -- one sum or difference more
  sum-law :
      (m : ℤ) (s : Sign) (k : ℕ) (w : Reading) (end a b : ℕ) (ys : List Sign) (g : ℕ → Reading)
      → ((q : ℕ) (x : Form) → w ≡ reaches q x → q + a ≡ skip text q → sign_at text (q + a) ≡ s → sums_at (suc k) n text w ≡ sums_at k n text (joined (q + a) x m (term_at k n text (q + a + 1))))
      → lead_by s zero ≡ zero
      → lead_by s (lead ys) ≡ zero
      → ((q : ℕ) (x : Form) → w ≡ reaches q x → q ≡ end)
      → Stands text end (blanks a ++ (s ∷ ys))
      → (term_at k n text (end + a + 1) ≡ g (end + a + 1 + b))
      → sums_at (suc k) n text w ≡ sums_at k n text (next w (λ q x. joined (q + a) x m (g (q + a + 1 + b))))
  unfolding lead first
  sum-law m s k w end a b ys g turn z l h e f = go w refl
    where
      go : (u : Reading) → w ≡ u → sums_at (suc k) n text w ≡ sums_at k n text (next w (λ q x. joined (q + a) x m (g (q + a + 1 + b))))
      go (Err e) r = sum-fault n text w k e.place r ∙ sym (sums-fault k e.place w r) ∙ ap (sums_at k n text) (sym (next-fault w _ e.place r))
      go (Ok v) r =
          let q = v.next in
          let t = subst (λ z. Stands text z (blanks a ++ (s ∷ ys))) (sym (h q v.form r)) e in
          let i = skip-here text q a (s ∷ ys) l t in
          let c = sign-here text (q + a) (s ∷ ys) (past-blanks text q a (s ∷ ys) t) in
          let o = subst (λ z. term_at k n text (z + a + 1) ≡ g (z + a + 1 + b)) (sym (h q v.form r)) f in
          turn q v.form r i c
          ∙ ap (λ z. sums_at k n text (joined (q + a) v.form m z)) o
          ∙ ap (sums_at k n text) (sym (next-at w _ q v.form r))

  sum-stop : (k : ℕ) (w : Reading) (end : ℕ) (rest : List Sign) → ((q : ℕ) (x : Form) → w ≡ reaches q x → q ≡ end) → Stands text end rest → T (ends (head rest)) → sums_at (suc k) n text w ≡ w
  sum-stop k w end rest h e t = go w refl
    where
      go : (u : Reading) → w ≡ u → sums_at (suc k) n text w ≡ w
      go (Err e) r = sum-fault n text w k e.place r
      go (Ok v) r =
          let q = v.next in
          let c = head-here text q rest (subst (λ z. Stands text z rest) (sym (h q v.form r)) e) in
          sum-turn n text w k q (skip text q) v.form (head rest) r refl (sym c) ∙ no_sign (head rest) _ w t

  -- from the run of a term, or an expression, to its end
  term-done :
      (t : Term) (k p i : ℕ) (rest : List Sign)
      → ((j : ℕ) → term_steps t ≤ j → term_at (suc (j + product_count t)) n text p ≡ products_at j n text (work_term n (p + i) t))
      → 2 + term_steps t + product_count t ≤ k
      → T (ends_term (head rest))
      → Stands text p (blanks i ++ (spell_term t ++ rest))
      → term_at k n text p ≡ work_term n (p + i) t
  term-done t k p i rest runs h o st =
      let j = k - 2 - product_count t in
      ap (λ z. term_at z n text p) (let z : k ≡ suc (suc j + product_count t) = omega arith in z)
      ∙ runs (suc j) (omega arith)
      ∙ product-stop j (work_term n (p + i) t) (p + i + length (spell_term t)) rest (λ q x r. term-end t n (p + i) q x r) (past text (p + i) (spell_term t) rest (past-blanks text p i (spell_term t ++ rest) st)) o

  expression-done :
      (e : Expression) (k p i : ℕ) (rest : List Sign)
      → ((j : ℕ) → expression_steps e ≤ j → expression_at (suc (j + sum_count e)) n text p ≡ sums_at j n text (work_expression n (p + i) e))
      → 2 + expression_steps e + sum_count e ≤ k
      → T (ends (head rest))
      → Stands text p (blanks i ++ (spell e ++ rest))
      → expression_at k n text p ≡ work_expression n (p + i) e
  expression-done e k p i rest runs h o st =
      let j = k - 2 - sum_count e in
      ap (λ z. expression_at z n text p) (let z : k ≡ suc (suc j + sum_count e) = omega arith in z)
      ∙ runs (suc j) (omega arith)
      ∙ sum-stop j (work_expression n (p + i) e) (p + i + length (spell e)) rest (λ q x r. expression-end e n (p + i) q x r) (past text (p + i) (spell e) rest (past-blanks text p i (spell e ++ rest) st)) o

  mutual
    unfolding work_expression spell expression_steps sum_count product_count expression_at term_at not_digit ends_term ends head head_by lead_by lead first

    expression-runs : (e : Expression) (k p i : ℕ) (rest : List Sign) → expression_steps e ≤ k → T (not_digit (first rest)) → T (ends_term (head rest)) → Stands text p (blanks i ++ (spell e ++ rest)) → expression_at (suc (k + sum_count e)) n text p ≡ sums_at k n text (work_expression n (p + i) e)
    expression-runs (term t) k p i rest h d o st =
        ap (λ z. expression_at (suc z) n text p) (let z : k + zero ≡ k = omega arith in z)
        ∙ ap (sums_at k n text) (term-done t k p i rest (λ j l. term_runs t j p i rest l d st) h o st)
    expression-runs (sum e a b t) k p i rest h d o st =
        let ys = blanks b ++ (spell_term t ++ rest) in
        let st' = st ∙ ap (λ zs. blanks i ++ zs) (regroup (spell e) (spell_term t) rest a b Plus) in
        let end = p + i + length (spell e) in
        let se = past text (p + i) (spell e) (blanks a ++ (Plus ∷ ys)) (past-blanks text p i (spell e ++ (blanks a ++ (Plus ∷ ys))) st') in
        let sr = past_one text (end + a) Plus ys (past-blanks text end a (Plus ∷ ys) se) in
        let before = expression-runs e (suc k) p i (blanks a ++ (Plus ∷ ys)) (omega arith) (blanks-first a Plus ys tt) (subst (λ x. T (ends_term x)) (sym (head-blanks a (Plus ∷ ys))) tt) st' in
        let right = term-done t k (end + a + 1) b rest (λ j l. term_runs t j (end + a + 1) b rest l d sr) (omega arith) o sr in
        ap (λ z. expression_at (suc z) n text p) (let z : k + suc (sum_count e) ≡ suc k + sum_count e = omega arith in z)
        ∙ before
        ∙ sum-law (pos 1) Plus k (work_expression n (p + i) e) end a b ys (λ z. work_term n z t)
        (λ q x r f c. sum-plus n text (work_expression n (p + i) e) k q (q + a) x Plus r f (sym c) refl)
        refl refl
        (λ q x r. expression-end e n (p + i) q x r) se right
    expression-runs (difference e a b t) k p i rest h d o st =
        let ys = blanks b ++ (spell_term t ++ rest) in
        let st' = st ∙ ap (λ zs. blanks i ++ zs) (regroup (spell e) (spell_term t) rest a b Minus) in
        let end = p + i + length (spell e) in
        let se = past text (p + i) (spell e) (blanks a ++ (Minus ∷ ys)) (past-blanks text p i (spell e ++ (blanks a ++ (Minus ∷ ys))) st') in
        let sr = past_one text (end + a) Minus ys (past-blanks text end a (Minus ∷ ys) se) in
        let before = expression-runs e (suc k) p i (blanks a ++ (Minus ∷ ys)) (omega arith) (blanks-first a Minus ys tt) (subst (λ x. T (ends_term x)) (sym (head-blanks a (Minus ∷ ys))) tt) st' in
        let right = term-done t k (end + a + 1) b rest (λ j l. term_runs t j (end + a + 1) b rest l d sr) (omega arith) o sr in
        ap (λ z. expression_at (suc z) n text p) (let z : k + suc (sum_count e) ≡ suc k + sum_count e = omega arith in z)
        ∙ before
        ∙ sum-law (negsuc 0) Minus k (work_expression n (p + i) e) end a b ys (λ z. work_term n z t)
        (λ q x r f c. sum-minus n text (work_expression n (p + i) e) k q (q + a) x Minus r f (sym c) refl)
        refl refl
        (λ q x r. expression-end e n (p + i) q x r) se right

    term_runs : (t : Term) (k p i : ℕ) (rest : List Sign) → term_steps t ≤ k → T (not_digit (first rest)) → Stands text p (blanks i ++ (spell_term t ++ rest)) → term_at (suc (k + product_count t)) n text p ≡ products_at k n text (work_term n (p + i) t)
    term_runs (factor f) k p i rest h d st =
        ap (λ z. term_at (suc z) n text p) (let z : k + zero ≡ k = omega arith in z)
        ∙ ap (products_at k n text) (factor-works f k p i rest h d st)
    term_runs (product t a b f) k p i rest h d st =
        let ys = blanks b ++ (spell_factor f ++ rest) in
        let st' = st ∙ ap (λ zs. blanks i ++ zs) (regroup (spell_term t) (spell_factor f) rest a b Times) in
        let end = p + i + length (spell_term t) in
        let se = past text (p + i) (spell_term t) (blanks a ++ (Times ∷ ys)) (past-blanks text p i (spell_term t ++ (blanks a ++ (Times ∷ ys))) st') in
        let sr = past_one text (end + a) Times ys (past-blanks text end a (Times ∷ ys) se) in
        let before = term_runs t (suc k) p i (blanks a ++ (Times ∷ ys)) (omega arith) (blanks-first a Times ys tt) st' in
        let right = factor-works f k (end + a + 1) b rest (omega arith) d sr in
        ap (λ z. term_at (suc z) n text p) (let z : k + suc (product_count t) ≡ suc k + product_count t = omega arith in z)
        ∙ before
        ∙ product_law k (work_term n (p + i) t) end a b ys (λ z. work_factor n z f) (λ q x r. term-end t n (p + i) q x r) se right

    factor-works : (f : Factor) (k p i : ℕ) (rest : List Sign) → factor_steps f ≤ k → T (not_digit (first rest)) → Stands text p (blanks i ++ (spell_factor f ++ rest)) → factor_at k n text p ≡ work_factor n (p + i) f
    factor-works (number x ds) zero p i rest h d st = absurd (omega arith)
    factor-works (number x ds) (suc k) p i rest h d st =
        let here = past-blanks text p i (Digit x ∷ (digits ds ++ rest)) st in
        factor-number n text k p (p + i) (Digit x) (skip-here text p i (Digit x ∷ (digits ds ++ rest)) refl st) (sym (sign-here text (p + i) (Digit x ∷ (digits ds ++ rest)) here)) x refl
        ∙ whole-law (p + i) x ds rest d here
    factor-works (variable v) zero p i rest h d st = absurd (omega arith)
    factor-works (variable v) (suc k) p i rest h d st =
        let here = past-blanks text p i (Letter v ∷ rest) st in
        factor-letter n text k p (p + i) (Letter v) (skip-here text p i (Letter v ∷ rest) refl st) (sym (sign-here text (p + i) (Letter v ∷ rest) here)) v refl
    factor-works (bracket a e b) zero p i rest h d st = absurd (omega arith)
    factor-works (bracket a e b) (suc k) p i rest h d st =
        let xs = (blanks a ++ (spell e ++ (blanks b ++ (Close ∷ [])))) ++ rest in
        let ys = blanks b ++ (Close ∷ rest) in
        let here = past-blanks text p i (Open ∷ xs) st in
        let si = past_one text (p + i) Open xs here ∙ regroup-bracket (spell e) rest a b in
        let end = p + i + 1 + a + length (spell e) in
        let se = past text (p + i + 1 + a) (spell e) ys (past-blanks text (p + i + 1) a (spell e ++ ys) si) in
        let o = subst (λ x. T (ends x)) (sym (head-blanks b (Close ∷ rest))) tt in
        let inner = expression-done e k (p + i + 1) a ys (λ j l. expression-runs e j (p + i + 1) a ys l (blanks-first b Close rest tt) (wider (head ys) o) si) (omega arith) o si in
        factor-bracket n text k p (p + i) Open (skip-here text p i (Open ∷ xs) refl st) (sym (sign-here text (p + i) (Open ∷ xs) here)) refl
        ∙ ap (closed_at text) inner
        ∙ close-law (work_expression n (p + i + 1 + a) e) end b rest (λ q x r. expression-end e n (p + i + 1 + a) q x r) se
    factor-works (negative a f) zero p i rest h d st = absurd (omega arith)
    factor-works (negative a f) (suc k) p i rest h d st =
        let xs = (blanks a ++ spell_factor f) ++ rest in
        let here = past-blanks text p i (Minus ∷ xs) st in
        let si = past_one text (p + i) Minus xs here ∙ append_assoc (blanks a) (spell_factor f) rest in
        factor-minus n text k p (p + i) Minus (skip-here text p i (Minus ∷ xs) refl st) (sym (sign-here text (p + i) (Minus ∷ xs) here)) refl
        ∙ ap (joined (p + i) zero_form (negsuc 0)) (factor-works f k (p + i + 1) a rest (omega arith) d si)

  -- the readers work out every expression that stands in the text
  pub expression-works : (e : Expression) (k p i : ℕ) (rest : List Sign) → 2 + expression_steps e + sum_count e ≤ k → T (not_digit (first rest)) → T (ends (head rest)) → Stands text p (blanks i ++ (spell e ++ rest)) → expression_at k n text p ≡ work_expression n (p + i) e
  expression-works e k p i rest h d o st = expression-done e k p i rest (λ j l. expression-runs e j p i rest l d (wider (head rest) o) st) h o st
