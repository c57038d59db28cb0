-- Rows at the points that obligations speak of: p, then p', then δ. A row on x, on x', on rates, the time row and the staying rows
-- hold at the joined point exactly by what they mean at its parts. Assumes nothing.
use mathlib.Core.Path.{◌≡◌, refl, sym, ap, ◌∙◌}
use mathlib.Core.Bool.{false}
use mathlib.Core.List.{List, [], ◌∷◌, ◌++◌, map, append-nil, append_assoc}
use Prim.Native.Nat.{ℕ, zero, suc, ◌+◌, ◌<◌}
use native.Mathlib.Omega.{arith}
use lib.Dec.{T}
use lib.IntN.{ℤ, pos, negsuc, neg_ℤ, ◌+ℤ◌, ◌-ℤ◌, ◌*ℤ◌, +ℤ_idl, +ℤ_idr}
use lib.ListN.{length, get_or, set, replicate, length-append, length-set, length-map}
use lib.Signed.{◌≤ℤ◌}
use Rattle.farkas.specs.Rows.{Row, Compared, item, dot, row_holds}
use Rattle.farkas.specs.Lists.{All, none, more}
use Rattle.farkas.proofs.Comparing.{compared-means, compared-plain}
use Rattle.farkas.proofs.Integers.{split, by_parts}
use Rattle.rules.specs.Runs.{difference}
use Rattle.rules.specs.Obligations.{on_x, on_next, on_rates, time_row, unit, staying_rows}

-- products with joined lists
pub dot-nothing : (xs : List ℤ) → dot xs [] ≡ pos 0
unfolding dot
dot-nothing [] = refl
dot-nothing (a ∷ xs) = refl

regroup : (a b c : ℤ) → a +ℤ (b +ℤ c) ≡ (a +ℤ b) +ℤ c
regroup a b c = rw (split a, split b, split c) (simp by_parts (omega arith))

pub dot-append : (xs ys ps qs : List ℤ) → length xs ≡ length ps → dot (xs ++ ys) (ps ++ qs) ≡ dot xs ps +ℤ dot ys qs
unfolding dot
dot-append [] ys [] qs h = sym (+ℤ_idl (dot ys qs))
dot-append [] ys (p ∷ ps) qs h = absurd (omega arith)
dot-append (a ∷ xs) ys [] qs h = absurd (omega arith)
dot-append (a ∷ xs) ys (p ∷ ps) qs h =
    ap (λ z. a *ℤ p +ℤ z) (dot-append xs ys ps qs (omega arith)) ∙ regroup (a *ℤ p) (dot xs ps) (dot ys qs)

pub dot-first : (xs ps qs : List ℤ) → length xs ≡ length ps → dot xs (ps ++ qs) ≡ dot xs ps
unfolding dot
dot-first xs ps qs h =
    ap (λ ys. dot ys (ps ++ qs)) (sym (append-nil xs)) ∙ dot-append xs [] ps qs h ∙ +ℤ_idr (dot xs ps)

pub dot-zeros : (n : ℕ) (ps : List ℤ) → dot (replicate n (pos 0)) ps ≡ pos 0
unfolding dot
dot-zeros zero ps = refl
dot-zeros (suc n) [] = refl
dot-zeros (suc n) (p ∷ ps) = ap (λ z. pos 0 *ℤ p +ℤ z) (dot-zeros n ps) ∙ nothing p
  where
    nothing : (p : ℤ) → pos 0 *ℤ p +ℤ pos 0 ≡ pos 0
    nothing p = rw (split p) (simp by_parts (omega arith))

pub dot-neg : (xs ps : List ℤ) → dot (map neg_ℤ xs) ps ≡ neg_ℤ (dot xs ps)
unfolding dot
dot-neg [] ps = refl
dot-neg (a ∷ xs) [] = refl
dot-neg (a ∷ xs) (p ∷ ps) = ap (λ z. neg_ℤ a *ℤ p +ℤ z) (dot-neg xs ps) ∙ both a p (dot xs ps)
  where
    both : (a p d : ℤ) → neg_ℤ a *ℤ p +ℤ neg_ℤ d ≡ neg_ℤ (a *ℤ p +ℤ d)
    both a p d = rw (split a, split p, split d) (simp by_parts (omega arith))

pub dot-difference : (xs ps qs : List ℤ) → length ps ≡ length qs → dot xs (difference ps qs) ≡ dot xs ps -ℤ dot xs qs
unfolding dot difference
dot-difference [] ps qs h = refl
dot-difference (a ∷ xs) [] [] h = refl
dot-difference (a ∷ xs) [] (q ∷ qs) h = absurd (omega arith)
dot-difference (a ∷ xs) (p ∷ ps) [] h = absurd (omega arith)
dot-difference (a ∷ xs) (p ∷ ps) (q ∷ qs) h =
    ap (λ z. a *ℤ (p -ℤ q) +ℤ z) (dot-difference xs ps qs (omega arith)) ∙ both a p q (dot xs ps) (dot xs qs)
  where
    both : (a p q c d : ℤ) → a *ℤ (p -ℤ q) +ℤ (c -ℤ d) ≡ (a *ℤ p +ℤ c) -ℤ (a *ℤ q +ℤ d)
    both a p q c d = rw (split a, split p, split q, split c, split d) (simp by_parts (omega arith))

times-nothing : (a : ℤ) → pos 0 ≡ a *ℤ pos 0
times-nothing a = rw (split a) (simp by_parts (omega arith))

pub dot-unit : (n v : ℕ) (a : ℤ) (ps : List ℤ) → v < n → dot (set (replicate n (pos 0)) v a) ps ≡ a *ℤ item ps v
unfolding dot item
dot-unit zero v a ps h = absurd (omega arith)
dot-unit (suc n) zero a [] h = times-nothing a
dot-unit (suc n) zero a (p ∷ ps) h = ap (λ z. a *ℤ p +ℤ z) (dot-zeros n ps) ∙ +ℤ_idr (a *ℤ p)
dot-unit (suc n) (suc v) a [] h = times-nothing a
dot-unit (suc n) (suc v) a (p ∷ ps) h = ap (λ z. pos 0 *ℤ p +ℤ z) (dot-unit n v a ps (omega arith)) ∙ past p (a *ℤ get_or ps v (pos 0))
  where
    past : (p z : ℤ) → pos 0 *ℤ p +ℤ z ≡ z
    past p z = rw (split p, split z) (simp by_parts (omega arith))

-- a row holds by the order
pub holds_by : (q : ℕ) (x : List ℤ) (r : Row) → Compared r.strict (dot r.coefficients x) (r.bound *ℤ pos q) → T (row_holds q x r)
unfolding row_holds
holds_by q x r h = (compared-means r.strict (dot r.coefficients x) (r.bound *ℤ pos q)).1 h

pub holds-so : (q : ℕ) (x : List ℤ) (r : Row) → T (row_holds q x r) → Compared r.strict (dot r.coefficients x) (r.bound *ℤ pos q)
unfolding row_holds
holds-so q x r t = (compared-means r.strict (dot r.coefficients x) (r.bound *ℤ pos q)).0 t

-- on x
pub on-x : (q : ℕ) (p rest : List ℤ) (r : Row) → length r.coefficients ≡ length p → T (row_holds q p r) → T (row_holds q (p ++ rest) (on_x r))
unfolding on_x
on-x q p rest r h t = holds_by q (p ++ rest) r (rw (dot-first r.coefficients p rest h) (holds-so q p r t))

pub length-zeros : (n : ℕ) → length (replicate n (pos 0)) ≡ n
length-zeros n = lib.ListN.length-replicate n (pos 0)

dot-next : (n : ℕ) (p next rest : List ℤ) (r : Row) → length p ≡ n → length r.coefficients ≡ length next → dot (on_next n r).coefficients (p ++ (next ++ rest)) ≡ dot r.coefficients next
unfolding on_next
dot-next n p next rest r h k =
    dot-append (replicate n (pos 0)) r.coefficients p (next ++ rest) (length-zeros n ∙ sym h)
    ∙ ap (λ z. z +ℤ dot r.coefficients (next ++ rest)) (dot-zeros n p)
    ∙ +ℤ_idl (dot r.coefficients (next ++ rest))
    ∙ dot-first r.coefficients next rest k

-- on x', both ways
pub on-next : (n q : ℕ) (p next rest : List ℤ) (r : Row) → length p ≡ n → length r.coefficients ≡ length next → T (row_holds q next r) → T (row_holds q (p ++ (next ++ rest)) (on_next n r))
unfolding on_next
on-next n q p next rest r h k t = holds_by q (p ++ (next ++ rest)) (on_next n r) (rw (dot-next n p next rest r h k) (holds-so q next r t))

pub from_next : (n q : ℕ) (p next rest : List ℤ) (r : Row) → length p ≡ n → length r.coefficients ≡ length next → T (row_holds q (p ++ (next ++ rest)) (on_next n r)) → T (row_holds q next r)
unfolding on_next
from_next n q p next rest r h k t = holds_by q next r (rw (← dot-next n p next rest r h k) (holds-so q (p ++ (next ++ rest)) (on_next n r) t))

-- on rates
pub dot-one : (a p : ℤ) → dot (a ∷ []) (p ∷ []) ≡ a *ℤ p
unfolding dot
dot-one a p = +ℤ_idr (a *ℤ p)

pub dot-rates : (p next : List ℤ) (δ : ℕ) (r : Row) → length r.coefficients ≡ length p → length r.coefficients ≡ length next → dot (on_rates r).coefficients (p ++ (next ++ (pos δ ∷ []))) ≡ neg_ℤ (dot r.coefficients p) +ℤ (dot r.coefficients next +ℤ neg_ℤ r.bound *ℤ pos δ)
unfolding on_rates
dot-rates p next δ r h k =
    dot-append (map neg_ℤ r.coefficients) (r.coefficients ++ (neg_ℤ r.bound ∷ [])) p (next ++ (pos δ ∷ [])) (length-map r.coefficients neg_ℤ ∙ h)
    ∙ ap (λ z. z +ℤ dot (r.coefficients ++ (neg_ℤ r.bound ∷ [])) (next ++ (pos δ ∷ []))) (dot-neg r.coefficients p)
    ∙ ap (λ z. neg_ℤ (dot r.coefficients p) +ℤ z) (dot-append r.coefficients (neg_ℤ r.bound ∷ []) next (pos δ ∷ []) k)
    ∙ ap (λ z. neg_ℤ (dot r.coefficients p) +ℤ (dot r.coefficients next +ℤ z)) (dot-one (neg_ℤ r.bound) (pos δ))

pub on-rates : (q δ : ℕ) (p next : List ℤ) (r : Row) → length r.coefficients ≡ length p → length r.coefficients ≡ length next → T (row_holds δ (difference next p) r) → T (row_holds q (p ++ (next ++ (pos δ ∷ []))) (on_rates r))
unfolding on_rates
on-rates q δ p next r h k t =
    holds_by q (p ++ (next ++ (pos δ ∷ []))) (on_rates r)
    (compared-plain refl
    (rw (dot-rates p next δ r h k)
    (moved (dot r.coefficients p) (dot r.coefficients next) r.bound (pos δ) (pos q)
    (rw (dot-difference r.coefficients next p (sym k ∙ h)) at (holds-so δ (difference next p) r t).most))))
  where
    moved : (a b c d q : ℤ) → (b -ℤ a) ≤ℤ (c *ℤ d) → (neg_ℤ a +ℤ (b +ℤ neg_ℤ c *ℤ d)) ≤ℤ (pos 0 *ℤ q)
    moved a b c d q = rw (split a, split b, split c, split d, split q) (simp by_parts (omega arith))

-- the time row
pub time-holds : (n q δ : ℕ) (p next : List ℤ) → length p ≡ n → length next ≡ n → T (row_holds q (p ++ (next ++ (pos δ ∷ []))) (time_row n))
unfolding time_row
time-holds n q δ p next h k =
    holds_by q (p ++ (next ++ (pos δ ∷ []))) (time_row n)
    (compared-plain refl (rw (← append_assoc p next (pos δ ∷ []), dot-append (replicate (n + n) (pos 0)) (negsuc 0 ∷ []) (p ++ next) (pos δ ∷ []) both, dot-zeros (n + n) (p ++ next), dot-one (negsuc 0) (pos δ)) (passes δ (pos q))))
  where
    both : length (replicate (n + n) (pos 0)) ≡ length (p ++ next)
    both = length-zeros (n + n) ∙ omega (arith, length-append p next)

    passes : (δ : ℕ) (q : ℤ) → (pos 0 +ℤ negsuc 0 *ℤ pos δ) ≤ℤ (pos 0 *ℤ q)
    passes δ q = rw (split q) (simp by_parts (omega arith))

-- the staying rows
length-unit : (n v : ℕ) (a : ℤ) → length (unit n v a) ≡ n
unfolding unit
length-unit n v a = length-set (replicate n (pos 0)) v a ∙ length-zeros n

pub dot-units : (n v : ℕ) (a b : ℤ) (p next : List ℤ) → length p ≡ n → v < n → dot (unit n v a ++ unit n v b) (p ++ next) ≡ a *ℤ item p v +ℤ b *ℤ item next v
unfolding unit
dot-units n v a b p next h l =
    dot-append (unit n v a) (unit n v b) p next (length-unit n v a ∙ sym h)
    ∙ ap (λ z. z +ℤ dot (unit n v b) next) (dot-unit n v a p l)
    ∙ ap (λ z. a *ℤ item p v +ℤ z) (dot-unit n v b next l)

staying-one : (n q v : ℕ) (a b : ℤ) (p next : List ℤ) → length p ≡ n → v < n → (a *ℤ item p v +ℤ b *ℤ item next v) ≤ℤ (pos 0 *ℤ pos q) → T (row_holds q (p ++ next) (record { coefficients = unit n v a ++ unit n v b; bound = pos 0; strict = false }))
staying-one n q v a b p next h l w = holds_by q (p ++ next) _ (compared-plain refl (rw (dot-units n v a b p next h l) w))

pub staying-hold : (n q v : ℕ) (p next : List ℤ) → length p ≡ n → v < n → item next v ≡ item p v → All (λ r. T (row_holds q (p ++ next) r)) (staying_rows n v)
unfolding staying_rows
staying-hold n q v p next h l e =
    more (staying-one n q v (negsuc 0) (pos 1) p next h l (rw e (less (item p v) (pos q))))
    (more (staying-one n q v (pos 1) (negsuc 0) p next h l (rw e (greater (item p v) (pos q)))) none)
  where
    less : (x q : ℤ) → (negsuc 0 *ℤ x +ℤ pos 1 *ℤ x) ≤ℤ (pos 0 *ℤ q)
    less x q = rw (split x, split q) (simp by_parts (omega arith))

    greater : (x q : ℤ) → (pos 1 *ℤ x +ℤ negsuc 0 *ℤ x) ≤ℤ (pos 0 *ℤ q)
    greater x q = rw (split x, split q) (simp by_parts (omega arith))
