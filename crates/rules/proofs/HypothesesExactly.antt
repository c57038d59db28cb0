-- The hypotheses of an obligation are neither too strong nor too weak: each row, at the point (x, x', d) that a start, a flow, an unsafe
-- state or a jump gives, holds exactly when the rule's own row holds there; and all hypotheses of a kind hold together exactly when the
-- region, the invariants and the rule's rows hold. Assumes nothing.
use mathlib.Core.Path.{◌≡◌, refl, sym, ap, ◌∙◌, subst}
use mathlib.Core.Logic.{◌↔◌}
use mathlib.Core.Bool.{false}
use mathlib.Core.List.{List, [], ◌∷◌, ◌++◌, map, append-nil, append_assoc}
use Prim.Native.Nat.{ℕ, ◌+◌, ◌<◌}
use native.Mathlib.Omega.{arith}
use lib.Dec.{T}
use lib.IntN.{ℤ, pos, negsuc, neg_ℤ, ◌+ℤ◌, ◌-ℤ◌, ◌*ℤ◌}
use lib.ListN.{length, replicate, length-append, get_or-append}
use lib.Signed.{◌≤ℤ◌}
use Rattle.farkas.specs.Lists.{every, All, none, more}
use Rattle.farkas.specs.Rows.{Row, item, dot, row_holds}
use Rattle.farkas.proofs.All.{all_append, all_map, every-all, all-every}
use Rattle.farkas.proofs.Comparing.{compared-plain}
use Rattle.farkas.proofs.Integers.{split, by_parts}
use Rattle.farkas.proofs.Order.{≤-antisym}
use Rattle.formats.specs.Rows.{Condition}
use Rattle.formats.specs.Model.{Mode, Switch}
use Rattle.formats.specs.Joint.{join_all}
use Rattle.formats.proofs.Members.{all_left, all_right}
use Rattle.formats.proofs.WellFormed.{Wide, GoodMode}
use Rattle.rules.specs.Runs.{condition_holds, difference}
use Rattle.rules.specs.Obligations.{nowhere, standing, on_x, on_next, on_rates, time_row, unit, staying_rows, mode_rows, start_hypotheses, flow_hypotheses, unsafe_hypotheses, jump_hypotheses}
use Rattle.rules.proofs.Points.{dot-append, dot-first, dot-zeros, dot-difference, dot-one, dot-rates, dot-units, length-zeros, holds_by, holds-so, on-x, on-next, from_next, on-rates, staying-hold}
use Rattle.rules.proofs.Hypotheses.{all_both, all_so, join-all, rows-hold, hold-rows}
use Rattle.rules.proofs.Shown.{Holding}

-- one row. On x
pub on-x-exactly : (q : ℕ) (p rest : List ℤ) (r : Row) → length r.coefficients ≡ length p → T (row_holds q (p ++ rest) (on_x r)) ↔ T (row_holds q p r)
unfolding on_x
on-x-exactly q p rest r h =
    (λ t. holds_by q p r (rw (← dot-first r.coefficients p rest h) (holds-so q (p ++ rest) r t)), on-x q p rest r h)

-- on x'
pub on-next-exactly : (n q : ℕ) (p next rest : List ℤ) (r : Row) → length p ≡ n → length r.coefficients ≡ length next → T (row_holds q (p ++ (next ++ rest)) (on_next n r)) ↔ T (row_holds q next r)
on-next-exactly n q p next rest r h k = (from_next n q p next rest r h k, on-next n q p next rest r h k)

-- on rates: −a on x, a on x', −b on d; flow rows are not strict
pub on-rates-exactly : (q δ : ℕ) (p next : List ℤ) (r : Row) → r.strict ≡ false → length r.coefficients ≡ length p → length r.coefficients ≡ length next → T (row_holds q (p ++ (next ++ (pos δ ∷ []))) (on_rates r)) ↔ T (row_holds δ (difference next p) r)
unfolding on_rates
on-rates-exactly q δ p next r steady h k = (there, on-rates q δ p next r h k)
  where
    back : (a b c d q : ℤ) → (neg_ℤ a +ℤ (b +ℤ neg_ℤ c *ℤ d)) ≤ℤ (pos 0 *ℤ q) → (b -ℤ a) ≤ℤ (c *ℤ d)
    back a b c d q = rw (split a, split b, split c, split d, split q) (simp by_parts (omega arith))

    there : T (row_holds q (p ++ (next ++ (pos δ ∷ []))) (on_rates r)) → T (row_holds δ (difference next p) r)
    there t =
        holds_by δ (difference next p) r
        (compared-plain steady
        (rw (dot-difference r.coefficients next p (sym k ∙ h))
        (back (dot r.coefficients p) (dot r.coefficients next) r.bound (pos δ) (pos q)
        (rw (dot-rates p next δ r h k) at (holds-so q (p ++ (next ++ (pos δ ∷ []))) (on_rates r) t).most))))

-- the time row: for any d, not only a time, it says that d is not below 0
pub time-exactly : (n q : ℕ) (p next : List ℤ) (d : ℤ) → length p ≡ n → length next ≡ n → T (row_holds q (p ++ (next ++ (d ∷ []))) (time_row n)) ↔ (pos 0 ≤ℤ d)
unfolding time_row
time-exactly n q p next d h k = (there, back)
  where
    both : length (replicate (n + n) (pos 0)) ≡ length (p ++ next)
    both = length-zeros (n + n) ∙ omega (arith, length-append p next)

    product : dot (time_row n).coefficients (p ++ (next ++ (d ∷ []))) ≡ pos 0 +ℤ negsuc 0 *ℤ d
    product =
        ap (dot (time_row n).coefficients) (sym (append_assoc p next (d ∷ [])))
        ∙ dot-append (replicate (n + n) (pos 0)) (negsuc 0 ∷ []) (p ++ next) (d ∷ []) both
        ∙ ap (λ z. z +ℤ dot (negsuc 0 ∷ []) (d ∷ [])) (dot-zeros (n + n) (p ++ next))
        ∙ ap (λ z. pos 0 +ℤ z) (dot-one (negsuc 0) d)

    so : (d q : ℤ) → (pos 0 +ℤ negsuc 0 *ℤ d) ≤ℤ (pos 0 *ℤ q) → pos 0 ≤ℤ d
    so d q = rw (split d, split q) (simp by_parts (omega arith))

    by : (d q : ℤ) → pos 0 ≤ℤ d → (pos 0 +ℤ negsuc 0 *ℤ d) ≤ℤ (pos 0 *ℤ q)
    by d q = rw (split d, split q) (simp by_parts (omega arith))

    there : T (row_holds q (p ++ (next ++ (d ∷ []))) (time_row n)) → pos 0 ≤ℤ d
    there t = so d (pos q) (rw product at (holds-so q (p ++ (next ++ (d ∷ []))) (time_row n) t).most)

    back : pos 0 ≤ℤ d → T (row_holds q (p ++ (next ++ (d ∷ []))) (time_row n))
    back w = holds_by q (p ++ (next ++ (d ∷ []))) (time_row n) (compared-plain refl (rw product (by d (pos q) w)))

-- the two staying rows of a variable
pub staying-exactly : (n q v : ℕ) (p next : List ℤ) → length p ≡ n → v < n → All (λ r. T (row_holds q (p ++ next) r)) (staying_rows n v) ↔ (item next v ≡ item p v)
unfolding staying_rows
staying-exactly n q v p next h l = (there, staying-hold n q v p next h l)
  where
    less : (x y q : ℤ) → (negsuc 0 *ℤ x +ℤ pos 1 *ℤ y) ≤ℤ (pos 0 *ℤ q) → y ≤ℤ x
    less x y q = rw (split x, split y, split q) (simp by_parts (omega arith))

    greater : (x y q : ℤ) → (pos 1 *ℤ x +ℤ negsuc 0 *ℤ y) ≤ℤ (pos 0 *ℤ q) → x ≤ℤ y
    greater x y q = rw (split x, split y, split q) (simp by_parts (omega arith))

    one : (a b : ℤ) → T (row_holds q (p ++ next) (record { coefficients = unit n v a ++ unit n v b; bound = pos 0; strict = false })) → (a *ℤ item p v +ℤ b *ℤ item next v) ≤ℤ (pos 0 *ℤ pos q)
    one a b t = rw (dot-units n v a b p next h l) at (holds-so q (p ++ next) _ t).most

    there : All (λ r. T (row_holds q (p ++ next) r)) (staying_rows n v) → item next v ≡ item p v
    there (more s (more t none)) =
        ≤-antisym (item next v) (item p v)
        (less (item p v) (item next v) (pos q) (one (negsuc 0) (pos 1) s))
        (greater (item p v) (item next v) (pos q) (one (pos 1) (negsuc 0) t))

-- lists of rows
map-all : {A B : Type 0} {P : B → Type 0} (f : A → B) (xs : List A) → All P (map f xs) → All (λ a. P (f a)) xs
map-all f [] h = none
map-all f (x ∷ xs) (more y h) = more y (map-all f xs h)

all_join : {A B : Type 0} {P : B → Type 0} (f : A → List B) (xs : List A) → All P (join_all f xs) → All (λ a. All P (f a)) xs
unfolding join_all
all_join f [] h = none
all_join f (x ∷ xs) h = more (all_left (f x) (join_all f xs) h) (all_join f xs (all_right (f x) (join_all f xs) h))

joined : {A : Type 0} {P : A → Type 0} {C D : Type 0} (xs ys : List A) → All P xs ↔ C → All P ys ↔ D → All P (xs ++ ys) ↔ (C × D)
joined xs ys f g = (λ h. (f.0 (all_left xs ys h), g.0 (all_right xs ys h)), λ w. all_append (f.1 w.0) (g.1 w.1))

-- rows put on the unknowns, where each that fits holds exactly when it holds of the values at their own part. Rows of a width fit, and of
-- flow rows those that are not strict
abbrev OfWidth : ℕ → Row → Type 0
OfWidth n r = length r.coefficients ≡ n

abbrev OnRates : ℕ → Row → Type 0
OnRates n r = OfWidth n r × (r.strict ≡ false)

module _ (Fits : Row → Type 0) (q : ℕ) (z : List ℤ) (put : Row → Row) (scale : ℕ) (p : List ℤ) (each : (r : Row) → Fits r → T (row_holds q z (put r)) ↔ T (row_holds scale p r)) where
  rows-exactly : (sheet : ℕ) (rows : Condition) → All (λ r. Fits r.row) rows → All (Holding q z) (map (standing sheet put) rows) ↔ T (condition_holds scale p rows)
  unfolding standing
  rows-exactly sheet rows w = (there, back)
    where
      there : All (Holding q z) (map (standing sheet put) rows) → T (condition_holds scale p rows)
      there h = hold-rows scale p rows (all_so (λ r v. (each r.row v.0).0 v.1) (all_both w (map-all (standing sheet put) rows h)))

      back : T (condition_holds scale p rows) → All (Holding q z) (map (standing sheet put) rows)
      back t = all_map (standing sheet put) (all_so (λ r v. (each r.row v.0).1 v.1) (all_both w (rows-hold scale p rows t)))

  modes-exactly : (of : Mode → Condition) (modes : List Mode) → All (λ mode. All (λ r. Fits r.row) (of mode)) modes → All (Holding q z) (mode_rows of put modes) ↔ T (every (λ mode. condition_holds scale p (of mode)) modes)
  unfolding mode_rows
  modes-exactly of modes w = (there, back)
    where
      there : All (Holding q z) (mode_rows of put modes) → T (every (λ mode. condition_holds scale p (of mode)) modes)
      there h =
          all-every (λ mode. condition_holds scale p (of mode))
          (all_so (λ mode v. (rows-exactly 0 (of mode) v.0).0 v.1) (all_both w (all_join (λ mode. map (standing 0 put) (of mode)) modes h)))

      back : T (every (λ mode. condition_holds scale p (of mode)) modes) → All (Holding q z) (mode_rows of put modes)
      back t =
          join-all (λ mode. map (standing 0 put) (of mode))
          (all_so (λ mode v. (rows-exactly 0 (of mode) v.0).1 v.1) (all_both w (every-all (λ mode. condition_holds scale p (of mode)) modes t)))

jumps-exactly : (q : ℕ) (p next : List ℤ) (moving : List Switch) → All (Holding q (p ++ next)) (join_all (λ w. map (standing 0 on_x) w.jump) moving) ↔ T (every (λ w. condition_holds q (p ++ next) w.jump) moving)
unfolding on_x standing
jumps-exactly q p next moving = (there, back)
  where
    there : All (Holding q (p ++ next)) (join_all (λ w. map (standing 0 on_x) w.jump) moving) → T (every (λ w. condition_holds q (p ++ next) w.jump) moving)
    there h =
        all-every (λ w. condition_holds q (p ++ next) w.jump)
        (all_so (λ w v. hold-rows q (p ++ next) w.jump (map-all (standing 0 on_x) w.jump v)) (all_join (λ w. map (standing 0 on_x) w.jump) moving h))

    back : T (every (λ w. condition_holds q (p ++ next) w.jump) moving) → All (Holding q (p ++ next)) (join_all (λ w. map (standing 0 on_x) w.jump) moving)
    back t =
        join-all (λ w. map (standing 0 on_x) w.jump)
        (all_so (λ w v. all_map (standing 0 on_x) (rows-hold q (p ++ next) w.jump v)) (every-all (λ w. condition_holds q (p ++ next) w.jump) moving t))

stayings-exactly : (n q : ℕ) (p next rest : List ℤ) (staying : List ℕ) → length p ≡ n → length next ≡ n → All (λ v. v < n) staying → All (Holding q (p ++ (next ++ rest))) (map nowhere (join_all (staying_rows n) staying)) ↔ All (λ v. item next v ≡ item p v) staying
unfolding nowhere item
stayings-exactly n q p next rest staying h k below = (there, back)
  where
    here : (v : ℕ) → v < n → item (next ++ rest) v ≡ item next v
    here v l = get_or-append next rest (pos 0) v (omega (arith, k))

    there : All (Holding q (p ++ (next ++ rest))) (map nowhere (join_all (staying_rows n) staying)) → All (λ v. item next v ≡ item p v) staying
    there w =
        all_so (λ v l. sym (here v l.0) ∙ (staying-exactly n q v p (next ++ rest) h l.0).0 l.1)
        (all_both below (all_join (staying_rows n) staying (map-all nowhere (join_all (staying_rows n) staying) w)))

    back : All (λ v. item next v ≡ item p v) staying → All (Holding q (p ++ (next ++ rest))) (map nowhere (join_all (staying_rows n) staying))
    back w = all_map nowhere (join-all (staying_rows n) (all_so (λ v l. (staying-exactly n q v p (next ++ rest) h l.0).1 (here v l.0 ∙ l.1)) (all_both below w)))

one-exactly : {A : Type 0} {P : A → Type 0} {C D : Type 0} (x : A) (xs : List A) → P x ↔ C → All P xs ↔ D → All P (x ∷ xs) ↔ (C × D)
one-exactly {P = P} {C = C} {D = D} x xs f g = (there, λ w. more (f.1 w.0) (g.1 w.1))
  where
    there : All P (x ∷ xs) → C × D
    there (more h k) = (f.0 h, g.0 k)

-- all hypotheses of each kind, at values p over q of the right number
module _ (n q : ℕ) (modes : List Mode) (good : All (GoodMode n) modes) (p : List ℤ) (sized : length p ≡ n) where
  x-exactly : (rest : List ℤ) (r : Row) → length r.coefficients ≡ n → T (row_holds q (p ++ rest) (on_x r)) ↔ T (row_holds q p r)
  x-exactly rest r h = on-x-exactly q p rest r (h ∙ sym sized)

  invariants-x : (rest : List ℤ) → All (Holding q (p ++ rest)) (mode_rows (λ mode. mode.invariant) on_x modes) ↔ T (every (λ mode. condition_holds q p mode.invariant) modes)
  invariants-x rest = modes-exactly (OfWidth n) q (p ++ rest) on_x q p (x-exactly rest) (λ mode. mode.invariant) modes (all_so (λ mode g. g.invariant) good)

  -- start: the initial rows and the invariants
  pub start-exactly : All (Holding q (p ++ [])) (start_hypotheses modes) ↔ (T (every (λ mode. condition_holds q p mode.initial) modes) × T (every (λ mode. condition_holds q p mode.invariant) modes))
  unfolding start_hypotheses
  start-exactly =
      joined (mode_rows (λ mode. mode.initial) on_x modes) (mode_rows (λ mode. mode.invariant) on_x modes)
      (modes-exactly (OfWidth n) q (p ++ []) on_x q p (x-exactly []) (λ mode. mode.initial) modes (all_so (λ mode g. g.initial) good))
      (invariants-x [])

  module _ (region : Condition) (wide : Wide n region) where
    region-x : (rest : List ℤ) → All (Holding q (p ++ rest)) (map (standing 1 on_x) region) ↔ T (condition_holds q p region)
    region-x rest = rows-exactly (OfWidth n) q (p ++ rest) on_x q p (x-exactly rest) 1 region wide

    -- unsafe: the region, the invariants and the unsafe rows
    pub unsafe-exactly : (rows : Condition) → Wide n rows → All (Holding q (p ++ [])) (unsafe_hypotheses region modes rows) ↔ (T (condition_holds q p region) × (T (every (λ mode. condition_holds q p mode.invariant) modes) × T (condition_holds q p rows)))
    unfolding unsafe_hypotheses
    unsafe-exactly rows w =
        joined (map (standing 1 on_x) region) _ (region-x [])
        (joined (mode_rows (λ mode. mode.invariant) on_x modes) _ (invariants-x []) (rows-exactly (OfWidth n) q (p ++ []) on_x q p (x-exactly []) 0 rows w))

    -- flow: the region and the invariants at p, the invariants at p', the rates, a time d that is not below 0, and equal values of the still
    -- variables
    pub flow-exactly : (δ : ℕ) (next : List ℤ) (still : List ℕ) → length next ≡ n → All (λ v. v < n) still → All (Holding q (p ++ (next ++ (pos δ ∷ [])))) (flow_hypotheses n region modes still) ↔ (T (condition_holds q p region) × (T (every (λ mode. condition_holds q p mode.invariant) modes) × (T (every (λ mode. condition_holds q next mode.invariant) modes) × (T (every (λ mode. condition_holds δ (difference next p) mode.flow) modes) × ((pos 0 ≤ℤ pos δ) × All (λ v. item next v ≡ item p v) still)))))
    unfolding flow_hypotheses nowhere
    flow-exactly δ next still k below =
        let z = p ++ (next ++ (pos δ ∷ [])) in
        joined (map (standing 1 on_x) region) _ (region-x (next ++ (pos δ ∷ [])))
        (joined (mode_rows (λ mode. mode.invariant) on_x modes) _ (invariants-x (next ++ (pos δ ∷ [])))
        (joined (mode_rows (λ mode. mode.invariant) (on_next n) modes) _
        (modes-exactly (OfWidth n) q z (on_next n) q next (λ r h. on-next-exactly n q p next (pos δ ∷ []) r sized (h ∙ sym k)) (λ mode. mode.invariant) modes (all_so (λ mode g. g.invariant) good))
        (joined (mode_rows (λ mode. mode.flow) on_rates modes) _
        (modes-exactly (OnRates n) q z on_rates δ (difference next p) (λ r h. on-rates-exactly q δ p next r h.1 (h.0 ∙ sym sized) (h.0 ∙ sym k)) (λ mode. mode.flow) modes (all_so (λ mode g. all_both g.flow g.rates) good))
        (one-exactly (nowhere (time_row n)) _ (time-exactly n q p next (pos δ) sized k) (stayings-exactly n q p next (pos δ ∷ []) still sized k below)))))

    -- jump: the region and the invariants at p, the target's invariants at p', the jump rows, and equal values of the staying variables
    pub jump-exactly : (next : List ℤ) (targets : List Mode) (moving : List Switch) (staying : List ℕ) → length next ≡ n → All (GoodMode n) targets → All (λ v. v < n) staying → All (Holding q (p ++ next)) (jump_hypotheses n region modes targets moving staying) ↔ (T (condition_holds q p region) × (T (every (λ mode. condition_holds q p mode.invariant) modes) × (T (every (λ mode. condition_holds q next mode.invariant) targets) × (T (every (λ w. condition_holds q (p ++ next) w.jump) moving) × All (λ v. item next v ≡ item p v) staying))))
    unfolding jump_hypotheses
    jump-exactly next targets moving staying k goods below =
        joined (map (standing 1 on_x) region) _ (region-x next)
        (joined (mode_rows (λ mode. mode.invariant) on_x modes) _ (invariants-x next)
        (joined (mode_rows (λ mode. mode.invariant) (on_next n) targets) _
        (modes-exactly (OfWidth n) q (p ++ next) (on_next n) q next (next-exactly next k) (λ mode. mode.invariant) targets (all_so (λ mode g. g.invariant) goods))
        (joined (join_all (λ w. map (standing 0 on_x) w.jump) moving) _ (jumps-exactly q p next moving) (stay-exactly next k staying below))))
      where
        stay-exactly : (next : List ℤ) → length next ≡ n → (staying : List ℕ) → All (λ v. v < n) staying → All (Holding q (p ++ next)) (map nowhere (join_all (staying_rows n) staying)) ↔ All (λ v. item next v ≡ item p v) staying
        stay-exactly next k staying below =
            subst (λ y. All (Holding q (p ++ y)) (map nowhere (join_all (staying_rows n) staying)) ↔ All (λ v. item next v ≡ item p v) staying) (append-nil next)
            (stayings-exactly n q p next [] staying sized k below)

        next-exactly : (next : List ℤ) → length next ≡ n → (r : Row) → length r.coefficients ≡ n → T (row_holds q (p ++ next) (on_next n r)) ↔ T (row_holds q next r)
        next-exactly next k r h =
            subst (λ y. T (row_holds q (p ++ y) (on_next n r)) ↔ T (row_holds q next r)) (append-nil next) (on-next-exactly n q p next [] r sized (h ∙ sym k))
