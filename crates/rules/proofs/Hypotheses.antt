-- The hypotheses of each kind of obligation hold at the point that a start, a flow, an unsafe state or a jump gives. Assumes nothing.
use mathlib.Core.Path.{◌≡◌, sym, ◌∙◌, subst}
use mathlib.Core.List.{List, [], ◌∷◌, ◌++◌, map, append-nil}
use Prim.Native.Nat.{ℕ, ◌<◌}
use native.Mathlib.Omega.{arith}
use lib.Dec.{T}
use lib.IntN.{ℤ, pos}
use lib.ListN.{length, get_or-append}
use Rattle.farkas.specs.Lists.{every, All, none, more}
use Rattle.farkas.specs.Rows.{Row, item, row_holds}
use Rattle.farkas.proofs.All.{all_append, all_map, all-at, every-all, all-every}
use Rattle.formats.specs.Rows.{Condition}
use Rattle.formats.specs.Model.{Mode, Switch, Component, Model}
use Rattle.formats.specs.Locations.{mode_of, modes_at}
use Rattle.formats.specs.Joint.{join_all}
use Rattle.formats.proofs.WellFormed.{Wide, GoodMode, GoodComponent, WellFormed}
use Rattle.rules.specs.Runs.{condition_holds, present, modes_in, difference}
use Rattle.rules.specs.Obligations.{nowhere, standing, on_x, on_next, on_rates, staying_rows, mode_rows, start_hypotheses, flow_hypotheses, unsafe_hypotheses, jump_hypotheses}
use Rattle.rules.proofs.Points.{on-x, on-next, on-rates, time-holds, staying-hold}
use Rattle.rules.proofs.Shown.{Holding}

-- laws on what holds of all elements
pub all_both : {A : Type 0} {P Q : A → Type 0} {xs : List A} → All P xs → All Q xs → All (λ a. P a × Q a) xs
all_both none none = none
all_both (more x h) (more y k) = more (x, y) (all_both h k)

pub all_so : {A : Type 0} {P Q : A → Type 0} {xs : List A} → ((a : A) → P a → Q a) → All P xs → All Q xs
all_so f none = none
all_so f (more {a = a} x h) = more (f a x) (all_so f h)

pub join-all : {A B : Type 0} {P : B → Type 0} (f : A → List B) {xs : List A} → All (λ a. All P (f a)) xs → All P (join_all f xs)
unfolding join_all
join-all f none = none
join-all f (more x h) = all_append x (join-all f h)

-- the present modes of well formed components are good
good-mode : (n : ℕ) (c : Component) (mode : ℕ) → GoodComponent n c → GoodMode n (mode_of c mode)
unfolding mode_of
good-mode n c mode g = all-at _ (record { initial = none; invariant = none; flow = none; rates = none }) g.modes mode

pub good-modes : (n : ℕ) (components : List Component) (modes : List ℕ) → All (GoodComponent n) components → All (GoodMode n) (present components modes)
unfolding present
good-modes n [] modes g = none
good-modes n (c ∷ components) [] g = none
good-modes n (c ∷ components) (mode ∷ modes) (more x g) = more (good-mode n c mode x) (good-modes n components modes g)

pub modes-good : (m : Model) → WellFormed m → (location : ℕ) → All (GoodMode m.variables) (modes_in m location)
unfolding modes_in
modes-good m good location = good-modes m.variables m.components (modes_at m.components location) good.components

-- a condition's rows
pub rows-hold : (q : ℕ) (p : List ℤ) (rows : Condition) → T (condition_holds q p rows) → All (λ r. T (row_holds q p r.row)) rows
unfolding condition_holds
rows-hold q p rows t = every-all (λ r. row_holds q p r.row) rows t

pub hold-rows : (q : ℕ) (p : List ℤ) (rows : Condition) → All (λ r. T (row_holds q p r.row)) rows → T (condition_holds q p rows)
unfolding condition_holds
hold-rows q p rows h = all-every (λ r. row_holds q p r.row) h

-- rows that hold once they are put on the unknowns
abbrev pub Put : ℕ → List ℤ → (Row → Row) → Condition → Type 0
Put q z put rows = All (λ r. T (row_holds q z (put r.row))) rows

standing-hold : (q : ℕ) (z : List ℤ) (sheet : ℕ) (put : Row → Row) {rows : Condition} → Put q z put rows → All (Holding q z) (map (standing sheet put) rows)
unfolding standing
standing-hold q z sheet put h = all_map (standing sheet put) h

modes-hold : (q : ℕ) (z : List ℤ) (of : Mode → Condition) (put : Row → Row) {modes : List Mode} → All (λ mode. Put q z put (of mode)) modes → All (Holding q z) (mode_rows of put modes)
unfolding mode_rows
modes-hold q z of put h = join-all (λ mode. map (standing 0 put) (of mode)) (all_so (λ mode w. standing-hold q z 0 put w) h)

put-x : (q n : ℕ) (p rest : List ℤ) (rows : Condition) → length p ≡ n → Wide n rows → T (condition_holds q p rows) → Put q (p ++ rest) on_x rows
put-x q n p rest rows h w t = all_so (λ r v. on-x q p rest r.row (v.0 ∙ sym h) v.1) (all_both w (rows-hold q p rows t))

put_next : (q n : ℕ) (p next rest : List ℤ) (rows : Condition) → length p ≡ n → length next ≡ n → Wide n rows → T (condition_holds q next rows) → Put q (p ++ (next ++ rest)) (on_next n) rows
put_next q n p next rest rows h k w t =
    all_so (λ r v. on-next n q p next rest r.row h (v.0 ∙ sym k) v.1) (all_both w (rows-hold q next rows t))

put-rates : (q n δ : ℕ) (p next : List ℤ) (rows : Condition) → length p ≡ n → length next ≡ n → Wide n rows → T (condition_holds δ (difference next p) rows) → Put q (p ++ (next ++ (pos δ ∷ []))) on_rates rows
put-rates q n δ p next rows h k w t =
    all_so (λ r v. on-rates q δ p next r.row (v.0 ∙ sym h) (v.0 ∙ sym k) v.1) (all_both w (rows-hold δ (difference next p) rows t))

-- the same of every present mode
module _ (n : ℕ) (modes : List Mode) (good : All (GoodMode n) modes) where
  invariants-x : (q : ℕ) (p rest : List ℤ) → length p ≡ n → T (every (λ mode. condition_holds q p mode.invariant) modes) → All (Holding q (p ++ rest)) (mode_rows (λ mode. mode.invariant) on_x modes)
  invariants-x q p rest h t =
      modes-hold q (p ++ rest) (λ mode. mode.invariant) on_x
      (all_so (λ mode v. put-x q n p rest mode.invariant h v.0.invariant v.1) (all_both good (every-all (λ mode. condition_holds q p mode.invariant) modes t)))

  initials-x : (q : ℕ) (p rest : List ℤ) → length p ≡ n → T (every (λ mode. condition_holds q p mode.initial) modes) → All (Holding q (p ++ rest)) (mode_rows (λ mode. mode.initial) on_x modes)
  initials-x q p rest h t =
      modes-hold q (p ++ rest) (λ mode. mode.initial) on_x
      (all_so (λ mode v. put-x q n p rest mode.initial h v.0.initial v.1) (all_both good (every-all (λ mode. condition_holds q p mode.initial) modes t)))

  invariants-next : (q : ℕ) (p next rest : List ℤ) → length p ≡ n → length next ≡ n → T (every (λ mode. condition_holds q next mode.invariant) modes) → All (Holding q (p ++ (next ++ rest))) (mode_rows (λ mode. mode.invariant) (on_next n) modes)
  invariants-next q p next rest h k t =
      modes-hold q (p ++ (next ++ rest)) (λ mode. mode.invariant) (on_next n)
      (all_so (λ mode v. put_next q n p next rest mode.invariant h k v.0.invariant v.1) (all_both good (every-all (λ mode. condition_holds q next mode.invariant) modes t)))

  flows : (q δ : ℕ) (p next : List ℤ) → length p ≡ n → length next ≡ n → T (every (λ mode. condition_holds δ (difference next p) mode.flow) modes) → All (Holding q (p ++ (next ++ (pos δ ∷ [])))) (mode_rows (λ mode. mode.flow) on_rates modes)
  flows q δ p next h k t =
      modes-hold q (p ++ (next ++ (pos δ ∷ []))) (λ mode. mode.flow) on_rates
      (all_so (λ mode v. put-rates q n δ p next mode.flow h k v.0.flow v.1) (all_both good (every-all (λ mode. condition_holds δ (difference next p) mode.flow) modes t)))

-- jump rows, and the staying rows
jumps : (q : ℕ) (p next : List ℤ) (moving : List Switch) → T (every (λ w. condition_holds q (p ++ next) w.jump) moving) → All (Holding q (p ++ next)) (join_all (λ w. map (standing 0 on_x) w.jump) moving)
unfolding on_x
jumps q p next moving t =
    join-all (λ w. map (standing 0 on_x) w.jump)
    (all_so (λ w v. standing-hold q (p ++ next) 0 on_x (rows-hold q (p ++ next) w.jump v)) (every-all (λ w. condition_holds q (p ++ next) w.jump) moving t))

stayings : (q n : ℕ) (p next rest : List ℤ) (staying : List ℕ) → length p ≡ n → length next ≡ n → All (λ v. (v < n) × (item next v ≡ item p v)) staying → All (Holding q (p ++ (next ++ rest))) (map nowhere (join_all (staying_rows n) staying))
unfolding nowhere item
stayings q n p next rest staying h k keep =
    all_map nowhere
    (join-all (staying_rows n)
    (all_so (λ v w. staying-hold n q v p (next ++ rest) h w.0 (get_or-append next rest (pos 0) v (omega (arith, w.0, k)) ∙ w.1)) keep))

-- the hypotheses of each kind
module _ (n q : ℕ) (modes : List Mode) (good : All (GoodMode n) modes) (p : List ℤ) (sized : length p ≡ n) (invariants : T (every (λ mode. condition_holds q p mode.invariant) modes)) where
  pub start-hypotheses : (rest : List ℤ) → T (every (λ mode. condition_holds q p mode.initial) modes) → All (Holding q (p ++ rest)) (start_hypotheses modes)
  unfolding start_hypotheses
  start-hypotheses rest t = all_append (initials-x n modes good q p rest sized t) (invariants-x n modes good q p rest sized invariants)

  module _ (region : Condition) (wide : Wide n region) (inside : T (condition_holds q p region)) where
    region-holds : (rest : List ℤ) → All (Holding q (p ++ rest)) (map (standing 1 on_x) region)
    region-holds rest = standing-hold q (p ++ rest) 1 on_x (put-x q n p rest region sized wide inside)

    pub unsafe-hypotheses : (rest : List ℤ) (rows : Condition) → Wide n rows → T (condition_holds q p rows) → All (Holding q (p ++ rest)) (unsafe_hypotheses region modes rows)
    unfolding unsafe_hypotheses
    unsafe-hypotheses rest rows w t =
        all_append (region-holds rest)
        (all_append (invariants-x n modes good q p rest sized invariants) (standing-hold q (p ++ rest) 0 on_x (put-x q n p rest rows sized w t)))

    pub flow-hypotheses : (δ : ℕ) (next : List ℤ) (still : List ℕ) → length next ≡ n → T (every (λ mode. condition_holds q next mode.invariant) modes) → T (every (λ mode. condition_holds δ (difference next p) mode.flow) modes) → All (λ v. (v < n) × (item next v ≡ item p v)) still → All (Holding q (p ++ (next ++ (pos δ ∷ [])))) (flow_hypotheses n region modes still)
    unfolding flow_hypotheses nowhere
    flow-hypotheses δ next still k i t keep =
        all_append (region-holds (next ++ (pos δ ∷ [])))
        (all_append (invariants-x n modes good q p (next ++ (pos δ ∷ [])) sized invariants)
        (all_append (invariants-next n modes good q p next (pos δ ∷ []) sized k i)
        (all_append (flows n modes good q δ p next sized k t) (more (time-holds n q δ p next sized k) (stayings q n p next (pos δ ∷ []) still sized k keep)))))

    pub jump-hypotheses : (next : List ℤ) (targets : List Mode) (moving : List Switch) (staying : List ℕ) → length next ≡ n → All (GoodMode n) targets → T (every (λ mode. condition_holds q next mode.invariant) targets) → T (every (λ w. condition_holds q (p ++ next) w.jump) moving) → All (λ v. (v < n) × (item next v ≡ item p v)) staying → All (Holding q (p ++ (next ++ []))) (jump_hypotheses n region modes targets moving staying)
    unfolding jump_hypotheses
    jump-hypotheses next targets moving staying k goods i t keep =
        all_append (region-holds (next ++ []))
        (all_append (invariants-x n modes good q p (next ++ []) sized invariants)
        (all_append (invariants-next n targets goods q p next [] sized k i)
        (all_append
        (subst (λ y. All (Holding q (p ++ y)) (join_all (λ w. map (standing 0 on_x) w.jump) moving)) (sym (append-nil next)) (jumps q p next moving t))
        (stayings q n p next [] staying sized k keep))))
