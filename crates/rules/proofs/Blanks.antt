-- Variables that keep their value (01, Runs; blanks, 02, order 6): which they are, and what the test says of them; in version 1 no blank is
-- kept, and the rules are 01's; from version 2 on a blank keeps its value in a flow and in a jump. Assumes nothing.
use mathlib.Core.Path.{◌≡◌, refl, sym, ap, subst, fun_ext, ◌∙◌}
use mathlib.Core.Logic.{◌↔◌}
use mathlib.Core.Bool.{Bool, true, false, ◌&&◌, ◌||◌, or-false}
use mathlib.Core.List.{List, [], ◌∷◌, Memᴰ}
use Prim.Native.Nat.{ℕ, zero, suc, ◌+◌, ◌<◌}
use native.Mathlib.Omega.{arith}
use lib.Dec.{T}
use lib.IntN.{ℤ}
use lib.ListN.{length, get_or}
use mir.Facts.{and_yes, yes_and}
use Rattle.farkas.specs.Lists.{every, All}
use Rattle.farkas.specs.Rows.{item}
use Rattle.farkas.specs.Farkas.{same_z}
use Rattle.farkas.proofs.All.{every-all, all-every}
use Rattle.farkas.proofs.Promise.{same-means}
use Rattle.formats.specs.Versions.{keeps_blanks}
use Rattle.formats.specs.Model.{Component, Model}
use Rattle.formats.specs.Locations.{modes_at, no_mode, mode_of}
use Rattle.formats.specs.Joint.{is_joint, those, count_up}
use Rattle.formats.proofs.Members.{all_in, all-members, in_count, count-in, chosen-in, in-chosen}
use Rattle.rules.specs.Runs.{State, present, modes_in, rates_hold, still_at_zero, unmentioned, owner_of, variables_that, kept, blank_in_flow, still_variables, blanks_kept, flow_rule, owner_stays, no_component, owners_jump, blank_in_jump, staying_variables, staying_kept, jump_rows, jump_rule}
use Rattle.rules.proofs.Hypotheses.{all_so}

-- the test
pub kept-means : (variables : List ℕ) (next p : List ℤ) → T (kept variables next p) ↔ All (λ v. item next v ≡ item p v) variables
unfolding kept
kept-means variables next p = (
  λ t. all_so (λ v. (same-means (item next v) (item p v)).0) (every-all (λ v. same_z (item next v) (item p v)) variables t),
  λ w. all-every (λ v. same_z (item next v) (item p v)) (all_so (λ v. (same-means (item next v) (item p v)).1) w),
)

-- either of two
also : (a b : Bool) → T b → T (a || b)
also true b t = tt
also false b t = t

-- the variables that pass a test: those below n that do
module _ (m : Model) (test : ℕ → Bool) where
  pub variables-below : All (λ v. v < m.variables) (variables_that m test)
  unfolding variables_that
  variables-below =
      all-members (variables_that m test)
      (λ v d. omega (arith, (count-in 0 m.variables v (chosen-in test (count_up 0 m.variables) d).member).1))

  pub variables-pass : All (λ v. T (test v)) (variables_that m test)
  unfolding variables_that
  variables-pass = all-members (variables_that m test) (λ v d. (chosen-in test (count_up 0 m.variables) d).passes)

  pub in-variables : (v : ℕ) → v < m.variables → T (test v) → Memᴰ v (variables_that m test)
  unfolding variables_that
  in-variables v h t = in-chosen test (count_up 0 m.variables) (in_count 0 m.variables v (omega arith) (omega arith)) t

-- no variable passes a test that always fails
those-none : (xs : List ℕ) → those (λ v. false) xs ≡ []
unfolding those
those-none [] = refl
those-none (x ∷ xs) = those-none xs

-- the present mode of a component
pub present-at : (components : List Component) (modes : List ℕ) (k : ℕ) → k < length components → k < length modes → get_or (present components modes) k no_mode ≡ mode_of (get_or components k no_component) (get_or modes k 0)
unfolding present
present-at [] modes k h l = absurd (omega arith)
present-at (c ∷ components) [] k h l = absurd (omega arith)
present-at (c ∷ components) (mode ∷ modes) zero h l = refl
present-at (c ∷ components) (mode ∷ modes) (suc k) h l = present-at components modes k (omega arith) (omega arith)

-- Version 1, where no blank is kept
module _ (m : Model) (free : keeps_blanks m.version ≡ false) where
  pub none-still : (location : ℕ) → still_variables m location ≡ []
  unfolding still_variables variables_that blank_in_flow
  none-still location =
      ap (λ (b : Bool). those (λ v. b && unmentioned v (get_or (modes_in m location) (owner_of m v) no_mode).flow) (count_up 0 m.variables)) free
      ∙ those-none (count_up 0 m.variables)

  -- "Flow: .. Each flow row holds as a·(p'−p) ≤ b·δ; if δ = 0 then p' = p"
  pub plain-flow : (s : State) (δ : ℕ) (next : List ℤ) → flow_rule m s δ next ≡ (rates_hold m s δ next && still_at_zero s δ next)
  unfolding flow_rule blanks_kept kept every
  plain-flow s δ next = ap (λ (vs : List ℕ). rates_hold m s δ next && (kept vs next s.values && still_at_zero s δ next)) (none-still s.location)

  -- "Variables owned by staying components keep their value", and no others
  pub plain-staying : (switches : List ℕ) → staying_variables m switches ≡ variables_that m (owner_stays m switches)
  unfolding staying_variables blank_in_jump
  plain-staying switches =
      ap (λ (b : Bool). variables_that m (λ v. owner_stays m switches v || (b && unmentioned (m.variables + v) (owners_jump m switches v)))) free
      ∙ ap (variables_that m) (fun_ext (λ v. or-false (owner_stays m switches v)))

-- From version 2 on. "a variable with zero coefficients in all flow rows of its owner's present mode keeps its value in a flow"
module _ (m : Model) (blanks : keeps_blanks m.version ≡ true) (v : ℕ) (known : v < m.variables) where
  pub flow-keeps : (s : State) (δ : ℕ) (next : List ℤ) → T (unmentioned v (get_or (modes_in m s.location) (owner_of m v) no_mode).flow) → T (flow_rule m s δ next) → item next v ≡ item s.values v
  unfolding flow_rule blanks_kept still_variables blank_in_flow
  flow-keeps s δ next blank t =
      let h = (and_yes (rates_hold m s δ next) (blanks_kept m s next && still_at_zero s δ next) t).1 in
      all_in ((kept-means (still_variables m s.location) next s.values).0 (and_yes (blanks_kept m s next) (still_at_zero s δ next) h).0)
      (in-variables m (blank_in_flow m s.location) v known (yes_and (keeps_blanks m.version) _ (subst T (sym blanks) tt) blank))

  -- "One with zero after-coefficients in all rows of its moving owner's switch keeps it in a jump"
  pub jump-keeps : (q : ℕ) (s : State) (event : ℕ) (switches : List ℕ) (next : List ℤ) → T (unmentioned (m.variables + v) (owners_jump m switches v)) → T (jump_rule m q s event switches next) → item next v ≡ item s.values v
  unfolding jump_rule staying_kept staying_variables blank_in_jump
  jump-keeps q s event switches next blank t =
      let h = (and_yes (is_joint m.components (modes_at m.components s.location) event switches) _ t).1 in
      all_in ((kept-means (staying_variables m switches) next s.values).0 (and_yes (jump_rows m q s switches next) (staying_kept m s switches next) h).1)
      (in-variables m (λ v. owner_stays m switches v || blank_in_jump m switches v) v known
      (also (owner_stays m switches v) (blank_in_jump m switches v) (yes_and (keeps_blanks m.version) _ (subst T (sym blanks) tt) blank)))
