-- The five readings that 01 rejects ("Readings we reject"), each refused by a theorem about the definitions, for every model: a
-- zero-time flow does not drift (zero-time); a moving component's unmentioned variables are free in version 1 (unmentioned-free), and held
-- from version 2 on (jump-keeps in Blanks, held-jumps), and a staying one's are held in every version (stays_put); every member of a scope
-- moves (members-move); k = 0 with sum 0 gets 11 (zero-sum-eleven); every unsafe obligation has the invariants among its hypotheses
-- (unsafe-with-invariants). Assumes nothing.
use mathlib.Core.Path.{◌≡◌, refl, sym, ap, ◌∙◌, subst}
use mathlib.Core.Bool.{Bool, true, false, not, ◌&&◌, ◌||◌}
use mathlib.Core.List.Memᴰ
use mathlib.Core.List.{List, [], ◌∷◌, ◌++◌, map, Memᴰ}
use Prim.Native.Nat.{ℕ, zero, suc, ◌+◌, ◌<◌}
use native.Mathlib.Omega.{arith}
use lib.Dec.{T, T_not, eqb}
use lib.IntN.{ℤ, pos, ◌+ℤ◌, ◌*ℤ◌}
use lib.ListN.{length, get_or, set}
use lib.Signed.{◌<ℤ◌, <ℤ_irrefl}
use mir.Facts.{and_yes, yes_and}
use Rattle.farkas.specs.Lists.{every, All, none, more}
use Rattle.farkas.specs.Rows.{Row, item, dot, row_holds, zero_row, compared}
use Rattle.farkas.specs.Farkas.{Proof, sum_at, bound_sum, strict_sum, Agree, SumsMeet, farkas_test, sums_test, summed, add_entries, coefficients_agree, bound_passes}
use Rattle.farkas.proofs.All.{all_append, every-all, all-every}
use Rattle.farkas.proofs.Integers.{split, by_parts}
use Rattle.farkas.proofs.Promise.{eleven-means}
use Rattle.formats.specs.Versions.{keeps_blanks}
use Rattle.formats.specs.Rows.{SheetRow, Condition}
use Rattle.formats.specs.Model.{Mode, Component, Unsafe, Model, has_event}
use Rattle.formats.specs.Locations.{location_count, modes_at}
use Rattle.formats.specs.Joint.{JointSwitch, stays, switch_of, leaves, moves, all_stay, one_moves, is_joint, those, count_up, joints}
use Rattle.formats.specs.RunSheet.{jump}
use Rattle.formats.proofs.Gives.{and_right}
use Rattle.formats.proofs.Members.{all_in, all-members, in_map, in-joined}
use Rattle.formats.proofs.JointList.{EachMoves, none_moves, member-moves, other-stays, all-members-move}
use Rattle.rules.specs.Runs.{State, condition_holds, modes_in, admissible, rates_hold, still_at_zero, unmentioned, owner_of, variables_that, kept, still_variables, blanks_kept, flow_rule, owner_stays, owners_jump, blank_in_jump, staying_variables, movers, staying_kept, jump_rows, jump_rule, after, rule_met, step_allowed, modes_fit}
use Rattle.rules.specs.Obligations.{Hypothesis, Kind, at_start, after_flow, clear_of_unsafe, after_jump, Obligation, standing, on_x, on_next, mode_rows, start_hypotheses, flow_hypotheses, unsafe_hypotheses, jump_hypotheses, per_row, start_obligations, flow_obligations, unsafe_obligations, location_obligations, jump_obligations, jumps_obligations, obligations_over, region_of, obligations}
use Rattle.rules.proofs.Hypotheses.{all_both, all_so, join-all}
use Rattle.rules.proofs.Mixing.{same_lists}
use Rattle.rules.proofs.Blanks.{kept-means, variables-pass, in-variables, plain-staying, jump-keeps}

-- "Letting a zero-time flow drift"
pub zero-time : (m : Model) (s : State) (next : List ℤ) → T (flow_rule m s 0 next) → next ≡ s.values
unfolding flow_rule still_at_zero
zero-time m s next t =
    same_lists next s.values
    (and_right (blanks_kept m s next) (still_at_zero s 0 next) (and_right (rates_hold m s 0 next) (blanks_kept m s next && still_at_zero s 0 next) t))

-- "Holding a moving component's unmentioned variables": where a jump is allowed, it is allowed too with any other new value of a variable
-- whose owner moves and whose coefficient after the jump is 0 in every row of the switches that move
dot-unmentioned : (xs ps : List ℤ) (v : ℕ) (y : ℤ) → item xs v ≡ pos 0 → dot xs (set ps v y) ≡ dot xs ps
unfolding dot item
dot-unmentioned [] ps v y e = refl
dot-unmentioned (a ∷ xs) [] v y e = refl
dot-unmentioned (a ∷ xs) (p ∷ ps) zero y e = ap (λ z. z *ℤ y +ℤ dot xs ps) e ∙ none y p (dot xs ps) ∙ ap (λ z. z *ℤ p +ℤ dot xs ps) (sym e)
  where
    none : (y p d : ℤ) → pos 0 *ℤ y +ℤ d ≡ pos 0 *ℤ p +ℤ d
    none y p d = rw (split y, split p, split d) (simp by_parts (omega arith))
dot-unmentioned (a ∷ xs) (p ∷ ps) (suc v) y e = ap (λ z. a *ℤ p +ℤ z) (dot-unmentioned xs ps v y e)

dot-after : (xs ps ns : List ℤ) (v i : ℕ) (y : ℤ) → i ≡ length ps + v → item xs i ≡ pos 0 → dot xs (ps ++ set ns v y) ≡ dot xs (ps ++ ns)
unfolding dot item
dot-after xs [] ns v i y h e = dot-unmentioned xs ns v y (ap (item xs) (same i v h) ∙ e)
  where
    same : (i v : ℕ) → i ≡ 0 + v → v ≡ i
    same i v h = omega arith
dot-after [] (p ∷ ps) ns v i y h e = refl
dot-after (a ∷ xs) (p ∷ ps) ns v zero y h e = absurd (omega arith)
dot-after (a ∷ xs) (p ∷ ps) ns v (suc i) y h e = ap (λ z. a *ℤ p +ℤ z) (dot-after xs ps ns v i y (omega arith) e)

item-set : (ns : List ℤ) (v u : ℕ) (y : ℤ) → (u ≡ v → ⊥) → item (set ns v y) u ≡ item ns u
unfolding item
item-set [] v u y h = refl
item-set (n ∷ ns) zero zero y h = absurd (h refl)
item-set (n ∷ ns) zero (suc u) y h = refl
item-set (n ∷ ns) (suc v) zero y h = refl
item-set (n ∷ ns) (suc v) (suc u) y h = item-set ns v u y (λ e. h (ap suc e))

module _ (m : Model) (free : keeps_blanks m.version ≡ false) (switches : List ℕ) (v : ℕ) where
  -- no row of a switch that moves has a coefficient other than 0 at the variable's new value
  abbrev pub Unmentioned : Type 0
  Unmentioned = All (λ w. All (λ r. item r.row.coefficients (m.variables + v) ≡ pos 0) w.jump) (movers m.components switches)

  row-free : (q : ℕ) (s : State) (next : List ℤ) (y : ℤ) (r : Row) → length s.values ≡ m.variables → item r.coefficients (m.variables + v) ≡ pos 0 → T (row_holds q (s.values ++ next) r) → T (row_holds q (s.values ++ set next v y) r)
  unfolding row_holds
  row-free q s next y r sized blank t =
      rw (dot-after r.coefficients s.values next v (m.variables + v) y (ap (λ (n : ℕ). n + v) (sym sized)) blank) t

  rows-free : (q : ℕ) (s : State) (next : List ℤ) (y : ℤ) → length s.values ≡ m.variables → Unmentioned → T (jump_rows m q s switches next) → T (jump_rows m q s switches (set next v y))
  unfolding jump_rows condition_holds
  rows-free q s next y sized blank t =
      all-every (λ w. condition_holds q (s.values ++ set next v y) w.jump)
      (all_so
      (λ w k. all-every (λ r. row_holds q (s.values ++ set next v y) r.row)
      (all_so
      (λ r j. row-free q s next y r.row sized j.0 j.1)
      (all_both k.0 (every-all (λ r. row_holds q (s.values ++ next) r.row) w.jump k.1))))
      (all_both blank (every-all (λ w. condition_holds q (s.values ++ next) w.jump) (movers m.components switches) t)))

  kept_free : (s : State) (next : List ℤ) (y : ℤ) → (T (owner_stays m switches v) → ⊥) → T (staying_kept m s switches next) → T (staying_kept m s switches (set next v y))
  unfolding staying_kept
  kept_free s next y moves =
      rw (plain-staying m free switches)
      (λ t.
      (kept-means (variables_that m (owner_stays m switches)) (set next v y) s.values).1
      (all_so
      (λ u k. item-set next v u y (λ e. moves (subst (λ (n : ℕ). T (owner_stays m switches n)) e k.0)) ∙ k.1)
      (all_both (variables-pass m (owner_stays m switches)) ((kept-means (variables_that m (owner_stays m switches)) next s.values).0 t))))

  pub unmentioned-free : (q : ℕ) (s : State) (event : ℕ) (next : List ℤ) (y : ℤ) → length s.values ≡ m.variables → (T (owner_stays m switches v) → ⊥) → Unmentioned → T (jump_rule m q s event switches next) → T (jump_rule m q s event switches (set next v y))
  unfolding jump_rule
  unmentioned-free q s event next y sized moves blank t =
      let joint = is_joint m.components (modes_at m.components s.location) event switches in
      let h = and_yes joint _ t in
      let k = and_yes (jump_rows m q s switches next) _ h.1 in
      yes_and joint _ h.0 (yes_and (jump_rows m q s switches (set next v y)) _ (rows-free q s next y sized blank k.0) (kept_free s next y moves k.1))

  -- and so the whole step is allowed, if the state with that value is admissible
  pub unmentioned-step : (q : ℕ) (s : State) (event : ℕ) (next : List ℤ) (y : ℤ) → length s.values ≡ m.variables → (T (owner_stays m switches v) → ⊥) → Unmentioned → T (step_allowed m q s (jump event switches next)) → T (admissible m q (after m s (jump event switches (set next v y)))) → T (step_allowed m q s (jump event switches (set next v y)))
  unfolding step_allowed rule_met
  unmentioned-step q s event next y sized moves blank t a =
      yes_and (admissible m q (after m s (jump event switches (set next v y)))) _ a
      (unmentioned-free q s event next y sized moves blank (and_yes (admissible m q (after m s (jump event switches next))) _ t).1)

-- and there is such a jump: a model with one switch and no rows, whose jump may lead from any value to any value in version 1, and in
-- version 2 to none but the same ("reads a blank as "does not change"", 02, order 6)
unfoldable pub rowless : ℕ → Model
rowless version =
    record {
      version = version;
      paper = 0;
      variables = 1;
      owners = 0 ∷ [];
      components =
          record {
            alphabet = 0;
            modes = record { start = 1; initial = []; invariant = []; flow = [] } ∷ [];
            switches = record { source = 0; target = 0; label = 0; jump = [] } ∷ [];
          }
          ∷ [];
      unsafe = [];
    }

pub free-jumps : (q : ℕ) (x y : ℤ) → T (jump_rule (rowless 1) q (record { location = 0; values = x ∷ [] }) 0 (0 ∷ []) (y ∷ []))
unfolding jump_rule jump_rows staying_kept rowless is_joint one_moves all_stay moves leaves switch_of stays modes_at location_count every movers keeps_blanks unmentioned owner_of variables_that kept owner_stays owners_jump blank_in_jump staying_variables those count_up condition_holds
free-jumps q x y = tt

pub held-jumps : (q : ℕ) (x y : ℤ) → T (jump_rule (rowless 2) q (record { location = 0; values = x ∷ [] }) 0 (0 ∷ []) (y ∷ [])) → y ≡ x
unfolding rowless keeps_blanks unmentioned owners_jump owner_of switch_of every item
held-jumps q x y t = jump-keeps (rowless 2) refl 0 (omega arith) q (record { location = 0; values = x ∷ [] }) 0 (0 ∷ []) (y ∷ []) tt t

-- a staying component's variables keep their values in every version
pub stays_put : (m : Model) (q : ℕ) (s : State) (event : ℕ) (switches : List ℕ) (next : List ℤ) (v : ℕ) → v < m.variables → T (owner_stays m switches v) → T (jump_rule m q s event switches next) → item next v ≡ item s.values v
unfolding jump_rule staying_kept staying_variables
stays_put m q s event switches next v h e t =
    let k = (and_yes (is_joint m.components (modes_at m.components s.location) event switches) _ t).1 in
    all_in ((kept-means (staying_variables m switches) next s.values).0 (and_yes (jump_rows m q s switches next) (staying_kept m s switches next) k).1)
    (in-variables m (λ v. owner_stays m switches v || blank_in_jump m switches v) v h (either (owner_stays m switches v) (blank_in_jump m switches v) e))
  where
    either : (a b : Bool) → T a → T (a || b)
    either true b t = tt
    either false b t = absurd t

-- "Letting one member of a scope move": at an event from 1 each component whose alphabet has the event moves, by a switch of its own with
-- that label from its present mode; any other stays
each_at : (e : ℕ) {components : List Component} {modes switches : List ℕ} → EachMoves e components modes switches → (i : ℕ) (d : Component) → i < length components → T (has_event (get_or components i d).alphabet e) → T (moves (get_or components i d) (get_or modes i 0) e (get_or switches i stays))
each_at e none_moves i d h t = absurd (omega arith)
each_at e (member-moves x y rest) zero d h t = y
each_at e (member-moves x y rest) (suc i) d h t = each_at e rest i d (omega arith) t
each_at e (other-stays {c} x y rest) zero d h t = absurd (T_not (has_event c.alphabet e) x t)
each_at e (other-stays x y rest) (suc i) d h t = each_at e rest i d (omega arith) t

other_at : (e : ℕ) {components : List Component} {modes switches : List ℕ} → EachMoves e components modes switches → (i : ℕ) (d : Component) → i < length components → T (not (has_event (get_or components i d).alphabet e)) → get_or switches i stays ≡ stays
other_at e none_moves i d h t = absurd (omega arith)
other_at e (member-moves {c} x y rest) zero d h t = absurd (T_not (has_event c.alphabet e) t x)
other_at e (member-moves x y rest) (suc i) d h t = other_at e rest i d (omega arith) t
other_at e (other-stays x y rest) zero d h t = y
other_at e (other-stays x y rest) (suc i) d h t = other_at e rest i d (omega arith) t

module _ (m : Model) (q : ℕ) (s : State) (e : ℕ) (switches : List ℕ) (next : List ℤ) (rule : T (jump_rule m q s (suc e) switches next)) where
  each-moves : EachMoves (suc e) m.components (modes_at m.components s.location) switches
  unfolding jump_rule
  each-moves =
      all-members-move e m.components (modes_at m.components s.location) switches
      (and_yes (is_joint m.components (modes_at m.components s.location) (suc e) switches) _ rule).0

  pub members-move : (i : ℕ) (d : Component) → i < length m.components → T (has_event (get_or m.components i d).alphabet (suc e)) → T (moves (get_or m.components i d) (get_or (modes_at m.components s.location) i 0) (suc e) (get_or switches i stays))
  members-move = each_at (suc e) each-moves

  pub others-stay : (i : ℕ) (d : Component) → i < length m.components → T (not (has_event (get_or m.components i d).alphabet (suc e))) → get_or switches i stays ≡ stays
  others-stay = other_at (suc e) each-moves

-- "Taking k = 0 with sum 0": where k is 0, the coefficients agree and the summed bound is 0, the number is 11, whatever the hypotheses,
-- as long as no strict one has an entry
pub zero-sum : (sums : ℕ → ℤ) (summed_bound : ℤ) (goal : Row) → summed_bound ≡ pos 0 → SumsMeet 0 sums summed_bound false goal → ⊥
zero-sum sums summed_bound goal e h = <ℤ_irrefl (subst (λ b. b <ℤ pos 0) e ((h.below refl).below tt))

pub zero-sum-eleven : (hypotheses : List Row) (goal : Row) (p : Proof) → strict_sum hypotheses p.entries ≡ false → p.k ≡ 0 → Agree p.k (sum_at hypotheses p.entries) goal.coefficients → bound_sum hypotheses p.entries ≡ pos 0 → farkas_test hypotheses goal p ≡ 11
zero-sum-eleven hypotheses goal p plain k agree bound =
    (eleven-means hypotheses goal p).1 (agree, λ h. <ℤ_irrefl (subst (λ b. b <ℤ pos 0) bound ((h.1 k).below (subst (λ s. T (not s)) (sym plain) tt))))

pub no-entries : (hypotheses : List Row) (goal : Row) → goal.coefficients ≡ [] → farkas_test hypotheses goal (record { k = 0; entries = [] }) ≡ 11
unfolding farkas_test sums_test summed add_entries zero_row coefficients_agree bound_passes compared every
no-entries hypotheses goal e = rw e refl

-- "Testing unsafe rows without the invariants"
pub with-invariants : (region : Condition) (modes : List Mode) (rows : Condition) (mode : Mode) (r : SheetRow) → Memᴰ mode modes → Memᴰ r mode.invariant → Memᴰ (standing 0 on_x r) (unsafe_hypotheses region modes rows)
unfolding unsafe_hypotheses mode_rows
with-invariants region modes rows mode r d e =
    Memᴰ.append_right (map (standing 1 on_x) region)
    (Memᴰ.append_left (map (standing 0 on_x) rows) (in-joined (λ mode. map (standing 0 on_x) mode.invariant) modes d (in_map (standing 0 on_x) e)))

-- every invariant row of every component is a hypothesis, where the obligation is an unsafe one
abbrev pub WithInvariants : Model → Obligation → Type 0
WithInvariants m o = o.kind ≡ clear_of_unsafe → (mode : Mode) (r : SheetRow) → Memᴰ mode (modes_in m o.subject) → Memᴰ r mode.invariant → Memᴰ (standing 0 on_x r) o.hypotheses

start-not : at_start ≡ clear_of_unsafe → ⊥
start-not e = let z : ◌≡◌ {A = ℕ} 0 1 = cc in absurd (omega arith)

flow-not : after_flow ≡ clear_of_unsafe → ⊥
flow-not e = let z : ◌≡◌ {A = ℕ} 0 1 = cc in absurd (omega arith)

jump-not : after_jump ≡ clear_of_unsafe → ⊥
jump-not e = let z : ◌≡◌ {A = ℕ} 0 1 = cc in absurd (omega arith)

module _ (m : Model) (region_at : ℕ → Condition) where
  other-kind : (kind : Kind) → (kind ≡ clear_of_unsafe → ⊥) → (subject : ℕ) (hypotheses : List Hypothesis) (put : Row → Row) (line : ℕ) (region : Condition) → All (WithInvariants m) (per_row kind subject hypotheses put line region)
  unfolding per_row
  other-kind kind h subject hypotheses put line [] = none
  other-kind kind h subject hypotheses put line (r ∷ region) = more (λ e. absurd (h e)) (other-kind kind h subject hypotheses put (suc line) region)

  start-kind : (location : ℕ) → All (WithInvariants m) (start_obligations m region_at location)
  unfolding start_obligations
  start-kind location = go (every (λ mode. eqb mode.start 1) (modes_in m location))
    where
      go : (b : Bool) → All (WithInvariants m) (elim b as (λ x. List Obligation) [ true ↦ per_row at_start location (start_hypotheses (modes_in m location)) on_x 0 (region_at location) | false ↦ [] ])
      go true = other-kind at_start start-not location (start_hypotheses (modes_in m location)) on_x 0 (region_at location)
      go false = none

  flow-kind : (location : ℕ) → All (WithInvariants m) (flow_obligations m region_at location)
  unfolding flow_obligations
  flow-kind location = other-kind after_flow flow-not location (flow_hypotheses m.variables (region_at location) (modes_in m location) (still_variables m location)) (on_next m.variables) 0 (region_at location)

  unsafe-kind : (location line : ℕ) (conditions : List Unsafe) → All (WithInvariants m) (unsafe_obligations m region_at location line conditions)
  unfolding unsafe_obligations
  unsafe-kind location line [] = none
  unsafe-kind location line (u ∷ rest) = go (modes_fit u.modes (modes_at m.components location)) (unsafe-kind location (suc line) rest)
    where
      go : (b : Bool) → All (WithInvariants m) (unsafe_obligations m region_at location (suc line) rest) → All (WithInvariants m) (elim b as (λ x. List Obligation) [ true ↦ record { kind = clear_of_unsafe; subject = location; line = line; hypotheses = unsafe_hypotheses (region_at location) (modes_in m location) u.rows; goal = zero_row } ∷ unsafe_obligations m region_at location (suc line) rest | false ↦ unsafe_obligations m region_at location (suc line) rest ])
      go true later = more (λ e mode r d k. with-invariants (region_at location) (modes_in m location) u.rows mode r d k) later
      go false later = later

  jump-kind : (number : ℕ) (list : List JointSwitch) → All (WithInvariants m) (jumps_obligations m region_at number list)
  unfolding jumps_obligations jump_obligations
  jump-kind number [] = none
  jump-kind number (j ∷ rest) =
      all_append
      (other-kind after_jump jump-not number (jump_hypotheses m.variables (region_at j.source) (modes_in m j.source) (modes_in m j.target) (movers m.components j.switches) (staying_variables m j.switches)) (on_next m.variables) 0 (region_at j.target))
      (jump-kind (suc number) rest)

pub unsafe-with-invariants : (m : Model) (regions : List Condition) → All (WithInvariants m) (obligations m regions)
unfolding obligations obligations_over location_obligations
unsafe-with-invariants m regions =
    all_append
    (join-all (location_obligations m (region_of regions))
    (all-members (count_up 0 (location_count m.components))
    (λ location d. all_append (start-kind m (region_of regions) location) (all_append (flow-kind m (region_of regions) location) (unsafe-kind m (region_of regions) location 0 m.unsafe)))))
    (jump-kind m (region_of regions) 0 (joints m.components))
