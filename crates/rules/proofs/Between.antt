-- "each point on one ends a shorter run" (01, Runs), and so demand 3 holds at every point of time: with an accepted certificate no run
-- passes through an unsafe state in the middle of a flow either. Assumes nothing.
use mathlib.Core.Path.{◌≡◌, refl, sym, ap, ap₂, ◌∙◌, subst}
use mathlib.Core.Bool.{Bool, true, false}
use mathlib.Core.List.{List, [], ◌∷◌, ◌++◌, map}
use Prim.Native.Nat.{ℕ, zero, suc, ◌+◌, ◌*◌, ◌-◌, ◌≤◌}
use native.Mathlib.Nat.{mul-le-mul_left}
use native.Mathlib.Omega.{arith}
use lib.Dec.{T, ltb, eqb}
use borrow.Author.Tests.{eq-eqb, ne_eqb}
use lib.IntN.{ℤ, pos, ◌+ℤ◌, ◌*ℤ◌, *ℤ_comm}
use lib.ListN.{length}
use lib.Signed.{◌≤ℤ◌}
use mir.Facts.{and_yes, yes_and}
use Rattle.farkas.specs.Lists.{every, All}
use Rattle.farkas.specs.Rows.{Row, dot, row_holds}
use Rattle.farkas.proofs.All.{every-all, all-every}
use Rattle.farkas.proofs.Comparing.{compared-+, compared-*, compared-times, compared_same, compared-plain, compared-weaker, counts-one}
use Rattle.farkas.proofs.Integers.{split, by_parts}
use Rattle.formats.specs.Reading.{got}
use Rattle.formats.specs.Rows.{Condition}
use Rattle.formats.specs.Model.{Mode, Model}
use Rattle.formats.specs.Locations.{location_count, modes_at}
use Rattle.formats.specs.Joint.{is_joint}
use Rattle.formats.specs.declared.Limits.{Limits}
use Rattle.formats.specs.ModelSheet.{read_model}
use Rattle.formats.specs.RunSheet.{Step, flow, jump}
use Rattle.formats.proofs.WellFormed.{Plain, GoodMode, WellFormed, well-formed}
use Rattle.rules.specs.Runs.{State, condition_holds, modes_in, admissible, start_allowed, difference, same_values, rates_hold, still_at_zero, kept, still_variables, blanks_kept, flow_rule, movers, staying_variables, staying_kept, jump_rows, jump_rule, after, rule_met, step_allowed, steps_allowed, Run, end_of, is_unsafe}
use Rattle.rules.specs.Marking.{mark_certificate}
use Rattle.rules.specs.Between.{times, finer_state, finer_step, mixed, part_way, part_way_state, cut_steps}
use Rattle.rules.proofs.Points.{holds_by, holds-so}
use Rattle.rules.proofs.Blanks.{kept-means}
use Rattle.rules.proofs.Mixing.{dot-times, dot-mixed, length-times, item-times, append-times, difference-times, same-times, mixed-difference, kept-mixed, same_lists, lists-same, mixed-none, still-mixed}
use Rattle.rules.proofs.Hypotheses.{all_both, all_so, modes-good, rows-hold, hold-rows}
use Rattle.rules.proofs.Safety.{state-sized, state-invariants}
use Rattle.rules.proofs.RunExactly.{end-visited}
use Rattle.rules.proofs.Demand.{safe}

-- what two lists of tests have in common
every-so : {A : Type 0} (f g : A → Bool) (xs : List A) → ((a : A) → T (f a) → T (g a)) → T (every f xs) → T (every g xs)
every-so f g xs h t = all-every g (all_so h (every-all f xs t))

every_two : {A : Type 0} (f g h : A → Bool) (xs : List A) → ((a : A) → T (f a) → T (g a) → T (h a)) → T (every f xs) → T (every g xs) → T (every h xs)
every_two f g h xs k s t = all-every h (all_so (λ a w. k a w.0 w.1) (all_both (every-all f xs s) (every-all g xs t)))

-- what the rule for a time of 0 asks
still-by : (s : State) (δ : ℕ) (next : List ℤ) → (δ ≡ 0 → T (same_values next s.values)) → T (still_at_zero s δ next)
unfolding still_at_zero
still-by s zero next h = h refl
still-by s (suc δ) next h = rw (ne_eqb (suc δ) 0 (λ e. absurd (omega arith))) tt

-- a row that holds of p over q holds of N·p over q·N, for N from 1
module _ (N : ℕ) (positive : 1 ≤ N) where
  row-finer : (q : ℕ) (p : List ℤ) (r : Row) → T (row_holds q p r) → T (row_holds (q * N) (times N p) r)
  row-finer q p r t =
      holds_by (q * N) (times N p) r
      (compared_same
      (*ℤ_comm (dot r.coefficients p) (pos N) ∙ sym (dot-times N r.coefficients p))
      (law q r.bound)
      (compared-times N positive (holds-so q p r t)))
    where
      law : (q : ℕ) (b : ℤ) → (b *ℤ pos q) *ℤ pos N ≡ b *ℤ pos (q * N)
      law q b = rw (split b) (simp by_parts (omega arith))

  condition-finer : (q : ℕ) (p : List ℤ) (rows : Condition) → T (condition_holds q p rows) → T (condition_holds (q * N) (times N p) rows)
  unfolding condition_holds
  condition-finer q p rows t =
      every-so (λ r. row_holds q p r.row) (λ r. row_holds (q * N) (times N p) r.row) rows (λ r w. row-finer q p r.row w) t

  modes-finer : (q : ℕ) (p : List ℤ) (of : Mode → Condition) (modes : List Mode) → T (every (λ mode. condition_holds q p (of mode)) modes) → T (every (λ mode. condition_holds (q * N) (times N p) (of mode)) modes)
  modes-finer q p of modes t =
      every-so (λ mode. condition_holds q p (of mode)) (λ mode. condition_holds (q * N) (times N p) (of mode)) modes (λ mode w. condition-finer q p (of mode) w) t

  -- states, steps and whole runs
  module _ (m : Model) (q : ℕ) where
    admissible-finer : (s : State) → T (admissible m q s) → T (admissible m (q * N) (finer_state N s))
    unfolding admissible finer_state
    admissible-finer s t =
        let h = and_yes (eqb (length s.values) m.variables) _ t in
        yes_and (eqb (length (times N s.values)) m.variables) _
        (rw (length-times N s.values) h.0)
        (modes-finer q s.values (λ mode. mode.invariant) (modes_in m s.location) h.1)

    start-finer : (s : State) → T (start_allowed m q s) → T (start_allowed m (q * N) (finer_state N s))
    unfolding start_allowed finer_state
    start-finer s t =
        let h = and_yes (ltb s.location (location_count m.components)) _ t in
        let k = and_yes (admissible m q s) _ h.1 in
        let l = and_yes (every (λ mode. eqb mode.start 1) (modes_in m s.location)) _ k.1 in
        yes_and (ltb s.location (location_count m.components)) _ h.0
        (yes_and (admissible m (q * N) (finer_state N s)) _ (admissible-finer s k.0)
        (yes_and (every (λ mode. eqb mode.start 1) (modes_in m s.location)) _ l.0
        (modes-finer q s.values (λ mode. mode.initial) (modes_in m s.location) l.1)))

    rates-finer : (s : State) (δ : ℕ) (next : List ℤ) → T (rates_hold m s δ next) → T (rates_hold m (finer_state N s) (δ * N) (times N next))
    unfolding rates_hold finer_state
    rates-finer s δ next t =
        rw (difference-times N next s.values)
        (modes-finer δ (difference next s.values) (λ mode. mode.flow) (modes_in m s.location) t)

    rows-finer : (s : State) (switches : List ℕ) (next : List ℤ) → T (jump_rows m q s switches next) → T (jump_rows m (q * N) (finer_state N s) switches (times N next))
    unfolding jump_rows finer_state
    rows-finer s switches next t =
        rw (← append-times N s.values next)
        (every-so (λ w. condition_holds q (s.values ++ next) w.jump) (λ w. condition_holds (q * N) (times N (s.values ++ next)) w.jump) (movers m.components switches)
        (λ w v. condition-finer q (s.values ++ next) w.jump v) t)

    kept-finer : (variables : List ℕ) (next p : List ℤ) → T (kept variables next p) → T (kept variables (times N next) (times N p))
    kept-finer variables next p t =
        (kept-means variables (times N next) (times N p)).1
        (all_so (λ v e. item-times N next v ∙ ap (λ z. pos N *ℤ z) e ∙ sym (item-times N p v)) ((kept-means variables next p).0 t))

    stays-finer : (s : State) (switches : List ℕ) (next : List ℤ) → T (staying_kept m s switches next) → T (staying_kept m (finer_state N s) switches (times N next))
    unfolding staying_kept finer_state
    stays-finer s switches next t = kept-finer (staying_variables m switches) next s.values t

    blanks-finer : (s : State) (next : List ℤ) → T (blanks_kept m s next) → T (blanks_kept m (finer_state N s) (times N next))
    unfolding blanks_kept finer_state
    blanks-finer s next t = kept-finer (still_variables m s.location) next s.values t

    jump-finer : (s : State) (event : ℕ) (switches : List ℕ) (next : List ℤ) → T (jump_rule m q s event switches next) → T (jump_rule m (q * N) (finer_state N s) event switches (times N next))
    unfolding jump_rule finer_state
    jump-finer s event switches next t =
        let joint = is_joint m.components (modes_at m.components s.location) event switches in
        let h = and_yes joint _ t in
        let k = and_yes (jump_rows m q s switches next) _ h.1 in
        yes_and joint _ h.0
        (yes_and (jump_rows m (q * N) (finer_state N s) switches (times N next)) _ (rows-finer s switches next k.0) (stays-finer s switches next k.1))

    after-finer : (s : State) (t : Step) → after m (finer_state N s) (finer_step N t) ≡ finer_state N (after m s t)
    unfolding after finer_state finer_step
    after-finer s (flow δ next) = refl
    after-finer s (jump event switches next) = refl

    end-finer : (s : State) (steps : List Step) → end_of m (finer_state N s) (map (finer_step N) steps) ≡ finer_state N (end_of m s steps)
    unfolding end_of
    end-finer s [] = refl
    end-finer s (t ∷ steps) = ap (λ v. end_of m v (map (finer_step N) steps)) (after-finer s t) ∙ end-finer (after m s t) steps

    still-finer : (s : State) (δ : ℕ) (next : List ℤ) → T (still_at_zero s δ next) → T (still_at_zero (finer_state N s) (δ * N) (times N next))
    unfolding still_at_zero finer_state
    still-finer s zero next t = still-by (finer_state N s) (zero * N) (times N next) (λ e. same-times N next s.values t)
    still-finer s (suc δ) next t = still-by (finer_state N s) (suc δ * N) (times N next) (λ e. absurd (omega arith))

    flow-finer : (s : State) (δ : ℕ) (next : List ℤ) → T (flow_rule m s δ next) → T (flow_rule m (finer_state N s) (δ * N) (times N next))
    unfolding flow_rule
    flow-finer s δ next t =
        let h = and_yes (rates_hold m s δ next) _ t in
        let k = and_yes (blanks_kept m s next) _ h.1 in
        yes_and (rates_hold m (finer_state N s) (δ * N) (times N next)) _ (rates-finer s δ next h.0)
        (yes_and (blanks_kept m (finer_state N s) (times N next)) _ (blanks-finer s next k.0) (still-finer s δ next k.1))

    rule-finer : (s : State) (t : Step) → T (rule_met m q s t) → T (rule_met m (q * N) (finer_state N s) (finer_step N t))
    unfolding rule_met finer_step
    rule-finer s (flow δ next) t = flow-finer s δ next t
    rule-finer s (jump event switches next) t = jump-finer s event switches next t

    step-finer : (s : State) (t : Step) → T (step_allowed m q s t) → T (step_allowed m (q * N) (finer_state N s) (finer_step N t))
    unfolding step_allowed
    step-finer s t a =
        let h = and_yes (admissible m q (after m s t)) _ a in
        yes_and (admissible m (q * N) (after m (finer_state N s) (finer_step N t))) _
        (rw (after-finer s t) (admissible-finer (after m s t) h.0))
        (rule-finer s t h.1)

    -- steps before a flow, then other steps over q·N from where they lead
    steps-finer : (s : State) (before later : List Step) → T (steps_allowed m q s before) → T (steps_allowed m (q * N) (finer_state N (end_of m s before)) later) → T (steps_allowed m (q * N) (finer_state N s) (map (finer_step N) before ++ later))
    unfolding steps_allowed end_of
    steps-finer s [] later t a = a
    steps-finer s (x ∷ before) later t a =
        let h = and_yes (step_allowed m q s x) _ t in
        yes_and (step_allowed m (q * N) (finer_state N s) (finer_step N x)) _ (step-finer s x h.0)
        (rw (after-finer s x) (steps-finer (after m s x) before later h.1 a))

-- a flow row, which is not strict, that holds of p in the time δ holds of t·p in the time δ·t, also for t = 0
module _ (t : ℕ) where
  row-slower : (δ : ℕ) (p : List ℤ) (r : Row) → r.strict ≡ false → T (row_holds δ p r) → T (row_holds (δ * t) (times t p) r)
  row-slower δ p r steady h =
      holds_by (δ * t) (times t p) r
      (compared-plain steady (rw (dot-times t r.coefficients p) (law δ (dot r.coefficients p) r.bound (holds-so δ p r h).most)))
    where
      law : (δ : ℕ) (d b : ℤ) → d ≤ℤ (b *ℤ pos δ) → (pos t *ℤ d) ≤ℤ (b *ℤ pos (δ * t))
      law δ d b = rw (split d, split b) (simp by_parts (λ h. omega (arith, mul-le-mul_left t h)))

  condition-slower : (δ : ℕ) (p : List ℤ) (rows : Condition) → Plain rows → T (condition_holds δ p rows) → T (condition_holds (δ * t) (times t p) rows)
  condition-slower δ p rows steady h =
      hold-rows (δ * t) (times t p) rows (all_so (λ r w. row-slower δ p r.row w.0 w.1) (all_both steady (rows-hold δ p rows h)))

  rates-slower : (δ : ℕ) (p : List ℤ) (modes : List Mode) → All (λ mode. Plain mode.flow) modes → T (every (λ mode. condition_holds δ p mode.flow) modes) → T (every (λ mode. condition_holds (δ * t) (times t p) mode.flow) modes)
  rates-slower δ p modes steady h =
      all-every (λ mode. condition_holds (δ * t) (times t p) mode.flow)
      (all_so (λ mode w. condition-slower δ p mode.flow w.0 w.1) (all_both steady (every-all (λ mode. condition_holds δ p mode.flow) modes h)))

-- a row that holds at both ends of a flow holds at every point between
module _ (q u t : ℕ) (whole : 1 ≤ u + t) where
  row-mixed : (p next : List ℤ) (r : Row) → length p ≡ length next → T (row_holds q p r) → T (row_holds q next r) → T (row_holds (q * (u + t)) (mixed u t p next) r)
  row-mixed p next r h v w =
      holds_by (q * (u + t)) (mixed u t p next) r
      (compared_same (sym (dot-mixed u t r.coefficients p next h)) (law r.bound)
      (compared-weaker (counts-one u t r.strict whole)
      (compared-+ (compared-* u (holds-so q p r v)) (compared-* t (holds-so q next r w)))))
    where
      law : (b : ℤ) → pos u *ℤ (b *ℤ pos q) +ℤ pos t *ℤ (b *ℤ pos q) ≡ b *ℤ pos (q * (u + t))
      law b = rw (split b) (simp by_parts (omega arith))

  condition-mixed : (p next : List ℤ) (rows : Condition) → length p ≡ length next → T (condition_holds q p rows) → T (condition_holds q next rows) → T (condition_holds (q * (u + t)) (mixed u t p next) rows)
  unfolding condition_holds
  condition-mixed p next rows h =
      every_two (λ r. row_holds q p r.row) (λ r. row_holds q next r.row) (λ r. row_holds (q * (u + t)) (mixed u t p next) r.row) rows
      (λ r v w. row-mixed p next r.row h v w)

length-mixed : (u t : ℕ) (p next : List ℤ) → length p ≡ length next → length (mixed u t p next) ≡ length p
unfolding mixed
length-mixed u t [] next h = refl
length-mixed u t (x ∷ p) [] h = absurd (omega arith)
length-mixed u t (x ∷ p) (y ∷ next) h = ap suc (length-mixed u t p next (omega arith))

-- a flow cut on its way is still at a time of 0
still-so : (s : State) (δ : ℕ) (next : List ℤ) → T (still_at_zero s δ next) → δ ≡ 0 → next ≡ s.values
unfolding still_at_zero
still-so s zero next t e = same_lists next s.values t
still-so s (suc δ) next t e = absurd (omega arith)

-- a flow cut on its way is an allowed step
module _ (m : Model) (q u t : ℕ) (whole : 1 ≤ u + t) (s : State) (next : List ℤ) (alike : length s.values ≡ length next) where
  abbrev point : List ℤ
  point = mixed u t s.values next

  cut-admissible : length s.values ≡ m.variables → T (every (λ mode. condition_holds q s.values mode.invariant) (modes_in m s.location)) → T (every (λ mode. condition_holds q next mode.invariant) (modes_in m s.location)) → T (admissible m (q * (u + t)) (record { location = s.location; values = point }))
  unfolding admissible
  cut-admissible sized i j =
      yes_and (eqb (length point) m.variables) _
      (rw (eq-eqb (length point) m.variables (length-mixed u t s.values next alike ∙ sized)) tt)
      (every_two (λ mode. condition_holds q s.values mode.invariant) (λ mode. condition_holds q next mode.invariant) (λ mode. condition_holds (q * (u + t)) point mode.invariant) (modes_in m s.location)
      (λ mode v w. condition-mixed q u t whole s.values next mode.invariant alike v w) i j)

  cut-rates : All (GoodMode m.variables) (modes_in m s.location) → (δ : ℕ) → T (rates_hold m s δ next) → T (rates_hold m (finer_state (u + t) s) (δ * t) point)
  unfolding rates_hold finer_state
  cut-rates good δ h =
      rw (mixed-difference u t s.values next)
      (rates-slower t δ (difference next s.values) (modes_in m s.location) (all_so (λ mode g. g.rates) good) h)

  cut-blanks : T (blanks_kept m s next) → T (blanks_kept m (finer_state (u + t) s) point)
  unfolding blanks_kept finer_state
  cut-blanks h = kept-mixed u t (still_variables m s.location) s.values next alike h

  cut-still : (δ : ℕ) → T (still_at_zero s δ next) → T (still_at_zero (finer_state (u + t) s) (δ * t) point)
  unfolding finer_state
  cut-still δ h =
      still-by (finer_state (u + t) s) (δ * t) point
      (λ e. lists-same point (times (u + t) s.values) (still-mixed u t δ s.values next alike (still-so s δ next h) e))

flow-cut : (m : Model) → WellFormed m → (q u t : ℕ) → 1 ≤ u + t → (s : State) (δ : ℕ) (next : List ℤ) → T (admissible m q s) → T (step_allowed m q s (flow δ next)) → T (step_allowed m (q * (u + t)) (finer_state (u + t) s) (flow (δ * t) (mixed u t s.values next)))
unfolding step_allowed rule_met flow_rule after finer_state
flow-cut m formed q u t whole s δ next a b =
    let target = after m s (flow δ next) in
    let h = and_yes (admissible m q target) _ b in
    let k = and_yes (rates_hold m s δ next) _ h.1 in
    let l = and_yes (blanks_kept m s next) _ k.1 in
    let alike : length s.values ≡ length next = state-sized m q s a ∙ sym (state-sized m q target h.0) in
    yes_and (admissible m (q * (u + t)) (after m (finer_state (u + t) s) (flow (δ * t) (mixed u t s.values next)))) _
    (cut-admissible m q u t whole s next alike (state-sized m q s a) (state-invariants m q s a) (state-invariants m q target h.0))
    (yes_and (rates_hold m (finer_state (u + t) s) (δ * t) (mixed u t s.values next)) _
    (cut-rates m q u t whole s next alike (modes-good m formed s.location) δ k.0)
    (yes_and (blanks_kept m (finer_state (u + t) s) (mixed u t s.values next)) _
    (cut-blanks m q u t whole s next alike l.0)
    (cut-still m q u t whole s next alike δ l.1)))

-- the parts of a run
steps-split : (m : Model) (q : ℕ) (s : State) (xs ys : List Step) → T (steps_allowed m q s (xs ++ ys)) → T (steps_allowed m q s xs) × T (steps_allowed m q (end_of m s xs) ys)
unfolding steps_allowed end_of
steps-split m q s [] ys t = (tt, t)
steps-split m q s (x ∷ xs) ys t =
    let h = and_yes (step_allowed m q s x) _ t in
    let k = steps-split m q (after m s x) xs ys h.1 in
    (yes_and (step_allowed m q s x) _ h.0 k.0, k.1)

end-joined : (m : Model) (s : State) (xs ys : List Step) → end_of m s (xs ++ ys) ≡ end_of m (end_of m s xs) ys
unfolding end_of
end-joined m s [] ys = refl
end-joined m s (x ∷ xs) ys = end-joined m (after m s x) xs ys

end-admissible : (m : Model) (q : ℕ) (s : State) (steps : List Step) → T (admissible m q s) → T (steps_allowed m q s steps) → T (admissible m q (end_of m s steps))
unfolding steps_allowed step_allowed end_of
end-admissible m q s [] a t = a
end-admissible m q s (x ∷ steps) a t =
    let h = and_yes (step_allowed m q s x) _ t in
    end-admissible m q (after m s x) steps (and_yes (admissible m q (after m s x)) _ h.0).0 h.1

start-admissible : (m : Model) (q : ℕ) (s : State) → T (start_allowed m q s) → T (admissible m q s)
unfolding start_allowed
start-admissible m q s t = (and_yes (admissible m q s) _ (and_yes (ltb s.location (location_count m.components)) _ t).1).0

-- A run whose steps are some steps, then a flow from p to p' in time δ/q, then any others. For any N from 1 and t from 0 to N, the steps
-- before it, over q·N, and then the flow cut at the t-th of N points, (N − t)·p + t·p' in time δ·t, are a run of the model. The model is
-- well formed, so that no flow row is strict: a flow of time 0 would not keep to one
module _ (m : Model) (formed : WellFormed m) (run : Run m) (before later : List Step) (δ : ℕ) (next : List ℤ) (flows : run.steps ≡ before ++ (flow δ next ∷ later)) (N t : ℕ) (whole : 1 ≤ N) (part : t ≤ N) where
  -- the state from which the flow starts
  abbrev from : State
  from = end_of m run.first before

  cut_step : T (step_allowed m (run.q * N) (finer_state N from) (flow (δ * t) (part_way N t from.values next)))
  unfolding part_way steps_allowed
  cut_step =
      let k = steps-split m run.q run.first before (flow δ next ∷ later) (subst (λ l. T (steps_allowed m run.q run.first l)) flows run.allowed) in
      let a = end-admissible m run.q run.first before (start-admissible m run.q run.first run.starts) k.0 in
      subst (λ (n : ℕ). T (step_allowed m (run.q * n) (finer_state n from) (flow (δ * t) (mixed (N - t) t from.values next))))
      (rest N t part)
      (flow-cut m formed run.q (N - t) t (omega (arith, whole)) from δ next a (and_yes (step_allowed m run.q from (flow δ next)) _ k.1).0)
    where
      rest : (N t : ℕ) → t ≤ N → (N - t) + t ≡ N
      rest N t h = omega arith

  pub cut-whole : 1 ≤ run.q * N
  cut-whole = omega (arith, mul-le-mul_left run.q whole, run.whole)

  pub cut-starts : T (start_allowed m (run.q * N) (finer_state N run.first))
  cut-starts = start-finer N whole m run.q run.first run.starts

  pub cut-allowed : T (steps_allowed m (run.q * N) (finer_state N run.first) (cut_steps m N t run.first before δ next))
  unfolding cut_steps steps_allowed
  cut-allowed =
      let k = steps-split m run.q run.first before (flow δ next ∷ later) (subst (λ l. T (steps_allowed m run.q run.first l)) flows run.allowed) in
      steps-finer N whole m run.q run.first before (flow (δ * t) (part_way N t from.values next) ∷ []) k.0
      (yes_and (step_allowed m (run.q * N) (finer_state N from) (flow (δ * t) (part_way N t from.values next))) true cut_step tt)

  unfoldable pub cut_run : Run m
  cut_run =
      record {
        q = run.q * N;
        first = finer_state N run.first;
        steps = cut_steps m N t run.first before δ next;
        whole = cut-whole;
        starts = cut-starts;
        allowed = cut-allowed;
      }

  -- and it ends at that point
  pub cut-ends : end_of m cut_run.first cut_run.steps ≡ part_way_state N t from next
  unfolding cut_run cut_steps part_way_state end_of after finer_state
  cut-ends =
      end-joined m (finer_state N run.first) (map (finer_step N) before) (flow (δ * t) (part_way N t from.values next) ∷ [])
      ∙ ap (λ v. end_of m v (flow (δ * t) (part_way N t from.values next) ∷ [])) (end-finer N whole m run.q run.first before)

-- the points begin and end where the flow does: over q·N at t = 0 at N·p, at t = N at N·p'
pub way-begins : (N : ℕ) (p next : List ℤ) → length p ≡ length next → part_way N 0 p next ≡ times N p
unfolding part_way
way-begins N p next h = ap (λ (u : ℕ). mixed u 0 p next) (whole N) ∙ mixed-none N p next h ∙ ap (λ (u : ℕ). times u p) (none N)
  where
    whole : (N : ℕ) → N - 0 ≡ N
    whole N = omega arith

    none : (N : ℕ) → N + 0 ≡ N
    none N = omega arith

mixed-last : (t : ℕ) (p next : List ℤ) → length p ≡ length next → mixed 0 t p next ≡ times t next
unfolding mixed times
mixed-last t [] [] h = refl
mixed-last t [] (y ∷ next) h = absurd (omega arith)
mixed-last t (x ∷ p) [] h = absurd (omega arith)
mixed-last t (x ∷ p) (y ∷ next) h = ap₂ (λ a l. a ∷ l) (law t x y) (mixed-last t p next (omega arith))
  where
    law : (t : ℕ) (x y : ℤ) → pos 0 *ℤ x +ℤ pos t *ℤ y ≡ pos t *ℤ y
    law t x y = rw (split x, split y) (simp by_parts (omega arith))

pub way-ends : (N : ℕ) (p next : List ℤ) → length p ≡ length next → part_way N N p next ≡ times N next
unfolding part_way
way-ends N p next h = ap (λ (u : ℕ). mixed u N p next) (nothing N) ∙ mixed-last N p next h
  where
    nothing : (N : ℕ) → N - N ≡ 0
    nothing N = omega arith

-- Demand 3 at every point of time. With an accepted certificate, a run of the model that flows from a state to new values passes
-- through no unsafe state on the way: for any N from 1 and t from 0 to N, the t-th of N points of the flow, over q·N, is not unsafe
pub safe-between : (limits : Limits) (model second : List ℕ) (m : Model) (end : ℕ) → read_model limits model ≡ got m end → (mark_certificate limits model second).number ≡ 0 → (run : Run m) (before later : List Step) (δ : ℕ) (next : List ℤ) → run.steps ≡ before ++ (flow δ next ∷ later) → (N t : ℕ) → 1 ≤ N → t ≤ N → T (is_unsafe m (run.q * N) (part_way_state N t (end_of m run.first before) next)) → ⊥
unfolding cut_run
safe-between limits model second m end e h run before later δ next flows N t whole part unsafe =
    let formed = well-formed limits model m end e in
    let cut = cut_run m formed run before later δ next flows N t whole part in
    let ends = cut-ends m formed run before later δ next flows N t whole part in
    safe limits model second m end e h cut (end_of m cut.first cut.steps) (end-visited m cut.first cut.steps)
    (subst (λ v. T (is_unsafe m (run.q * N) v)) (sym ends) unsafe)
