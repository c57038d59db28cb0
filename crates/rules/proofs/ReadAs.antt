-- Version 2 beside version 1, on the same rows (02, order 6). A step is allowed from version 2 on exactly when it is allowed in version 1 and
-- keeps the blanks. So a run of the later version is one of version 1, a run of version 1 is one of the later exactly when its steps keep the
-- blanks, and what is safe in version 1 is safe in the later. Assumes nothing.
use mathlib.Core.Path.{◌≡◌, refl, sym, ap, ap₂, subst, ◌∙◌}
use mathlib.Core.Logic.{◌↔◌}
use mathlib.Core.Bool.{Bool, true, false, not, ◌&&◌, ◌||◌}
use mathlib.Core.List.{List, [], ◌∷◌, Memᴰ}
use Prim.Native.Nat.{ℕ, ◌+◌}
use lib.Dec.{T}
use lib.IntN.{ℤ}
use mir.Facts.{and_yes, yes_and}
use Rattle.farkas.specs.Lists.{every, All}
use Rattle.farkas.specs.Rows.{item}
use Rattle.farkas.specs.Farkas.{same_z}
use Rattle.formats.specs.Versions.{keeps_blanks}
use Rattle.formats.specs.Model.{Model}
use Rattle.formats.specs.Locations.{modes_at}
use Rattle.formats.specs.Joint.{is_joint, those, count_up}
use Rattle.formats.specs.RunSheet.{Step, flow, jump}
use Rattle.rules.specs.Runs.{State, modes_in, admissible, start_allowed, rates_hold, still_at_zero, unmentioned, owner_of, owners_flow, variables_that, kept, blank_in_flow, still_variables, blanks_kept, flow_rule, owner_stays, owners_jump, blank_in_jump, staying_variables, staying_kept, jump_rows, jump_rule, after, rule_met, step_allowed, steps_allowed, Run, visited, is_unsafe}
use Rattle.rules.specs.ReadAs.{read_as, blanks_in, step_keeps, steps_keep, SameRun, Safe}
use Rattle.rules.proofs.ListFacts.{every-those}
use Rattle.rules.proofs.Blanks.{kept-means, plain-flow, plain-staying}

-- tests of two kinds of elements: either kind, or each by itself
either-apart : (a b f : Bool) → (not (a || b) || f) ≡ ((not a || f) && (not (not a && b) || f))
either-apart true b true = refl
either-apart true b false = refl
either-apart false true true = refl
either-apart false true false = refl
either-apart false false f = refl

both-apart : (a b c d : Bool) → ((a && b) && (c && d)) ≡ ((a && c) && (b && d))
both-apart true true c d = refl
both-apart true false true d = refl
both-apart true false false d = refl
both-apart false b c d = refl

last_apart : (a b c d : Bool) → (a && (b && (c && d))) ≡ ((a && (b && d)) && c)
last_apart true true true true = refl
last_apart true true true false = refl
last_apart true true false true = refl
last_apart true true false false = refl
last_apart true false c d = refl
last_apart false b c d = refl

end-apart : (a b c d e : Bool) → (a && (b && (c && (d && e)))) ≡ ((a && (b && (c && d))) && e)
end-apart true true true true e = refl
end-apart true true true false e = refl
end-apart true true false d e = refl
end-apart true false c d e = refl
end-apart false b c d e = refl

every-apart : (f a b : ℕ → Bool) (xs : List ℕ) → every (λ v. not (a v || b v) || f v) xs ≡ (every (λ v. not (a v) || f v) xs && every (λ v. not (not (a v) && b v) || f v) xs)
unfolding every
every-apart f a b [] = refl
every-apart f a b (x ∷ xs) =
    ap₂ (λ (p q : Bool). p && q) (either-apart (a x) (b x) (f x)) (every-apart f a b xs)
    ∙ both-apart (not (a x) || f x) (not (not (a x) && b x) || f x) (every (λ v. not (a v) || f v) xs) (every (λ v. not (not (a v) && b v) || f v) xs)

those-apart : (f a b : ℕ → Bool) (xs : List ℕ) → every f (those (λ v. a v || b v) xs) ≡ (every f (those a xs) && every f (those (λ v. not (a v) && b v) xs))
those-apart f a b xs =
    every-those f (λ v. a v || b v) xs
    ∙ every-apart f a b xs
    ∙ ap₂ (λ (p q : Bool). p && q) (sym (every-those f a xs)) (sym (every-those f (λ v. not (a v) && b v) xs))

-- What does not hang on the version
module _ (version : ℕ) (m : Model) where
  pub start-as : (q : ℕ) (s : State) → start_allowed (read_as version m) q s ≡ start_allowed m q s
  unfolding read_as start_allowed admissible modes_in
  start-as q s = refl

  pub unsafe-as : (q : ℕ) (s : State) → is_unsafe (read_as version m) q s ≡ is_unsafe m q s
  unfolding read_as is_unsafe
  unsafe-as q s = refl

  after-as : (s : State) (t : Step) → after (read_as version m) s t ≡ after m s t
  unfolding read_as after
  after-as s (flow δ next) = refl
  after-as s (jump event switches next) = refl

  admissible-as : (q : ℕ) (s : State) (t : Step) → admissible (read_as version m) q (after (read_as version m) s t) ≡ admissible m q (after m s t)
  unfolding read_as after admissible modes_in
  admissible-as q s (flow δ next) = refl
  admissible-as q s (jump event switches next) = refl

  pub visited-as : (s : State) (steps : List Step) → visited (read_as version m) s steps ≡ visited m s steps
  unfolding visited
  visited-as s [] = refl
  visited-as s (t ∷ steps) = ap (λ (l : List State). s ∷ l) (ap (λ (x : State). visited (read_as version m) x steps) (after-as s t) ∙ visited-as (after m s t) steps)

-- A version that leaves blanks free, and one that keeps them
module _ (m : Model) (old new : ℕ) (free : keeps_blanks old ≡ false) (blanks : keeps_blanks new ≡ true) where
  -- a flow
  still-are : (δ : ℕ) (s : State) (next : List ℤ) → still_variables (read_as new m) s.location ≡ blanks_in m s (flow δ next)
  unfolding read_as still_variables blank_in_flow blanks_in modes_in variables_that owner_of
  still-are δ s next = ap (λ (b : Bool). variables_that m (λ v. b && unmentioned v (owners_flow m s.location v))) blanks

  flow-exactly : (q : ℕ) (s : State) (δ : ℕ) (next : List ℤ) → step_allowed (read_as new m) q s (flow δ next) ≡ (step_allowed (read_as old m) q s (flow δ next) && step_keeps m s (flow δ next))
  unfolding read_as step_allowed rule_met flow_rule rates_hold blanks_kept step_keeps after admissible modes_in
  flow-exactly q s δ next =
      let a = admissible m q (after m s (flow δ next)) in
      let r = rates_hold m s δ next in
      let z = still_at_zero s δ next in
      ap (λ (vs : List ℕ). a && (r && (kept vs next s.values && z))) (still-are δ s next)
      ∙ last_apart a r (kept (blanks_in m s (flow δ next)) next s.values) z
      ∙ ap (λ (b : Bool). (a && b) && kept (blanks_in m s (flow δ next)) next s.values) (sym (plain-flow (read_as old m) free s δ next))

  -- a jump
  staying-are : (q event : ℕ) (s : State) (switches : List ℕ) (next : List ℤ) → staying_kept (read_as new m) s switches next ≡ (staying_kept (read_as old m) s switches next && step_keeps m s (jump event switches next))
  unfolding read_as staying_kept staying_variables blank_in_jump step_keeps blanks_in after kept variables_that owner_of owner_stays owners_jump
  staying-are q event s switches next =
      let f : ℕ → Bool = λ v. same_z (item next v) (item s.values v) in
      let b : ℕ → Bool = λ v. unmentioned (m.variables + v) (owners_jump m switches v) in
      ap (λ (k : Bool). every f (those (λ v. owner_stays m switches v || (k && b v)) (count_up 0 m.variables))) blanks
      ∙ those-apart f (owner_stays m switches) b (count_up 0 m.variables)
      ∙ ap (λ (vs : List ℕ). every f vs && every f (those (λ v. not (owner_stays m switches v) && b v) (count_up 0 m.variables))) (sym (plain-staying (read_as old m) free switches))

  jump-exactly : (q : ℕ) (s : State) (event : ℕ) (switches : List ℕ) (next : List ℤ) → step_allowed (read_as new m) q s (jump event switches next) ≡ (step_allowed (read_as old m) q s (jump event switches next) && step_keeps m s (jump event switches next))
  unfolding read_as step_allowed rule_met jump_rule jump_rows after admissible modes_in
  jump-exactly q s event switches next =
      let a = admissible m q (after m s (jump event switches next)) in
      let j = is_joint m.components (modes_at m.components s.location) event switches in
      let r = jump_rows m q s switches next in
      ap (λ (b : Bool). a && (j && (r && b))) (staying-are q event s switches next)
      ∙ end-apart a j r (staying_kept (read_as old m) s switches next) (step_keeps m s (jump event switches next))

  pub step-exactly : (q : ℕ) (s : State) (t : Step) → step_allowed (read_as new m) q s t ≡ (step_allowed (read_as old m) q s t && step_keeps m s t)
  step-exactly q s (flow δ next) = flow-exactly q s δ next
  step-exactly q s (jump event switches next) = jump-exactly q s event switches next

  pub steps-exactly : (q : ℕ) (s : State) (steps : List Step) → steps_allowed (read_as new m) q s steps ≡ (steps_allowed (read_as old m) q s steps && steps_keep m s steps)
  unfolding steps_allowed steps_keep
  steps-exactly q s [] = refl
  steps-exactly q s (t ∷ steps) =
      let later = after m s t in
      ap₂ (λ (a b : Bool). a && b) (step-exactly q s t)
      (ap (λ (x : State). steps_allowed (read_as new m) q x steps) (after-as new m s t) ∙ steps-exactly q later steps)
      ∙ both-apart (step_allowed (read_as old m) q s t) (step_keeps m s t) (steps_allowed (read_as old m) q later steps) (steps_keep m later steps)
      ∙ ap (λ (x : State). (step_allowed (read_as old m) q s t && steps_allowed (read_as old m) q x steps) && (step_keeps m s t && steps_keep m later steps)) (sym (after-as old m s t))

  -- the runs
  pub runs-before : (a : Run (read_as new m)) → ((b : Run (read_as old m)) × SameRun b a) × T (steps_keep m a.first a.steps)
  runs-before a =
      let h = and_yes (steps_allowed (read_as old m) a.q a.first a.steps) _ (subst T (steps-exactly a.q a.first a.steps) a.allowed) in (
        (
          record {
            q = a.q;
            first = a.first;
            steps = a.steps;
            whole = a.whole;
            starts = subst T (start-as new m a.q a.first ∙ sym (start-as old m a.q a.first)) a.starts;
            allowed = h.0;
          },
          record { q = refl; first = refl; steps = refl },
        ),
        h.1,
      )

  pub runs_after : (b : Run (read_as old m)) → T (steps_keep m b.first b.steps) → (a : Run (read_as new m)) × SameRun a b
  runs_after b h = (
    record {
      q = b.q;
      first = b.first;
      steps = b.steps;
      whole = b.whole;
      starts = subst T (start-as old m b.q b.first ∙ sym (start-as new m b.q b.first)) b.starts;
      allowed = subst T (sym (steps-exactly b.q b.first b.steps)) (yes_and (steps_allowed (read_as old m) b.q b.first b.steps) _ b.allowed h);
    },
    record { q = refl; first = refl; steps = refl },
  )

  pub runs-exactly : (b : Run (read_as old m)) → ((a : Run (read_as new m)) × SameRun a b) ↔ T (steps_keep m b.first b.steps)
  runs-exactly b = (
    λ w. subst (λ (steps : List Step). T (steps_keep m b.first steps)) w.1.steps (subst (λ (s : State). T (steps_keep m s w.0.steps)) w.1.first (runs-before w.0).1),
    runs_after b,
  )

  -- no more runs, and the same unsafe states
  pub safe-later : Safe (read_as old m) → Safe (read_as new m)
  unfolding runs-before
  safe-later safe run s d u =
      safe (runs-before run).0.0 s
      (subst (Memᴰ s) (visited-as new m run.first run.steps ∙ sym (visited-as old m run.first run.steps)) d)
      (subst T (unsafe-as new m run.q s ∙ sym (unsafe-as old m run.q s)) u)

-- A model whose version keeps blanks: every step that it allows keeps them, and every run does at each of its steps
module _ (m : Model) (blanks : keeps_blanks m.version ≡ true) where
  pub same_version : read_as m.version m ≡ m
  unfolding read_as
  same_version = refl

  pub step_keeps_lem : (q : ℕ) (s : State) (t : Step) → T (step_allowed m q s t) → All (λ v. item (after m s t).values v ≡ item s.values v) (blanks_in m s t)
  unfolding step_keeps keeps_blanks
  step_keeps_lem q s t h =
      (kept-means (blanks_in m s t) (after m s t).values s.values).0
      (and_yes (step_allowed (read_as 1 m) q s t) _ (subst T (step-exactly m 1 m.version refl blanks q s t) (subst (λ (x : Model). T (step_allowed x q s t)) (sym same_version) h))).1

  pub run-keeps : (run : Run m) → T (steps_keep m run.first run.steps)
  unfolding keeps_blanks
  run-keeps run =
      (and_yes (steps_allowed (read_as 1 m) run.q run.first run.steps) _
      (subst T (steps-exactly m 1 m.version refl blanks run.q run.first run.steps) (subst (λ (x : Model). T (steps_allowed x run.q run.first run.steps)) (sym same_version) run.allowed))
      ).1
