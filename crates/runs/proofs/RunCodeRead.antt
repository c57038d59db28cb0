-- What was read of a run sheet, as the code holds it: values, steps and openings are in their ranges, and the place of a refusal is in the
-- sheet. Assumes nothing.
use mathlib.Core.Path.{◌≡◌, refl, sym, ap, ◌∙◌, subst}
use mathlib.Core.Bool.{Bool, true, false, ◌&&◌, ◌||◌}
use mathlib.Core.List.{List, [], ◌∷◌}
use Prim.Native.Nat.{ℕ, zero, suc, ◌+◌, ◌-◌, ◌^◌, ◌≤◌, ◌<◌}
use native.Mathlib.Omega.{arith}
use lib.Dec.{T, leb, ltb, eqb, leb→le, ltb→lt}
use lib.IntN.{ℤ, pos, negsuc, nat_abs}
use lib.ListN.{length, take}
use lib.Seq.{get_or-take}
use lib.Signed.{le_z}
use Rattle.farkas.specs.Rows.{item}
use Rattle.farkas.specs.Lists.{All, none, more}
use Rattle.second_sheets.specs.declared.Switches.{Switches}
use Rattle.second_sheets.specs.declared.Step as coded
use Rattle.second_sheets.specs.declared.Step.TheVariants as step
use Rattle.second_sheets.specs.declared.Opening as opening
use Rattle.std.specs.Prelude.{Ok, Err}
use Rattle.fields.specs.declared.Refusal.{Refusal}
use Rattle.fields.specs.Causes.{number_of}
use Rattle.fields.specs.Answers.{got_field}
use Rattle.fields.proofs.AnswerLaws.{Read, read-value}
use Rattle.formats.specs.Reading.{Got, got, refused, u8, u16, u32, must, within_signed, each}
use Rattle.formats.specs.Model.{Component, Model}
use Rattle.formats.specs.Locations.{location_count, location_of}
use Rattle.formats.proofs.Locations as locations
use Rattle.formats.specs.Joint.{stays, four_switches}
use Rattle.models.specs.Index.{entry, components_from, model_from, GoodIndex}
use Rattle.models.specs.Counts.{KnownSwitches}
use Rattle.formats.specs.RunSheet.{Step, flow, jump, read_values, Opening, read_opening, read_flow, read_jump, read_step_of, read_step}
use Rattle.second_sheets.specs.RunAnswers.{switches_in, held_switches, step_of, step_as, step_in, held_step, opening_as, opening_in}
use Rattle.formats.proofs.Gives.{Gives, gives-bind, gives-give, gives-any, gives-must, gives-within, gives-below, gives-many, gives-weaken, and_left}
use Rattle.formats.proofs.Placed.{Fine, placed-opening}
use Rattle.formats.proofs.Joint.{Known, no-numbers, number-and}
use Rattle.models.proofs.GoodIndexLaws.{few-components, good-components}
use Rattle.joint_switches.proofs.JointLoops.{four-known}
use Rattle.rules.specs.Runs.{after}
use Rattle.papers.specs.Standing.{Stands}
use Rattle.papers.proofs.StandingLaws.{have-modes}
use Rattle.steps.specs.Held.{per_variable, state_of, state_in, SmallValues, KnownStep}

-- Values that were read are small
abbrev Small : ℤ → Type 0
Small v = nat_abs v ≤ 2 ^ 27

value-small : (v : ℤ) → T (le_z (negsuc (2 ^ 27 - 1)) v && le_z v (pos (2 ^ 27))) → Small v
value-small (pos n) t = leb→le n 134217728 t
value-small (negsuc n) t =
    let h = leb→le n 134217727 (and_left (leb n 134217727) true t) in omega (arith, h)

values-small : (n : ℕ) → Gives (All Small) (read_values n)
unfolding read_values within_signed
values-small n = gives-weaken (λ xs w. w.1) (gives-many n (gives-weaken (λ v w. value-small v w.0) (gives-must _ 5 gives-any)))

item-small : {xs : List ℤ} → All Small xs → (i : ℕ) → Small (item xs i)
unfolding item
item-small none i = omega arith
item-small (more x rest) zero = x
item-small (more x rest) (suc i) = item-small rest i

-- the first numbers of a slice, where they were read
small-read : {n : ℕ} {values : List ℤ} → n ≤ length values → All Small (take n values) → SmallValues n values
unfolding item
small-read {n} {values} long h =
    record { long = long; small = λ i l. rw (sym (get_or-take n values i (pos 0) l)) (item-small h i) }

-- A step that was read: its time or its event, its switches and its values are in their ranges
data StepKnown (m : Model) : Step → Type 0 where
  flow-known : {δ : ℕ} {xs : List ℤ} → δ < 2 ^ 24 → All Small xs → StepKnown m (flow δ xs)
  jump_known : {e : ℕ} {ws : List ℕ} {xs : List ℤ} → e ≤ 15 → Known m.components ws → All Small xs → StepKnown m (jump e ws xs)

or-first : (a b : Bool) → T (a || b) → b ≡ false → T a
or-first true b t q = tt
or-first false b t q = subst T q t

switches-known : (components : List Component) → Gives (Known components) (each (λ c. must (λ v. ltb v (length c.switches) || eqb v stays) 5 u8) components)
unfolding each
switches-known [] = gives-give [] no-numbers
switches-known (c ∷ components) =
    gives-bind (gives-must _ 5 gives-any)
    (λ i t.
    gives-bind (switches-known components)
    (λ ws k.
    gives-give (i ∷ ws) (number-and (λ q. ltb→lt i (length c.switches) (or-first (ltb i (length c.switches)) (eqb i stays) t.0 q)) k)))

flow-gives : (m : Model) → Gives (StepKnown m) (read_flow m)
unfolding read_flow
flow-gives m =
    gives-bind (gives-within 0 (2 ^ 24 - 1) u32)
    (λ δ i. gives-bind (values-small m.variables) (λ xs a. gives-give (flow δ xs) (flow-known (omega (arith, i.1)) a)))

jump-gives : (m : Model) → Gives (StepKnown m) (read_jump m)
unfolding read_jump
jump-gives m =
    gives-bind (gives-within 0 15 u8)
    (λ e i.
    gives-bind (switches-known m.components)
    (λ ws k. gives-bind (values-small m.variables) (λ xs a. gives-give (jump e ws xs) (jump_known i.1 k a))))

step-of-gives : (m : Model) (kind : ℕ) → Gives (StepKnown m) (read_step_of m kind)
unfolding read_step_of
step-of-gives m zero = flow-gives m
step-of-gives m (suc kind) = jump-gives m

step_gives : (m : Model) → Gives (StepKnown m) (read_step m)
unfolding read_step
step_gives m = gives-bind gives-any (λ kind u. step-of-gives m kind)

-- the same of the step as the code holds it
known-length : {components : List Component} {ws : List ℕ} → Known components ws → length ws ≡ length components
known-length no-numbers = refl
known-length (number-and h rest) = ap suc (known-length rest)

four_same : (ws : List ℕ) → length ws ≤ 4 → four_switches ws ≡ switches_in (held_switches ws)
unfolding four_switches switches_in held_switches
four_same [] h = refl
four_same (a ∷ []) h = refl
four_same (a ∷ b ∷ []) h = refl
four_same (a ∷ b ∷ c ∷ []) h = refl
four_same (a ∷ b ∷ c ∷ d ∷ []) h = refl
four_same (a ∷ b ∷ c ∷ d ∷ e ∷ ws) h = absurd (omega arith)

held-flow : {index : List ℕ} (δ : ℕ) → δ < 2 ^ 24 → KnownStep index (step.Flow δ)
held-flow δ h = record {
  time = λ d e. let q : δ ≡ d = cc in omega arith;
  event = λ d w e. let z : ◌≡◌ {A = ℕ} 0 1 = cc in absurd (omega arith);
  switches = λ d w e. let z : ◌≡◌ {A = ℕ} 0 1 = cc in absurd (omega arith);
}

held-jump : {index : List ℕ} (e : ℕ) (w : Switches) → e ≤ 15 → KnownSwitches index (switches_in w) → KnownStep index (step.Jump e w)
held-jump {index} e w h k = record {
  time = λ d q. let z : ◌≡◌ {A = ℕ} 0 1 = cc in absurd (omega arith);
  event = λ d v q. let r : e ≡ d = cc in omega arith;
  switches = λ d v q. let r : w ≡ v = cc in subst (λ x. KnownSwitches index (switches_in x)) r k;
}

module _ {model index : List ℕ} (g : GoodIndex model index) where
  held-known : (st : Step) (p : ℕ) (by : coded.Step) (after : ℕ) → held_step (got st p) ≡ got by after → StepKnown (model_from model index) st → KnownStep index by
  unfolding held_step model_from
  held-known (flow δ xs) p by after e (flow-known l a) = let q : step.Flow δ ≡ by = cc in subst (KnownStep index) q (held-flow δ l)
  held-known (jump event ws xs) p by after e (jump_known l k a) =
      let q : step.Jump event (held_switches ws) ≡ by = cc in
      let few : length ws ≤ 4 = omega (arith, known-length k, few-components g 0) in
      subst (KnownStep index) q (held-jump event (held_switches ws) l (subst (KnownSwitches index) (four_same ws few) (four-known g k)))

  pub step-known : (s : List ℕ) (at : ℕ) {r : Read coded.Step} {by : coded.Step} {after : ℕ} → got_field r ≡ held_step (read_step (model_from model index) s at) → r ≡ Ok (by, after) → KnownStep index by
  unfolding held_step
  step-known s at {by = by} {after} e h = go (read_step m s at) refl (read-value (held_step (read_step m s at)) e h)
    where
      m : Model
      m = model_from model index

      go : (x : Got Step) → read_step m s at ≡ x → held_step x ≡ got by after → KnownStep index by
      go (got st p) q w = held-known st p by after w ((step_gives m).holds s at st p q)
      go (refused number place) q w = let z : ◌≡◌ {A = ℕ} 0 1 = cc in absurd (omega arith)

-- what the answer means once its case is known
module _ (index : List ℕ) (g : Got Step) (values : List ℤ) {r : Read coded.Step} (told : step_in index values r ≡ g) where
  pub step-read : {by : coded.Step} {after : ℕ} → r ≡ Ok (by, after) → g ≡ got (step_of (entry index 1) by (per_variable index values)) after
  unfolding step_as per_variable
  step-read h = sym told ∙ ap (step_in index values) h

  pub step-refused : {w : Refusal} → r ≡ Err w → g ≡ refused (number_of w.0) w.1
  unfolding step_as
  step-refused h = sym told ∙ ap (step_in index values) h

-- and its new values are small
known_values : (m : Model) (c : ℕ) (by : coded.Step) (xs : List ℤ) → StepKnown m (step_of c by xs) → All Small xs
unfolding step_of
known_values m c (step.Flow δ) xs (flow-known l a) = a
known_values m c (step.Jump e w) xs (jump_known l k a) = a

pub step_small : (model index s : List ℕ) (at : ℕ) (by : coded.Step) (values : List ℤ) (after : ℕ) → read_step (model_from model index) s at ≡ got (step_of (entry index 1) by (per_variable index values)) after → entry index 0 ≤ length values → SmallValues (entry index 0) values
unfolding per_variable
step_small model index s at by values after e long =
    small-read long (known_values (model_from model index) (entry index 1) by (take (entry index 0) values) ((step_gives (model_from model index)).holds s at _ after e))

-- How a run begins: what was read is in its ranges
record OpeningKnown (m : Model) (o : Opening) : Type 0 where
  q : o.q < 2 ^ 24
  steps : o.steps ≤ 4095
  location : o.location < location_count m.components
  values : All Small o.values

opening-gives : (m : Model) → Gives (OpeningKnown m) (read_opening m)
unfolding read_opening
opening-gives m =
    gives-bind (gives-within 1 (2 ^ 24 - 1) u32)
    (λ q i.
    gives-bind (gives-within 0 4095 u16)
    (λ steps j.
    gives-bind gives-any
    (λ place u.
    gives-bind (gives-below (location_count m.components) u8)
    (λ location k.
    gives-bind (values-small m.variables)
    (λ values a. gives-give _ (record { q = omega (arith, i.1); steps = j.1; location = k; values = a }))))))

pub record OpeningHeld (model index s : List ℕ) (values : List ℤ) (q steps location next : ℕ) : Type 0 where
  pub below : q < 2 ^ 24
  pub few : steps ≤ 4095
  pub located : location < location_count (components_from model index)
  pub small : SmallValues (entry index 0) values
  pub placed : next ≤ length s

pub opening-known : (model index s : List ℕ) (at : ℕ) (values : List ℤ) (q steps place location next : ℕ) → at ≤ length s → entry index 0 ≤ length values → read_opening (model_from model index) s at ≡ got (record { q = q; steps = steps; place = place; location = location; values = take (entry index 0) values }) next → OpeningHeld model index s values q steps location next
unfolding model_from
opening-known model index s at values q steps place location next l long e =
    let m = model_from model index in
    let k = (opening-gives m).holds s at _ next e in
    record {
      below = k.q;
      few = k.steps;
      located = k.location;
      small = small-read long k.values;
      placed = (subst (λ x. Fine s at x) e ((placed-opening {least = 0} m).fine s at (omega arith) l)).1;
    }

pub opening-placed : (m : Model) (s : List ℕ) (at number place : ℕ) → at ≤ length s → read_opening m s at ≡ refused number place → place ≤ length s
opening-placed m s at number place l e = (subst (λ x. Fine s at x) e ((placed-opening {least = 0} m).fine s at (omega arith) l)).2

-- what the answer means once its case is known
module _ (index : List ℕ) (at : ℕ) (g : Got Opening) (values : List ℤ) where
  pub opening-read : (read : opening.Opening × ℕ) → opening_in index values at (Ok read) ≡ g → g ≡ got (record { q = read.0.q; steps = read.0.steps; place = at + 6; location = read.0.location; values = take (entry index 0) values }) read.1
  unfolding opening_as
  opening-read read told = sym told

  pub opening-refused : (w : Refusal) → opening_in index values at (Err w) ≡ g → g ≡ refused (number_of w.0) w.1
  unfolding opening_as
  opening-refused w told = sym told

-- the first state, by the modes of its location
pub first-state : {model index : List ℕ} (location : ℕ) (modes : List ℕ) (values : List ℤ) → GoodIndex model index → Stands model index location modes → state_in model index modes values ≡ record { location = location; values = take (entry index 0) values }
unfolding state_of per_variable
first-state {model} {index} location modes values g stands =
    let components = components_from model index in
    ap (λ (l : ℕ). record { location = l; values = take (entry index 0) values })
    (ap (location_of components) stands.here ∙ locations.number_of (have-modes (good-components g)) location stands.below)
