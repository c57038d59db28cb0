-- What the lines of a table stand for: the hypotheses of the definitions, group by group. Assumes nothing.
use mathlib.Core.Path.{◌≡◌, refl, sym, ap, ap₂, ◌∙◌}
use mathlib.Core.Bool.{Bool, true, false, cond, ◌||◌}
use mathlib.Core.List.{List, [], ◌∷◌, ◌++◌, map, append_assoc, map-append}
use Prim.Native.Nat.{ℕ, zero, suc, ◌+◌, ◌*◌, ◌≤◌, ◌<◌}
use native.Mathlib.Nat.{zero-add}
use native.Mathlib.Omega.{arith}
use lib.Dec.{eqb}
use lib.ListN.{length, get_or, drop}
use Rattle.farkas.specs.Rows.{Row}
use Rattle.formats.specs.Versions.{row_bytes}
use Rattle.formats.specs.Rows.{SheetRow, Condition}
use Rattle.fields.specs.Places.{row_at, rows_from}
use Rattle.formats.specs.Model.{Mode, Switch, Component}
use Rattle.formats.specs.Joint.{stays, switch_of, those, count_up, join_all}
use Rattle.models.specs.Index.{entry, component_place, mode_place, switch_place, unsafe_place, span_rows, mode_from, switch_from, components_from, model_from, GoodIndex}
use Rattle.models.specs.Counts.{component_at, per_component, KnownSwitches}
use Rattle.models.proofs.GoodIndexLaws.{components-drop, components-end, switch-at}
use Rattle.joint_switches.proofs.JointLoops.{components_on, numbers_on, per-component-drop}
use Rattle.rules.specs.Runs.{present, movers, variables_that, blank_in_flow, still_variables, owner_stays, blank_in_jump, staying_variables}
use Rattle.rules.specs.Obligations.{Hypothesis, nowhere, standing, on_x, on_next, on_rates, time_row, staying_rows, mode_rows, start_hypotheses, flow_hypotheses, unsafe_hypotheses, jump_hypotheses}
use Rattle.hypotheses.specs.Tables.{TableLine, line, segment, row_place, hypothesis_in, hypothesis_of, keeps, keeps_up, keeps_down}
use Rattle.hypotheses.specs.Listing.{kept_lines, mode_lines, switch_line, switch_lines, variable_line, variable_at, variable_lines, staying_lines, still_lines, here_lines, start_lines, flow_lines, unsafe_lines, landing_lines, jump_lines}
use Rattle.papers.specs.Standing.{KnownModes, Stands}
use Rattle.papers.specs.Blanks.{still_at, rests_at}
use Rattle.papers.proofs.BlankLaws.{still-told, rests-told}
use Rattle.rules.proofs.ListFacts.{joined-told, joined-those}
use Rattle.hypotheses.proofs.ModeLines.{modes_on, modes-next, modes-end, switches_on, switches-next, switches-end, switch-stays, switch-moves}
use Rattle.papers.proofs.StandingLaws.{present_on, present-end, present-next}

module _ (model second : List ℕ) (version n : ℕ) where
  abbrev pub told : List TableLine → List Hypothesis
  told lines = map (hypothesis_of model second version n) lines

  -- rows that stand one after the other
  told-from :
      (s : List ℕ) (m form : ℕ) (f : SheetRow → Hypothesis) → ((place row : ℕ) → hypothesis_in model second version n form place row ≡ f (row_at s version m (row_place version m place row)))
      → (place owner first count from : ℕ) → from ≡ row_place version m place first → told (map (line form place owner) (count_up first count)) ≡ map f (rows_from s version m from count)
  unfolding line hypothesis_of rows_from count_up row_place
  told-from s m form f e place owner first zero from h = refl
  told-from s m form f e place owner first (suc count) from h =
      ap₂ (λ (x : Hypothesis) (rest : List Hypothesis). x ∷ rest) (e place first ∙ ap (λ (p : ℕ). f (row_at s version m p)) (sym h))
      (told-from s m form f e place owner (suc first) count (from + row_bytes version m) (next m place first from h))
    where
      next : (m place first from : ℕ) → from ≡ place + row_bytes version m * first → from + row_bytes version m ≡ place + row_bytes version m * suc first
      next m place first from h = omega arith

  pub told-kept :
      (s : List ℕ) (m form : ℕ) (f : SheetRow → Hypothesis) → ((place row : ℕ) → hypothesis_in model second version n form place row ≡ f (row_at s version m (row_place version m place row)))
      → (owner : ℕ) (index : List ℕ) (i : ℕ) → told (kept_lines form owner index i) ≡ map f (span_rows s version m index i)
  unfolding kept_lines span_rows segment row_place
  told-kept s m form f e owner index i = told-from s m form f e (entry index i) owner 0 (entry index (i + 1)) (entry index i) (none (entry index i) m)
    where
      none : (p m : ℕ) → p ≡ p + row_bytes version m * 0
      none p m = omega arith

-- conditions of the present modes
module _ (model second index modes : List ℕ) (long : entry index 1 ≤ length modes) (known : KnownModes index modes) where
  module _
      (form offset : ℕ) (of : Mode → Condition) (put : Row → Row)
      (e : (place row : ℕ) → hypothesis_in model second (entry index 11) (entry index 0) form place row ≡ standing 0 put (row_at model (entry index 11) (entry index 0) (row_place (entry index 11) (entry index 0) place row)))
      (o : (i : ℕ) → of (mode_from model (entry index 11) (entry index 0) index i) ≡ span_rows model (entry index 11) (entry index 0) index (i + offset)) where
    from : (d k : ℕ) → k + d ≡ entry index 1 → told model second (entry index 11) (entry index 0) (modes_on form offset index modes k) ≡ mode_rows of put (present_on model index modes long k)
    unfolding mode_rows join_all
    from zero k h =
        ap (told model second (entry index 11) (entry index 0)) (modes-end form offset index modes long k (omega (arith, h)))
        ∙ sym (ap (mode_rows of put) (present-end model index modes long k (omega (arith, h))))
    from (suc d) k h =
        let l : k < entry index 1 = omega (arith, h) in
        let n = entry index 0 in
        let version = entry index 11 in
        let place = mode_place (component_place k) (get_or modes k 0) in
        let kept = kept_lines form k index (place + offset) in
        ap (told model second version n) (modes-next form offset index modes long k l)
        ∙ map-append (hypothesis_of model second version n) kept (modes_on form offset index modes (k + 1))
        ∙ ap₂ (λ (xs ys : List Hypothesis). xs ++ ys)
        (told-kept model second version n model n form (standing 0 put) e k index (place + offset) ∙ ap (map (standing 0 put)) (sym (o place)))
        (from d (k + 1) (omega (arith, h)))
        ∙ sym (ap (mode_rows of put) (present-next model index modes long known k l))

    pub told-modes : told model second (entry index 11) (entry index 0) (modes_on form offset index modes 0) ≡ mode_rows of put (present_on model index modes long 0)
    told-modes = from (entry index 1) 0 (zero-add (entry index 1))

-- rows of the switches by which components move
module _ (model second index switches : List ℕ) (long : entry index 1 ≤ length switches) (known : KnownSwitches index switches) where
  abbrev movers_on : ℕ → List Switch
  movers_on k = movers (components_on model index k) (numbers_on index switches k)

  abbrev jumps_of : List Switch → List Hypothesis
  jumps_of moving = join_all (λ w. map (standing 0 on_x) w.jump) moving

  movers-first : (k : ℕ) → k < entry index 1 → movers_on k ≡ elim (eqb (get_or switches k 0) stays) [ true ↦ movers_on (k + 1) | false ↦ switch_of (component_at model index k) (get_or switches k 0) ∷ movers_on (k + 1) ]
  unfolding movers
  movers-first k h = ap₂ movers (components-drop model index k h) (per-component-drop index switches long k h)

  jump-told : (k i : ℕ) → i < entry index (component_place k + 2) → told model second (entry index 11) (entry index 0) (kept_lines 7 k index (switch_place (component_place k) i + 3)) ≡ map (standing 0 on_x) (switch_of (component_at model index k) i).jump
  unfolding hypothesis_in switch_from
  jump-told k i h =
      told-kept model second (entry index 11) (entry index 0) model (2 * entry index 0) 7 (standing 0 on_x) (λ p r. refl) k index (switch_place (component_place k) i + 3)
      ∙ sym (ap (λ (w : Switch). map (standing 0 on_x) w.jump) (switch-at model index k i h))

  switch-turn : (k : ℕ) → k < entry index 1 → (rest : List Hypothesis) → rest ≡ jumps_of (movers_on (k + 1)) → told model second (entry index 11) (entry index 0) (switch_line index k (get_or switches k 0)) ++ rest ≡ jumps_of (movers_on k)
  unfolding join_all
  switch-turn k h rest r = go (eqb (get_or switches k 0) stays) refl
    where
      go : (b : Bool) → eqb (get_or switches k 0) stays ≡ b → told model second (entry index 11) (entry index 0) (switch_line index k (get_or switches k 0)) ++ rest ≡ jumps_of (movers_on k)
      go true e =
          ap (λ (ls : List TableLine). told model second (entry index 11) (entry index 0) ls ++ rest) (switch-stays index k (get_or switches k 0) e)
          ∙ r
          ∙ sym (ap jumps_of (movers-first k h ∙ ap (λ (b : Bool). elim b [ true ↦ movers_on (k + 1) | false ↦ switch_of (component_at model index k) (get_or switches k 0) ∷ movers_on (k + 1) ]) e))
      go false e =
          ap (λ (ls : List TableLine). told model second (entry index 11) (entry index 0) ls ++ rest) (switch-moves index k (get_or switches k 0) e)
          ∙ ap₂ (λ (xs ys : List Hypothesis). xs ++ ys) (jump-told k (get_or switches k 0) (known.known k h e)) r
          ∙ sym (ap jumps_of (movers-first k h ∙ ap (λ (b : Bool). elim b [ true ↦ movers_on (k + 1) | false ↦ switch_of (component_at model index k) (get_or switches k 0) ∷ movers_on (k + 1) ]) e))

  movers-end : (k : ℕ) → k ≡ entry index 1 → movers_on k ≡ []
  unfolding movers
  movers-end k h = ap (λ (components : List Component). movers components (numbers_on index switches k)) (ap (λ (i : ℕ). drop i (components_from model index)) h ∙ components-end model index)

  from-switch : (d k : ℕ) → k + d ≡ entry index 1 → told model second (entry index 11) (entry index 0) (switches_on index switches k) ≡ jumps_of (movers_on k)
  unfolding join_all
  from-switch zero k h =
      ap (told model second (entry index 11) (entry index 0)) (switches-end index switches long k (omega (arith, h)))
      ∙ sym (ap jumps_of (movers-end k (omega (arith, h))))
  from-switch (suc d) k h =
      let l : k < entry index 1 = omega (arith, h) in
      ap (told model second (entry index 11) (entry index 0)) (switches-next index switches long k l)
      ∙ map-append (hypothesis_of model second (entry index 11) (entry index 0)) (switch_line index k (get_or switches k 0)) (switches_on index switches (k + 1))
      ∙ switch-turn k l (told model second (entry index 11) (entry index 0) (switches_on index switches (k + 1))) (from-switch d (k + 1) (omega (arith, h)))

  pub told-switches : told model second (entry index 11) (entry index 0) (switches_on index switches 0) ≡ join_all (λ w. map (standing 0 on_x) w.jump) (movers (components_from model index) (per_component index switches))
  told-switches = from-switch (entry index 1) 0 (zero-add (entry index 1))

-- rows of variables that keep their value: what is told of each, and nothing of the others
joined-below : {B : Type 0} (f g : ℕ → List B) (k n : ℕ) → ((v : ℕ) → v < k + n → f v ≡ g v) → join_all f (count_up k n) ≡ join_all g (count_up k n)
unfolding join_all count_up
joined-below f g k zero h = refl
joined-below f g k (suc n) h = ap₂ (λ us vs. us ++ vs) (h k (omega arith)) (joined-below f g (suc k) n (λ v l. h v (omega arith)))

module _ {B : Type 0} (g : TableLine → B) (f : ℕ → List B) (two : (v : ℕ) → map g (segment 8 v v 2) ≡ f v) where
  one_told : (b : Bool) (v : ℕ) → map g (variable_line b v) ≡ cond b (f v) []
  unfolding variable_line
  one_told true v = two v
  one_told false v = refl

  -- by another test that says the same of each
  variables-told : (n : ℕ) (test found : ℕ → Bool) → ((v : ℕ) → v < n → test v ≡ found v) → map g (variable_lines found n) ≡ join_all f (those test (count_up 0 n))
  unfolding variable_lines
  variables-told n test found e =
      joined-told g (variable_at found) (count_up 0 n)
      ∙ joined-below (λ v. map g (variable_at found v)) (λ v. cond (test v) (f v) []) 0 n (λ v h. one_told (found v) v ∙ ap (λ (b : Bool). cond b (f v) []) (sym (e v (omega arith))))
      ∙ sym (joined-those f test (count_up 0 n))

  module _ {model index : List ℕ} (good : GoodIndex model index) where
    pub still-each : (location : ℕ) (modes : List ℕ) → Stands model index location modes → entry index 1 ≤ length modes → map g (still_lines model index modes) ≡ join_all f (still_variables (model_from model index) location)
    unfolding still_variables variables_that model_from
    still-each location modes stands long =
        variables-told (entry index 0) (blank_in_flow (model_from model index) location) (still_at model index modes) (λ v h. still-told good v h location modes stands long)

    pub staying-each : (switches : List ℕ) → KnownSwitches index switches → entry index 1 ≤ length switches → map g (staying_lines model index switches) ≡ join_all f (staying_variables (model_from model index) (per_component index switches))
    unfolding staying_variables variables_that model_from
    staying-each switches known long =
        variables-told (entry index 0) (λ v. owner_stays (model_from model index) (per_component index switches) v || blank_in_jump (model_from model index) (per_component index switches) v) (rests_at model index switches)
        (λ v h. rests-told good v h switches known long)

module _ (model second index : List ℕ) (good : GoodIndex model index) where
  two-told : (v : ℕ) → told model second (entry index 11) (entry index 0) (segment 8 v v 2) ≡ map nowhere (staying_rows (entry index 0) v)
  unfolding hypothesis_of hypothesis_in line segment count_up staying_rows keeps keeps_up keeps_down
  two-told v = refl

  pub told-still : (location : ℕ) (modes : List ℕ) → Stands model index location modes → entry index 1 ≤ length modes → told model second (entry index 11) (entry index 0) (still_lines model index modes) ≡ map nowhere (join_all (staying_rows (entry index 0)) (still_variables (model_from model index) location))
  told-still location modes stands long =
      still-each (hypothesis_of model second (entry index 11) (entry index 0)) (λ v. map nowhere (staying_rows (entry index 0) v)) two-told good location modes stands long
      ∙ sym (joined-told nowhere (staying_rows (entry index 0)) (still_variables (model_from model index) location))

  pub told-staying : (switches : List ℕ) → KnownSwitches index switches → entry index 1 ≤ length switches → told model second (entry index 11) (entry index 0) (staying_lines model index switches) ≡ map nowhere (join_all (staying_rows (entry index 0)) (staying_variables (model_from model index) (per_component index switches)))
  told-staying switches known long =
      staying-each (hypothesis_of model second (entry index 11) (entry index 0)) (λ v. map nowhere (staying_rows (entry index 0) v)) two-told good switches known long
      ∙ sym (joined-told nowhere (staying_rows (entry index 0)) (staying_variables (model_from model index) (per_component index switches)))

-- The four tables. A location's modes, one per component, are those of the array
module _ (model second index regions modes : List ℕ) (location : ℕ) (long : entry index 1 ≤ length modes) (known : KnownModes index modes) where
  abbrev here : List Mode
  here = present (components_from model index) (per_component index modes)

  abbrev region : Condition
  region = span_rows second (entry index 11) (entry index 0) regions (2 * location)

  initial-told : told model second (entry index 11) (entry index 0) (mode_lines 0 1 index 0 (per_component index modes)) ≡ mode_rows (λ mode. mode.initial) on_x here
  unfolding hypothesis_in mode_from
  initial-told = told-modes model second index modes long known 0 1 (λ mode. mode.initial) on_x (λ p r. refl) (λ i. refl)

  invariant-told : told model second (entry index 11) (entry index 0) (mode_lines 2 3 index 0 (per_component index modes)) ≡ mode_rows (λ mode. mode.invariant) on_x here
  unfolding hypothesis_in mode_from
  invariant-told = told-modes model second index modes long known 2 3 (λ mode. mode.invariant) on_x (λ p r. refl) (λ i. refl)

  pub next-told : told model second (entry index 11) (entry index 0) (mode_lines 4 3 index 0 (per_component index modes)) ≡ mode_rows (λ mode. mode.invariant) (on_next (entry index 0)) here
  unfolding hypothesis_in mode_from
  next-told = told-modes model second index modes long known 4 3 (λ mode. mode.invariant) (on_next (entry index 0)) (λ p r. refl) (λ i. refl)

  rates-told : told model second (entry index 11) (entry index 0) (mode_lines 5 5 index 0 (per_component index modes)) ≡ mode_rows (λ mode. mode.flow) on_rates here
  unfolding hypothesis_in mode_from
  rates-told = told-modes model second index modes long known 5 5 (λ mode. mode.flow) on_rates (λ p r. refl) (λ i. refl)

  region-told : told model second (entry index 11) (entry index 0) (kept_lines 1 0 regions (2 * location)) ≡ map (standing 1 on_x) region
  unfolding hypothesis_in
  region-told = told-kept model second (entry index 11) (entry index 0) second (entry index 0) 1 (standing 1 on_x) (λ p r. refl) 0 regions (2 * location)

  both : (xs ys : List TableLine) {hs ks : List Hypothesis} → told model second (entry index 11) (entry index 0) xs ≡ hs → told model second (entry index 11) (entry index 0) ys ≡ ks → told model second (entry index 11) (entry index 0) (xs ++ ys) ≡ hs ++ ks
  both xs ys p q = map-append (hypothesis_of model second (entry index 11) (entry index 0)) xs ys ∙ ap₂ (λ (us vs : List Hypothesis). us ++ vs) p q

  pub start-told : told model second (entry index 11) (entry index 0) (start_lines index (per_component index modes)) ≡ start_hypotheses here
  unfolding start_lines start_hypotheses
  start-told = both (mode_lines 0 1 index 0 (per_component index modes)) (mode_lines 2 3 index 0 (per_component index modes)) initial-told invariant-told

  -- "region and invariants on x", then the rest
  pub here-told : (rest : List TableLine) (hs : List Hypothesis) → told model second (entry index 11) (entry index 0) rest ≡ hs → told model second (entry index 11) (entry index 0) (here_lines index regions location (per_component index modes) ++ rest) ≡ map (standing 1 on_x) region ++ (mode_rows (λ mode. mode.invariant) on_x here ++ hs)
  unfolding here_lines
  here-told rest hs e =
      both (here_lines index regions location (per_component index modes)) rest (both (kept_lines 1 0 regions (2 * location)) (mode_lines 2 3 index 0 (per_component index modes)) region-told invariant-told) e
      ∙ append_assoc (map (standing 1 on_x) region) (mode_rows (λ mode. mode.invariant) on_x here) hs

  time-told : told model second (entry index 11) (entry index 0) (segment 6 0 0 1) ≡ nowhere (time_row (entry index 0)) ∷ []
  unfolding hypothesis_of hypothesis_in line segment count_up
  time-told = refl

  pub flow-told : GoodIndex model index → Stands model index location modes → told model second (entry index 11) (entry index 0) (flow_lines model index regions location modes) ≡ flow_hypotheses (entry index 0) region here (still_variables (model_from model index) location)
  unfolding flow_lines flow_hypotheses
  flow-told good stands =
      here-told (mode_lines 4 3 index 0 (per_component index modes) ++ (mode_lines 5 5 index 0 (per_component index modes) ++ (segment 6 0 0 1 ++ still_lines model index modes))) _
      (both (mode_lines 4 3 index 0 (per_component index modes)) _ next-told
      (both (mode_lines 5 5 index 0 (per_component index modes)) _ rates-told
      (both (segment 6 0 0 1) (still_lines model index modes) time-told (told-still model second index good location modes stands long))))

  pub unsafe-told : (u : ℕ) → told model second (entry index 11) (entry index 0) (unsafe_lines index regions location (per_component index modes) u) ≡ unsafe_hypotheses region here (span_rows model (entry index 11) (entry index 0) index (unsafe_place u + 4))
  unfolding unsafe_lines unsafe_hypotheses hypothesis_in
  unsafe-told u = here-told (kept_lines 3 0 index (unsafe_place u + 4)) _ (told-kept model second (entry index 11) (entry index 0) model (entry index 0) 3 (standing 0 on_x) (λ p r. refl) 0 index (unsafe_place u + 4))

  pub jump-lines-told :
      (targets switches : List ℕ) → entry index 1 ≤ length targets → KnownModes index targets → entry index 1 ≤ length switches → KnownSwitches index switches → GoodIndex model index
      → told model second (entry index 11) (entry index 0) (jump_lines model index regions location (per_component index modes) (per_component index targets) switches) ≡ jump_hypotheses (entry index 0) region here (present (components_from model index) (per_component index targets)) (movers (components_from model index) (per_component index switches)) (staying_variables (model_from model index) (per_component index switches))
  unfolding jump_lines landing_lines jump_hypotheses hypothesis_in mode_from per_component
  jump-lines-told targets switches l k w s g =
      let after = mode_lines 4 3 index 0 (per_component index targets) in
      let moving = switch_lines index 0 (per_component index switches) in
      here-told (after ++ (moving ++ staying_lines model index switches)) _
      (both after (moving ++ staying_lines model index switches) (told-modes model second index targets l k 4 3 (λ mode. mode.invariant) (on_next (entry index 0)) (λ p r. refl) (λ i. refl))
      (both moving (staying_lines model index switches) (told-switches model second index switches w s) (told-staying model second index g switches s w)))
