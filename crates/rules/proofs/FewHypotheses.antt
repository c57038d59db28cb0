-- "up to 129 hypotheses" (02, order 6): no obligation of a model and regions within their ranges has more. A flow may have as many: 16 rows of
-- its region, 32 invariants on x and 32 on x', 32 flow rows, the time, and two rows for each of eight blanks. Assumes nothing.
use mathlib.Core.Path.{◌≡◌}
use mathlib.Core.Bool.{Bool, true, false, cond}
use mathlib.Core.List.{List, [], ◌∷◌, ◌++◌, map}
use Prim.Native.Nat.{ℕ, suc, ◌+◌, ◌*◌, ◌≤◌}
use native.Mathlib.Omega.{arith}
use lib.Dec.{eqb}
use lib.ListN.{length, length-append, length-map}
use Rattle.farkas.specs.Lists.{every, All, none, more}
use Rattle.farkas.specs.Rows.{Row, zero_row}
use Rattle.farkas.proofs.All.{all_append, all-at}
use Rattle.formats.specs.Rows.{Condition}
use Rattle.formats.specs.Model.{Mode, Switch, Component, Unsafe, Model}
use Rattle.formats.specs.Locations.{location_count, modes_at, no_mode, mode_of}
use Rattle.formats.specs.Joint.{JointSwitch, stays, switch_of, those, count_up, join_all, joints}
use Rattle.formats.specs.declared.Limits.{Limits}
use Rattle.formats.specs.Reading.{got}
use Rattle.formats.specs.ModelSheet.{read_model}
use Rattle.formats.specs.Certificate.{read_regions}
use Rattle.formats.proofs.WellFormed.{regions-give}
use Rattle.formats.proofs.Members.{all-members}
use Rattle.rules.specs.Runs.{present, modes_in, variables_that, still_variables, movers, staying_variables, modes_fit}
use Rattle.rules.specs.Obligations.{Hypothesis, nowhere, standing, on_x, on_next, on_rates, time_row, staying_rows, mode_rows, start_hypotheses, flow_hypotheses, unsafe_hypotheses, jump_hypotheses, Kind, at_start, after_flow, clear_of_unsafe, after_jump, Obligation, per_row, start_obligations, flow_obligations, unsafe_obligations, location_obligations, jump_obligations, jumps_obligations, obligations_over, region_of, obligations}
use Rattle.rules.proofs.ListFacts.{count-length}
use Rattle.rules.proofs.Hypotheses.{all_so, join-all}
use Rattle.rules.proofs.Safety.{Regions}
use Rattle.rules.proofs.Ranges.{ComponentRanges, ModelRanges, model-ranges}

-- lists that are joined, mapped or chosen from
joined-most : {A B : Type 0} (f : A → List B) (b : ℕ) {xs : List A} → All (λ a. length (f a) ≤ b) xs → length (join_all f xs) ≤ b * length xs
unfolding join_all
joined-most f b none = omega arith
joined-most f b (more {a} {xs} h w) = omega (arith, h, joined-most f b w, length-append (f a) (join_all f xs))

those-few : (test : ℕ → Bool) (xs : List ℕ) → length (those test xs) ≤ length xs
unfolding those
those-few test [] = omega arith
those-few test (x ∷ xs) = step (test x) (those-few test xs)
  where
    step : (b : Bool) → length (those test xs) ≤ length xs → length (cond b (x ∷ those test xs) (those test xs)) ≤ suc (length xs)
    step true h = omega arith
    step false h = omega arith

-- so many elements at most
pub record AtMost {A : Type 0} (most : ℕ) (xs : List A) : Type 0 where
  pub few : length xs ≤ most

mapped : {A B : Type 0} (f : A → B) (xs : List A) {most : ℕ} → length xs ≤ most → AtMost most (map f xs)
mapped f xs h = record { few = omega (arith, h, length-map xs f) }

both : {A : Type 0} {xs ys : List A} (a b : ℕ) → AtMost a xs → AtMost b ys → AtMost (a + b) (xs ++ ys)
both {xs = xs} {ys = ys} a b h k = record { few = omega (arith, h.few, k.few, length-append xs ys) }

looser : {A : Type 0} {xs : List A} (a b : ℕ) → AtMost a xs → a ≤ b → AtMost b xs
looser a b h k = record { few = omega (arith, h.few, k) }

-- the present modes and the switches that move: at most four, with at most eight rows a condition
pub record FewRows (mode : Mode) : Type 0 where
  pub initial : length mode.initial ≤ 8
  pub invariant : length mode.invariant ≤ 8
  pub flow : length mode.flow ≤ 8

abbrev FewJumps : Switch → Type 0
FewJumps w = length w.jump ≤ 8

abbrev chosen : Bool → Switch → List Switch → List Switch
chosen b one others = elim b as (λ x. List Switch) [ true ↦ others | false ↦ one ∷ others ]

chosen-few : (b : Bool) (one : Switch) (others : List Switch) (most : ℕ) → All FewJumps others → FewJumps one → length others ≤ most → All FewJumps (chosen b one others) × (length (chosen b one others) ≤ suc most)
chosen-few true one others most h k l = (h, omega arith)
chosen-few false one others most h k l = (more k h, omega arith)

module _ (n : ℕ) where
  present-few : {components : List Component} (modes : List ℕ) → All (ComponentRanges n) components → All FewRows (present components modes) × (length (present components modes) ≤ length components)
  unfolding present mode_of
  present-few modes none = (none, omega arith)
  present-few [] (more x w) = (none, omega arith)
  present-few (mode ∷ modes) (more {a = c} x w) =
      let rest = present-few modes w in
      let few : All FewRows c.modes = all_so (λ y r. record { initial = r.initial.count; invariant = r.invariant.count; flow = r.flow.count }) x.modes in
      (more (all-at no_mode (record { initial = omega arith; invariant = omega arith; flow = omega arith }) few mode) rest.0, omega (arith, rest.1))

  movers-few : {components : List Component} (switches : List ℕ) → All (ComponentRanges n) components → All FewJumps (movers components switches) × (length (movers components switches) ≤ length components)
  unfolding movers switch_of
  movers-few switches none = (none, omega arith)
  movers-few [] (more x w) = (none, omega arith)
  movers-few (i ∷ switches) (more {a = c} {xs = components} x w) =
      let rest = movers-few switches w in
      let few : All FewJumps c.switches = all_so (λ y r. r.jump.count) x.switches in
      chosen-few (eqb i stays) (switch_of c i) (movers components switches) (length components) rest.0 (all-at _ (omega arith) few i) rest.1

-- the groups of hypotheses
module _ (limits : Limits) (m : Model) (ranges : ModelRanges limits m) (regions : List Condition) (within : Regions m regions) where
  modes-few : (of : Mode → Condition) (put : Row → Row) → ((mode : Mode) → FewRows mode → length (of mode) ≤ 8) → (location : ℕ) → AtMost 32 (mode_rows of put (modes_in m location))
  unfolding mode_rows modes_in
  modes-few of put few location =
      let h = present-few m.variables (modes_at m.components location) ranges.components in
      record {
        few =
            omega (arith, h.1, ranges.few, joined-most (λ mode. map (standing 0 put) (of mode)) 8 (all_so (λ mode r. (mapped (standing 0 put) (of mode) (few mode r)).few) h.0));
      }

  invariants-few : (put : Row → Row) (location : ℕ) → AtMost 32 (mode_rows (λ mode. mode.invariant) put (modes_in m location))
  invariants-few put location = modes-few (λ mode. mode.invariant) put (λ mode r. r.invariant) location

  region-few : (location : ℕ) → AtMost 16 (map (standing 1 on_x) (region_of regions location))
  unfolding region_of
  region-few location = mapped (standing 1 on_x) (region_of regions location) (all-at [] (omega arith) (all_so (λ r w. w.0) within) location)

  jumps-few : (switches : List ℕ) → AtMost 32 (join_all (λ w. map (standing 0 on_x) w.jump) (movers m.components switches))
  jumps-few switches =
      let h = movers-few m.variables switches ranges.components in
      record { few = omega (arith, h.1, ranges.few, joined-most (λ w. map (standing 0 on_x) w.jump) 8 (all_so (λ w r. (mapped (standing 0 on_x) w.jump r).few) h.0)) }

  staying-few : (test : ℕ → Bool) → AtMost 16 (map nowhere (join_all (staying_rows m.variables) (variables_that m test)))
  unfolding variables_that staying_rows
  staying-few test =
      let n = m.variables in
      let chosen = variables_that m test in
      mapped nowhere (join_all (staying_rows n) chosen)
      (omega (arith, ranges.most, those-few test (count_up 0 n), count-length 0 n, joined-most (staying_rows n) 2 (all-members chosen (λ v d. omega arith))))

  start-few : (location : ℕ) → AtMost 129 (start_hypotheses (modes_in m location))
  unfolding start_hypotheses
  start-few location =
      looser 64 129 (both 32 32 (modes-few (λ mode. mode.initial) on_x (λ mode r. r.initial) location) (invariants-few on_x location)) (omega arith)

  flow-few : (location : ℕ) → AtMost 129 (flow_hypotheses m.variables (region_of regions location) (modes_in m location) (still_variables m location))
  unfolding flow_hypotheses still_variables
  flow-few location =
      both 16 113 (region-few location)
      (both 32 81 (invariants-few on_x location)
      (both 32 49 (invariants-few (on_next m.variables) location)
      (both 32 17 (modes-few (λ mode. mode.flow) on_rates (λ mode r. r.flow) location)
      (both {xs = nowhere (time_row m.variables) ∷ []} 1 16 (record { few = omega arith }) (staying-few _)))))

  unsafe-few : (location : ℕ) (rows : Condition) → length rows ≤ 8 → AtMost 129 (unsafe_hypotheses (region_of regions location) (modes_in m location) rows)
  unfolding unsafe_hypotheses
  unsafe-few location rows h = looser 56 129 (both 16 40 (region-few location) (both 32 8 (invariants-few on_x location) (mapped (standing 0 on_x) rows h))) (omega arith)

  jump-few : (source target : ℕ) (switches : List ℕ) → AtMost 129 (jump_hypotheses m.variables (region_of regions source) (modes_in m source) (modes_in m target) (movers m.components switches) (staying_variables m switches))
  unfolding jump_hypotheses staying_variables
  jump-few source target switches =
      looser 128 129
      (both 16 112 (region-few source)
      (both 32 80 (invariants-few on_x source)
      (both 32 48 (invariants-few (on_next m.variables) target)
      (both 32 16 (jumps-few switches) (staying-few _)))))
      (omega arith)

  -- the obligations
  abbrev pub Few : Obligation → Type 0
  Few o = AtMost 129 o.hypotheses

  per-row-few : (kind : Kind) (subject : ℕ) {hypotheses : List Hypothesis} → AtMost 129 hypotheses → (put : Row → Row) (line : ℕ) (region : Condition) → All Few (per_row kind subject hypotheses put line region)
  unfolding per_row
  per-row-few kind subject h put line [] = none
  per-row-few kind subject h put line (r ∷ region) = more h (per-row-few kind subject h put (suc line) region)

  starts-few : (location : ℕ) → All Few (start_obligations m (region_of regions) location)
  unfolding start_obligations
  starts-few location = go (every (λ mode. eqb mode.start 1) (modes_in m location))
    where
      go : (b : Bool) → All Few (elim b as (λ x. List Obligation) [ true ↦ per_row at_start location (start_hypotheses (modes_in m location)) on_x 0 (region_of regions location) | false ↦ [] ])
      go true = per-row-few at_start location (start-few location) on_x 0 (region_of regions location)
      go false = none

  flows-few : (location : ℕ) → All Few (flow_obligations m (region_of regions) location)
  unfolding flow_obligations
  flows-few location = per-row-few after_flow location (flow-few location) (on_next m.variables) 0 (region_of regions location)

  unsafes-few : (location line : ℕ) {conditions : List Unsafe} → All (λ u. length u.rows ≤ 8) conditions → All Few (unsafe_obligations m (region_of regions) location line conditions)
  unfolding unsafe_obligations
  unsafes-few location line none = none
  unsafes-few location line (more {a = u} {xs = rest} h w) = go (modes_fit u.modes (modes_at m.components location)) (unsafes-few location (suc line) w)
    where
      later : List Obligation
      later = unsafe_obligations m (region_of regions) location (suc line) rest

      go : (b : Bool) → All Few later → All Few (elim b as (λ x. List Obligation) [ true ↦ record { kind = clear_of_unsafe; subject = location; line = line; hypotheses = unsafe_hypotheses (region_of regions location) (modes_in m location) u.rows; goal = zero_row } ∷ later | false ↦ later ])
      go true k = more (unsafe-few location u.rows h) k
      go false k = k

  after-jumps-few : (number : ℕ) (switches : List JointSwitch) → All Few (jumps_obligations m (region_of regions) number switches)
  unfolding jumps_obligations jump_obligations
  after-jumps-few number [] = none
  after-jumps-few number (j ∷ rest) =
      all_append
      (per-row-few after_jump number (jump-few j.source j.target j.switches) (on_next m.variables) 0 (region_of regions j.target))
      (after-jumps-few (suc number) rest)

  pub few-hypotheses : All Few (obligations m regions)
  unfolding obligations obligations_over location_obligations
  few-hypotheses =
      all_append
      (join-all (location_obligations m (region_of regions))
      (all-members (count_up 0 (location_count m.components))
      (λ location d. all_append (starts-few location) (all_append (flows-few location) (unsafes-few location 0 (all_so (λ u r. r.rows.count) ranges.unsafe))))))
      (after-jumps-few 0 (joints m.components))

-- and so in every paper whose model and regions read well
pub few-read : (limits : Limits) (model second : List ℕ) (m : Model) (end at next : ℕ) (regions : List Condition) → read_model limits model ≡ got m end → read_regions m second at ≡ got regions next → All (λ o. length o.hypotheses ≤ 129) (obligations m regions)
few-read limits model second m end at next regions e r =
    all_so (λ o h. h.few) (few-hypotheses limits m (model-ranges limits model m end e) regions ((regions-give m).holds second at regions next r).1)
