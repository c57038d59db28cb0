-- Obligations that are shown: some proof meets Farkas' condition. Where an obligation's hypotheses hold, its goal does; an unsafe one's
-- cannot. And where each obligation stands in the list of all. Assumes nothing.
use mathlib.Core.Path.{◌≡◌, refl, sym, subst}
use mathlib.Core.Logic.{⊎_elim}
use mathlib.Core.Bool.{Bool, true, false}
use mathlib.Core.List.Memᴰ
use mathlib.Core.List.{List, [], ◌∷◌, ◌++◌, map, Memᴰ}
use Prim.Native.Nat.{ℕ, zero, suc, ◌≤◌, ◌<◌}
use native.Mathlib.Omega.{arith}
use lib.Dec.{T, eqb}
use lib.IntN.{ℤ}
use Rattle.farkas.specs.Lists.{every, All, none, more}
use Rattle.farkas.specs.Rows.{Row, row_holds, zero_row}
use Rattle.farkas.specs.Farkas.{Proof, Meets}
use Rattle.farkas.proofs.All.{all_map}
use Rattle.farkas.proofs.Promise.{sound, sound-unsafe}
use Rattle.formats.specs.Rows.{Condition}
use Rattle.formats.specs.Model.{Unsafe, Model}
use Rattle.formats.specs.Locations.{location_count, modes_at}
use Rattle.formats.specs.Joint.{JointSwitch, joints, count_up, join_all}
use Rattle.formats.proofs.Members.{all_in, all_left, all_right, in_count}
use Rattle.rules.specs.Runs.{modes_in, modes_fit, still_variables, movers, staying_variables}
use Rattle.rules.specs.Obligations.{Hypothesis, Kind, at_start, after_flow, clear_of_unsafe, after_jump, Obligation, zero_only, per_row, on_x, on_next, start_hypotheses, flow_hypotheses, unsafe_hypotheses, jump_hypotheses, start_obligations, flow_obligations, unsafe_obligations, location_obligations, jump_obligations, jumps_obligations, obligations_over, region_of, obligations}

-- some proof meets Farkas' condition for a goal from hypotheses
pub record ShownBy (kind : Kind) (hypotheses : List Hypothesis) (goal : Row) : Type 0 where
  pub proof : Proof
  pub meets : Meets (map (λ h. h.row) hypotheses) goal proof
  pub zero : T (zero_only kind) → proof.k ≡ 0

abbrev pub Shown : Obligation → Type 0
Shown o = ShownBy o.kind o.hypotheses o.goal

-- a hypothesis holds at a point over q
abbrev pub Holding : ℕ → List ℤ → Hypothesis → Type 0
Holding q x h = T (row_holds q x h.row)

module _ {kind : Kind} {hypotheses : List Hypothesis} {goal : Row} (shown : ShownBy kind hypotheses goal) (q : ℕ) (positive : 1 ≤ q) (x : List ℤ) (hold : All (Holding q x) hypotheses) where
  either : (k : ℕ) → (1 ≤ k → T (row_holds q x goal)) × (k ≡ 0 → ⊥) → T (row_holds q x goal)
  either zero w = absurd (w.1 refl)
  either (suc k) w = w.0 (omega arith)

  pub shown-goal : T (row_holds q x goal)
  shown-goal =
      either shown.proof.k
      (sound (map (λ h. h.row) hypotheses) goal shown.proof shown.meets x q positive (all_map (λ h. h.row) hold))

  pub shown-clear : T (zero_only kind) → ⊥
  shown-clear t =
      sound-unsafe (map (λ h. h.row) hypotheses) goal shown.proof shown.meets x q positive (shown.zero t) (all_map (λ h. h.row) hold)

-- what is shown of every row of a region
pub per-row : (kind : Kind) (subject : ℕ) (hypotheses : List Hypothesis) (put : Row → Row) (line : ℕ) (region : Condition) → All Shown (per_row kind subject hypotheses put line region) → All (λ r. ShownBy kind hypotheses (put r.row)) region
unfolding per_row
per-row kind subject hypotheses put line [] h = none
per-row kind subject hypotheses put line (r ∷ region) (more x rest) = more x (per-row kind subject hypotheses put (suc line) region rest)

pub all-joined : {A B : Type 0} {P : B → Type 0} (f : A → List B) (xs : List A) {a : A} → All P (join_all f xs) → Memᴰ a xs → All P (f a)
unfolding join_all
all-joined f [] h d = absurd (Memᴰ.not-nil d)
all-joined {P = P} f (x ∷ xs) h d =
    ⊎_elim
    (λ e. subst (λ y. All P (f y)) (sym e) (all_left (f x) (join_all f xs) h))
    (λ k. all-joined f xs (all_right (f x) (join_all f xs) h) k)
    (Memᴰ.cases_cons d)

module _ (m : Model) (regions : List Condition) (shown : All Shown (obligations m regions)) where
  over : All Shown (obligations_over m (region_of regions) (count_up 0 (location_count m.components)) (joints m.components))
  unfolding obligations
  over = shown

  pub at-location : (location : ℕ) → location < location_count m.components → All Shown (location_obligations m (region_of regions) location)
  unfolding obligations_over
  at-location location h =
      all-joined (location_obligations m (region_of regions)) (count_up 0 (location_count m.components))
      (all_left (join_all (location_obligations m (region_of regions)) (count_up 0 (location_count m.components))) (jumps_obligations m (region_of regions) 0 (joints m.components)) over)
      (in_count 0 (location_count m.components) location (omega arith) (omega arith))

  -- the three groups of a location
  parts : (location : ℕ) → location < location_count m.components → All Shown (start_obligations m (region_of regions) location) × All Shown (flow_obligations m (region_of regions) location) × All Shown (unsafe_obligations m (region_of regions) location 0 m.unsafe)
  unfolding location_obligations
  parts location h =
      let start = start_obligations m (region_of regions) location in
      let flow = flow_obligations m (region_of regions) location in
      let unsafe = unsafe_obligations m (region_of regions) location 0 m.unsafe in
      let rest = all_right start (flow ++ unsafe) (at-location location h) in
      (all_left start (flow ++ unsafe) (at-location location h), all_left flow unsafe rest, all_right flow unsafe rest)

  at-jumps : All Shown (jumps_obligations m (region_of regions) 0 (joints m.components))
  unfolding obligations_over
  at-jumps =
      all_right (join_all (location_obligations m (region_of regions)) (count_up 0 (location_count m.components))) (jumps_obligations m (region_of regions) 0 (joints m.components)) over

  -- from the start: where all modes are start modes
  start-rows : (location : ℕ) (b : Bool) → T b → All Shown (elim b as (λ x. List Obligation) [ true ↦ per_row at_start location (start_hypotheses (modes_in m location)) on_x 0 (region_of regions location) | false ↦ [] ]) → All (λ r. ShownBy at_start (start_hypotheses (modes_in m location)) (on_x r.row)) (region_of regions location)
  start-rows location true t h = per-row at_start location (start_hypotheses (modes_in m location)) on_x 0 (region_of regions location) h
  start-rows location false t h = absurd t

  pub at-start : (location : ℕ) → location < location_count m.components → T (every (λ mode. eqb mode.start 1) (modes_in m location)) → All (λ r. ShownBy at_start (start_hypotheses (modes_in m location)) (on_x r.row)) (region_of regions location)
  unfolding start_obligations
  at-start location h t =
      start-rows location (every (λ mode. eqb mode.start 1) (modes_in m location)) t
      (parts location h).0

  -- after a flow
  pub at-flow : (location : ℕ) → location < location_count m.components → All (λ r. ShownBy after_flow (flow_hypotheses m.variables (region_of regions location) (modes_in m location) (still_variables m location)) (on_next m.variables r.row)) (region_of regions location)
  unfolding flow_obligations
  at-flow location h =
      per-row after_flow location (flow_hypotheses m.variables (region_of regions location) (modes_in m location) (still_variables m location)) (on_next m.variables) 0 (region_of regions location)
      (parts location h).1

  -- an unsafe condition whose modes fit
  abbrev UnsafeShown : ℕ → Unsafe → Type 0
  UnsafeShown location u = T (modes_fit u.modes (modes_at m.components location)) → ShownBy clear_of_unsafe (unsafe_hypotheses (region_of regions location) (modes_in m location) u.rows) zero_row

  unsafe-step : (o : Obligation) (rest : List Obligation) (b : Bool) → All Shown (elim b as (λ x. List Obligation) [ true ↦ o ∷ rest | false ↦ rest ]) → (T b → Shown o) × All Shown rest
  unsafe-step o rest true (more x h) = (λ t. x, h)
  unsafe-step o rest false h = (λ t. absurd t, h)

  unsafe-rows : (location line : ℕ) (list : List Unsafe) → All Shown (unsafe_obligations m (region_of regions) location line list) → All (UnsafeShown location) list
  unfolding unsafe_obligations
  unsafe-rows location line [] h = none
  unsafe-rows location line (u ∷ rest) h =
      let w =
      unsafe-step
      (record {
        kind = clear_of_unsafe;
        subject = location;
        line = line;
        hypotheses = unsafe_hypotheses (region_of regions location) (modes_in m location) u.rows;
        goal = zero_row;
      })
      (unsafe_obligations m (region_of regions) location (suc line) rest)
      (modes_fit u.modes (modes_at m.components location))
      h in
      more w.0 (unsafe-rows location (suc line) rest w.1)

  pub at-unsafe : (location : ℕ) → location < location_count m.components → All (UnsafeShown location) m.unsafe
  at-unsafe location h =
      unsafe-rows location 0 m.unsafe
      (parts location h).2

  -- after a joint switch
  abbrev pub JumpShown : JointSwitch → Type 0
  JumpShown j =
      All
      (λ r.
      ShownBy after_jump
      (jump_hypotheses m.variables (region_of regions j.source) (modes_in m j.source) (modes_in m j.target) (movers m.components j.switches) (staying_variables m j.switches))
      (on_next m.variables r.row))
      (region_of regions j.target)

  jump-rows : (number : ℕ) (list : List JointSwitch) → All Shown (jumps_obligations m (region_of regions) number list) → All JumpShown list
  unfolding jumps_obligations jump_obligations
  jump-rows number [] h = none
  jump-rows number (j ∷ rest) h =
      more
      (per-row after_jump number
      (jump_hypotheses m.variables (region_of regions j.source) (modes_in m j.source) (modes_in m j.target) (movers m.components j.switches) (staying_variables m j.switches))
      (on_next m.variables) 0 (region_of regions j.target)
      (all_left (jump_obligations m (region_of regions) number j) (jumps_obligations m (region_of regions) (suc number) rest) h))
      (jump-rows (suc number) rest (all_right (jump_obligations m (region_of regions) number j) (jumps_obligations m (region_of regions) (suc number) rest) h))

  pub at-jump : {j : JointSwitch} → Memᴰ j (joints m.components) → JumpShown j
  at-jump d = all_in (jump-rows 0 (joints m.components) at-jumps) d
