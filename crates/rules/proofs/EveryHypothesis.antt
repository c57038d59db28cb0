-- What holds of every row of a model and of a certificate's regions, and of the rows that stand in no sheet, holds of every hypothesis and
-- every goal of every obligation. Assumes nothing.
use mathlib.Core.Bool.{Bool, true, false}
use mathlib.Core.List.{List, [], ◌∷◌, map}
use Prim.Native.Nat.{ℕ, suc}
use lib.Dec.{eqb}
use Rattle.farkas.specs.Lists.{every, All, none, more}
use Rattle.farkas.specs.Rows.{Row, zero_row}
use Rattle.farkas.proofs.All.{all_append, all_map, all-at}
use Rattle.formats.specs.Rows.{SheetRow, Condition}
use Rattle.formats.specs.Model.{Mode, Component, Unsafe, Model}
use Rattle.formats.specs.Locations.{modes_at, mode_of}
use Rattle.formats.specs.Joint.{stays, switch_of, JointSwitch, joints, join_all}
use Rattle.formats.proofs.EveryRow.{ModeRows, ComponentRows, ModelRows}
use Rattle.formats.proofs.Members.{all-members}
use Rattle.rules.specs.Runs.{present, modes_in, still_variables, movers, staying_variables, modes_fit}
use Rattle.rules.specs.Obligations.{Hypothesis, nowhere, standing, on_x, on_next, on_rates, time_row, staying_rows, mode_rows, start_hypotheses, flow_hypotheses, unsafe_hypotheses, jump_hypotheses, Kind, at_start, after_flow, after_jump, Obligation, per_row, start_obligations, flow_obligations, unsafe_obligations, location_obligations, jump_obligations, jumps_obligations, obligations_over, region_of, obligations}
use Rattle.rules.proofs.Hypotheses.{all_so, join-all}

-- A property of hypotheses and one of goals that follow from a property of the model's rows and one of the regions'
pub record Serves (P Q : SheetRow → Type 0) (H : Hypothesis → Type 0) (G : Row → Type 0) : Type 0 where
  pub before : (r : SheetRow) → P r → H (standing 0 on_x r)
  pub after : (n : ℕ) (r : SheetRow) → P r → H (standing 0 (on_next n) r)
  pub rates : (r : SheetRow) → P r → H (standing 0 on_rates r)
  pub region : (r : SheetRow) → Q r → H (standing 1 on_x r)
  pub time : (n : ℕ) → H (nowhere (time_row n))
  pub staying : (n v : ℕ) → All (λ r. H (nowhere r)) (staying_rows n v)
  pub goal_before : (r : SheetRow) → Q r → G (on_x r.row)
  pub goal_after : (n : ℕ) (r : SheetRow) → Q r → G (on_next n r.row)
  pub goal_none : G zero_row

-- an obligation whose hypotheses and goal have them
abbrev pub Served : (Hypothesis → Type 0) → (Row → Type 0) → Obligation → Type 0
Served H G o = All H o.hypotheses × G o.goal

all_either : {A : Type 0} {P : A → Type 0} {xs ys : List A} (b : Bool) → All P xs → All P ys → All P (elim b [ true ↦ xs | false ↦ ys ])
all_either true h k = h
all_either false h k = k

module _ {P Q : SheetRow → Type 0} {H : Hypothesis → Type 0} {G : Row → Type 0} (serves : Serves P Q H G) where
  put-rows : (sheet : ℕ) (put : Row → Row) {R : SheetRow → Type 0} → ((r : SheetRow) → R r → H (standing sheet put r)) → {rows : Condition} → All R rows → All H (map (standing sheet put) rows)
  put-rows sheet put f w = all_map (standing sheet put) (all_so f w)

  put-modes : (of : Mode → Condition) (put : Row → Row) → ((r : SheetRow) → P r → H (standing 0 put r)) → {modes : List Mode} → All (λ mode. All P (of mode)) modes → All H (mode_rows of put modes)
  unfolding mode_rows
  put-modes of put f w = join-all _ (all_so (λ mode k. put-rows 0 put f k) w)

  -- the rows of variables that keep their value
  staying-held : (n : ℕ) (variables : List ℕ) → All H (map nowhere (join_all (staying_rows n) variables))
  staying-held n variables = all_map nowhere (join-all (staying_rows n) (all-members variables (λ v d. serves.staying n v)))

  -- the present modes, and the switches that move
  present-rows : {components : List Component} (modes : List ℕ) → All (ComponentRows P) components → All (ModeRows P) (present components modes)
  unfolding present mode_of
  present-rows modes none = none
  present-rows [] (more x w) = none
  present-rows (mode ∷ modes) (more x w) =
      more (all-at _ (record { initial = none; invariant = none; flow = none }) x.modes mode) (present-rows modes w)

  movers-rows : {components : List Component} (switches : List ℕ) → All (ComponentRows P) components → All (λ w. All P w.jump) (movers components switches)
  unfolding movers switch_of
  movers-rows switches none = none
  movers-rows [] (more x w) = none
  movers-rows (i ∷ switches) (more x w) =
      let rest = movers-rows switches w in
      all_either (eqb i stays) rest (more (all-at _ none x.switches i) rest)

  per-row : (kind : Kind) (subject : ℕ) {hypotheses : List Hypothesis} (put : Row → Row) → ((r : SheetRow) → Q r → G (put r.row)) → (line : ℕ) {region : Condition} → All Q region → All H hypotheses → All (Served H G) (per_row kind subject hypotheses put line region)
  unfolding per_row
  per-row kind subject put f line none h = none
  per-row kind subject put f line (more {a = r} x w) h = more (h, f r x) (per-row kind subject put f (suc line) w h)

  module _ (m : Model) (regions : List Condition) (model_rows : ModelRows P m) (region_rows : All (λ rows. All Q rows) regions) where
    modes-at : (location : ℕ) → All (ModeRows P) (modes_in m location)
    unfolding modes_in
    modes-at location = present-rows (modes_at m.components location) model_rows.components

    region-at : (location : ℕ) → All Q (region_of regions location)
    unfolding region_of
    region-at location = all-at [] none region_rows location

    regions-held : (location : ℕ) → All H (map (standing 1 on_x) (region_of regions location))
    regions-held location = put-rows 1 on_x serves.region (region-at location)

    invariants-held : (put : Row → Row) → ((r : SheetRow) → P r → H (standing 0 put r)) → (location : ℕ) → All H (mode_rows (λ mode. mode.invariant) put (modes_in m location))
    invariants-held put f location = put-modes _ put f (all_so (λ mode w. w.invariant) (modes-at location))

    start-served : (location : ℕ) → All (Served H G) (start_obligations m (region_of regions) location)
    unfolding start_obligations start_hypotheses
    start-served location =
        all_either (every (λ mode. eqb mode.start 1) (modes_in m location))
        (per-row at_start location on_x serves.goal_before 0 (region-at location)
        (all_append (put-modes _ on_x serves.before (all_so (λ mode w. w.initial) (modes-at location))) (invariants-held on_x serves.before location)))
        none

    flow-served : (location : ℕ) → All (Served H G) (flow_obligations m (region_of regions) location)
    unfolding flow_obligations flow_hypotheses
    flow-served location =
        let n = m.variables in
        per-row after_flow location (on_next n) (serves.goal_after n) 0 (region-at location)
        (all_append (regions-held location)
        (all_append (invariants-held on_x serves.before location)
        (all_append (invariants-held (on_next n) (serves.after n) location)
        (all_append (put-modes _ on_rates serves.rates (all_so (λ mode w. w.flow) (modes-at location))) (more (serves.time n) (staying-held n (still_variables m location)))))))

    unsafe-served : (location line : ℕ) {conditions : List Unsafe} → All (λ u. All P u.rows) conditions → All (Served H G) (unsafe_obligations m (region_of regions) location line conditions)
    unfolding unsafe_obligations unsafe_hypotheses
    unsafe-served location line none = none
    unsafe-served location line (more {a = u} x w) =
        let rest = unsafe-served location (suc line) w in
        all_either (modes_fit u.modes (modes_at m.components location))
        (more (all_append (regions-held location) (all_append (invariants-held on_x serves.before location) (put-rows 0 on_x serves.before x)), serves.goal_none) rest)
        rest

    location-served : (location : ℕ) → All (Served H G) (location_obligations m (region_of regions) location)
    unfolding location_obligations
    location-served location = all_append (start-served location) (all_append (flow-served location) (unsafe-served location 0 model_rows.unsafe))

    jump-served : (number : ℕ) (j : JointSwitch) → All (Served H G) (jump_obligations m (region_of regions) number j)
    unfolding jump_obligations jump_hypotheses
    jump-served number j =
        let n = m.variables in
        per-row after_jump number (on_next n) (serves.goal_after n) 0 (region-at j.target)
        (all_append (regions-held j.source)
        (all_append (invariants-held on_x serves.before j.source)
        (all_append (invariants-held (on_next n) (serves.after n) j.target)
        (all_append
        (join-all _ (all_so (λ w k. put-rows 0 on_x serves.before k) (movers-rows j.switches model_rows.components)))
        (staying-held n (staying_variables m j.switches))))))

    jumps-served : (number : ℕ) (switches : List JointSwitch) → All (Served H G) (jumps_obligations m (region_of regions) number switches)
    unfolding jumps_obligations
    jumps-served number [] = none
    jumps-served number (j ∷ rest) = all_append (jump-served number j) (jumps-served (suc number) rest)

    pub every-obligation : All (Served H G) (obligations m regions)
    unfolding obligations obligations_over
    every-obligation =
        all_append (join-all _ (all-members _ (λ location d. location-served location))) (jumps-served 0 (joints m.components))
