-- Groups of proofs: where their tables' rows stand, and what they have to prove. Assumes nothing.
use mathlib.Core.Path.{◌≡◌, refl, sym, ap, ap₂, ◌∙◌, subst}
use mathlib.Core.Bool.{Bool, true, false, cond}
use mathlib.Core.List.{List, [], ◌∷◌, map}
use Prim.Native.Nat.{ℕ, suc, ◌+◌, ◌*◌, ◌≤◌, ◌<◌}
use native.Mathlib.Omega.{arith}
use lib.Dec.{eqb}
use lib.ListN.{length}
use Rattle.farkas.specs.Lists.{every, All, none}
use Rattle.farkas.specs.Rows.{Row, zero_row}
use Rattle.formats.specs.Rows.{Condition}
use Rattle.fields.specs.Places.{rows_from}
use Rattle.formats.specs.Model.{Mode, Unsafe, Model}
use Rattle.formats.specs.Locations.{location_count, modes_at}
use Rattle.models.specs.Index.{entry, span_rows, unsafe_place, unsafe_from, components_from, model_from, GoodIndex}
use Rattle.models.specs.Counts.{per_component, KnownSwitches}
use Rattle.models.proofs.GoodIndexLaws.{counted-at}
use Rattle.hypotheses.specs.declared.Group.{Group}
use Rattle.rules.specs.Runs.{present, modes_in, modes_fit, movers, still_variables, staying_variables}
use Rattle.rules.specs.Obligations.{Hypothesis, Kind, at_start, after_flow, clear_of_unsafe, after_jump, zero_only, on_x, on_next, per_row, start_hypotheses, flow_hypotheses, unsafe_hypotheses, jump_hypotheses, start_obligations, flow_obligations, unsafe_obligations, jump_obligations}
use Rattle.hypotheses.specs.Tables.{TableLine, lines_in, Stacked, hypotheses_from, hypothesis_rows, GoodLine}
use Rattle.hypotheses.specs.Listing.{Task, task_of, tasks, tasks_from, tasks_of, goals_of, group_tasks, jump_tasks, no_unsafe, empty_group, region_group, unsafe_group, GoodGroup, start_lines, flow_lines, unsafe_lines, jump_lines}
use Rattle.papers.specs.Standing.{Stands}
use Rattle.papers.specs.Paper.{regions_of}
use Rattle.papers.specs.Papers.{GoodPaper}
use Rattle.papers.proofs.RegionLaws.{region-at}
use Rattle.hypotheses.proofs.HypothesisLines.{told, start-told, flow-told, unsafe-told, jump-lines-told}

-- one task per row of a region
no-region : (model index second regions : List ℕ) (location : ℕ) → location < location_count (components_from model index) → entry regions (2 * location + 1) ≡ 0 → regions_of model index second regions location ≡ []
unfolding span_rows rows_from
no-region model index second regions location h e = region-at model index second regions location h ∙ ap (rows_from second (entry index 11) (entry index 0) (entry regions (2 * location))) e

either : (b : Bool) (hs : List Hypothesis) (location : ℕ) → tasks (elim b [ true ↦ per_row at_start location hs on_x 0 [] | false ↦ [] ]) ≡ []
unfolding tasks per_row
either true hs location = refl
either false hs location = refl

pub row-tasks :
    (kind : Kind) (subject : ℕ) (hypotheses : List Hypothesis) (put : Row → Row) (from : ℕ) (region : Condition)
    → tasks (per_row kind subject hypotheses put from region) ≡ tasks_from (hypothesis_rows hypotheses) (zero_only kind) (map (λ r. put r.row) region)
unfolding tasks task_of tasks_from per_row
row-tasks kind subject hypotheses put from [] = refl
row-tasks kind subject hypotheses put from (r ∷ region) =
    ap (λ (ts : List Task). record { rows = hypothesis_rows hypotheses; zero_k = zero_only kind; goal = put r.row } ∷ ts) (row-tasks kind subject hypotheses put (suc from) region)

module _ (model index second regions : List ℕ) where
  abbrev m : Model
  m = model_from model index

  abbrev region_at : ℕ → Condition
  region_at = regions_of model index second regions

  -- the goals of a region's group
  region-goals : (table : List ℕ) (location segments shift width : ℕ) → location < location_count (components_from model index) → goals_of second (entry index 0) (region_group (entry index 11) regions location table segments shift width) ≡ map (λ r. on_next shift r.row) (region_at location)
  unfolding goals_of region_group span_rows
  region-goals table location segments shift width h = ap (map (λ r. on_next shift r.row)) (sym (region-at model index second regions location h))

  -- the tasks of a table's lines
  pub line-tasks : (table : List ℕ) (g : Group) (lines : List TableLine) → lines_in table g.segments ≡ lines → tasks_of model second (entry index 0) table g ≡ tasks_from (hypothesis_rows (told model second g.version (entry index 0) lines)) g.zero (goals_of second (entry index 0) g)
  unfolding tasks_of hypotheses_from
  line-tasks table g lines e = ap (λ (ls : List TableLine). tasks_from (hypothesis_rows (told model second g.version (entry index 0) ls)) g.zero (goals_of second (entry index 0) g)) e

  -- a group that proves a region's rows
  region-tasks :
      (table : List ℕ) (location segments shift width : ℕ) (lines : List TableLine) (hs : List Hypothesis) (kind : Kind) (subject : ℕ)
      → location < location_count (components_from model index) → zero_only kind ≡ false
      → lines_in table segments ≡ lines → told model second (entry index 11) (entry index 0) lines ≡ hs
      → tasks_of model second (entry index 0) table (region_group (entry index 11) regions location table segments shift width) ≡ tasks (per_row kind subject hs (on_next shift) 0 (region_at location))
  unfolding region_group
  region-tasks table location segments shift width lines hs kind subject h z e t =
      line-tasks table (region_group (entry index 11) regions location table segments shift width) lines e
      ∙ ap₂ (λ (ks : List Hypothesis) (goals : List Row). tasks_from (hypothesis_rows ks) false goals) t (region-goals table location segments shift width h)
      ∙ ap (λ (b : Bool). tasks_from (hypothesis_rows hs) b (map (λ r. on_next shift r.row) (region_at location))) (sym z)
      ∙ sym (row-tasks kind subject hs (on_next shift) 0 (region_at location))

  present-there : (location : ℕ) (modes : List ℕ) → Stands model index location modes → present (components_from model index) (per_component index modes) ≡ modes_in m location
  unfolding modes_in model_from
  present-there location modes stands = ap (present (components_from model index)) stands.here

  module _ (modes : List ℕ) (location : ℕ) (long : entry index 1 ≤ length modes) (stands : Stands model index location modes) where
    present-here : present (components_from model index) (per_component index modes) ≡ modes_in m location
    present-here = present-there location modes stands

    pub start-tasks : (table : List ℕ) (segments width : ℕ) → lines_in table segments ≡ start_lines index (per_component index modes) → every (λ mode. eqb mode.start 1) (present (components_from model index) (per_component index modes)) ≡ true → tasks_of model second (entry index 0) table (region_group (entry index 11) regions location table segments 0 width) ≡ group_tasks m region_at location 0
    unfolding group_tasks start_obligations zero_only on_x on_next
    start-tasks table segments width e all =
        region-tasks table location segments 0 width _ (start_hypotheses (modes_in m location)) at_start location stands.below refl e
        (start-told model second index regions modes location long stands.known ∙ ap start_hypotheses present-here)
        ∙ sym
        (ap
        (λ (b : Bool). tasks (elim b [ true ↦ per_row at_start location (start_hypotheses (modes_in m location)) on_x 0 (region_at location) | false ↦ [] ]))
        (ap (every (λ mode. eqb mode.start 1)) (sym present-here) ∙ all))

    pub start_none : (table : List ℕ) → every (λ mode. eqb mode.start 1) (present (components_from model index) (per_component index modes)) ≡ false → tasks_of model second (entry index 0) table empty_group ≡ group_tasks m region_at location 0
    unfolding group_tasks start_obligations empty_group tasks_of goals_of tasks_from tasks rows_from
    start_none table not-all =
        sym
        (ap
        (λ (b : Bool). tasks (elim b [ true ↦ per_row at_start location (start_hypotheses (modes_in m location)) on_x 0 (region_at location) | false ↦ [] ]))
        (ap (every (λ mode. eqb mode.start 1)) (sym present-here) ∙ not-all))

    pub flow-tasks : (table : List ℕ) (segments width : ℕ) → GoodIndex model index → lines_in table segments ≡ flow_lines model index regions location modes → tasks_of model second (entry index 0) table (region_group (entry index 11) regions location table segments (entry index 0) width) ≡ group_tasks m region_at location 1
    unfolding group_tasks flow_obligations zero_only model_from
    flow-tasks table segments width g e =
        region-tasks table location segments (entry index 0) width _ (flow_hypotheses (entry index 0) (region_at location) (modes_in m location) (still_variables m location)) after_flow location stands.below refl e
        (flow-told model second index regions modes location long stands.known g stands ∙ ap₂ (λ (r : Condition) (ms : List Mode). flow_hypotheses (entry index 0) r ms (still_variables m location)) (sym (region-at model index second regions location stands.below)) present-here)

    -- unsafe conditions
    condition-at : (u : ℕ) → u < entry index 2 → group_tasks m region_at location (2 + u) ≡ tasks (unsafe_obligations m region_at location 0 (unsafe_from model (entry index 11) (entry index 0) (entry index 1) index (unsafe_place u) ∷ []))
    unfolding group_tasks model_from
    condition-at u h =
        ap (group_tasks m region_at location) (two-more u)
        ∙ ap (λ (x : Unsafe). tasks (unsafe_obligations m region_at location 0 (x ∷ [])))
        (counted-at (λ u. unsafe_from model (entry index 11) (entry index 0) (entry index 1) index (unsafe_place u)) (entry index 2) u no_unsafe h)
      where
        two-more : (u : ℕ) → 2 + u ≡ suc (suc u)
        two-more u = omega arith

    fits-here : (x : Unsafe) → modes_fit x.modes (per_component index modes) ≡ modes_fit x.modes (modes_at m.components location)
    unfolding model_from
    fits-here x = ap (modes_fit x.modes) stands.here

    one-unsafe : (x : Unsafe) (b : Bool) → modes_fit x.modes (per_component index modes) ≡ b → tasks (unsafe_obligations m region_at location 0 (x ∷ [])) ≡ elim b [ true ↦ tasks_from (hypothesis_rows (unsafe_hypotheses (region_at location) (modes_in m location) x.rows)) true (zero_row ∷ []) | false ↦ [] ]
    unfolding unsafe_obligations tasks task_of tasks_from zero_only
    one-unsafe x true e = ap (λ (b : Bool). tasks (elim b [ true ↦ record { kind = clear_of_unsafe; subject = location; line = 0; hypotheses = unsafe_hypotheses (region_at location) (modes_in m location) x.rows; goal = zero_row } ∷ [] | false ↦ [] ])) (sym (fits-here x) ∙ e)
    one-unsafe x false e = ap (λ (b : Bool). tasks (elim b [ true ↦ record { kind = clear_of_unsafe; subject = location; line = 0; hypotheses = unsafe_hypotheses (region_at location) (modes_in m location) x.rows; goal = zero_row } ∷ [] | false ↦ [] ])) (sym (fits-here x) ∙ e)

    pub unsafe-tasks : (table : List ℕ) (segments width u : ℕ) → u < entry index 2 → lines_in table segments ≡ unsafe_lines index regions location (per_component index modes) u → modes_fit (unsafe_from model (entry index 11) (entry index 0) (entry index 1) index (unsafe_place u)).modes (per_component index modes) ≡ true → tasks_of model second (entry index 0) table (unsafe_group (entry index 11) table segments width) ≡ group_tasks m region_at location (2 + u)
    unfolding unsafe_group goals_of unsafe_from
    unsafe-tasks table segments width u h e fit =
        line-tasks table (unsafe_group (entry index 11) table segments width) _ e
        ∙ ap (λ (hs : List Hypothesis). tasks_from (hypothesis_rows hs) true (zero_row ∷ []))
        (unsafe-told model second index regions modes location long stands.known u
        ∙ ap₂ (λ (r : Condition) (ms : List Mode). unsafe_hypotheses r ms (span_rows model (entry index 11) (entry index 0) index (unsafe_place u + 4))) (sym (region-at model index second regions location stands.below)) present-here)
        ∙ sym (one-unsafe (unsafe_from model (entry index 11) (entry index 0) (entry index 1) index (unsafe_place u)) true fit)
        ∙ sym (condition-at u h)

    pub unsafe-none : (table : List ℕ) (u : ℕ) → u < entry index 2 → modes_fit (unsafe_from model (entry index 11) (entry index 0) (entry index 1) index (unsafe_place u)).modes (per_component index modes) ≡ false → tasks_of model second (entry index 0) table empty_group ≡ group_tasks m region_at location (2 + u)
    unfolding empty_group tasks_of goals_of tasks_from rows_from
    unsafe-none table u h fit = sym (one-unsafe (unsafe_from model (entry index 11) (entry index 0) (entry index 1) index (unsafe_place u)) false fit) ∙ sym (condition-at u h)

    -- joint switches
    pub jump-tasks :
        (table : List ℕ) (segments width target : ℕ) (targets switches : List ℕ) → entry index 1 ≤ length targets → Stands model index target targets → entry index 1 ≤ length switches → KnownSwitches index switches → GoodIndex model index
        → lines_in table segments ≡ jump_lines model index regions location (per_component index modes) (per_component index targets) switches
        → tasks_of model second (entry index 0) table (region_group (entry index 11) regions target table segments (entry index 0) width) ≡ jump_tasks m region_at location (per_component index switches) target
    unfolding jump_tasks jump_obligations zero_only model_from
    jump-tasks table segments width target targets switches l there w known g e =
        region-tasks table target segments (entry index 0) width _ (jump_hypotheses (entry index 0) (region_at location) (modes_in m location) (modes_in m target) (movers m.components (per_component index switches)) (staying_variables m (per_component index switches))) after_jump 0 there.below refl e
        (jump-lines-told model second index regions modes location long stands.known targets switches l there.known w known g
        ∙ ap₂ (λ (r : Condition) (ms : List Mode). jump_hypotheses (entry index 0) r ms (present (components_from model index) (per_component index targets)) (movers (components_from model index) (per_component index switches)) (staying_variables m (per_component index switches))) (sym (region-at model index second regions location stands.below)) present-here
        ∙ ap (λ (ms : List Mode). jump_hypotheses (entry index 0) (region_at location) (modes_in m location) ms (movers (components_from model index) (per_component index switches)) (staying_variables m (per_component index switches))) (present-there target targets there))

-- groups whose rows lie within their sheets
true-false : true ≡ false → ⊥
true-false e = let z : ◌≡◌ {A = ℕ} 0 1 = ap (λ (b : Bool). cond b 0 1) e in omega (arith, z)

-- a group by another name has the same tasks, and is as good
pub same-group : (model second : List ℕ) (n : ℕ) (table : List ℕ) {g h : Group} {ts : List Task} → g ≡ h → tasks_of model second n table h ≡ ts → GoodGroup model second n table h → (tasks_of model second n table g ≡ ts) × GoodGroup model second n table g
same-group model second n table e t w = (ap (tasks_of model second n table) e ∙ t, subst (GoodGroup model second n table) (sym e) w)

pub empty-good : (model second : List ℕ) (n : ℕ) (table : List ℕ) → n ≤ 8 → Stacked table 0 → GoodGroup model second n table empty_group
unfolding empty_group lines_in
empty-good model second n table few s =
    record {
      stacked = s;
      segments = omega arith;
      hypotheses = sym s.first;
      lines = none;
      goals = λ z j h. absurd (omega (arith, h));
      none = λ z. (refl, omega arith);
      shift = omega arith;
      width = omega arith;
      counted = omega arith;
    }

pub region-good :
    (model index second regions table : List ℕ) (location segments shift width : ℕ) (lines : List TableLine) → GoodPaper model index second regions → location < location_count (components_from model index)
    → Stacked table segments → segments ≤ 23 → lines_in table segments ≡ lines → All (GoodLine model second (entry index 11) (entry index 0) width) lines → shift + entry index 0 ≤ width → width ≤ 17
    → GoodGroup model second (entry index 0) table (region_group (entry index 11) regions location table segments shift width)
unfolding region_group
region-good model index second regions table location segments shift width lines paper h s few e fine wide most =
    record {
      stacked = s;
      segments = few;
      hypotheses = refl;
      lines = subst (All (GoodLine model second (entry index 11) (entry index 0) width)) (sym e) fine;
      goals = λ z j l. paper.placed.within location h j l;
      none = λ z. absurd (true-false (sym z));
      shift = wide;
      width = most;
      counted = paper.placed.few location h;
    }

pub unsafe-good :
    (model index second table : List ℕ) (segments width : ℕ) (lines : List TableLine)
    → Stacked table segments → segments ≤ 23 → lines_in table segments ≡ lines → All (GoodLine model second (entry index 11) (entry index 0) width) lines → entry index 0 ≤ width → width ≤ 17
    → GoodGroup model second (entry index 0) table (unsafe_group (entry index 11) table segments width)
unfolding unsafe_group
unsafe-good model index second table segments width lines s few e fine wide most =
    record {
      stacked = s;
      segments = few;
      hypotheses = refl;
      lines = subst (All (GoodLine model second (entry index 11) (entry index 0) width)) (sym e) fine;
      goals = λ z j l. absurd (true-false z);
      none = λ z. (refl, omega arith);
      shift = omega arith;
      width = most;
      counted = omega arith;
    }

-- where a region has no rows there is nothing to prove
pub no-rows-start : (model index second regions table : List ℕ) (location : ℕ) → location < location_count (components_from model index) → entry regions (2 * location + 1) ≡ 0 → tasks_of model second (entry index 0) table empty_group ≡ group_tasks (model_from model index) (regions_of model index second regions) location 0
unfolding group_tasks start_obligations empty_group tasks_of goals_of tasks_from tasks rows_from
no-rows-start model index second regions table location h e =
    sym (ap (λ (r : Condition). tasks (elim (every (λ mode. eqb mode.start 1) (modes_in (model_from model index) location)) [ true ↦ per_row at_start location (start_hypotheses (modes_in (model_from model index) location)) on_x 0 r | false ↦ [] ])) (no-region model index second regions location h e)
    ∙ either (every (λ mode. eqb mode.start 1) (modes_in (model_from model index) location)) (start_hypotheses (modes_in (model_from model index) location)) location)

pub no-rows-flow : (model index second regions table : List ℕ) (location : ℕ) → location < location_count (components_from model index) → entry regions (2 * location + 1) ≡ 0 → tasks_of model second (entry index 0) table empty_group ≡ group_tasks (model_from model index) (regions_of model index second regions) location 1
unfolding group_tasks flow_obligations empty_group tasks_of goals_of tasks_from tasks rows_from per_row
no-rows-flow model index second regions table location h e =
    sym (ap (λ (r : Condition). tasks (per_row after_flow location (flow_hypotheses (model_from model index).variables (regions_of model index second regions location) (modes_in (model_from model index) location) (still_variables (model_from model index) location)) (on_next (model_from model index).variables) 0 r)) (no-region model index second regions location h e))

-- nor where the target's region has none
pub no-rows-jump : (model index second regions : List ℕ) (location target : ℕ) (switches : List ℕ) → target < location_count (components_from model index) → entry regions (2 * target + 1) ≡ 0 → jump_tasks (model_from model index) (regions_of model index second regions) location switches target ≡ []
unfolding jump_tasks jump_obligations tasks per_row
no-rows-jump model index second regions location target switches h e =
    let m = model_from model index in
    let region_at = regions_of model index second regions in
    ap (λ (r : Condition). tasks (per_row after_jump 0 (jump_hypotheses m.variables (region_at location) (modes_in m location) (modes_in m target) (movers m.components switches) (staying_variables m switches)) (on_next m.variables) 0 r)) (no-region model index second regions target h e)
