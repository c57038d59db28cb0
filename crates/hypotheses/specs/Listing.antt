-- The lines of a table of hypotheses, group by group, from the numbers that an index keeps; what is to be proved from them, goal by
-- goal; and where marking stands. Assumes nothing.
use Rattle.std.specs.Prelude.{◌≡◌, Bool, true, false, cond, List, [], ◌∷◌, ◌++◌, map, ℕ, zero, suc, ◌+◌, ◌*◌, ◌≤◌, ◌<◌, eqb, length, get_or, take, replicate}
use Rattle.farkas.specs.Rows.{Row, zero_row}
use Rattle.farkas.specs.Farkas.{Proof}
use Rattle.farkas.specs.Lists.{All}
use Rattle.formats.specs.Reading.{Reader, got, refused}
use Rattle.fields.specs.Places.{rows_from}
use Rattle.formats.specs.Rows.{Condition}
use Rattle.formats.specs.Model.{Model}
use Rattle.formats.specs.Locations.{location_count, modes_at}
use Rattle.formats.specs.Joint.{stays, count_up, join_all, JointSwitch}
use Rattle.models.specs.Index.{entry, component_place, mode_place, switch_place, unsafe_place, components_from, model_from}
use Rattle.hypotheses.specs.declared.Group.{Group}
use Rattle.rules.specs.Obligations.{Obligation, zero_only, on_next, start_obligations, flow_obligations, unsafe_obligations, location_obligations, jump_obligations, jumps_obligations}
unfoldable pub use Rattle.rules.specs.Roles.{no_unsafe}
use Rattle.rules.specs.Marking.{Marked, passed, stopped}
use Rattle.hypotheses.specs.Tables.{TableLine, segment, end_of, lines_in, Stacked, hypotheses_from, hypothesis_rows, GoodLine, mark_with}
use Rattle.papers.specs.Paper.{regions_of}
use Rattle.papers.specs.Blanks.{still_at, rests_at}
use Rattle.models.specs.Counts.{per_component}
use Rattle.formats.specs.Versions.{row_bytes}

-- the rows that two numbers of an index tell, of one owner: the place of the first, and how many
unfoldable pub kept_lines : ℕ → ℕ → List ℕ → ℕ → List TableLine
kept_lines form owner index i = segment form (entry index i) owner (entry index (i + 1))

-- of each mode from component k on, the condition kept so many numbers into the mode's place
unfoldable pub mode_lines : ℕ → ℕ → List ℕ → ℕ → List ℕ → List TableLine
mode_lines form offset index k [] = []
mode_lines form offset index k (mode ∷ modes) =
    kept_lines form k index (mode_place (component_place k) mode + offset) ++ mode_lines form offset index (suc k) modes

-- of each component from k on that moves, the rows of its switch
unfoldable pub switch_line : List ℕ → ℕ → ℕ → List TableLine
switch_line index k i = elim (eqb i stays) [ true ↦ [] | false ↦ kept_lines 7 k index (switch_place (component_place k) i + 3) ]

unfoldable pub switch_lines : List ℕ → ℕ → List ℕ → List TableLine
switch_lines index k [] = []
switch_lines index k (i ∷ switches) = switch_line index k i ++ switch_lines index (suc k) switches

-- the two rows of a variable that keeps its value
unfoldable pub variable_line : Bool → ℕ → List TableLine
variable_line kept v = cond kept (segment 8 v v 2) []

-- of each variable that passes a test
abbrev pub variable_at : (ℕ → Bool) → ℕ → List TableLine
variable_at test v = variable_line (test v) v

unfoldable pub variable_lines : (ℕ → Bool) → ℕ → List TableLine
variable_lines test n = join_all (variable_at test) (count_up 0 n)

-- a closure whose calls at the numbers below n give what a test gives
abbrev pub TestedBy : {F : Type 0} → (F → ℕ → Bool → Type 0) → F → ℕ → (ℕ → Bool) → Type 0
TestedBy post f n test = (v : ℕ) (b : Bool) → v < n → post f v b → b ≡ test v

-- of those that keep their value in a jump by these switches, and in a flow in these modes
abbrev pub staying_lines : List ℕ → List ℕ → List ℕ → List TableLine
staying_lines model index switches = variable_lines (rests_at model index switches) (entry index 0)

abbrev pub still_lines : List ℕ → List ℕ → List ℕ → List TableLine
still_lines model index modes = variable_lines (still_at model index modes) (entry index 0)

-- the conditions of modes, at an offset, and of switches have few rows
pub record FewRows (index modes : List ℕ) (offset : ℕ) : Type 0 where
  pub components : entry index 1 ≤ 4
  pub small : (k : ℕ) → k < entry index 1 → get_or modes k 0 < 8
  pub few : (k : ℕ) → k < entry index 1 → entry index (mode_place (component_place k) (get_or modes k 0) + offset + 1) ≤ 8
  pub within : offset ≤ 5

pub record FewJump (index : List ℕ) (k i : ℕ) : Type 0 where
  pub small : eqb i stays ≡ false → i < 32
  pub few : eqb i stays ≡ false → entry index (switch_place (component_place k) i + 3 + 1) ≤ 8

pub record FewJumps (index switches : List ℕ) : Type 0 where
  pub each : (k : ℕ) → k < entry index 1 → FewJump index k (get_or switches k 0)

-- The tables, in the order of 01. "region and invariants on x", which all but the start's begin with
unfoldable pub here_lines : List ℕ → List ℕ → ℕ → List ℕ → List TableLine
here_lines index regions location modes = kept_lines 1 0 regions (2 * location) ++ mode_lines 2 3 index 0 modes

-- the first segments of a table are those of a location that is the source of joint switches
pub record HereIn (model index regions : List ℕ) (location here : ℕ) (table : List ℕ) : Type 0 where
  pub below : location < location_count (components_from model index)
  pub few : here ≤ 5
  pub stacked : Stacked table here
  pub told : lines_in table here ≡ here_lines index regions location (modes_at (components_from model index) location)

-- "start: initial rows, invariants"
unfoldable pub start_lines : List ℕ → List ℕ → List TableLine
start_lines index modes = mode_lines 0 1 index 0 modes ++ mode_lines 2 3 index 0 modes

-- "flow .. region and invariants on x; invariants on x'; each flow row ..; −d ≤ 0"; then "the two staying rows per such variable" (02,
-- order 6)
unfoldable pub flow_lines : List ℕ → List ℕ → List ℕ → ℕ → List ℕ → List TableLine
flow_lines model index regions location modes =
    here_lines index regions location (per_component index modes)
    ++ (mode_lines 4 3 index 0 (per_component index modes)
    ++ (mode_lines 5 5 index 0 (per_component index modes)
    ++ (segment 6 0 0 1 ++ still_lines model index modes)))

-- "unsafe: region, invariants, unsafe rows"
unfoldable pub unsafe_lines : List ℕ → List ℕ → ℕ → List ℕ → ℕ → List TableLine
unsafe_lines index regions location modes u = here_lines index regions location modes ++ kept_lines 3 0 index (unsafe_place u + 4)

-- "target invariants on x'; jump rows; for each staying variable .."
unfoldable pub landing_lines : List ℕ → List ℕ → List ℕ → List ℕ → List TableLine
landing_lines model index targets switches =
    mode_lines 4 3 index 0 targets ++ (switch_lines index 0 (take (entry index 1) switches) ++ staying_lines model index switches)

-- "jump: source region and invariants on x", then those
unfoldable pub jump_lines : List ℕ → List ℕ → List ℕ → ℕ → List ℕ → List ℕ → List ℕ → List TableLine
jump_lines model index regions location modes targets switches = here_lines index regions location modes ++ landing_lines model index targets switches

-- What has to be proved: a goal, from these rows
pub record Task : Type 0 where
  pub rows : List Row
  pub zero_k : Bool
  pub goal : Row

unfoldable pub task_of : Obligation → Task
task_of o = record { rows = hypothesis_rows o.hypotheses; zero_k = zero_only o.kind; goal = o.goal }

unfoldable pub tasks : List Obligation → List Task
tasks obligations = map task_of obligations

-- what a location has to prove, in groups that share their hypotheses: 0, its start; 1, its flow; from 2 on, each unsafe condition
unfoldable pub group_tasks : Model → (ℕ → Condition) → ℕ → ℕ → List Task
group_tasks m region_at location zero = tasks (start_obligations m region_at location)
group_tasks m region_at location (suc zero) = tasks (flow_obligations m region_at location)
group_tasks m region_at location (suc (suc u)) = tasks (unsafe_obligations m region_at location 0 (get_or m.unsafe u no_unsafe ∷ []))

-- what a joint switch has to prove; its number does not matter here
unfoldable pub jump_tasks : Model → (ℕ → Condition) → ℕ → List ℕ → ℕ → List Task
jump_tasks m region_at source switches target =
    tasks (jump_obligations m region_at 0 (record { source = source; event = 0; switches = switches; target = target }))

-- the goals of a group: rows of the certificate on x or x', or for an unsafe condition the row with all coefficients 0
unfoldable pub goals_of : List ℕ → ℕ → Group → List Row
goals_of second n g =
    elim g.zero [
      | true ↦ replicate g.goals zero_row
      | false ↦ map (λ r. on_next g.shift r.row) (rows_from second g.version n g.from g.goals)
    ]

unfoldable pub empty_group : Group
empty_group = record { version = 0; segments = 0; hypotheses = 0; goals = 0; from = 0; shift = 0; width = 17; zero = false }

-- the rows of a location's region, from the first segments of a table
unfoldable pub region_group : ℕ → List ℕ → ℕ → List ℕ → ℕ → ℕ → ℕ → Group
region_group version regions location table segments shift width =
    record {
      version = version;
      segments = segments;
      hypotheses = end_of table segments;
      goals = entry regions (2 * location + 1);
      from = entry regions (2 * location);
      shift = shift;
      width = width;
      zero = false;
    }

unfoldable pub unsafe_group : ℕ → List ℕ → ℕ → ℕ → Group
unsafe_group version table segments width =
    record { version = version; segments = segments; hypotheses = end_of table segments; goals = 1; from = 0; shift = 0; width = width; zero = true }

unfoldable pub tasks_from : List Row → Bool → List Row → List Task
tasks_from rows zero_k goals = map (λ goal. record { rows = rows; zero_k = zero_k; goal = goal }) goals

unfoldable pub tasks_of : List ℕ → List ℕ → ℕ → List ℕ → Group → List Task
tasks_of model second n table g =
    tasks_from (hypothesis_rows (hypotheses_from model second g.version n table g.segments)) g.zero (goals_of second n g)

-- a group whose rows lie within their sheets and among its unknowns
pub record GoodGroup (model second : List ℕ) (n : ℕ) (table : List ℕ) (g : Group) : Type 0 where
  pub stacked : Stacked table g.segments
  pub segments : g.segments ≤ 23
  pub hypotheses : g.hypotheses ≡ end_of table g.segments
  pub lines : All (GoodLine model second g.version n g.width) (lines_in table g.segments)
  pub goals : g.zero ≡ false → (j : ℕ) → j < g.goals → g.from + row_bytes g.version n * (j + 1) ≤ length second
  pub none : g.zero ≡ true → (g.from ≡ 0) × (g.goals ≤ 1)
  pub shift : g.shift + n ≤ g.width
  pub width : g.width ≤ 17
  pub counted : g.goals ≤ 16

unfoldable pub no_task : Task
no_task = record { rows = []; zero_k = false; goal = zero_row }

unfoldable pub mark_task : Task → Reader Proof
mark_task t = mark_with t.rows t.zero_k t.goal

-- what all locations have to prove
unfoldable pub location_tasks : Model → (ℕ → Condition) → ℕ → List Task
location_tasks m region_at location = tasks (location_obligations m region_at location)

-- what joint switches have to prove
unfoldable pub joint_tasks : Model → (ℕ → Condition) → List JointSwitch → List Task
joint_tasks m region_at switches = tasks (jumps_obligations m region_at 0 switches)

-- "Marking stops at the first proof or step that fails"
unfoldable pub mark_tasks : List Task → List ℕ → ℕ → ℕ → Marked (Unit {0})
mark_tasks [] s place done = passed tt place done
mark_tasks (t ∷ rest) s place done =
    elim (mark_task t s place) [
      | got p next ↦ mark_tasks rest s next (suc done)
      | refused number at ↦ stopped number at done
    ]

-- the same tasks, of the model and the regions that the code keeps by their places
abbrev pub group_tasks_for : List ℕ → List ℕ → List ℕ → List ℕ → ℕ → ℕ → List Task
group_tasks_for model index second regions = group_tasks (model_from model index) (regions_of model index second regions)

abbrev pub jump_tasks_for : List ℕ → List ℕ → List ℕ → List ℕ → ℕ → List ℕ → ℕ → List Task
jump_tasks_for model index second regions = jump_tasks (model_from model index) (regions_of model index second regions)

abbrev pub location_tasks_for : List ℕ → List ℕ → List ℕ → List ℕ → ℕ → List Task
location_tasks_for model index second regions = location_tasks (model_from model index) (regions_of model index second regions)

abbrev pub joint_tasks_for : List ℕ → List ℕ → List ℕ → List ℕ → List JointSwitch → List Task
joint_tasks_for model index second regions = joint_tasks (model_from model index) (regions_of model index second regions)
