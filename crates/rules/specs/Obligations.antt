-- The obligations of a certificate (01, Certificate; rows of blanks, 02, order 6), in order, each with its hypotheses in order and its
-- goal. Assumes nothing.
use Rattle.std.specs.Prelude.{Bool, true, false, List, [], ◌∷◌, ◌++◌, map, ℕ, suc, ◌+◌, eqb, ℤ, pos, negsuc, neg_ℤ, get_or, set, replicate}
use Rattle.farkas.specs.Lists.{every}
use Rattle.farkas.specs.Rows.{Row, zero_row}
use Rattle.formats.specs.Rows.{SheetRow, Condition}
use Rattle.formats.specs.Model.{Mode, Switch, Unsafe, Model}
use Rattle.formats.specs.Locations.{location_count, modes_at}
use Rattle.formats.specs.Joint.{JointSwitch, joints, count_up, join_all}
use Rattle.rules.specs.Runs.{modes_in, still_variables, movers, staying_variables, modes_fit}

-- a hypothesis: its row over the obligation's unknowns, and where its bytes stand: sheet 0 is the model, 1 the certificate, and
-- 2 no sheet, then with place 0 and size 0
pub record Hypothesis : Type 0 where
  pub row : Row
  pub sheet : ℕ
  pub place : ℕ
  pub size : ℕ

unfoldable pub nowhere : Row → Hypothesis
nowhere r = record { row = r; sheet = 2; place = 0; size = 0 }

-- a sheet's row as a hypothesis, with its coefficients put on the unknowns
unfoldable pub standing : ℕ → (Row → Row) → SheetRow → Hypothesis
standing sheet put r =
    record { row = put r.row; sheet = sheet; place = r.place; size = r.size }

-- The unknowns are x, then x', then d: n of x, n of x'. "on x"
unfoldable pub on_x : Row → Row
on_x r = r

-- "on x'"
unfoldable pub on_next : ℕ → Row → Row
on_next n r = record { coefficients = replicate n (pos 0) ++ r.coefficients; bound = r.bound; strict = r.strict }

-- "each flow row as −a on x, a on x', −b on d, bound 0"; flow rows are not strict
unfoldable pub on_rates : Row → Row
on_rates r =
    record {
      coefficients = map neg_ℤ r.coefficients ++ (r.coefficients ++ (neg_ℤ r.bound ∷ []));
      bound = pos 0;
      strict = false;
    }

-- "−d ≤ 0"
unfoldable pub time_row : ℕ → Row
time_row n = record { coefficients = replicate (n + n) (pos 0) ++ (negsuc 0 ∷ []); bound = pos 0; strict = false }

-- n coefficients, 0 but for one
unfoldable pub unit : ℕ → ℕ → ℤ → List ℤ
unit n v a = set (replicate n (pos 0)) v a

-- "x'−x ≤ 0, then x−x' ≤ 0"
unfoldable pub staying_rows : ℕ → ℕ → List Row
staying_rows n v =
    record { coefficients = unit n v (negsuc 0) ++ unit n v (pos 1); bound = pos 0; strict = false }
    ∷ record { coefficients = unit n v (pos 1) ++ unit n v (negsuc 0); bound = pos 0; strict = false }
    ∷ []

-- a condition's rows of every present mode: "each group by component, then row"
unfoldable pub mode_rows : (Mode → Condition) → (Row → Row) → List Mode → List Hypothesis
mode_rows of put modes = join_all (λ mode. map (standing 0 put) (of mode)) modes

-- "start: initial rows, invariants"
unfoldable pub start_hypotheses : List Mode → List Hypothesis
start_hypotheses modes = mode_rows (λ mode. mode.initial) on_x modes ++ mode_rows (λ mode. mode.invariant) on_x modes

-- "flow, unknowns x, x', d: region and invariants on x; invariants on x'; each flow row ..; −d ≤ 0"; "Flow obligations gain the two staying
-- rows per such variable, ascending, after −d ≤ 0" (02, order 6), with 0 on d
unfoldable pub flow_hypotheses : ℕ → Condition → List Mode → List ℕ → List Hypothesis
flow_hypotheses n region modes still =
    map (standing 1 on_x) region
    ++ (mode_rows (λ mode. mode.invariant) on_x modes
    ++ (mode_rows (λ mode. mode.invariant) (on_next n) modes
    ++ (mode_rows (λ mode. mode.flow) on_rates modes
    ++ (nowhere (time_row n) ∷ map nowhere (join_all (staying_rows n) still)))))

-- "unsafe: region, invariants, unsafe rows"
unfoldable pub unsafe_hypotheses : Condition → List Mode → Condition → List Hypothesis
unsafe_hypotheses region modes rows =
    map (standing 1 on_x) region
    ++ (mode_rows (λ mode. mode.invariant) on_x modes
    ++ map (standing 0 on_x) rows)

-- "jump: source region and invariants on x; target invariants on x'; jump rows; for each staying variable, ascending, x'−x ≤ 0, then
-- x−x' ≤ 0"
unfoldable pub jump_hypotheses : ℕ → Condition → List Mode → List Mode → List Switch → List ℕ → List Hypothesis
jump_hypotheses n region modes targets moving staying =
    map (standing 1 on_x) region
    ++ (mode_rows (λ mode. mode.invariant) on_x modes
    ++ (mode_rows (λ mode. mode.invariant) (on_next n) targets
    ++ (join_all (λ w. map (standing 0 on_x) w.jump) moving
    ++ map nowhere (join_all (staying_rows n) staying))))

-- the four kinds of obligations
pub data Kind : Type 0 where
  at_start after_flow clear_of_unsafe after_jump : Kind

-- an obligation: its kind; its location, or the number of its joint switch; the number of its region row, or of its unsafe condition
pub record Obligation : Type 0 where
  pub kind : Kind
  pub subject : ℕ
  pub line : ℕ
  pub hypotheses : List Hypothesis
  pub goal : Row

-- "An unsafe goal has k = 0 only"
unfoldable pub zero_only : Kind → Bool
zero_only at_start = false
zero_only after_flow = false
zero_only clear_of_unsafe = true
zero_only after_jump = false

-- one obligation per row of a region, numbered; "the goal is on x at the start, on x' after a flow or jump"
unfoldable pub per_row : Kind → ℕ → List Hypothesis → (Row → Row) → ℕ → Condition → List Obligation
per_row kind subject hypotheses put line [] = []
per_row kind subject hypotheses put line (r ∷ region) =
    record { kind = kind; subject = subject; line = line; hypotheses = hypotheses; goal = put r.row }
    ∷ per_row kind subject hypotheses put (suc line) region

-- "each region row from the start (only where all modes are start modes)"
unfoldable pub start_obligations : Model → (ℕ → Condition) → ℕ → List Obligation
start_obligations m region_at location =
    elim (every (λ mode. eqb mode.start 1) (modes_in m location)) [
      | true ↦ per_row at_start location (start_hypotheses (modes_in m location)) on_x 0 (region_at location)
      | false ↦ []
    ]

-- "each region row after a flow"
unfoldable pub flow_obligations : Model → (ℕ → Condition) → ℕ → List Obligation
flow_obligations m region_at location =
    per_row after_flow location
    (flow_hypotheses m.variables (region_at location) (modes_in m location) (still_variables m location))
    (on_next m.variables)
    0
    (region_at location)

-- "each unsafe condition whose modes fit"; the goal "has all coefficients 0"
unfoldable pub unsafe_obligations : Model → (ℕ → Condition) → ℕ → ℕ → List Unsafe → List Obligation
unsafe_obligations m region_at location line [] = []
unsafe_obligations m region_at location line (u ∷ rest) =
    elim (modes_fit u.modes (modes_at m.components location)) [
      | true ↦
          record {
            kind = clear_of_unsafe;
            subject = location;
            line = line;
            hypotheses = unsafe_hypotheses (region_at location) (modes_in m location) u.rows;
            goal = zero_row;
          }
          ∷ unsafe_obligations m region_at location (suc line) rest
      | false ↦ unsafe_obligations m region_at location (suc line) rest
    ]

unfoldable pub location_obligations : Model → (ℕ → Condition) → ℕ → List Obligation
location_obligations m region_at location =
    start_obligations m region_at location
    ++ (flow_obligations m region_at location
    ++ unsafe_obligations m region_at location 0 m.unsafe)

-- "Then, per joint switch, each region row of its target"
unfoldable pub jump_obligations : Model → (ℕ → Condition) → ℕ → JointSwitch → List Obligation
jump_obligations m region_at number j =
    per_row after_jump number
    (jump_hypotheses
    m.variables
    (region_at j.source)
    (modes_in m j.source)
    (modes_in m j.target)
    (movers m.components j.switches)
    (staying_variables m j.switches))
    (on_next m.variables)
    0
    (region_at j.target)

unfoldable pub jumps_obligations : Model → (ℕ → Condition) → ℕ → List JointSwitch → List Obligation
jumps_obligations m region_at number [] = []
jumps_obligations m region_at number (j ∷ rest) =
    jump_obligations m region_at number j ++ jumps_obligations m region_at (suc number) rest

-- "one proof per obligation, in order. Per location: .. Then, per joint switch, .."
unfoldable pub obligations_over : Model → (ℕ → Condition) → List ℕ → List JointSwitch → List Obligation
obligations_over m region_at locations switches =
    join_all (location_obligations m region_at) locations ++ jumps_obligations m region_at 0 switches

unfoldable pub region_of : List Condition → ℕ → Condition
region_of regions location = get_or regions location []

unfoldable pub obligations : Model → List Condition → List Obligation
obligations m regions =
    obligations_over m (region_of regions) (count_up 0 (location_count m.components)) (joints m.components)
