-- The role of every hypothesis (01, Certificate; rows of blanks, 02, order 6), and the component or variable that it belongs to: lists
-- beside those of the hypotheses, in the same order and from the same model. Assumes nothing.
use Rattle.std.specs.Prelude.{true, false, ◌&&◌, List, [], ◌∷◌, ◌++◌, map, ℕ, suc, eqb, ltb, length, get_or}
use Rattle.formats.specs.Reading.{Got, got, refused, ◌>>◌}
use Rattle.formats.specs.Rows.{Condition}
use Rattle.formats.specs.Model.{Mode, Component, Unsafe, Model}
use Rattle.formats.specs.Joint.{stays, switch_of, JointSwitch, joints, join_all}
use Rattle.formats.specs.declared.Limits.{Limits}
use Rattle.rules.specs.Opening.{opens, shut, open_model, open_second}
use Rattle.formats.specs.Certificate.{read_regions}
use Rattle.rules.specs.Runs.{modes_in, still_variables, staying_variables}
use Rattle.rules.specs.Obligations.{Kind, at_start, after_flow, clear_of_unsafe, after_jump, Obligation, obligations, region_of}
use Rattle.rules.specs.Beside.{Found, found, unfound, no_obligation, find_hypothesis}

-- The roles: 0, an initial row; 1, a region row; 2, an invariant on x; 3, an unsafe row; 4, an invariant on x'; 5, a flow row; 6, −d ≤ 0;
-- 7, a jump row; 8, a row of a variable that keeps its value. The owner is the component for 0, 2, 4, 5 and 7, the variable for 8, and else 0
pub record Role : Type 0 where
  pub role : ℕ
  pub owner : ℕ

unfoldable pub owned : ℕ → ℕ → Role
owned role owner = record { role = role; owner = owner }

unfoldable pub no_role : Role
no_role = owned 0 0

-- the rows of a condition, all of one role and owner
unfoldable pub row_roles : ℕ → ℕ → Condition → List Role
row_roles role owner rows = map (λ r. owned role owner) rows

-- a condition's rows of every present mode, from component k on: "each group by component, then row"
unfoldable pub mode_roles : ℕ → (Mode → Condition) → ℕ → List Mode → List Role
mode_roles role of k [] = []
mode_roles role of k (mode ∷ modes) = row_roles role k (of mode) ++ mode_roles role of (suc k) modes

-- the jump rows of every component from k on that moves
unfoldable pub mover_roles : ℕ → List Component → List ℕ → List Role
mover_roles k [] switches = []
mover_roles k (c ∷ components) [] = []
mover_roles k (c ∷ components) (i ∷ switches) =
    elim (eqb i stays) [
      | true ↦ mover_roles (suc k) components switches
      | false ↦ row_roles 7 k (switch_of c i).jump ++ mover_roles (suc k) components switches
    ]

-- "for each staying variable, ascending, x'−x ≤ 0, then x−x' ≤ 0"
unfoldable pub staying_role : ℕ → List Role
staying_role v = owned 8 v ∷ owned 8 v ∷ []

-- "start: initial rows, invariants"
unfoldable pub start_roles : List Mode → List Role
start_roles modes = mode_roles 0 (λ mode. mode.initial) 0 modes ++ mode_roles 2 (λ mode. mode.invariant) 0 modes

-- "flow, unknowns x, x', d: region and invariants on x; invariants on x'; each flow row ..; −d ≤ 0", and "the two staying rows per such
-- variable" (02, order 6)
unfoldable pub flow_roles : Condition → List Mode → List ℕ → List Role
flow_roles region modes still =
    row_roles 1 0 region
    ++ (mode_roles 2 (λ mode. mode.invariant) 0 modes
    ++ (mode_roles 4 (λ mode. mode.invariant) 0 modes
    ++ (mode_roles 5 (λ mode. mode.flow) 0 modes
    ++ (owned 6 0 ∷ join_all staying_role still))))

-- "unsafe: region, invariants, unsafe rows"
unfoldable pub unsafe_roles : Condition → List Mode → Condition → List Role
unsafe_roles region modes rows =
    row_roles 1 0 region
    ++ (mode_roles 2 (λ mode. mode.invariant) 0 modes
    ++ row_roles 3 0 rows)

-- "jump: source region and invariants on x; target invariants on x'; jump rows; for each staying variable, ascending, x'−x ≤ 0, then
-- x−x' ≤ 0"
unfoldable pub jump_roles : Condition → List Mode → List Mode → List Component → List ℕ → List ℕ → List Role
jump_roles region modes targets components switches staying =
    row_roles 1 0 region
    ++ (mode_roles 2 (λ mode. mode.invariant) 0 modes
    ++ (mode_roles 4 (λ mode. mode.invariant) 0 targets
    ++ (mover_roles 0 components switches
    ++ join_all staying_role staying)))

-- The roles of an obligation's hypotheses, by its kind: those of its location, with its unsafe condition by number; or those of its joint
-- switch, by number
unfoldable pub no_unsafe : Unsafe
no_unsafe = record { modes = []; rows = [] }

unfoldable pub no_joint : JointSwitch
no_joint = record { source = 0; event = 0; switches = []; target = 0 }

unfoldable pub joint_roles : Model → (ℕ → Condition) → JointSwitch → List Role
joint_roles m region_at j =
    jump_roles
    (region_at j.source)
    (modes_in m j.source)
    (modes_in m j.target)
    m.components
    j.switches
    (staying_variables m j.switches)

unfoldable pub kind_roles : Model → (ℕ → Condition) → Kind → ℕ → ℕ → List Role
kind_roles m region_at at_start subject line = start_roles (modes_in m subject)
kind_roles m region_at after_flow subject line = flow_roles (region_at subject) (modes_in m subject) (still_variables m subject)
kind_roles m region_at clear_of_unsafe subject line = unsafe_roles (region_at subject) (modes_in m subject) (get_or m.unsafe line no_unsafe).rows
kind_roles m region_at after_jump subject line = joint_roles m region_at (get_or (joints m.components) subject no_joint)

unfoldable pub roles_of : Model → (ℕ → Condition) → Obligation → List Role
roles_of m region_at o = kind_roles m region_at o.kind o.subject o.line

-- What is told of a hypothesis beside its row's sheet and offset: its role and owner; 0 and 0 where show row refuses
unfoldable pub role_in : (Obligation → List Role) → List Obligation → ℕ → ℕ → Role
role_in roles all o h =
    elim (ltb o (length all) && ltb h (length (get_or all o no_obligation).hypotheses)) [
      | true ↦ get_or (roles (get_or all o no_obligation)) h no_role
      | false ↦ no_role
    ]

unfoldable pub role_after : Model → ℕ → ℕ → Got (List Condition) → Role
role_after m o h (refused number at) = no_role
role_after m o h (got regions next) = role_in (roles_of m (region_of regions)) (obligations m regions) o h

-- "once the model and all regions read well"
unfoldable pub hypothesis_role : Limits → List ℕ → List ℕ → ℕ → ℕ → Role
hypothesis_role limits model second o h =
    elim (open_model limits model) [
      | opens m ↦ role_after m o h ((open_second 2 m >> read_regions m) second 0)
      | shut number sheet at ↦ no_role
    ]

-- and how many bytes the row has: "an empty part for −d ≤ 0, staying rows and refusals"
unfoldable pub found_size : Found → ℕ
found_size (found h) = h.size
found_size (unfound number sheet place) = 0

unfoldable pub hypothesis_size : Limits → List ℕ → List ℕ → ℕ → ℕ → ℕ
hypothesis_size limits model second o h = found_size (find_hypothesis limits model second o h)
