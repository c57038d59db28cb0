-- Which obligation has a number, where a search for it has come to, and where the row of a hypothesis stands. The list of obligations is
-- that of 01; the code never lists it, so a search is told by what it has passed over. Assumes nothing.
use Rattle.std.specs.declared.ops.ControlFlow.{ControlFlow}
use Rattle.std.specs.declared.ops.ControlFlow.TheVariants.{Break, Continue}
use Rattle.std.specs.Prelude.{Option, Some, None, Result, Ok, Err, ◌≡◌, true, false, List, [], ◌∷◌, ◌++◌, ℕ, zero, suc, ◌+◌, ◌-◌, ◌≤◌, ◌<◌, ltb, length, get_or, take, drop}
use Rattle.farkas.specs.Rows.{zero_row}
use Rattle.formats.specs.Reading.{Got, got, refused, ◌>>◌}
use Rattle.formats.specs.Rows.{Condition}
use Rattle.formats.specs.Model.{Model}
use Rattle.formats.specs.Locations.{location_count, modes_at}
use Rattle.formats.specs.Joint.{JointSwitch, switches_of, joints, count_up, join_all, joints_of, joint_from}
use Rattle.models.specs.Index.{entry, components_from, model_from, variables_in, version_in}
use Rattle.formats.specs.declared.Limits.{Limits}
use Rattle.rules.specs.Opening.{opens, shut, open_model, open_second}
use Rattle.formats.specs.Certificate.{read_regions}
use Rattle.queries.specs.declared.Which.{Which}
use Rattle.queries.specs.declared.Shown.{Shown}
use Rattle.queries.specs.declared.Located.{Located}
use Rattle.queries.specs.declared.Spot.{Spot}
use Rattle.queries.specs.declared.JumpLine.{JumpLine}
use Rattle.queries.specs.declared.Sought.{Sought}
use Rattle.queries.specs.declared.Sought.TheVariants as sought
use Rattle.queries.specs.declared.RowFound.{RowFound}
use Rattle.queries.specs.declared.RowFound.TheVariants as row
use Rattle.rules.specs.Runs.{modes_in, movers, staying_variables, still_variables}
use Rattle.rules.specs.Obligations.{Hypothesis, nowhere, Kind, at_start, after_flow, clear_of_unsafe, after_jump, Obligation, start_hypotheses, flow_hypotheses, unsafe_hypotheses, jump_hypotheses, start_obligations, flow_obligations, unsafe_obligations, jump_obligations, jumps_obligations, obligations_over, obligations}
use Rattle.hypotheses.specs.Tables.{hypotheses_from, roles_from}
use Rattle.hypotheses.specs.Listing.{no_unsafe}
use Rattle.papers.specs.Paper.{regions_of, location_obligations_for, jumps_obligations_for}
use Rattle.papers.specs.Papers.{GoodPaper}
use Rattle.joint_switches.specs.declared.Slot.{Slot}
use Rattle.joint_switches.specs.declared.slots.Way.{Way}
use Rattle.joint_switches.specs.Slots.{Listed}
use Rattle.scores.specs.Counting.{target_rows}
use Rattle.rules.specs.Beside.{Found, found, unfound, no_obligation, find_in, find_after, find_hypothesis, show_answer}
use Rattle.rules.specs.Roles.{Role, no_role, no_joint, joint_roles, kind_roles, roles_of, role_in, role_after, hypothesis_role, hypothesis_size}
use Rattle.rules.specs.declared.Answer.{Answer}
use Rattle.rules.specs.Marking.{answer}

-- Which obligation it is: its kind as a number
unfoldable pub kind_number : Kind → ℕ
kind_number at_start = 0
kind_number after_flow = 1
kind_number clear_of_unsafe = 2
kind_number after_jump = 3

-- its kind, subject and line, with the second sheet and its length; a refusal has a number, sheet and place, then 0 0 0
unfoldable pub which_tells : ℕ → Obligation → Which
which_tells size o =
    record {
      number = 0;
      sheet = 1;
      place = size;
      kind = kind_number o.kind;
      subject = o.subject;
      line = o.line;
    }

unfoldable pub which_refused : ℕ → ℕ → ℕ → Which
which_refused number sheet place = record { number = number; sheet = sheet; place = place; kind = 0; subject = 0; line = 0 }

-- by its number in the list; 5, "arguments: sheet 2, 0", where there are not so many
unfoldable pub which_in : ℕ → List Obligation → ℕ → Which
which_in size all o =
    elim (ltb o (length all)) [ true ↦ which_tells size (get_or all o no_obligation) | false ↦ which_refused 5 2 0 ]

unfoldable pub which_after : Model → List ℕ → ℕ → Got (List Condition) → Which
which_after m second o (refused number at) = which_refused number 1 at
which_after m second o (got regions next) = which_in (length second) (obligations m regions) o

-- "once the model and all regions read well"
unfoldable pub which_obligation : Limits → List ℕ → List ℕ → ℕ → Which
which_obligation limits model second o =
    elim (open_model limits model) [
      | opens m ↦ which_after m second o ((open_second 2 m >> read_regions m) second 0)
      | shut number sheet at ↦ which_refused number sheet at
    ]

-- What a hypothesis is: the sister call's number, sheet and place; how many bytes its row has; its role and owner
unfoldable pub shown_as : Answer → ℕ → Role → Shown
shown_as a size k =
    record { number = a.number; sheet = a.sheet; place = a.place; size = size; role = k.role; owner = k.owner }

unfoldable pub hypothesis_answer : Limits → List ℕ → List ℕ → ℕ → ℕ → Shown
hypothesis_answer limits model second o h =
    shown_as (show_answer limits model second o h) (hypothesis_size limits model second o h) (hypothesis_role limits model second o h)

-- Where the row of a hypothesis stands: in the model, in the second sheet, or in none
unfoldable pub stands_in : ℕ → ℕ → ℕ → RowFound
stands_in zero place size = row.InModel place size
stands_in (suc zero) place size = row.InSecond place size
stands_in (suc (suc sheet)) place size = row.Nowhere

unfoldable pub row_of : Hypothesis → RowFound
row_of h = stands_in h.sheet h.place h.size

-- or why it is refused, by number, sheet and place
unfoldable pub row_found : Found → Result RowFound Answer
row_found (found h) = Ok (row_of h)
row_found (unfound number sheet place) = Err (answer number sheet place 0 0)

-- what each case stands for: the sister call's numbers, "the number, with the row's sheet and offset (2 and 0 for a row in no sheet)", and
-- how many bytes the row has
unfoldable pub stood_answer : RowFound → Answer
stood_answer (row.InModel place size) = answer 0 0 place 0 0
stood_answer (row.InSecond place size) = answer 0 1 place 0 0
stood_answer row.Nowhere = answer 0 2 0 0 0

unfoldable pub row_length : RowFound → ℕ
row_length (row.InModel place size) = size
row_length (row.InSecond place size) = size
row_length row.Nowhere = 0

-- a refusal is the sister call's answer as it is
unfoldable pub row_answer : Result Located Answer → Answer
row_answer (Ok l) = stood_answer l.row
row_answer (Err a) = a

-- and that it lies inside its sheet
unfoldable pub RowInside : List ℕ → List ℕ → RowFound → Type 0
RowInside model second (row.InModel place size) = place + size ≤ length model
RowInside model second (row.InSecond place size) = place + size ≤ length second
RowInside model second row.Nowhere = Unit {0}

-- The part that is shown: so many bytes of that sheet from that place on, or none; of a refusal none
unfoldable pub PartIs : List ℕ → List ℕ → Result RowFound Answer → List ℕ → Type 0
PartIs model second (Ok (row.InModel place size)) part =
    (place + size ≤ length model) × ((part ≡ take size (drop place model)) × (length part ≡ size))
PartIs model second (Ok (row.InSecond place size)) part =
    (place + size ≤ length second) × ((part ≡ take size (drop place second)) × (length part ≡ size))
PartIs model second (Ok row.Nowhere) part = part ≡ []
PartIs model second (Err a) part = part ≡ []

-- a row with its role and owner, which a refusal does not have
unfoldable pub in_role : RowFound → Role → Located
in_role r k = record { row = r; role = k.role; owner = k.owner }

unfoldable pub located : Result RowFound Answer → Role → Result Located Answer
located (Ok r) k = Ok (in_role r k)
located (Err a) k = Err a

-- a hypothesis by its number among those of an obligation, or none where there are not so many; and both answers on one obligation or none
unfoldable pub located_at : List Hypothesis → List Role → ℕ → Option Located
located_at hypotheses roles h =
    elim (ltb h (length hypotheses)) [
      | true ↦ Some (in_role (row_of (get_or hypotheses h (nowhere zero_row))) (get_or roles h no_role))
      | false ↦ None
    ]

unfoldable pub located_of : (Obligation → List Role) → List Obligation → ℕ → Option Located
located_of roles [] h = None
located_of roles (o ∷ rest) h = located_at o.hypotheses (roles o) h

unfoldable pub hypothesis_located : Limits → List ℕ → List ℕ → ℕ → ℕ → Result Located Answer
hypothesis_located limits model second o h =
    located (row_found (find_hypothesis limits model second o h)) (hypothesis_role limits model second o h)

unfoldable pub which_of : ℕ → List Obligation → Which
which_of size [] = which_refused 5 2 0
which_of size (o ∷ rest) = which_tells size o

-- both answers, of a refusal, once the model is read, and from the start
pub record Told : Type 0 where
  pub which : Which
  pub row : Result Located Answer

unfoldable pub told_refused : Answer → Told
told_refused a = record { which = which_refused a.number a.sheet a.place; row = Err a }

unfoldable pub told_in : ℕ → (Obligation → List Role) → List Obligation → ℕ → ℕ → Told
told_in size roles all o h = record { which = which_in size all o; row = located (row_found (find_in all o h)) (role_in roles all o h) }

unfoldable pub told_after : Model → List ℕ → ℕ → ℕ → Got (List Condition) → Told
told_after m second o h g =
    record { which = which_after m second o g; row = located (row_found (find_after m o h g)) (role_after m o h g) }

unfoldable pub told_for : Limits → List ℕ → List ℕ → ℕ → ℕ → Told
told_for limits model second o h =
    record { which = which_obligation limits model second o; row = hypothesis_located limits model second o h }

-- The obligation with a number, as a list of one, or of none where there are not so many
unfoldable pub one_at : List Obligation → ℕ → List Obligation
one_at [] o = []
one_at (x ∷ all) zero = x ∷ []
one_at (x ∷ all) (suc o) = one_at all o

-- What a location has to prove, in groups: 0, its start; 1, its flow; from 2 on, each unsafe condition
unfoldable pub group_obligations : Model → (ℕ → Condition) → ℕ → ℕ → List Obligation
group_obligations m region_at location zero = start_obligations m region_at location
group_obligations m region_at location (suc zero) = flow_obligations m region_at location
group_obligations m region_at location (suc (suc u)) = unsafe_obligations m region_at location u (get_or m.unsafe u no_unsafe ∷ [])

unfoldable pub group_kind : ℕ → Kind
group_kind zero = at_start
group_kind (suc zero) = after_flow
group_kind (suc (suc u)) = clear_of_unsafe

unfoldable pub group_line : ℕ → ℕ → ℕ
group_line zero line = line
group_line (suc zero) line = line
group_line (suc (suc u)) line = u

unfoldable pub group_hypotheses : Model → (ℕ → Condition) → ℕ → ℕ → List Hypothesis
group_hypotheses m region_at location zero = start_hypotheses (modes_in m location)
group_hypotheses m region_at location (suc zero) = flow_hypotheses m.variables (region_at location) (modes_in m location) (still_variables m location)
group_hypotheses m region_at location (suc (suc u)) =
    unsafe_hypotheses (region_at location) (modes_in m location) (get_or m.unsafe u no_unsafe).rows

unfoldable pub group_roles : Model → (ℕ → Condition) → ℕ → ℕ → List Role
group_roles m region_at location g = kind_roles m region_at (group_kind g) location (group_line g 0)

-- which obligation that is
unfoldable pub group_which : ℕ → ℕ → ℕ → ℕ → Which
group_which size location g line =
    record {
      number = 0;
      sheet = 1;
      place = size;
      kind = kind_number (group_kind g);
      subject = location;
      line = group_line g line;
    }

unfoldable pub group_one : Model → (ℕ → Condition) → ℕ → ℕ → ℕ → Obligation
group_one m region_at location g line =
    record {
      kind = group_kind g;
      subject = location;
      line = group_line g line;
      hypotheses = group_hypotheses m region_at location g;
      goal = (get_or (group_obligations m region_at location g) line no_obligation).goal;
    }

-- The joint switch with a number among those of its event, and what it has to prove
unfoldable pub joint_here : List ℕ → List ℕ → ℕ → ℕ → ℕ → JointSwitch
joint_here model index location e x =
    joint_from (components_from model index) location e
    (get_or (switches_of (components_from model index) (modes_at (components_from model index) location) e) x [])

unfoldable pub joint_hypotheses : Model → (ℕ → Condition) → JointSwitch → List Hypothesis
joint_hypotheses m region_at j =
    jump_hypotheses
    m.variables
    (region_at j.source)
    (modes_in m j.source)
    (modes_in m j.target)
    (movers m.components j.switches)
    (staying_variables m j.switches)

unfoldable pub joint_one : Model → (ℕ → Condition) → ℕ → JointSwitch → ℕ → Obligation
joint_one m region_at number j line =
    record {
      kind = after_jump;
      subject = number;
      line = line;
      hypotheses = joint_hypotheses m region_at j;
      goal = (get_or (jump_obligations m region_at number j) line no_obligation).goal;
    }

-- what was found: at a joint switch, at either, or nothing
unfoldable pub jump_one : List ℕ → List ℕ → (ℕ → Condition) → JumpLine → Obligation
jump_one model index region_at j =
    joint_one (model_from model index) region_at j.number (joint_here model index j.location j.event j.nth) j.line

unfoldable pub sought_one : List ℕ → List ℕ → (ℕ → Condition) → Sought → List Obligation
sought_one model index region_at (sought.AtLocation location g line) = group_one (model_from model index) region_at location g line ∷ []
sought_one model index region_at (sought.AtJoint j) = jump_one model index region_at j ∷ []

unfoldable pub sought_in : List ℕ → List ℕ → (ℕ → Condition) → Option Sought → List Obligation
sought_in model index region_at (Some s) = sought_one model index region_at s
sought_in model index region_at None = []

-- and that its numbers are those of a location, a group, an event and a joint switch, and its number that of the joint switch in the list
abbrev pub KnownJoint : List ℕ → List ℕ → ℕ → ℕ → ℕ → Type 0
KnownJoint model index location e x =
    (location < location_count (components_from model index))
    × ((e ≤ 15) × (x < length (switches_of (components_from model index) (modes_at (components_from model index) location) e)))

unfoldable pub KnownSought : List ℕ → List ℕ → Sought → Type 0
KnownSought model index (sought.AtLocation location g line) =
    (location < location_count (components_from model index)) × (g < 2 + entry index 2)
KnownSought model index (sought.AtJoint j) =
    KnownJoint model index j.location j.event j.nth
    × (get_or (joints (components_from model index)) j.number no_joint ≡ joint_here model index j.location j.event j.nth)

-- all obligations of a paper, by its places
unfoldable pub paper_obligations : List ℕ → List ℕ → List ℕ → List ℕ → List Obligation
paper_obligations model index second regions =
    obligations_over (model_from model index) (regions_of model index second regions) (count_up 0 (location_count (components_from model index))) (joints (components_from model index))

-- A search over numbers below n, each with its own obligations: the one sought is still so many on from here, and if the search has not
-- come to the end it is among those of the number that it stands at
pub record SpotLeads (f : ℕ → List Obligation) (n : ℕ) (one : List Obligation) (rest : List Obligation) (s : Spot) : Type 0 where
  pub within : s.at ≤ n
  pub leads : one_at (join_all f (count_up s.at (n - s.at)) ++ rest) s.left ≡ one
  pub here : s.at < n → s.left < length (f s.at)

-- A search among joint switches, the first of which has a number: those that are left begin with a number, and the obligation sought is so
-- many on among theirs
pub record Passing (m : Model) (region_at : ℕ → Condition) (all rest : List JointSwitch) (first o number left : ℕ) : Type 0 where
  pub leads : one_at (jumps_obligations m region_at number rest) left ≡ one_at (jumps_obligations m region_at first all) o
  pub passed : List JointSwitch
  pub parted : all ≡ passed ++ rest
  pub counted : number + length rest ≡ first + length all
  pub rows : left + length (target_rows region_at all) ≡ o + length (target_rows region_at rest)

-- a joint switch by its number, among those of which the first has a number
pub record NumberedIn (all : List JointSwitch) (first number : ℕ) (j : JointSwitch) : Type 0 where
  pub before : List JointSwitch
  pub after : List JointSwitch
  pub parted : all ≡ before ++ (j ∷ after)
  pub counted : number ≡ first + length before

-- where such a search ends: at what has the obligation, or beyond all of them
unfoldable pub SoughtIn : List ℕ → List ℕ → (ℕ → Condition) → List JointSwitch → ℕ → ℕ → ControlFlow JumpLine Spot → Type 0
SoughtIn model index region_at all first o (Break j) =
    KnownJoint model index j.location j.event j.nth
    × ((jump_one model index region_at j ∷ [] ≡ one_at (jumps_obligations (model_from model index) region_at first all) o)
    × NumberedIn all first j.number (joint_here model index j.location j.event j.nth))
SoughtIn model index region_at all first o (Continue s) = Passing (model_from model index) region_at all [] first o s.at s.left

-- the same from where the search begins, of the regions that the code keeps by their places
abbrev pub SoughtInFor : List ℕ → List ℕ → List ℕ → List ℕ → List JointSwitch → Spot → ControlFlow JumpLine Spot → Type 0
SoughtInFor model index second regions all from = SoughtIn model index (regions_of model index second regions) all from.at from.left

-- the joint switches that leave a location, and those of one event as a table lists them
abbrev pub leaving_from : List ℕ → List ℕ → ℕ → List JointSwitch
leaving_from model index location = join_all (joints_of (components_from model index) location) (count_up 0 16)

abbrev pub ListedFrom : List ℕ → List ℕ → ℕ → List Way → Slot → Type 0
ListedFrom model index location ways slot = Listed model index (modes_at (components_from model index) location) slot.e ways slot

-- the same, of the model and the regions that the code keeps by their places
abbrev pub group_obligations_for : List ℕ → List ℕ → List ℕ → List ℕ → ℕ → ℕ → List Obligation
group_obligations_for model index second regions = group_obligations (model_from model index) (regions_of model index second regions)

abbrev pub group_hypotheses_for : List ℕ → List ℕ → List ℕ → List ℕ → ℕ → ℕ → List Hypothesis
group_hypotheses_for model index second regions = group_hypotheses (model_from model index) (regions_of model index second regions)

abbrev pub joint_hypotheses_for : List ℕ → List ℕ → List ℕ → List ℕ → JointSwitch → List Hypothesis
joint_hypotheses_for model index second regions = joint_hypotheses (model_from model index) (regions_of model index second regions)

abbrev pub group_row_for : List ℕ → List ℕ → List ℕ → List ℕ → ℕ → ℕ → ℕ → Option Located
group_row_for model index second regions location g =
    located_at
    (group_hypotheses_for model index second regions location g)
    (group_roles (model_from model index) (regions_of model index second regions) location g)

abbrev pub joint_row_for : List ℕ → List ℕ → List ℕ → List ℕ → JointSwitch → ℕ → Option Located
joint_row_for model index second regions j =
    located_at (joint_hypotheses_for model index second regions j) (joint_roles (model_from model index) (regions_of model index second regions) j)

abbrev pub roles_for : List ℕ → List ℕ → List ℕ → List ℕ → Obligation → List Role
roles_for model index second regions = roles_of (model_from model index) (regions_of model index second regions)

-- A table that holds these hypotheses in these roles: those of a location's group, or of a joint switch
pub record Held (model second : List ℕ) (version n : ℕ) (table : List ℕ) (segments : ℕ) (hs : List Hypothesis) (rs : List Role) : Type 0 where
  pub hypotheses : hypotheses_from model second version n table segments ≡ hs
  pub roles : roles_from table segments ≡ rs

abbrev pub GroupHeld : List ℕ → List ℕ → List ℕ → List ℕ → ℕ → ℕ → List ℕ → ℕ → Type 0
GroupHeld model index second regions location g table segments =
    Held model second (version_in index) (variables_in index) table segments
    (group_hypotheses_for model index second regions location g)
    (group_roles (model_from model index) (regions_of model index second regions) location g)

abbrev pub JointHeld : List ℕ → List ℕ → List ℕ → List ℕ → JointSwitch → List ℕ → ℕ → Type 0
JointHeld model index second regions j table segments =
    Held model second (version_in index) (variables_in index) table segments
    (joint_hypotheses_for model index second regions j)
    (joint_roles (model_from model index) (regions_of model index second regions) j)

abbrev pub sought_row_for : List ℕ → List ℕ → List ℕ → List ℕ → Sought → ℕ → Option Located
sought_row_for model index second regions s =
    located_of (roles_for model index second regions) (sought_one model index (regions_of model index second regions) s)

abbrev pub sought_one_for : List ℕ → List ℕ → List ℕ → List ℕ → Sought → List Obligation
sought_one_for model index second regions = sought_one model index (regions_of model index second regions)

abbrev pub sought_in_for : List ℕ → List ℕ → List ℕ → List ℕ → Option Sought → List Obligation
sought_in_for model index second regions = sought_in model index (regions_of model index second regions)

-- Where a search leads: among the locations, and the groups of a location
abbrev pub LeadsToLocation : List ℕ → List ℕ → List ℕ → List ℕ → ℕ → ℕ → Spot → Type 0
LeadsToLocation model index second regions locations o =
    SpotLeads (location_obligations_for model index second regions) locations (one_at (paper_obligations model index second regions) o)
    (jumps_obligations_for model index second regions 0 (joints (components_from model index)))

abbrev pub LeadsToGroup : List ℕ → List ℕ → List ℕ → List ℕ → ℕ → ℕ → Spot → Type 0
LeadsToGroup model index second regions location o =
    SpotLeads (group_obligations_for model index second regions location) (2 + entry index 2) (one_at (location_obligations_for model index second regions location) o) []

-- Both sheets read up to the regions: the paper is good, and what is told is told by its obligations
pub record OpenFor (limits : Limits) (model index second regions : List ℕ) : Type 0 where
  pub good : GoodPaper model index second regions
  pub joined : length (joints (components_from model index)) ≤ 4096
  pub told : (o h : ℕ) → told_in (length second) (roles_for model index second regions) (paper_obligations model index second regions) o h ≡ told_for limits model second o h

-- or a refusal, which is told whatever is asked
unfoldable pub OpensTo : Limits → List ℕ → List ℕ → List ℕ → List ℕ → Result (Unit {0}) Answer → Type 0
OpensTo limits model index second regions (Ok done) = OpenFor limits model index second regions
OpensTo limits model index second regions (Err a) =
    (o h : ℕ) → told_refused a ≡ told_for limits model second o h
