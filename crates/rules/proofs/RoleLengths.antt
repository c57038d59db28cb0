-- Every hypothesis has a role: the roles of an obligation are as many as its hypotheses. The part that show row gives has the size that is
-- told of the hypothesis, and where show row refuses no role is told. Assumes nothing.
use mathlib.Core.Path.{◌≡◌, refl, sym, ap, ap₂, ◌∙◌, subst}
use mathlib.Core.Bool.{Bool, true, false, ◌&&◌}
use mathlib.Core.List.{List, [], ◌∷◌, ◌++◌, map, append_assoc}
use Prim.Native.Nat.{ℕ, suc, ◌+◌, ◌≤◌}
use native.Mathlib.Omega.{arith}
use lib.Dec.{eqb, ltb}
use lib.ListN.{length, get_or, take, drop, length-map, length-append, length-drop}
use lib.Seq.{length-take-le}
use Rattle.farkas.specs.Lists.{every, All, none, more}
use Rattle.farkas.specs.Rows.{Row, zero_row}
use Rattle.farkas.proofs.All.{all_append}
use Rattle.formats.specs.Rows.{Condition}
use Rattle.formats.specs.Model.{Mode, Switch, Component, Unsafe, Model}
use Rattle.formats.specs.Locations.{modes_at}
use Rattle.formats.specs.Joint.{stays, switch_of, JointSwitch, joints, join_all}
use Rattle.formats.specs.declared.Limits.{Limits}
use Rattle.rules.specs.Opening.{ModelOpened, opens, shut, open_model, open_second}
use Rattle.formats.specs.Certificate.{read_regions}
use Rattle.formats.specs.Reading.{Got, got, refused, ◌>>◌}
use Rattle.formats.proofs.Members.{all-members}
use Rattle.rules.specs.Runs.{modes_in, still_variables, movers, staying_variables, modes_fit}
use Rattle.rules.specs.Obligations.{Hypothesis, nowhere, standing, on_x, on_next, on_rates, time_row, staying_rows, mode_rows, start_hypotheses, flow_hypotheses, unsafe_hypotheses, jump_hypotheses, Kind, at_start, after_flow, clear_of_unsafe, after_jump, Obligation, per_row, start_obligations, flow_obligations, unsafe_obligations, location_obligations, jump_obligations, jumps_obligations, obligations_over, obligations, region_of}
use Rattle.rules.specs.Beside.{Found, found, unfound, no_obligation, find_in, find_after, find_hypothesis, sheet_of, part_of, show_part}
use Rattle.rules.specs.Roles.{Role, owned, no_role, row_roles, mode_roles, mover_roles, staying_role, start_roles, flow_roles, unsafe_roles, jump_roles, no_unsafe, no_joint, joint_roles, kind_roles, roles_of, role_in, role_after, hypothesis_role, found_size, hypothesis_size}
use Rattle.rules.proofs.Hypotheses.{join-all}
use Rattle.rules.proofs.MarkedRanges.{found_within}

-- As many roles as hypotheses, part by part
pub record AsMany (roles : List Role) (hypotheses : List Hypothesis) : Type 0 where
  pub same : length roles ≡ length hypotheses

both : {xs ys : List Role} {hs ks : List Hypothesis} → AsMany xs hs → AsMany ys ks → AsMany (xs ++ ys) (hs ++ ks)
both {xs} {ys} {hs} {ks} p q = record { same = length-append xs ys ∙ ap₂ (λ (i j : ℕ). i + j) p.same q.same ∙ sym (length-append hs ks) }

rows_long : (role owner sheet : ℕ) (put : Row → Row) (rows : Condition) → AsMany (row_roles role owner rows) (map (standing sheet put) rows)
unfolding row_roles
rows_long role owner sheet put rows = record { same = length-map rows (λ r. owned role owner) ∙ sym (length-map rows (standing sheet put)) }

modes-long : (role : ℕ) (of : Mode → Condition) (put : Row → Row) (k : ℕ) (modes : List Mode) → AsMany (mode_roles role of k modes) (mode_rows of put modes)
unfolding mode_roles mode_rows join_all
modes-long role of put k [] = record { same = refl }
modes-long role of put k (mode ∷ modes) =
    both (rows_long role k 0 put (of mode)) (modes-long role of put (suc k) modes)

abbrev jumps_of : List Switch → List Hypothesis
jumps_of moving = join_all (λ w. map (standing 0 on_x) w.jump) moving

mover-long : (b : Bool) (k : ℕ) (w : Switch) (rest : List Role) (moving : List Switch) → AsMany rest (jumps_of moving) → AsMany (elim b [ true ↦ rest | false ↦ row_roles 7 k w.jump ++ rest ]) (jumps_of (elim b [ true ↦ moving | false ↦ w ∷ moving ]))
unfolding join_all
mover-long true k w rest moving e = e
mover-long false k w rest moving e = both (rows_long 7 k 0 on_x w.jump) e

movers-long : (k : ℕ) (components : List Component) (switches : List ℕ) → AsMany (mover_roles k components switches) (jumps_of (movers components switches))
unfolding mover_roles movers join_all
movers-long k [] switches = record { same = refl }
movers-long k (c ∷ components) [] = record { same = refl }
movers-long k (c ∷ components) (i ∷ switches) =
    mover-long (eqb i stays) k (switch_of c i) (mover_roles (suc k) components switches) (movers components switches) (movers-long (suc k) components switches)

staying-long : (n : ℕ) (staying : List ℕ) → AsMany (join_all staying_role staying) (map nowhere (join_all (staying_rows n) staying))
unfolding join_all staying_role staying_rows
staying-long n [] = record { same = refl }
staying-long n (v ∷ staying) = record { same = ap (λ (k : ℕ). suc (suc k)) (staying-long n staying).same }

start-long : (modes : List Mode) → AsMany (start_roles modes) (start_hypotheses modes)
unfolding start_roles start_hypotheses
start-long modes = both (modes-long 0 (λ mode. mode.initial) on_x 0 modes) (modes-long 2 (λ mode. mode.invariant) on_x 0 modes)

timed-long : (n : ℕ) (still : List ℕ) → AsMany (owned 6 0 ∷ join_all staying_role still) (nowhere (time_row n) ∷ map nowhere (join_all (staying_rows n) still))
timed-long n still = record { same = ap suc (staying-long n still).same }

flow-long : (n : ℕ) (region : Condition) (modes : List Mode) (still : List ℕ) → AsMany (flow_roles region modes still) (flow_hypotheses n region modes still)
unfolding flow_roles flow_hypotheses
flow-long n region modes still =
    both (rows_long 1 0 1 on_x region)
    (both (modes-long 2 (λ mode. mode.invariant) on_x 0 modes)
    (both (modes-long 4 (λ mode. mode.invariant) (on_next n) 0 modes)
    (both (modes-long 5 (λ mode. mode.flow) on_rates 0 modes) (timed-long n still))))

unsafe-long : (region : Condition) (modes : List Mode) (rows : Condition) → AsMany (unsafe_roles region modes rows) (unsafe_hypotheses region modes rows)
unfolding unsafe_roles unsafe_hypotheses
unsafe-long region modes rows =
    both (rows_long 1 0 1 on_x region) (both (modes-long 2 (λ mode. mode.invariant) on_x 0 modes) (rows_long 3 0 0 on_x rows))

jump-long :
    (n : ℕ) (region : Condition) (modes targets : List Mode) (components : List Component) (switches staying : List ℕ)
    → AsMany (jump_roles region modes targets components switches staying) (jump_hypotheses n region modes targets (movers components switches) staying)
unfolding jump_roles jump_hypotheses
jump-long n region modes targets components switches staying =
    both (rows_long 1 0 1 on_x region)
    (both (modes-long 2 (λ mode. mode.invariant) on_x 0 modes)
    (both (modes-long 4 (λ mode. mode.invariant) (on_next n) 0 targets)
    (both (movers-long 0 components switches) (staying-long n staying))))

-- the one after those before it has their number
pub after-those : {A : Type 0} (before : List A) (a : A) (rest : List A) (d : A) → get_or (before ++ (a ∷ rest)) (length before) d ≡ a
after-those [] a rest d = refl
after-those (x ∷ before) a rest d = after-those before a rest d

one_more : {A : Type 0} (before : List A) (a : A) → suc (length before) ≡ length (before ++ (a ∷ []))
one_more before a = omega (arith, length-append before (a ∷ []))

-- Every obligation
module _ (m : Model) (region_at : ℕ → Condition) where
  abbrev AsLong : Obligation → Type 0
  AsLong o = AsMany (roles_of m region_at o) o.hypotheses

  per-row-long :
      (kind : Kind) (subject : ℕ) (hypotheses : List Hypothesis) (put : Row → Row) (line : ℕ) (region : Condition)
      → ((line : ℕ) → AsMany (kind_roles m region_at kind subject line) hypotheses) → All AsLong (per_row kind subject hypotheses put line region)
  unfolding per_row roles_of
  per-row-long kind subject hypotheses put line [] e = none
  per-row-long kind subject hypotheses put line (r ∷ region) e = more (e line) (per-row-long kind subject hypotheses put (suc line) region e)

  start-as-long : (location : ℕ) → All AsLong (start_obligations m region_at location)
  unfolding start_obligations kind_roles
  start-as-long location = go (every (λ mode. eqb mode.start 1) (modes_in m location))
    where
      go : (b : Bool) → All AsLong (elim b as (λ x. List Obligation) [ true ↦ per_row at_start location (start_hypotheses (modes_in m location)) on_x 0 (region_at location) | false ↦ [] ])
      go true = per-row-long at_start location (start_hypotheses (modes_in m location)) on_x 0 (region_at location) (λ line. start-long (modes_in m location))
      go false = none

  flow-as-long : (location : ℕ) → All AsLong (flow_obligations m region_at location)
  unfolding flow_obligations kind_roles
  flow-as-long location =
      per-row-long after_flow location (flow_hypotheses m.variables (region_at location) (modes_in m location) (still_variables m location)) (on_next m.variables) 0 (region_at location)
      (λ line. flow-long m.variables (region_at location) (modes_in m location) (still_variables m location))

  -- the unsafe conditions that are left, after those before
  abbrev one : ℕ → ℕ → Unsafe → Obligation
  one location line u =
      record {
        kind = clear_of_unsafe;
        subject = location;
        line = line;
        hypotheses = unsafe_hypotheses (region_at location) (modes_in m location) u.rows;
        goal = zero_row;
      }

  one-as-long : (location line : ℕ) (u : Unsafe) → get_or m.unsafe line no_unsafe ≡ u → AsLong (one location line u)
  unfolding kind_roles roles_of
  one-as-long location line u e =
      subst (λ (x : Unsafe). AsMany (unsafe_roles (region_at location) (modes_in m location) x.rows) (unsafe_hypotheses (region_at location) (modes_in m location) u.rows)) (sym e)
      (unsafe-long (region_at location) (modes_in m location) u.rows)

  maybe-one : (b : Bool) (o : Obligation) (rest : List Obligation) → AsLong o → All AsLong rest → All AsLong (elim b as (λ x. List Obligation) [ true ↦ o ∷ rest | false ↦ rest ])
  maybe-one true o rest h w = more h w
  maybe-one false o rest h w = w

  unsafe-as-long : (location line : ℕ) (before conditions : List Unsafe) → m.unsafe ≡ before ++ conditions → line ≡ length before → All AsLong (unsafe_obligations m region_at location line conditions)
  unfolding unsafe_obligations
  unsafe-as-long location line before [] e n = none
  unsafe-as-long location line before (u ∷ rest) e n =
      maybe-one (modes_fit u.modes (modes_at m.components location)) (one location line u) (unsafe_obligations m region_at location (suc line) rest)
      (one-as-long location line u (ap₂ (λ (xs : List Unsafe) (i : ℕ). get_or xs i no_unsafe) e n ∙ after-those before u rest no_unsafe))
      (unsafe-as-long location (suc line) (before ++ (u ∷ [])) rest (e ∙ sym (append_assoc before (u ∷ []) rest)) (ap suc n ∙ one_more before u))

  location-as-long : (location : ℕ) → All AsLong (location_obligations m region_at location)
  unfolding location_obligations
  location-as-long location = all_append (start-as-long location) (all_append (flow-as-long location) (unsafe-as-long location 0 [] m.unsafe refl refl))

  -- the joint switches that are left, after those before
  jumps-as-long : (number : ℕ) (before rest : List JointSwitch) → joints m.components ≡ before ++ rest → number ≡ length before → All AsLong (jumps_obligations m region_at number rest)
  unfolding jumps_obligations jump_obligations kind_roles joint_roles
  jumps-as-long number before [] e n = none
  jumps-as-long number before (j ∷ rest) e n =
      all_append
      (per-row-long after_jump number
      (jump_hypotheses m.variables (region_at j.source) (modes_in m j.source) (modes_in m j.target) (movers m.components j.switches) (staying_variables m j.switches))
      (on_next m.variables)
      0
      (region_at j.target)
      (λ line.
      subst (λ (x : JointSwitch). AsMany (joint_roles m region_at x) (jump_hypotheses m.variables (region_at j.source) (modes_in m j.source) (modes_in m j.target) (movers m.components j.switches) (staying_variables m j.switches))) (sym here)
      (jump-long m.variables (region_at j.source) (modes_in m j.source) (modes_in m j.target) m.components j.switches (staying_variables m j.switches))))
      (jumps-as-long (suc number) (before ++ (j ∷ [])) rest (e ∙ sym (append_assoc before (j ∷ []) rest)) (ap suc n ∙ one_more before j))
    where
      here : get_or (joints m.components) number no_joint ≡ j
      here = ap₂ (λ (xs : List JointSwitch) (i : ℕ). get_or xs i no_joint) e n ∙ after-those before j rest no_joint

pub roles-as-long : (m : Model) (regions : List Condition) → All (λ o. AsMany (roles_of m (region_of regions) o) o.hypotheses) (obligations m regions)
unfolding obligations obligations_over
roles-as-long m regions =
    all_append
    (join-all _ (all-members _ (λ location d. location-as-long m (region_of regions) location)))
    (jumps-as-long m (region_of regions) 0 [] (joints m.components) refl refl)

-- The size that is told is that of the part that is shown
sheet-part : (model second : List ℕ) (sheet place size : ℕ) → place + size ≤ length (sheet_of model second sheet) → length (take size (drop place (sheet_of model second sheet))) ≡ size
sheet-part model second sheet place size h =
    let s = sheet_of model second sheet in
    length-take-le size (drop place s) (omega (arith, h, length-drop place s))

found_part : (limits : Limits) (model second : List ℕ) (o h : ℕ) (f : Found) → find_hypothesis limits model second o h ≡ f → length (part_of model second f) ≡ found_size f
unfolding part_of found_size
found_part limits model second o h (found x) e = sheet-part model second x.sheet x.place x.size (found_within limits model second o h x e).ends
found_part limits model second o h (unfound number sheet place) e = refl

pub shown-size : (limits : Limits) (model second : List ℕ) (o h : ℕ) → length (show_part limits model second o h) ≡ hypothesis_size limits model second o h
unfolding show_part hypothesis_size
shown-size limits model second o h = found_part limits model second o h (find_hypothesis limits model second o h) refl

-- Where show row refuses, the role and the owner are 0
abbrev is_found : Found → ℕ
is_found (found h) = 1
is_found (unfound number sheet place) = 0

in-refused : (roles : Obligation → List Role) (all : List Obligation) (o h number sheet place : ℕ) → find_in all o h ≡ unfound number sheet place → role_in roles all o h ≡ no_role
unfolding find_in role_in
in-refused roles all o h number sheet place e = go (ltb o (length all) && ltb h (length (get_or all o no_obligation).hypotheses)) e
  where
    go : (b : Bool) → (elim b as (λ x. Found) [ true ↦ found (get_or (get_or all o no_obligation).hypotheses h (nowhere zero_row)) | false ↦ unfound 5 2 0 ]) ≡ unfound number sheet place → (elim b as (λ x. Role) [ true ↦ get_or (roles (get_or all o no_obligation)) h no_role | false ↦ no_role ]) ≡ no_role
    go true k = let z : ◌≡◌ {A = ℕ} 1 0 = ap is_found k in absurd (omega (arith, z))
    go false k = refl

after-refused : (m : Model) (o h number sheet place : ℕ) (g : Got (List Condition)) → find_after m o h g ≡ unfound number sheet place → role_after m o h g ≡ no_role
unfolding find_after role_after
after-refused m o h number sheet place (refused n at) e = refl
after-refused m o h number sheet place (got regions next) e = in-refused (roles_of m (region_of regions)) (obligations m regions) o h number sheet place e

pub refused-role : (limits : Limits) (model second : List ℕ) (o h number sheet place : ℕ) → find_hypothesis limits model second o h ≡ unfound number sheet place → hypothesis_role limits model second o h ≡ no_role
unfolding find_hypothesis hypothesis_role
refused-role limits model second o h number sheet place e = go (open_model limits model) e
  where
    go : (g : ModelOpened) → (elim g as (λ x. Found) [ opens m ↦ find_after m o h ((open_second 2 m >> read_regions m) second 0) | shut n b at ↦ unfound n b at ]) ≡ unfound number sheet place → (elim g as (λ x. Role) [ opens m ↦ role_after m o h ((open_second 2 m >> read_regions m) second 0) | shut n b at ↦ no_role ]) ≡ no_role
    go (opens m) k = after-refused m o h number sheet place ((open_second 2 m >> read_regions m) second 0) k
    go (shut n b at) k = refl
