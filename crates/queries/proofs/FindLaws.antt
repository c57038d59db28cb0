-- A search among obligations: what it has passed over, and what it stands at. Assumes nothing.
use mathlib.Core.Path.{◌≡◌, refl, sym, ap, ap₂, ◌∙◌, subst}
use mathlib.Core.Bool.{Bool, true, false}
use mathlib.Core.List.{List, [], ◌∷◌, ◌++◌, map, append_assoc, append-nil}
use Prim.Native.Nat.{ℕ, zero, suc, ◌+◌, ◌-◌, ◌≤◌, ◌<◌}
use native.Mathlib.Nat.{zero-add}
use native.Mathlib.Omega.{arith}
use lib.Dec.{eqb}
use lib.ListN.{length, get_or, length-append}
use Rattle.farkas.specs.Lists.{every}
use Rattle.farkas.specs.Rows.{Row, zero_row}
use Rattle.formats.specs.Rows.{Condition}
use Rattle.formats.specs.Model.{Unsafe, Model, Component}
use Rattle.formats.specs.Locations.{location_count, modes_at}
use Rattle.formats.specs.Joint.{JointSwitch, bit, switches_of, joints_of, joints, count_up, join_all}
use Rattle.models.specs.Index.{entry, unsafe_place, unsafe_from, components_from, model_from}
use Rattle.models.specs.Counts.{per_component}
use Rattle.models.proofs.GoodIndexLaws.{counted-at}
use Rattle.formats.proofs.JointCounts.{event-length}
use Rattle.joint_switches.proofs.JointLoops.{record-at}
use Rattle.rules.specs.Runs.{present, modes_in, modes_fit, still_variables}
use Rattle.rules.specs.Obligations.{Hypothesis, Kind, at_start, after_flow, clear_of_unsafe, after_jump, Obligation, on_x, on_next, per_row, start_hypotheses, flow_hypotheses, unsafe_hypotheses, start_obligations, flow_obligations, unsafe_obligations, location_obligations, jump_obligations, jumps_obligations, obligations_over}
use Rattle.hypotheses.specs.Listing.{no_unsafe}
use Rattle.papers.specs.Standing.{Stands}
use Rattle.papers.specs.Paper.{regions_of}
use Rattle.scores.specs.Counting.{target_rows}
use Rattle.rules.specs.Beside.{no_obligation}
use Rattle.rules.specs.Roles.{no_joint}
use Rattle.rules.proofs.RoleLengths.{after-those}
use Rattle.std.specs.declared.ops.ControlFlow.{ControlFlow}
use Rattle.std.specs.declared.ops.ControlFlow.TheVariants.{Break, Continue}
use Rattle.std.specs.ControlFlow.{break_value}
use Rattle.std.specs.Prelude.{Option, IfSome, option_map}
use Rattle.queries.specs.declared.Spot.{Spot}
use Rattle.queries.specs.declared.JumpLine.{JumpLine}
use Rattle.queries.specs.declared.Sought.{Sought}
use Rattle.queries.specs.declared.Sought.TheVariants as sought
use Rattle.queries.specs.Finding.{one_at, group_obligations, group_kind, group_line, group_hypotheses, group_one, joint_here, joint_hypotheses, joint_one, jump_one, sought_one, sought_in, KnownSought, paper_obligations, Passing, NumberedIn, SoughtIn}
use Rattle.papers.proofs.JoinedLaws.{joined_on, joined-first, joined-none, joined-whole}
use Rattle.scores.proofs.CountGoals.{jumps-length}

-- The obligation with a number, of two lists one after the other
pub one-first : (xs ys : List Obligation) (o : ℕ) → o < length xs → one_at (xs ++ ys) o ≡ one_at xs o
unfolding one_at
one-first [] ys o h = absurd (omega arith)
one-first (x ∷ xs) ys zero h = refl
one-first (x ∷ xs) ys (suc o) h = one-first xs ys o (omega arith)

pub one_later : (xs ys : List Obligation) (o : ℕ) → length xs ≤ o → one_at (xs ++ ys) o ≡ one_at ys (o - length xs)
unfolding one_at
one_later [] ys o h = ap (one_at ys) (none o)
  where
    none : (o : ℕ) → o ≡ o - 0
    none o = omega arith
one_later (x ∷ xs) ys zero h = absurd (omega arith)
one_later (x ∷ xs) ys (suc o) h = one_later xs ys o (omega arith) ∙ ap (one_at ys) (same o (length xs))
  where
    same : (o n : ℕ) → o - n ≡ suc o - suc n
    same o n = omega arith

pub one_kept : (xs ys : List Obligation) (o : ℕ) {x : Obligation} → one_at xs o ≡ x ∷ [] → one_at (xs ++ ys) o ≡ x ∷ []
unfolding one_at
one_kept [] ys o e = absurd (omega (arith, ap (λ (os : List Obligation). length os) e))
one_kept (x ∷ xs) ys zero e = e
one_kept (x ∷ xs) ys (suc o) e = one_kept xs ys o e

pub one-gone : (all : List Obligation) (o : ℕ) → length all ≤ o → one_at all o ≡ []
unfolding one_at
one-gone [] o h = refl
one-gone (x ∷ all) zero h = absurd (omega (arith, h))
one-gone (x ∷ all) (suc o) h = one-gone all o (omega (arith, h))

-- one turn of a search over numbers
module _ (f : ℕ → List Obligation) (n : ℕ) (rest : List Obligation) (i left : ℕ) (h : i < n) where
  split : joined_on f n i ++ rest ≡ f i ++ (joined_on f n (i + 1) ++ rest)
  split = ap (λ (xs : List Obligation). xs ++ rest) (joined-first f n i h) ∙ append_assoc (f i) (joined_on f n (i + 1)) rest

  pub one_on_lem : {goals : ℕ} {one : List Obligation} → goals ≡ length (f i) → goals ≤ left → one_at (joined_on f n i ++ rest) left ≡ one → one_at (joined_on f n (i + 1) ++ rest) (left - goals) ≡ one
  one_on_lem e l c =
      ap (λ (k : ℕ). one_at (joined_on f n (i + 1) ++ rest) (left - k)) e
      ∙ sym (one_later (f i) (joined_on f n (i + 1) ++ rest) left (subst (λ (k : ℕ). k ≤ left) e l))
      ∙ ap (λ (xs : List Obligation). one_at xs left) (sym split)
      ∙ c

  pub one-here : {one : List Obligation} → left < length (f i) → one_at (joined_on f n i ++ rest) left ≡ one → one_at (f i) left ≡ one
  one-here l c = sym (one-first (f i) (joined_on f n (i + 1) ++ rest) left l) ∙ ap (λ (xs : List Obligation). one_at xs left) (sym split) ∙ c

  -- what is still inside
  pub inside_on : {goals : ℕ} → goals ≡ length (f i) → goals ≤ left → left < length (joined_on f n i) → left - goals < length (joined_on f n (i + 1))
  inside_on e l c =
      let sum : length (joined_on f n i) ≡ length (f i) + length (joined_on f n (i + 1)) = ap (λ (xs : List Obligation). length xs) (joined-first f n i h) ∙ length-append (f i) (joined_on f n (i + 1)) in
      omega (arith, e, l, c, sum)

pub one-past : (f : ℕ → List Obligation) (n i : ℕ) (rest : List Obligation) (left : ℕ) {one : List Obligation} → n ≤ i → one_at (joined_on f n i ++ rest) left ≡ one → one_at rest left ≡ one
one-past f n i rest left h c = ap (λ (xs : List Obligation). one_at (xs ++ rest) left) (sym (joined-none f n i h)) ∙ c

pub inside-end : {A : Type 0} (f : ℕ → List A) (n i left : ℕ) → n ≤ i → left < length (joined_on f n i) → ⊥
inside-end f n i left h c =
    let none : length (joined_on f n i) ≡ 0 = ap (λ xs. length xs) (joined-none f n i h) in
    omega (arith, c, none)

-- Joint switches, with their numbers
module _ (m : Model) (region_at : ℕ → Condition) where
  abbrev jumps : ℕ → List JointSwitch → List Obligation
  jumps = jumps_obligations m region_at

  jumps-both : (number : ℕ) (xs ys : List JointSwitch) → jumps number (xs ++ ys) ≡ jumps number xs ++ jumps (number + length xs) ys
  unfolding jumps_obligations
  jumps-both number [] ys = ap (λ (k : ℕ). jumps_obligations m region_at k ys) (none number)
    where
      none : (n : ℕ) → n ≡ n + 0
      none n = omega arith
  jumps-both number (j ∷ xs) ys =
      ap (λ (os : List Obligation). jump_obligations m region_at number j ++ os) (jumps-both (suc number) xs ys)
      ∙ sym (append_assoc (jump_obligations m region_at number j) (jumps (suc number) xs) (jumps (suc number + length xs) ys))
      ∙ ap (λ (k : ℕ). (jump_obligations m region_at number j ++ jumps (suc number) xs) ++ jumps k ys) (next number (length xs))
    where
      next : (n k : ℕ) → suc n + k ≡ n + suc k
      next n k = omega arith

  targets-both : (xs ys : List JointSwitch) → length (target_rows region_at (xs ++ ys)) ≡ length (target_rows region_at xs) + length (target_rows region_at ys)
  targets-both xs ys =
      sym (jumps-length m region_at 0 (xs ++ ys))
      ∙ ap (λ (os : List Obligation). length os) (jumps-both 0 xs ys)
      ∙ length-append (jumps 0 xs) (jumps (0 + length xs) ys)
      ∙ ap₂ (λ (i k : ℕ). i + k) (jumps-length m region_at 0 xs) (jumps-length m region_at (0 + length xs) ys)

  none_rows : length (target_rows region_at []) ≡ 0
  unfolding target_rows join_all
  none_rows = refl

  none-one : (number left : ℕ) → one_at (jumps number []) left ≡ []
  unfolding jumps_obligations one_at
  none-one number left = refl

  -- nothing is passed over yet
  pub passing-starts : (all : List JointSwitch) (first o : ℕ) → Passing m region_at all all first o first o
  passing-starts all first o = record { leads = refl; passed = []; parted = refl; counted = refl; rows = refl }

  -- some are, the first of those that are left
  pub passing-on : {all : List JointSwitch} {first o number left next right : ℕ} (xs ys : List JointSwitch) → Passing m region_at all (xs ++ ys) first o number left → Passing m region_at xs [] number left next right → Passing m region_at all ys first o next right
  passing-on {all} {first} {o} {number} {left} {next} {right} xs ys p q =
      let size : length (jumps number xs) ≡ length (target_rows region_at xs) = jumps-length m region_at number xs in
      let moved : next ≡ number + length xs = omega (arith, q.counted) in
      let less : right ≡ left - length (jumps number xs) = omega (arith, q.rows, none_rows, size) in
      let enough : length (jumps number xs) ≤ left = omega (arith, q.rows, none_rows, size) in
      record {
        leads = ap₂ (λ (k n : ℕ). one_at (jumps k ys) n) moved less
            ∙ sym (one_later (jumps number xs) (jumps (number + length xs) ys) left enough)
            ∙ ap (λ (os : List Obligation). one_at os left) (sym (jumps-both number xs ys))
            ∙ p.leads;
        passed = p.passed ++ xs;
        parted = p.parted ∙ sym (append_assoc p.passed xs ys);
        counted = omega (arith, p.counted, q.counted, length-append xs ys);
        rows = omega (arith, p.rows, q.rows, none_rows, targets-both xs ys);
      }

  -- what is found among the first is found in all
  pub passing-found : {all : List JointSwitch} {first o number left : ℕ} {x : Obligation} (xs ys : List JointSwitch) → Passing m region_at all (xs ++ ys) first o number left → x ∷ [] ≡ one_at (jumps number xs) left → x ∷ [] ≡ one_at (jumps first all) o
  passing-found {number = number} {left = left} xs ys p e =
      sym (one_kept (jumps number xs) (jumps (number + length xs) ys) left (sym e))
      ∙ ap (λ (os : List Obligation). one_at os left) (sym (jumps-both number xs ys))
      ∙ p.leads

  -- and so is the number of a joint switch among the first
  pub passing-number : {all : List JointSwitch} {first o number left i : ℕ} {j : JointSwitch} (xs ys : List JointSwitch) → Passing m region_at all (xs ++ ys) first o number left → NumberedIn xs number i j → NumberedIn all first i j
  passing-number {all = all} {j = j} xs ys p w =
      let longer : length all ≡ length (p.passed ++ (xs ++ ys)) = ap (λ (js : List JointSwitch). length js) p.parted in
      record {
        before = p.passed ++ w.before;
        after = w.after ++ ys;
        parted = p.parted
            ∙ ap (λ (js : List JointSwitch). p.passed ++ (js ++ ys)) w.parted
            ∙ ap (λ (js : List JointSwitch). p.passed ++ js) (append_assoc w.before (j ∷ w.after) ys)
            ∙ sym (append_assoc p.passed w.before (j ∷ (w.after ++ ys)));
        counted = omega (arith, w.counted, p.counted, longer, length-append p.passed (xs ++ ys), length-append p.passed w.before);
      }

  pub passing-few : {all : List JointSwitch} {first o number left : ℕ} (xs ys : List JointSwitch) → Passing m region_at all (xs ++ ys) first o number left → first + length all ≤ 4096 → number + length xs ≤ 4096
  passing-few xs ys p l = omega (arith, p.counted, l, length-append xs ys)

  module _ (f : ℕ → List JointSwitch) (n : ℕ) {all : List JointSwitch} {first o number left : ℕ} (i : ℕ) where
    pub passing-split : i < n → Passing m region_at all (joined_on f n i) first o number left → Passing m region_at all (f i ++ joined_on f n (i + 1)) first o number left
    passing-split h p = subst (λ (xs : List JointSwitch). Passing m region_at all xs first o number left) (joined-first f n i h) p

    pub passing-end : n ≤ i → Passing m region_at all (joined_on f n i) first o number left → Passing m region_at all [] first o number left
    passing-end h p = subst (λ (xs : List JointSwitch). Passing m region_at all xs first o number left) (joined-none f n i h) p

-- the joint switches of an event are those found by their numbers
each-one : {A : Type 0} (xs : List A) (k : ℕ) (at : ℕ → A) → ((i : ℕ) → (d : A) → i < length xs → get_or xs i d ≡ at (k + i)) → join_all (λ i. at i ∷ []) (count_up k (length xs)) ≡ xs
unfolding join_all count_up
each-one [] k at h = refl
each-one (x ∷ xs) k at h =
    ap₂ (λ y ys. y ∷ ys) (sym (h 0 x (omega arith) ∙ ap at (none k)))
    (each-one xs (suc k) at (λ i d l. h (suc i) d (omega arith) ∙ ap at (next k i)))
  where
    none : (k : ℕ) → k + 0 ≡ k
    none k = omega arith

    next : (k i : ℕ) → k + suc i ≡ suc k + i
    next k i = omega arith

pub event-each : (model index : List ℕ) (location e : ℕ) → joined_on (λ x. joint_here model index location e x ∷ []) (length (switches_of (components_from model index) (modes_at (components_from model index) location) e)) 0 ≡ joints_of (components_from model index) location e
unfolding joint_here
event-each model index location e =
    let components = components_from model index in
    joined-whole (λ x. joint_here model index location e x ∷ []) (length (switches_of components (modes_at components location) e))
    ∙ ap (λ (n : ℕ). join_all (λ x. joint_here model index location e x ∷ []) (count_up 0 n)) (sym (event-length components location e))
    ∙ each-one (joints_of components location e) 0 (joint_here model index location e)
    (λ i d l. record-at components location e i d (omega (arith, l, event-length components location e)) ∙ ap (joint_here model index location e) (from-none i))
  where
    from-none : (i : ℕ) → i ≡ 0 + i
    from-none i = omega arith

-- One obligation per row: its kind, subject, line and hypotheses
rows-each : (kind : Kind) (subject : ℕ) (hypotheses : List Hypothesis) (put : Row → Row) (line : ℕ) (region : Condition) → length (per_row kind subject hypotheses put line region) ≡ length region
unfolding per_row
rows-each kind subject hypotheses put line [] = refl
rows-each kind subject hypotheses put line (r ∷ region) = ap suc (rows-each kind subject hypotheses put (suc line) region)

row_one : (kind : Kind) (subject : ℕ) (hypotheses : List Hypothesis) (put : Row → Row) (line : ℕ) (region : Condition) (i : ℕ) → i < length region → one_at (per_row kind subject hypotheses put line region) i ≡ record { kind = kind; subject = subject; line = line + i; hypotheses = hypotheses; goal = (get_or (per_row kind subject hypotheses put line region) i no_obligation).goal } ∷ []
unfolding per_row one_at
row_one kind subject hypotheses put line [] i h = absurd (omega arith)
row_one kind subject hypotheses put line (r ∷ region) zero h = ap (λ (k : ℕ). record { kind = kind; subject = subject; line = k; hypotheses = hypotheses; goal = put r.row } ∷ []) (none line)
  where
    none : (n : ℕ) → n ≡ n + 0
    none n = omega arith
row_one kind subject hypotheses put line (r ∷ region) (suc i) h =
    row_one kind subject hypotheses put (suc line) region i (omega arith)
    ∙ ap (λ (k : ℕ). record { kind = kind; subject = subject; line = k; hypotheses = hypotheses; goal = (get_or (per_row kind subject hypotheses put (suc line) region) i no_obligation).goal } ∷ []) (next line i)
  where
    next : (n i : ℕ) → suc n + i ≡ n + suc i
    next n i = omega arith

from_first : (i : ℕ) → 0 + i ≡ i
from_first i = omega arith

-- the groups of a location
module _ (m : Model) (region_at : ℕ → Condition) (location : ℕ) where
  abbrev condition-one : Unsafe → ℕ → Obligation
  condition-one x from = record { kind = clear_of_unsafe; subject = location; line = from; hypotheses = unsafe_hypotheses (region_at location) (modes_in m location) x.rows; goal = zero_row }

  unsafe-cons : (x : Unsafe) (from : ℕ) (rest : List Unsafe) → unsafe_obligations m region_at location from (x ∷ rest) ≡ unsafe_obligations m region_at location from (x ∷ []) ++ unsafe_obligations m region_at location (suc from) rest
  unfolding unsafe_obligations
  unsafe-cons x from rest = go (modes_fit x.modes (modes_at m.components location))
    where
      go : (b : Bool) → ◌≡◌ {A = List Obligation} (elim b [ true ↦ condition-one x from ∷ unsafe_obligations m region_at location (suc from) rest | false ↦ unsafe_obligations m region_at location (suc from) rest ]) ((elim b as (λ _. List Obligation) [ true ↦ condition-one x from ∷ [] | false ↦ [] ]) ++ unsafe_obligations m region_at location (suc from) rest)
      go true = refl
      go false = refl

  -- an obligation by its line in a group
  start-one : (line : ℕ) → line < length (start_obligations m region_at location) → one_at (start_obligations m region_at location) line ≡ group_one m region_at location 0 line ∷ []
  unfolding start_obligations group_one group_obligations group_kind group_line group_hypotheses
  start-one line h = go (every (λ mode. eqb mode.start 1) (modes_in m location)) h
    where
      go : (b : Bool) → line < length {A = Obligation} (elim b [ true ↦ per_row at_start location (start_hypotheses (modes_in m location)) on_x 0 (region_at location) | false ↦ [] ]) → one_at (elim b [ true ↦ per_row at_start location (start_hypotheses (modes_in m location)) on_x 0 (region_at location) | false ↦ [] ]) line ≡ record { kind = at_start; subject = location; line = line; hypotheses = start_hypotheses (modes_in m location); goal = (get_or {A = Obligation} (elim b [ true ↦ per_row at_start location (start_hypotheses (modes_in m location)) on_x 0 (region_at location) | false ↦ [] ]) line no_obligation).goal } ∷ []
      go true l =
          let rows = per_row at_start location (start_hypotheses (modes_in m location)) on_x 0 (region_at location) in
          row_one at_start location (start_hypotheses (modes_in m location)) on_x 0 (region_at location) line (omega (arith, l, rows-each at_start location (start_hypotheses (modes_in m location)) on_x 0 (region_at location)))
          ∙ ap (λ (k : ℕ). record { kind = at_start; subject = location; line = k; hypotheses = start_hypotheses (modes_in m location); goal = (get_or rows line no_obligation).goal } ∷ []) (from_first line)
      go false l = absurd (omega (arith, l))

  flow-one : (line : ℕ) → line < length (flow_obligations m region_at location) → one_at (flow_obligations m region_at location) line ≡ group_one m region_at location 1 line ∷ []
  unfolding flow_obligations group_one group_obligations group_kind group_line group_hypotheses
  flow-one line h =
      let hypotheses = flow_hypotheses m.variables (region_at location) (modes_in m location) (still_variables m location) in
      row_one after_flow location hypotheses (on_next m.variables) 0 (region_at location) line (omega (arith, h, rows-each after_flow location hypotheses (on_next m.variables) 0 (region_at location)))
      ∙ ap (λ (k : ℕ). record { kind = after_flow; subject = location; line = k; hypotheses = hypotheses; goal = (get_or (per_row after_flow location hypotheses (on_next m.variables) 0 (region_at location)) line no_obligation).goal } ∷ []) (from_first line)

  unsafe-one : (u line : ℕ) → line < length (group_obligations m region_at location (suc (suc u))) → one_at (group_obligations m region_at location (suc (suc u))) line ≡ group_one m region_at location (suc (suc u)) line ∷ []
  unfolding unsafe_obligations group_one group_obligations group_kind group_line group_hypotheses one_at
  unsafe-one u line h = go (modes_fit (get_or m.unsafe u no_unsafe).modes (modes_at m.components location)) line h
    where
      go : (b : Bool) (line : ℕ) → line < length {A = Obligation} (elim b [ true ↦ condition-one (get_or m.unsafe u no_unsafe) u ∷ [] | false ↦ [] ]) → one_at (elim b [ true ↦ condition-one (get_or m.unsafe u no_unsafe) u ∷ [] | false ↦ [] ]) line ≡ record { kind = clear_of_unsafe; subject = location; line = u; hypotheses = unsafe_hypotheses (region_at location) (modes_in m location) (get_or m.unsafe u no_unsafe).rows; goal = (get_or {A = Obligation} (elim b [ true ↦ condition-one (get_or m.unsafe u no_unsafe) u ∷ [] | false ↦ [] ]) line no_obligation).goal } ∷ []
      go true zero l = refl
      go true (suc line) l = absurd (omega (arith, l))
      go false line l = absurd (omega (arith, l))

  pub group-one : (g line : ℕ) → line < length (group_obligations m region_at location g) → one_at (group_obligations m region_at location g) line ≡ group_one m region_at location g line ∷ []
  unfolding group_obligations
  group-one zero line h = start-one line h
  group-one (suc zero) line h = flow-one line h
  group-one (suc (suc u)) line h = unsafe-one u line h

  -- how many goals a group has
  pub start-goals : {b : Bool} (rows : ℕ) → b ≡ every (λ mode. eqb mode.start 1) (modes_in m location) → b ≡ true → rows ≡ length (region_at location) → rows ≡ length (group_obligations m region_at location 0)
  unfolding group_obligations start_obligations
  start-goals rows e t r =
      r
      ∙ sym (rows-each at_start location (start_hypotheses (modes_in m location)) on_x 0 (region_at location))
      ∙ ap (λ (b : Bool). length {A = Obligation} (elim b [ true ↦ per_row at_start location (start_hypotheses (modes_in m location)) on_x 0 (region_at location) | false ↦ [] ])) (sym t ∙ e)

  pub start-no-goals : {b : Bool} → b ≡ every (λ mode. eqb mode.start 1) (modes_in m location) → b ≡ false → 0 ≡ length (group_obligations m region_at location 0)
  unfolding group_obligations start_obligations
  start-no-goals e t = ap (λ (b : Bool). length {A = Obligation} (elim b [ true ↦ per_row at_start location (start_hypotheses (modes_in m location)) on_x 0 (region_at location) | false ↦ [] ])) (sym t ∙ e)

  pub flow-goals : (rows : ℕ) → rows ≡ length (region_at location) → rows ≡ length (group_obligations m region_at location 1)
  unfolding group_obligations flow_obligations
  flow-goals rows r = r ∙ sym (rows-each after_flow location (flow_hypotheses m.variables (region_at location) (modes_in m location) (still_variables m location)) (on_next m.variables) 0 (region_at location))

  pub unsafe-goals : (u n : ℕ) {b : Bool} → b ≡ modes_fit (get_or m.unsafe u no_unsafe).modes (modes_at m.components location) → n ≡ bit b → n ≡ length (group_obligations m region_at location (suc (suc u)))
  unfolding group_obligations unsafe_obligations bit
  unsafe-goals u n e k = k ∙ ap bit e ∙ go (modes_fit (get_or m.unsafe u no_unsafe).modes (modes_at m.components location))
    where
      go : (b : Bool) → bit b ≡ length {A = Obligation} (elim b [ true ↦ condition-one (get_or m.unsafe u no_unsafe) u ∷ [] | false ↦ [] ])
      go true = refl
      go false = refl

  -- an obligation by its line at a joint switch
  pub joint-one : (number : ℕ) (j : JointSwitch) (line : ℕ) → line < length (region_at j.target) → one_at (jumps_obligations m region_at number (j ∷ [])) line ≡ joint_one m region_at number j line ∷ []
  unfolding jumps_obligations jump_obligations joint_one joint_hypotheses
  joint-one number j line h =
      let hypotheses = joint_hypotheses m region_at j in
      let rows = per_row after_jump number hypotheses (on_next m.variables) 0 (region_at j.target) in
      one-first rows [] line (omega (arith, h, rows-each after_jump number hypotheses (on_next m.variables) 0 (region_at j.target)))
      ∙ row_one after_jump number hypotheses (on_next m.variables) 0 (region_at j.target) line h
      ∙ ap (λ (k : ℕ). record { kind = after_jump; subject = number; line = k; hypotheses = hypotheses; goal = (get_or rows line no_obligation).goal } ∷ []) (from_first line)

  pub joint-lines : (j : JointSwitch) → length (target_rows region_at (j ∷ [])) ≡ length (region_at j.target)
  unfolding target_rows join_all
  joint-lines j = ap (λ (rows : Condition). length rows) (append-nil (region_at j.target))

-- the groups of a location make its obligations
module _ (model index : List ℕ) (region_at : ℕ → Condition) (location : ℕ) where
  abbrev condition : ℕ → Unsafe
  condition u = unsafe_from model (entry index 11) (entry index 0) (entry index 1) index (unsafe_place u)

  pub condition-at : (u : ℕ) → u < entry index 2 → get_or (model_from model index).unsafe u no_unsafe ≡ condition u
  unfolding model_from
  condition-at u h = counted-at condition (entry index 2) u no_unsafe h

  conditions-left : (u d : ℕ) → u + d ≤ entry index 2 → join_all (group_obligations (model_from model index) region_at location) (count_up (suc (suc u)) d) ≡ unsafe_obligations (model_from model index) region_at location u (map condition (count_up u d))
  unfolding join_all count_up unsafe_obligations group_obligations
  conditions-left u zero h = refl
  conditions-left u (suc d) h =
      ap₂ (λ (x : Unsafe) (ys : List Obligation). unsafe_obligations (model_from model index) region_at location u (x ∷ []) ++ ys) (condition-at u (omega arith)) (conditions-left (suc u) d (omega arith))
      ∙ sym (unsafe-cons (model_from model index) region_at location (condition u) u (map condition (count_up (suc u) d)))

  location-parts : location_obligations (model_from model index) region_at location ≡ join_all (group_obligations (model_from model index) region_at location) (count_up 0 (suc (suc (entry index 2))))
  unfolding location_obligations join_all count_up group_obligations model_from
  location-parts =
      let m = model_from model index in
      ap (λ (xs : List Obligation). start_obligations m region_at location ++ (flow_obligations m region_at location ++ xs)) (sym (conditions-left 0 (entry index 2) (none (entry index 2))))
    where
      none : (n : ℕ) → 0 + n ≤ n
      none n = omega arith

  pub location-groups : (groups : ℕ) → groups ≡ 2 + entry index 2 → location_obligations (model_from model index) region_at location ≡ joined_on (group_obligations (model_from model index) region_at location) groups 0
  location-groups groups e =
      location-parts ∙ ap (λ (n : ℕ). join_all (group_obligations (model_from model index) region_at location) (count_up 0 n)) (all groups (entry index 2) e)
    where
      all : (groups n : ℕ) → groups ≡ 2 + n → suc (suc n) ≡ groups - 0
      all groups n e = omega (arith, e)

-- all obligations of a paper, by location, then by joint switch
pub paper-start : (model index second regions : List ℕ) (locations o : ℕ) → locations ≡ location_count (components_from model index) → one_at (joined_on (location_obligations (model_from model index) (regions_of model index second regions)) locations 0 ++ jumps_obligations (model_from model index) (regions_of model index second regions) 0 (joints (components_from model index))) o ≡ one_at (paper_obligations model index second regions) o
unfolding paper_obligations obligations_over
paper-start model index second regions locations o e =
    ap (λ (n : ℕ). one_at (join_all (location_obligations (model_from model index) (regions_of model index second regions)) (count_up 0 n) ++ jumps_obligations (model_from model index) (regions_of model index second regions) 0 (joints (components_from model index))) o) (whole locations ∙ e)
  where
    whole : (n : ℕ) → n - 0 ≡ n
    whole n = omega arith

-- all joint switches, by location
pub joints-by-location : (components : List Component) (locations : ℕ) → locations ≡ location_count components → joined_on (λ l. join_all (joints_of components l) (count_up 0 16)) locations 0 ≡ joints components
unfolding joints
joints-by-location components locations e = ap (λ (n : ℕ). join_all (λ l. join_all (joints_of components l) (count_up 0 16)) (count_up 0 n)) (whole locations ∙ e)
  where
    whole : (n : ℕ) → n - 0 ≡ n
    whole n = omega arith

-- the tests that the code makes are those of the definition
module _ (model index : List ℕ) (region_at : ℕ → Condition) (location : ℕ) where
  pub fits-there : (u : ℕ) (modes : List ℕ) → u < entry index 2 → Stands model index location modes → modes_fit (unsafe_from model (entry index 11) (entry index 0) (entry index 1) index (unsafe_place u)).modes (per_component index modes) ≡ modes_fit (get_or (model_from model index).unsafe u no_unsafe).modes (modes_at (model_from model index).components location)
  unfolding model_from
  fits-there u modes h stands = ap₂ (λ (x : Unsafe) (ms : List ℕ). modes_fit x.modes ms) (sym (condition-at model index region_at location u h)) stands.here

  pub start-there : (modes : List ℕ) → Stands model index location modes → every (λ mode. eqb mode.start 1) (present (components_from model index) (per_component index modes)) ≡ every (λ mode. eqb mode.start 1) (modes_in (model_from model index) location)
  unfolding modes_in model_from
  start-there modes stands = ap (λ (ms : List ℕ). every (λ mode. eqb mode.start 1) (present (components_from model index) ms)) stands.here

-- A turn of a search among joint switches: what has the obligation among the first has it in all
module _ (model index : List ℕ) (f : ℕ → List JointSwitch) (n i : ℕ) {region_at : ℕ → Condition} {all : List JointSwitch} {first o number left : ℕ} (h : i < n) (p : Passing (model_from model index) region_at all (joined_on f n i) first o number left) where
  abbrev parts : Passing (model_from model index) region_at all (f i ++ joined_on f n (i + 1)) first o number left
  parts = passing-split (model_from model index) region_at f n i h p

  pub few-here : first + length all ≤ 4096 → number + length (f i) ≤ 4096
  few-here = passing-few (model_from model index) region_at (f i) (joined_on f n (i + 1)) parts

  module _ {r : ControlFlow JumpLine Spot} (w : SoughtIn model index region_at (f i) number left r) where
    pub in-joint : {found : ControlFlow JumpLine Spot} {j : JumpLine} → r ≡ Break j → found ≡ Break j → SoughtIn model index region_at all first o found
    unfolding SoughtIn
    in-joint {found} {j} q same =
        let v = subst (SoughtIn model index region_at (f i) number left) q w in
        let first-in : SoughtIn model index region_at all first o (Break j) = (v.0, (passing-found (model_from model index) region_at (f i) (joined_on f n (i + 1)) parts v.1.0, passing-number (model_from model index) region_at (f i) (joined_on f n (i + 1)) parts v.1.1)) in
        subst (SoughtIn model index region_at all first o) (sym same) first-in

    pub in_rest : {spot : Spot} → r ≡ Continue spot → Passing (model_from model index) region_at all (joined_on f n (i + 1)) first o spot.at spot.left
    unfolding SoughtIn
    in_rest e =
        let v = subst (SoughtIn model index region_at (f i) number left) e w in
        passing-on (model_from model index) region_at (f i) (joined_on f n (i + 1)) parts v

-- what a search that has ended tells
sought-beyond : (model index : List ℕ) {region_at : ℕ → Condition} {all : List JointSwitch} {first o : ℕ} {spot : Spot} → Passing (model_from model index) region_at all [] first o spot.at spot.left → SoughtIn model index region_at all first o (Continue spot)
unfolding SoughtIn
sought-beyond model index p = p

pub in-none : (model index : List ℕ) (f : ℕ → List JointSwitch) (n i : ℕ) {region_at : ℕ → Condition} {all : List JointSwitch} {first o : ℕ} {spot : Spot} → n ≤ i → Passing (model_from model index) region_at all (joined_on f n i) first o spot.at spot.left → SoughtIn model index region_at all first o (Continue spot)
in-none model index f n i {region_at} {spot = spot} h p = sought-beyond model index {spot = spot} (passing-end (model_from model index) region_at f n i h p)

numbered-at : (all : List JointSwitch) (number : ℕ) (j : JointSwitch) → NumberedIn all 0 number j → get_or all number no_joint ≡ j
numbered-at all number j w =
    ap₂ (λ (js : List JointSwitch) (i : ℕ). get_or js i no_joint) w.parted (w.counted ∙ zero-add (length w.before))
    ∙ after-those w.before j w.after no_joint

-- what a search among all of them tells, found or not
pub record FoundIn (model index : List ℕ) (region_at : ℕ → Condition) (all : List JointSwitch) (o : ℕ) (r : Option Sought) : Type 0 where
  pub value : sought_in model index region_at r ≡ one_at (jumps_obligations (model_from model index) region_at 0 all) o
  pub known : IfSome r (KnownSought model index)

pub sought-found : (model index : List ℕ) (region_at : ℕ → Condition) (o : ℕ) (r : ControlFlow JumpLine Spot) → SoughtIn model index region_at (joints (components_from model index)) 0 o r → FoundIn model index region_at (joints (components_from model index)) o (option_map sought.AtJoint (break_value r))
unfolding SoughtIn sought_in sought_one KnownSought jumps_obligations one_at
sought-found model index region_at o (Break j) w = record { value = w.1.0; known = (w.0, numbered-at (joints (components_from model index)) j.number (joint_here model index j.location j.event j.nth) w.1.1) }
sought-found model index region_at o (Continue spot) w = record { value = w.leads; known = tt }

-- the joint switches of one event, one by one
abbrev pub event_size : List ℕ → List ℕ → ℕ → ℕ → ℕ
event_size model index location e = length (switches_of (components_from model index) (modes_at (components_from model index) location) e)

abbrev pub each_on : List ℕ → List ℕ → ℕ → ℕ → ℕ → List JointSwitch
each_on model index location e = joined_on (λ x. joint_here model index location e x ∷ []) (event_size model index location e)

module _ (model index : List ℕ) (region_at : ℕ → Condition) (location e first o : ℕ) where
  pub each-starts : Passing (model_from model index) region_at (joints_of (components_from model index) location e) (each_on model index location e 0) first o (first + 0) o
  each-starts =
      let m = model_from model index in
      let event = joints_of (components_from model index) location e in
      subst (λ (k : ℕ). Passing m region_at event (each_on model index location e 0) first o k o) (none first)
      (subst (λ (xs : List JointSwitch). Passing m region_at event xs first o first o) (sym (event-each model index location e)) (passing-starts m region_at event first o))
    where
      none : (n : ℕ) → n ≡ n + 0
      none n = omega arith

  -- an event that has none
  pub none-there : joints_of (components_from model index) location e ≡ [] → SoughtIn model index region_at (joints_of (components_from model index) location e) first o (Continue (record { at = first; left = o }))
  none-there h =
      let m = model_from model index in
      let event = joints_of (components_from model index) location e in
      sought-beyond model index {spot = record { at = first; left = o }} (subst (λ (xs : List JointSwitch). Passing m region_at event xs first o first o) h (passing-starts m region_at event first o))

module _ (model index : List ℕ) (location e at : ℕ) where
  abbrev event : List JointSwitch
  event = joints_of (components_from model index) location e

  abbrev m : Model
  m = model_from model index

  abbrev here : JointSwitch
  here = joint_here model index location e at

  module _ {region_at : ℕ → Condition} {first o left : ℕ} (h : at < event_size model index location e) (p : Passing m region_at event (each_on model index location e at) first o (first + at) left) where
    abbrev whole : Passing m region_at event ((here ∷ []) ++ each_on model index location e (at + 1)) first o (first + at) left
    whole = passing-split m region_at (λ x. joint_here model index location e x ∷ []) (event_size model index location e) at h p

    module _ {goals : ℕ} (q : goals ≡ length (region_at here.target)) where
      passed : goals ≤ left → Passing m region_at (here ∷ []) [] (first + at) left (first + (at + 1)) (left - goals)
      passed l =
          let rows : length (target_rows region_at (here ∷ [])) ≡ goals = joint-lines m region_at location here ∙ sym q in
          record {
            passed = here ∷ [];
            parted = refl;
            leads = none-one m region_at (first + (at + 1)) (left - goals) ∙ sym (one-gone (jumps_obligations m region_at (first + at) (here ∷ [])) left (omega (arith, l, rows, jumps-length m region_at (first + at) (here ∷ []))));
            counted = omega arith;
            rows = omega (arith, l, rows, none_rows m region_at);
          }

      pub each_on_lem : goals ≤ left → Passing m region_at event (each_on model index location e (at + 1)) first o (first + (at + 1)) (left - goals)
      each_on_lem l = passing-on m region_at (here ∷ []) (each_on model index location e (at + 1)) whole (passed l)

      pub each-found : location < location_count (components_from model index) → e ≤ 15 → left < goals → SoughtIn model index region_at event first o (Break (record { number = first + at; location = location; event = e; nth = at; line = left }))
      unfolding SoughtIn jump_one
      each-found a b l =
          let alone : NumberedIn (here ∷ []) (first + at) (first + at) here = record { before = []; after = []; parted = refl; counted = omega arith } in
          ((a, (b, h)), (passing-found m region_at (here ∷ []) (each_on model index location e (at + 1)) whole (sym (joint-one m region_at location (first + at) here left (omega (arith, l, q)))), passing-number m region_at (here ∷ []) (each_on model index location e (at + 1)) whole alone))
