-- The loops over joint switches: what is still to come, and a part that was marked by itself. Assumes nothing.
use mathlib.Core.Path.{◌≡◌, refl, sym, ap, ap₂, ◌∙◌, subst}
use mathlib.Core.List.{List, [], ◌∷◌, ◌++◌, map-append}
use Prim.Native.Nat.{ℕ, suc, ◌+◌, ◌*◌, ◌≤◌, ◌<◌}
use lib.IntN.{ℤ}
use native.Mathlib.Numerals.{add-one}
use native.Mathlib.Omega.{arith}
use lib.ListN.{length, get_or, drop, drop_of_length-le}
use lib.Seq.{drop-cons}
use Rattle.formats.specs.Rows.{Condition}
use Rattle.formats.specs.Model.{Component, Model}
use Rattle.formats.specs.Locations.{location_count, modes_at, location_of}
use Rattle.formats.specs.Joint.{count_up, join_all, switches_of, modes_after, JointSwitch, joints_of, joints, joint_from}
use Rattle.models.specs.Index.{entry, components_from, model_from, GoodIndex, Kept}
use Rattle.models.specs.Counts.{per_component}
use Rattle.joint_switches.specs.declared.Landing.{Landing}
use Rattle.joint_switches.specs.declared.Slot.{Slot}
use Rattle.joint_switches.specs.declared.slots.Way.{Way}
use Rattle.joint_switches.specs.Slots.{landing_in, Listed}
use Rattle.papers.specs.Standing.{Stands}
use Rattle.papers.proofs.LandedLaws.{landed-first, landed-target}
use Rattle.papers.proofs.JoinedLaws.{joined_on, joined-first, joined-whole}
use Rattle.hypotheses.specs.Tables.{Stacked}
use Rattle.hypotheses.proofs.TableLaws.{stacked-kept, lines-kept}
use Rattle.second_sheets.specs.CertificateAnswers.{regions_from}
use Rattle.formats.specs.JointTotals.{event_total}
use Rattle.formats.proofs.JointCounts.{event-length}
use Rattle.formats.proofs.JointProduct.{countable, event-none}
use Rattle.models.proofs.GoodIndexLaws.{good-components}
use Rattle.joint_switches.proofs.JointLoops.{record-at}
use Rattle.std.specs.Prelude.{Result, Ok, Err}
use Rattle.certificates.specs.declared.Marking.{Marking}
use Rattle.certificates.specs.declared.Failed.{Failed}
use Rattle.rules.specs.Obligations.{location_obligations, jump_obligations, jumps_obligations, obligations_over, obligations, after_jump}
use Rattle.rules.specs.Marking.{Marked, passed, mark_proofs}
use Rattle.papers.specs.Paper.{regions_of, obligations_for}
use Rattle.hypotheses.specs.Listing.{Task, tasks, task_of, location_tasks, jump_tasks, joint_tasks, mark_tasks, HereIn}
use Rattle.fields.specs.Causes.{number_of}
use Rattle.certificates.specs.Passed.{stands_at, marked_from, leaving_tasks, Underway, Ready, Fresh}
use Rattle.certificates.specs.declared.Leaving.{Leaving}
use Rattle.rules.proofs.ListFacts.{joined-twice, joined-alike, joined-told}
use Rattle.hypotheses.proofs.GroupLaws.{row-tasks}
use Rattle.certificates.proofs.MarkLaws.{mark-tasks, Goes, goes, parts-passed, parts-stopped}
use Rattle.certificates.proofs.MarkLoops.{Comes, comes-same, comes-end, Going}

-- one joint switch; its number and its event do not matter
module _ (m : Model) (region_at : ℕ → Condition) where
  abbrev pub jump_of : JointSwitch → List Task
  jump_of j = jump_tasks m region_at j.source j.switches j.target

  one-jump : (number : ℕ) (j : JointSwitch) → tasks (jump_obligations m region_at number j) ≡ jump_of j
  unfolding jump_tasks jump_obligations
  one-jump number j = row-tasks after_jump number _ _ 0 (region_at j.target) ∙ sym (row-tasks after_jump 0 _ _ 0 (region_at j.target))

  pub all-jumps : (number : ℕ) (js : List JointSwitch) → tasks (jumps_obligations m region_at number js) ≡ join_all jump_of js
  unfolding jumps_obligations join_all tasks
  all-jumps number [] = refl
  all-jumps number (j ∷ rest) =
      map-append task_of (jump_obligations m region_at number j) (jumps_obligations m region_at (suc number) rest)
      ∙ ap₂ (λ (xs ys : List Task). xs ++ ys) (one-jump number j) (all-jumps (suc number) rest)

  pub joint-jumps : (js : List JointSwitch) → joint_tasks m region_at js ≡ join_all jump_of js
  unfolding joint_tasks
  joint-jumps js = all-jumps 0 js

-- all joint switches, by location and event
module _ (m : Model) (region_at : ℕ → Condition) (components : List Component) where
  abbrev pub event_tasks : ℕ → ℕ → List Task
  event_tasks location e = joint_tasks m region_at (joints_of components location e)

  abbrev pub from_location : ℕ → List Task
  from_location location = join_all (event_tasks location) (count_up 0 16)

  pub joints-parts : joint_tasks m region_at (joints components) ≡ join_all from_location (count_up 0 (location_count components))
  unfolding joints
  joints-parts =
      joint-jumps m region_at (joints components)
      ∙ joined-twice (jump_of m region_at) (λ location. join_all (joints_of components location) (count_up 0 16)) (count_up 0 (location_count components))
      ∙ joined-alike _ from_location (count_up 0 (location_count components))
      (λ location.
      joined-twice (jump_of m region_at) (joints_of components location) (count_up 0 16)
      ∙ joined-alike _ (event_tasks location) (count_up 0 16) (λ e. sym (joint-jumps m region_at (joints_of components location e))))

-- the joint switches of an event, one by one: those from number x on, and the switches of number x
abbrev pub jumps_left : List ℕ → List ℕ → (ℕ → Condition) → ℕ → ℕ → ℕ → List Task
jumps_left model index region_at location e x = join_all (jump_of (model_from model index) region_at) (drop x (joints_of (components_from model index) location e))

abbrev pub found_at : List ℕ → List ℕ → ℕ → ℕ → ℕ → List ℕ
found_at model index location e x = get_or (switches_of (components_from model index) (modes_at (components_from model index) location) e) x []

module _ (model index : List ℕ) (region_at : ℕ → Condition) (location e : ℕ) where
  abbrev here : List JointSwitch
  here = joints_of (components_from model index) location e

  pub jumps-start : joint_tasks (model_from model index) region_at here ≡ jumps_left model index region_at location e 0
  jumps-start = joint-jumps (model_from model index) region_at here

  pub jumps-next : (x : ℕ) → x < length (switches_of (components_from model index) (modes_at (components_from model index) location) e) → jumps_left model index region_at location e x ≡ jump_tasks (model_from model index) region_at location (found_at model index location e x) (location_of (components_from model index) (modes_after (components_from model index) (modes_at (components_from model index) location) (found_at model index location e x))) ++ jumps_left model index region_at location e (x + 1)
  unfolding join_all joint_from
  jumps-next x h =
      let d = joint_from (components_from model index) location e [] in
      ap (join_all (jump_of (model_from model index) region_at)) (drop-cons here x d (omega (arith, h, event-length (components_from model index) location e)))
      ∙ ap (λ (j : JointSwitch). jump_of (model_from model index) region_at j ++ join_all (jump_of (model_from model index) region_at) (drop (suc x) here)) (record-at (components_from model index) location e x d h)
      ∙ ap (λ (i : ℕ). jump_tasks (model_from model index) region_at location (found_at model index location e x) (location_of (components_from model index) (modes_after (components_from model index) (modes_at (components_from model index) location) (found_at model index location e x))) ++ jumps_left model index region_at location e i) (sym (add-one x))

  pub jumps-end : (x : ℕ) → length (switches_of (components_from model index) (modes_at (components_from model index) location) e) ≤ x → jumps_left model index region_at location e x ≡ []
  unfolding join_all
  jumps-end x h = ap (join_all (jump_of (model_from model index) region_at)) (drop_of_length-le here {i = x} (omega (arith, h, event-length (components_from model index) location e)))

-- a part that was marked by itself: where it passed, the rest comes from there
module _ {s : List ℕ} {m : Marking} {r : Result Marking Failed} (ts : List Task) (u : Underway s m) (told : stands_at r ≡ marked_from ts s m) where
  part-passed : {k : Marking} → r ≡ Ok k → mark_tasks ts s m.place m.done ≡ passed tt k.place k.done
  unfolding stands_at
  part-passed e = sym told ∙ ap stands_at e

  pub part-underway : {k : Marking} → r ≡ Ok k → Underway s k
  part-underway e = let w = subst (Goes s) (part-passed e) (goes ts s m.place m.done u.within u.few) in record { within = w.0; few = w.1 }

  module _ {whole : Marked (Unit {0})} (rest : List Task) (c : Comes s whole (ts ++ rest) m.place m.done) where
    pub part-on : {k : Marking} → r ≡ Ok k → Comes s whole rest k.place k.done
    part-on {k} e = sym (parts-passed ts rest s m.place m.done k.place k.done (part-passed e)) ∙ c

    -- what failed is handed on as it is
    pub part-stops : {f : Failed} {x : Result Marking Failed} → r ≡ Err f → x ≡ Err f → stands_at x ≡ whole
    unfolding stands_at
    part-stops {f} e same =
        ap stands_at same
        ∙ sym (parts-stopped ts rest s m.place m.done (number_of f.refusal.0) f.refusal.1 f.done (sym told ∙ ap stands_at e))
        ∙ c

-- the first part of what a loop over numbers has still to do
module _ {s : List ℕ} {m : Marking} {r : Result Marking Failed} {whole : Marked (Unit {0})} (f : ℕ → List Task) (n i : ℕ) (h : i < n) (u : Underway s m) (told : stands_at r ≡ marked_from (f i) s m) (c : Comes s whole (joined_on f n i) m.place m.done) where
  pub turn_on : {k : Marking} → r ≡ Ok k → Comes s whole (joined_on f n (i + 1)) k.place k.done
  turn_on = part-on (f i) u told (joined_on f n (i + 1)) (comes-same s whole m.place m.done (joined-first f n i h) c)

  pub turn-stops : {w : Failed} {x : Result Marking Failed} → r ≡ Err w → x ≡ Err w → stands_at x ≡ whole
  turn-stops = part-stops (f i) u told (joined_on f n (i + 1)) (comes-same s whole m.place m.done (joined-first f n i h) c)

-- what a turn that was marked makes of where a loop over numbers stands
module _ {second table : List ℕ} {sums : List ℤ} {whole : Marked (Unit {0})} {m : Marking} {r : Result Marking Failed} (f : ℕ → List Task) (n i : ℕ) (h : i < n) (g : Going second table sums whole (joined_on f n i) m) (told : stands_at r ≡ marked_from (f i) second m) where
  pub goes_on : {k : Marking} {after : List ℕ} {left : List ℤ} → r ≡ Ok k → Stacked after 0 → Fresh left → Going second after left whole (joined_on f n (i + 1)) k
  goes_on e stacked fresh =
      record {
        underway = part-underway (f i) g.underway told e;
        fresh = fresh;
        stacked = stacked;
        comes = turn_on f n i h g.underway told g.comes e;
      }

  pub goes-wrong : {w : Failed} {x : Result Marking Failed} → r ≡ Err w → x ≡ Err w → stands_at x ≡ whole
  goes-wrong e same = turn-stops f n i h g.underway told g.comes e same

-- coming to the end leaves marking where it stands, and so does nothing to prove
pub marked-end : (s : List ℕ) {whole : Marked (Unit {0})} (m : Marking) {left : List Task} → left ≡ [] → Comes s whole left m.place m.done → stands_at (Ok m) ≡ whole
unfolding stands_at
marked-end s {whole} m {left} e c = comes-end s whole left m.place m.done e c

pub marked-none : (s : List ℕ) (m : Marking) {ts : List Task} → ts ≡ [] → stands_at (Ok m) ≡ marked_from ts s m
marked-none s m e = marked-end s m e refl

-- all obligations: those of the locations, then those of the joint switches
pub all-parts :
    (model index second regions : List ℕ) (locations : ℕ) → locations ≡ location_count (components_from model index)
    → tasks (obligations (model_from model index) (regions_from second (entry index 11) (entry index 0) regions locations)) ≡ join_all (location_tasks (model_from model index) (regions_of model index second regions)) (count_up 0 locations) ++ joint_tasks (model_from model index) (regions_of model index second regions) (joints (components_from model index))
unfolding obligations obligations_over regions_of tasks location_tasks joint_tasks model_from
all-parts model index second regions locations e =
    let m = model_from model index in
    let region_at = regions_of model index second regions in
    let components = components_from model index in
    ap (λ (n : ℕ). tasks (obligations m (regions_from second (entry index 11) (entry index 0) regions n))) e
    ∙ map-append task_of (join_all (location_obligations m region_at) (count_up 0 (location_count components))) (jumps_obligations m region_at 0 (joints components))
    ∙ ap (λ (ts : List Task). ts ++ joint_tasks m region_at (joints components)) (joined-told task_of (location_obligations m region_at) (count_up 0 (location_count components)))
    ∙ ap (λ (n : ℕ). join_all (location_tasks m region_at) (count_up 0 n) ++ joint_tasks m region_at (joints components)) (sym e)

-- the proofs of a joint switch, as a table tells it, come first among those that are left
pub landing-next :
    {model index modes : List ℕ} {ways : List Way} {location e : ℕ} {slot : Slot} {landing : Landing} → GoodIndex model index → Stands model index location modes → e ≤ 15 → Listed model index modes e ways slot
    → (x : ℕ) → x < length (switches_of (components_from model index) (modes_at (components_from model index) location) e) → landing ≡ landing_in index slot ways x → (region_at : ℕ → Condition)
    → jumps_left model index region_at location e x ≡ jump_tasks (model_from model index) region_at location (per_component index landing.switches) landing.target ++ jumps_left model index region_at location e (x + 1)
landing-next {model} {index} {location = location} {e = e} g stands k listed x l q region_at =
    jumps-next model index region_at location e x l
    ∙ ap₂ (λ (switches : List ℕ) (target : ℕ). jump_tasks (model_from model index) region_at location switches target ++ jumps_left model index region_at location e (x + 1)) (sym (landed-first g stands k listed x l q)) (sym (landed-target g stands k listed x l q))

-- what stands in the table of a location stays, whatever is pushed after it
pub here-kept : {model index regions before after : List ℕ} {location here : ℕ} → Kept (4 * here + 4) 96 before after → HereIn model index regions location here before → HereIn model index regions location here after
here-kept {here = here} k h = record { below = h.below; few = h.few; stacked = stacked-kept k h.stacked; told = lines-kept here (omega arith) k ∙ h.told }

-- so all is ready for the next part once one has passed
pub ready-again :
    {model index second regions table after : List ℕ} {sums left : List ℤ} {from : Leaving} {r : Result Marking Failed} {k : Marking} (ts : List Task) → Ready model index second regions from table sums
    → length after ≡ length table → Kept (4 * from.here + 4) 96 table after → Fresh left → stands_at r ≡ marked_from ts second from.marking → r ≡ Ok k
    → Ready model index second regions (record { location = from.location; modes = from.modes; here = from.here; marking = k }) after left
ready-again ts w same kept fresh told e = record { long = omega (arith, same, w.long); here = here-kept kept w.here; underway = part-underway ts w.underway told e; fresh = fresh }

-- an event without joint switches has nothing to prove
pub joint-none : {model index : List ℕ} → GoodIndex model index → (m : Model) (region_at : ℕ → Condition) (location e : ℕ) → location < location_count (components_from model index) → event_total (components_from model index) e ≡ 0 → joint_tasks m region_at (joints_of (components_from model index) location e) ≡ []
unfolding join_all
joint-none {model} {index} g m region_at location e h none =
    joint-jumps m region_at (joints_of (components_from model index) location e)
    ∙ ap (join_all (jump_of m region_at)) (event-none (countable (good-components g)) e location none h)

-- all joint switches, location by location
pub joints-left : (model index second regions : List ℕ) (locations : ℕ) → locations ≡ location_count (components_from model index) → joint_tasks (model_from model index) (regions_of model index second regions) (joints (components_from model index)) ≡ joined_on (leaving_tasks model index second regions) locations 0
unfolding leaving_tasks
joints-left model index second regions locations e =
    joints-parts (model_from model index) (regions_of model index second regions) (components_from model index)
    ∙ ap (λ (n : ℕ). join_all (leaving_tasks model index second regions) (count_up 0 n)) (sym e)
    ∙ sym (joined-whole (leaving_tasks model index second regions) locations)

-- the marking of all obligations comes from these two parts
pub all_come :
    (model index second regions : List ℕ) (locations at : ℕ) → locations ≡ location_count (components_from model index)
    → Comes second (mark_proofs (obligations_for model index second regions locations) second at 0) (join_all (location_tasks (model_from model index) (regions_of model index second regions)) (count_up 0 locations) ++ joint_tasks (model_from model index) (regions_of model index second regions) (joints (components_from model index))) at 0
all_come model index second regions locations at e =
    ap (λ (ts : List Task). mark_tasks ts second at 0) (sym (all-parts model index second regions locations e))
    ∙ sym (mark-tasks (obligations_for model index second regions locations) second at 0)
