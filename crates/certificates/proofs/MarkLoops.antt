-- The loops of marking: what is still to come from here, marked, is the whole. Each level of loops puts what it has still to do in front
-- of what the levels around it have. Assumes nothing.
use mathlib.Core.Path.{◌≡◌, refl, sym, ap, ap₂, ◌∙◌}
use mathlib.Core.Bool.{Bool, true, false}
use mathlib.Core.List.{List, [], ◌∷◌, ◌++◌, map, append_assoc, append-nil, map-append}
use Prim.Native.Nat.{ℕ, zero, suc, ◌+◌, ◌-◌, ◌≤◌, ◌<◌}
use native.Mathlib.Numerals.{add-one}
use native.Mathlib.Omega.{arith}
use lib.IntN.{ℤ}
use lib.ListN.{length, get_or, drop, drop_of_length-le}
use lib.Seq.{drop-cons}
use Rattle.farkas.specs.Rows.{zero_row}
use Rattle.formats.specs.Reading.{got, refused}
use Rattle.formats.specs.Rows.{Condition}
use Rattle.formats.specs.Model.{Unsafe, Model}
use Rattle.formats.specs.Locations.{modes_at}
use Rattle.formats.specs.Joint.{count_up, join_all}
use Rattle.models.specs.Index.{entry, unsafe_place, unsafe_from, model_from}
use Rattle.models.proofs.GoodIndexLaws.{counted-at}
use Rattle.rules.specs.Runs.{modes_in, modes_fit}
use Rattle.rules.specs.Obligations.{Obligation, clear_of_unsafe, unsafe_hypotheses, start_obligations, flow_obligations, unsafe_obligations, location_obligations}
use Rattle.rules.specs.Marking.{Marked, passed, stopped}
use Rattle.papers.specs.Paper.{held_next, regions_of}
use Rattle.hypotheses.specs.Tables.{Stacked}
use Rattle.certificates.specs.declared.Marking.{Marking}
use Rattle.certificates.specs.Passed.{Underway, Fresh}
use Rattle.hypotheses.specs.Listing.{Task, no_task, task_of, tasks, group_tasks, no_unsafe, location_tasks, mark_task, mark_tasks}
use Rattle.papers.proofs.JoinedLaws.{joined_on, joined-first, joined-none}
use Rattle.certificates.proofs.MarkLaws.{task-passed, task-failed, task-advances}

-- unsafe conditions, one by one
module _ (m : Model) (region_at : ℕ → Condition) (location : ℕ) where
  abbrev one : Unsafe → ℕ → Obligation
  one x from = record { kind = clear_of_unsafe; subject = location; line = from; hypotheses = unsafe_hypotheses (region_at location) (modes_in m location) x.rows; goal = zero_row }

  unsafe-first : (x : Unsafe) (from : ℕ) (rest : List Unsafe) → tasks (unsafe_obligations m region_at location from (x ∷ rest)) ≡ tasks (unsafe_obligations m region_at location 0 (x ∷ [])) ++ tasks (unsafe_obligations m region_at location (suc from) rest)
  unfolding unsafe_obligations tasks task_of
  unsafe-first x from rest = go (modes_fit x.modes (modes_at m.components location))
    where
      go : (b : Bool) → map task_of (elim b [ true ↦ one x from ∷ unsafe_obligations m region_at location (suc from) rest | false ↦ unsafe_obligations m region_at location (suc from) rest ]) ≡ map task_of (elim b [ true ↦ one x 0 ∷ [] | false ↦ [] ]) ++ map task_of (unsafe_obligations m region_at location (suc from) rest)
      go true = refl
      go false = refl

module _ (model index : List ℕ) (region_at : ℕ → Condition) (location : ℕ) where
  abbrev condition : ℕ → Unsafe
  condition u = unsafe_from model (entry index 11) (entry index 0) (entry index 1) index (unsafe_place u)

  condition-tasks : (u : ℕ) → u < entry index 2 → group_tasks (model_from model index) region_at location (suc (suc u)) ≡ tasks (unsafe_obligations (model_from model index) region_at location 0 (condition u ∷ []))
  unfolding group_tasks model_from
  condition-tasks u h = ap (λ (x : Unsafe). tasks (unsafe_obligations (model_from model index) region_at location 0 (x ∷ []))) (counted-at condition (entry index 2) u no_unsafe h)

  conditions-left : (u d from : ℕ) → u + d ≤ entry index 2 → join_all (group_tasks (model_from model index) region_at location) (count_up (suc (suc u)) d) ≡ tasks (unsafe_obligations (model_from model index) region_at location from (map condition (count_up u d)))
  unfolding join_all count_up unsafe_obligations tasks
  conditions-left u zero from h = refl
  conditions-left u (suc d) from h =
      ap₂ (λ (xs ys : List Task). xs ++ ys) (condition-tasks u (omega arith)) (conditions-left (suc u) d (suc from) (omega arith))
      ∙ sym (unsafe-first (model_from model index) region_at location (condition u) from (map condition (count_up (suc u) d)))

  location-parts : location_tasks (model_from model index) region_at location ≡ join_all (group_tasks (model_from model index) region_at location) (count_up 0 (suc (suc (entry index 2))))
  unfolding location_tasks location_obligations join_all count_up group_tasks tasks model_from
  location-parts =
      let m = model_from model index in
      map-append task_of (start_obligations m region_at location) (flow_obligations m region_at location ++ unsafe_obligations m region_at location 0 m.unsafe)
      ∙ ap (λ (xs : List Task). tasks (start_obligations m region_at location) ++ xs)
      (map-append task_of (flow_obligations m region_at location) (unsafe_obligations m region_at location 0 m.unsafe)
      ∙ ap (λ (xs : List Task). tasks (flow_obligations m region_at location) ++ xs) (sym (conditions-left 0 (entry index 2) 0 (none (entry index 2)))))
    where
      none : (n : ℕ) → 0 + n ≤ n
      none n = omega arith

-- what is still to do
abbrev pub locations_left : List ℕ → List ℕ → List ℕ → List ℕ → ℕ → ℕ → List Task
locations_left model index second regions locations location = joined_on (location_tasks (model_from model index) (regions_of model index second regions)) locations location

abbrev pub groups_left : List ℕ → List ℕ → List ℕ → List ℕ → ℕ → ℕ → ℕ → List Task
groups_left model index second regions location groups g = joined_on (group_tasks (model_from model index) (regions_of model index second regions) location) groups g

pub location-groups : (model index second regions : List ℕ) (location groups : ℕ) → groups ≡ entry index 2 + 2 → location_tasks (model_from model index) (regions_of model index second regions) location ≡ groups_left model index second regions location groups 0
location-groups model index second regions location groups e =
    location-parts model index (regions_of model index second regions) location
    ∙ ap (λ (n : ℕ). join_all (group_tasks (model_from model index) (regions_of model index second regions) location) (count_up 0 n)) (all groups (entry index 2) e)
  where
    all : (groups n : ℕ) → groups ≡ n + 2 → suc (suc n) ≡ groups - 0
    all groups n e = omega (arith, e)

-- one level of loops: a part is put in front of the rest, and left when it is done
module _ (s : List ℕ) (whole : Marked (Unit {0})) where
  -- what is still to come from here is the whole
  abbrev pub Comes : List Task → ℕ → ℕ → Type 0
  Comes left p d = mark_tasks left s p d ≡ whole

  pub comes-same : {xs ys : List Task} (p d : ℕ) → xs ≡ ys → Comes xs p d → Comes ys p d
  comes-same p d e h = ap (λ (ts : List Task). mark_tasks ts s p d) (sym e) ∙ h

  pub comes-end : (left : List Task) (p d : ℕ) → left ≡ [] → Comes left p d → passed tt p d ≡ whole
  unfolding mark_tasks
  comes-end left p d e c = comes-same p d e c

  -- the first of what a loop over numbers has to do, opened, in front of the rest
  pub comes-in : (f : ℕ → List Task) (n i : ℕ) (part rest : List Task) (p d : ℕ) → i < n → f i ≡ part → Comes (joined_on f n i ++ rest) p d → Comes (part ++ (joined_on f n (i + 1) ++ rest)) p d
  comes-in f n i part rest p d h e c =
      comes-same p d
      (ap (λ (ts : List Task). ts ++ rest) (joined-first f n i h)
      ∙ append_assoc (f i) (joined_on f n (i + 1)) rest
      ∙ ap (λ (ts : List Task). ts ++ (joined_on f n (i + 1) ++ rest)) e)
      c

  pub comes-out : (f : ℕ → List Task) (n i : ℕ) (rest : List Task) (p d : ℕ) → n ≤ i → Comes (joined_on f n i ++ rest) p d → Comes rest p d
  comes-out f n i rest p d h c = comes-same p d (ap (λ (ts : List Task). ts ++ rest) (joined-none f n i h)) c

  -- the goals of a group, one by one, in front of the rest
  pub goals-out : (part rest : List Task) (goal : ℕ) (p d : ℕ) → length part ≤ goal → Comes (drop goal part ++ rest) p d → Comes rest p d
  goals-out part rest goal p d h c = comes-same p d (ap (λ (ts : List Task). ts ++ rest) (drop_of_length-le part {i = goal} h)) c

  module _ (part rest : List Task) (goal : ℕ) (h : goal < length part) where
    here : drop goal part ++ rest ≡ get_or part goal no_task ∷ (drop (goal + 1) part ++ rest)
    here =
        ap (λ (ts : List Task). ts ++ rest) (drop-cons part goal no_task h)
        ∙ ap (λ (i : ℕ). get_or part goal no_task ∷ (drop i part ++ rest)) (sym (add-one goal))

    pub goal-passed : (p d q : ℕ) → held_next (mark_task (get_or part goal no_task) s p) ≡ got tt q → Comes (drop goal part ++ rest) p d → Comes (drop (goal + 1) part ++ rest) q (d + 1)
    goal-passed p d q e c =
        sym (task-passed (get_or part goal no_task) (drop (goal + 1) part ++ rest) s p d q e)
        ∙ comes-same p d here c

    pub goal-failed : (p d number at : ℕ) → held_next (mark_task (get_or part goal no_task) s p) ≡ refused number at → Comes (drop goal part ++ rest) p d → stopped number at d ≡ whole
    goal-failed p d number at e c =
        sym (task-failed (get_or part goal no_task) (drop (goal + 1) part ++ rest) s p d number at e)
        ∙ comes-same p d here c

-- where a loop stands whose turns each fill the table anew: what is left, marked from here, is the whole
pub record Going (second table : List ℕ) (sums : List ℤ) (whole : Marked (Unit {0})) (left : List Task) (m : Marking) : Type 0 where
  pub underway : Underway second m
  pub fresh : Fresh sums
  pub stacked : Stacked table 0
  pub comes : Comes second whole left m.place m.done

-- the same levels, of where a loop stands
module _ {second table : List ℕ} {sums : List ℤ} {whole : Marked (Unit {0})} {m : Marking} where
  going-as : {after : List ℕ} {xs ys : List Task} → Comes second whole ys m.place m.done → Stacked after 0 → Going second table sums whole xs m → Going second after sums whole ys m
  going-as c stacked g = record { underway = g.underway; fresh = g.fresh; stacked = stacked; comes = c }

  -- the groups of the next location
  pub location-in : (model index regions : List ℕ) (locations location groups : ℕ) → location < locations → groups ≡ entry index 2 + 2 → Going second table sums whole (locations_left model index second regions locations location) m → Going second table sums whole (groups_left model index second regions location groups 0 ++ locations_left model index second regions locations (location + 1)) m
  location-in model index regions locations location groups h e g =
      going-as
      (comes-same second whole m.place m.done
      (joined-first _ locations location h
      ∙ ap (λ (ts : List Task). ts ++ locations_left model index second regions locations (location + 1)) (location-groups model index second regions location groups e))
      g.comes)
      g.stacked
      g

  -- the first of what a loop over numbers has to do, opened, as the table now tells it
  pub going-in : (f : ℕ → List Task) (n i : ℕ) {part : List Task} (rest : List Task) {after : List ℕ} → i < n → part ≡ f i → Stacked after 0 → Going second table sums whole (joined_on f n i ++ rest) m → Going second after sums whole (part ++ (joined_on f n (i + 1) ++ rest)) m
  going-in f n i {part} rest h e stacked g =
      going-as (comes-in second whole f n i part rest m.place m.done h (sym e) g.comes) stacked g

  pub going-out : (f : ℕ → List Task) (n i : ℕ) (rest : List Task) → n ≤ i → Going second table sums whole (joined_on f n i ++ rest) m → Going second table sums whole rest m
  going-out f n i rest h g = going-as (comes-out second whole f n i rest m.place m.done h g.comes) g.stacked g

  pub going-past : (part rest : List Task) (goal : ℕ) → length part ≤ goal → Going second table sums whole (drop goal part ++ rest) m → Going second table sums whole rest m
  going-past part rest goal h g =
      going-as (goals-out second whole part rest goal m.place m.done h g.comes) g.stacked g

  pub going-on : (part rest : List Task) (goal q : ℕ) {left : List ℤ} → goal < length part → held_next (mark_task (get_or part goal no_task) second m.place) ≡ got tt q → Fresh left → Going second table sums whole (drop goal part ++ rest) m → Going second table left whole (drop (goal + 1) part ++ rest) (record { place = q; done = m.done + 1 })
  going-on part rest goal q h e fresh g =
      let ends = task-advances (get_or part goal no_task) second m.place q e in
      record {
        underway = record { within = ends.1; few = omega (arith, ends.0, g.underway.few) };
        fresh = fresh;
        stacked = g.stacked;
        comes = goal-passed second whole part rest goal h m.place m.done q e g.comes;
      }

-- the goals of a group that is marked alone
pub goals-left : (s : List ℕ) (part : List Task) (p d : ℕ) → mark_tasks (drop 0 part) s p (d + 0) ≡ mark_tasks part s p d
goals-left s part p d = ap (mark_tasks part s p) (none d)
  where
    none : (d : ℕ) → d + 0 ≡ d
    none d = omega arith

module _ (s : List ℕ) (whole : Marked (Unit {0})) (part : List Task) where
  alone : (ts : List Task) (p d : ℕ) → Comes s whole ts p d → Comes s whole (ts ++ []) p d
  alone ts p d c = comes-same s whole p d (sym (append-nil ts)) c

  pub goals-over : (goal goals p d : ℕ) → length part ≡ goals → goal ≡ goals → Comes s whole (drop goal part) p (d + goal) → passed tt p (d + goals) ≡ whole
  goals-over goal goals p d all e c =
      ap (λ (n : ℕ). passed tt p (d + n)) (sym e)
      ∙ comes-end s whole (drop goal part) p (d + goal) (drop_of_length-le part {i = goal} (omega (arith, all, e))) c

  module _ (goal : ℕ) (h : goal < length part) where
    pub goal-on : (p d q : ℕ) → held_next (mark_task (get_or part goal no_task) s p) ≡ got tt q → Comes s whole (drop goal part) p (d + goal) → Comes s whole (drop (goal + 1) part) q (d + (goal + 1))
    goal-on p d q e c =
        ap (mark_tasks (drop (goal + 1) part) s q) (more d goal)
        ∙ comes-same s whole q (d + goal + 1) (append-nil (drop (goal + 1) part)) (goal-passed s whole part [] goal h p (d + goal) q e (alone (drop goal part) p (d + goal) c))
      where
        more : (d goal : ℕ) → d + (goal + 1) ≡ d + goal + 1
        more d goal = omega arith

    pub goal-stops : (p d number at : ℕ) → held_next (mark_task (get_or part goal no_task) s p) ≡ refused number at → Comes s whole (drop goal part) p d → stopped number at d ≡ whole
    goal-stops p d number at e c = goal-failed s whole part [] goal h p d number at e (alone (drop goal part) p d c)
