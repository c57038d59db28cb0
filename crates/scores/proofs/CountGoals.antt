-- How many obligations there are: the rows of a region at the start and after a flow, the unsafe conditions that fit, and the rows of the
-- targets of joint switches; each sum by its turns. Assumes nothing.
use mathlib.Core.Path.{◌≡◌, refl, sym, ap, ap₂, ◌∙◌}
use mathlib.Core.Bool.{Bool, true, false, cond}
use mathlib.Core.List.{List, [], ◌∷◌, ◌++◌}
use Prim.Native.Nat.{ℕ, suc, ◌+◌, ◌*◌, ◌≤◌, ◌<◌}
use native.Mathlib.Omega.{arith}
use lib.Dec.{eqb}
use lib.ListN.{length, drop, length-append, drop_of_length-le}
use Rattle.farkas.specs.Lists.{every}
use Rattle.formats.specs.Rows.{Condition}
use Rattle.formats.specs.Model.{Unsafe, Model}
use Rattle.formats.specs.Locations.{location_count, modes_at}
use Rattle.formats.specs.JointTotals.{sum_over}
use Rattle.formats.specs.Joint.{bit, numbers_from, JointSwitch, joints, count_up, join_all}
use Rattle.models.specs.Index.{entry, unsafe_place, unsafe_from, components_from, model_from, GoodIndex}
use Rattle.models.specs.Counts.{per_component}
use Rattle.second_sheets.specs.CertificateAnswers.{regions_from}
use Rattle.models.proofs.GoodIndexLaws.{counted-length, counted-drop, index-well-formed}
use Rattle.formats.proofs.SumLaws.{sum_first}
use Rattle.formats.proofs.JointCounts.{numbers-length}
use Rattle.rules.specs.Runs.{present, modes_in, modes_fit}
use Rattle.rules.specs.Obligations.{Obligation, start_obligations, flow_obligations, unsafe_obligations, location_obligations, jump_obligations, jumps_obligations, obligations_over, obligations, region_of}
use Rattle.papers.specs.Paper.{regions_of}
use Rattle.papers.specs.Papers.{GoodPaper}
use Rattle.scores.specs.Counting.{rows_into, target_rows}
use Rattle.rules.proofs.ObligationTotal.{per-row, goals_at, obligations-total}
use Rattle.rules.proofs.ListFacts.{joined-few, count-length}
use Rattle.papers.proofs.RegionLaws.{region-few}

-- numbers of elements that pass a test: not more than elements
bit-few : (b : Bool) → bit b ≤ 1
unfolding bit
bit-few true = omega arith
bit-few false = omega arith

bit-times : (b : Bool) (n : ℕ) → bit b * n ≤ n
unfolding bit
bit-times true n = omega arith
bit-times false n = omega arith

numbers-few : {A : Type 0} (i : ℕ) (test : A → Bool) (xs : List A) → length (numbers_from i test xs) ≤ length xs
unfolding numbers_from
numbers-few i test [] = omega arith
numbers-few i test (x ∷ xs) = omega (arith, numbers-length i test x xs, bit-few (test x), numbers-few (i + 1) test xs)

-- the unsafe conditions that fit, from one on
abbrev pub fitting_on : List ℕ → List ℕ → List ℕ → ℕ → List ℕ
fitting_on model index modes u = numbers_from u (λ w. modes_fit w.modes (per_component index modes)) (drop u (model_from model index).unsafe)

module _ (model index : List ℕ) where
  conditions-drop : (u : ℕ) → u < entry index 2 → drop u (model_from model index).unsafe ≡ unsafe_from model (entry index 11) (entry index 0) (entry index 1) index (unsafe_place u) ∷ drop (u + 1) (model_from model index).unsafe
  unfolding model_from
  conditions-drop u h = counted-drop (λ u. unsafe_from model (entry index 11) (entry index 0) (entry index 1) index (unsafe_place u)) (entry index 2) u h

  conditions-length : length (model_from model index).unsafe ≡ entry index 2
  unfolding model_from
  conditions-length = counted-length (λ u. unsafe_from model (entry index 11) (entry index 0) (entry index 1) index (unsafe_place u)) 0 (entry index 2)

  pub fitting-turn : (modes : List ℕ) (u n : ℕ) {b : Bool} → u < entry index 2 → b ≡ modes_fit (unsafe_from model (entry index 11) (entry index 0) (entry index 1) index (unsafe_place u)).modes (per_component index modes) → n ≡ bit b → length (fitting_on model index modes u) ≡ n + length (fitting_on model index modes (u + 1))
  fitting-turn modes u n h p q =
      let test : Unsafe → Bool = λ w. modes_fit w.modes (per_component index modes) in
      ap (λ (ws : List Unsafe). length (numbers_from u test ws)) (conditions-drop u h)
      ∙ numbers-length u test (unsafe_from model (entry index 11) (entry index 0) (entry index 1) index (unsafe_place u)) (drop (u + 1) (model_from model index).unsafe)
      ∙ ap (λ (k : ℕ). k + length (fitting_on model index modes (u + 1))) (sym (q ∙ ap bit p))

  pub fitting-end : (modes : List ℕ) (u : ℕ) → entry index 2 ≤ u → length (fitting_on model index modes u) ≡ 0
  unfolding numbers_from
  fitting-end modes u h =
      ap (λ (ws : List Unsafe). length (numbers_from u (λ w. modes_fit w.modes (per_component index modes)) ws)) (drop_of_length-le (model_from model index).unsafe {i = u} (omega (arith, conditions-length)))

  pub fitting-few : GoodIndex model index → (test : Unsafe → Bool) → length (numbers_from 0 test (model_from model index).unsafe) ≤ 16
  fitting-few g test = omega (arith, numbers-few 0 test (model_from model index).unsafe, conditions-length, g.conditions)

  pub fitting-most : GoodIndex model index → (modes : List ℕ) → length (fitting_on model index modes 0) ≤ 16
  fitting-most g modes = fitting-few g (λ w. modes_fit w.modes (per_component index modes))

-- how many obligations of each kind a location has
start-step : (b : Bool) (xs : List Obligation) (n : ℕ) → length xs ≡ n → length {A = Obligation} (elim b [ true ↦ xs | false ↦ [] ]) ≡ bit b * n
unfolding bit
start-step true xs n h = omega (arith, h)
start-step false xs n h = omega arith

unsafe-step : (b : Bool) (o : Obligation) (xs : List Obligation) (i : ℕ) (ys : List ℕ) → length xs ≡ length ys → length {A = Obligation} (elim b [ true ↦ o ∷ xs | false ↦ xs ]) ≡ length (cond b (i ∷ ys) ys)
unsafe-step true o xs i ys h = ap suc h
unsafe-step false o xs i ys h = h

module _ (m : Model) (region_at : ℕ → Condition) where
  start-length : (location : ℕ) → length (start_obligations m region_at location) ≡ bit (every (λ mode. eqb mode.start 1) (modes_in m location)) * length (region_at location)
  unfolding start_obligations
  start-length location = start-step (every (λ mode. eqb mode.start 1) (modes_in m location)) _ (length (region_at location)) (per-row _ location _ _ 0 (region_at location))

  flow-length : (location : ℕ) → length (flow_obligations m region_at location) ≡ length (region_at location)
  unfolding flow_obligations
  flow-length location = per-row _ location _ _ 0 (region_at location)

  unsafe-length : (location line : ℕ) (conditions : List Unsafe) → length (unsafe_obligations m region_at location line conditions) ≡ length (numbers_from line (λ w. modes_fit w.modes (modes_at m.components location)) conditions)
  unfolding unsafe_obligations numbers_from
  unsafe-length location line [] = refl
  unsafe-length location line (u ∷ rest) = unsafe-step (modes_fit u.modes (modes_at m.components location)) _ _ line _ (unsafe-length location (suc line) rest)

  pub location-length : (location : ℕ) → length (location_obligations m region_at location) ≡ bit (every (λ mode. eqb mode.start 1) (modes_in m location)) * length (region_at location) + (length (region_at location) + length (numbers_from 0 (λ w. modes_fit w.modes (modes_at m.components location)) m.unsafe))
  unfolding location_obligations
  location-length location =
      let start = start_obligations m region_at location in
      let flow = flow_obligations m region_at location in
      let unsafe = unsafe_obligations m region_at location 0 m.unsafe in
      length-append start (flow ++ unsafe)
      ∙ ap₂ (λ (i j : ℕ). i + j) (start-length location) (length-append flow unsafe ∙ ap₂ (λ (i j : ℕ). i + j) (flow-length location) (unsafe-length location 0 m.unsafe))

  jump-length : (number : ℕ) (j : JointSwitch) → length (jump_obligations m region_at number j) ≡ length (region_at j.target)
  unfolding jump_obligations
  jump-length number j = per-row _ number _ _ 0 (region_at j.target)

  pub jumps-length : (number : ℕ) (switches : List JointSwitch) → length (jumps_obligations m region_at number switches) ≡ length (target_rows region_at switches)
  unfolding jumps_obligations target_rows join_all
  jumps-length number [] = refl
  jumps-length number (j ∷ rest) =
      length-append (jump_obligations m region_at number j) (jumps_obligations m region_at (suc number) rest)
      ∙ ap₂ (λ (i k : ℕ). i + k) (jump-length number j) (jumps-length (suc number) rest)
      ∙ sym (length-append (region_at j.target) (target_rows region_at rest))

-- the goals of a location are few
pub location-few : {model index second regions : List ℕ} → GoodPaper model index second regions → (location : ℕ) → length (location_obligations (model_from model index) (regions_of model index second regions) location) ≤ 48
location-few {model} {index} {second} {regions} g location =
    let m = model_from model index in
    let rows = length (regions_of model index second regions location) in
    let starts = every (λ mode. eqb mode.start 1) (modes_in m location) in
    omega (arith, location-length m (regions_of model index second regions) location, bit-times starts rows, region-few model index second regions g location, fitting-few model index g.good (λ w. modes_fit w.modes (modes_at m.components location)))

-- their sum, by the counts of the modes of a location
pub location-sum :
    (model index second regions : List ℕ) (location : ℕ) (modes : List ℕ) → per_component index modes ≡ modes_at (components_from model index) location
    → (starts rows fitting : ℕ) {b : Bool} → b ≡ every (λ mode. eqb mode.start 1) (present (components_from model index) (per_component index modes)) → starts ≡ bit b
    → rows ≡ length (regions_of model index second regions location) → fitting ≡ length (numbers_from 0 (λ w. modes_fit w.modes (per_component index modes)) (model_from model index).unsafe)
    → starts * rows + (rows + fitting) ≡ length (location_obligations (model_from model index) (regions_of model index second regions) location)
unfolding modes_in model_from
location-sum model index second regions location modes here starts rows fitting p q r f =
    let m = model_from model index in
    let s : starts ≡ bit (every (λ mode. eqb mode.start 1) (modes_in m location)) = q ∙ ap bit p ∙ ap (λ (ms : List ℕ). bit (every (λ mode. eqb mode.start 1) (present (components_from model index) ms))) here in
    let t : fitting ≡ length (numbers_from 0 (λ w. modes_fit w.modes (modes_at m.components location)) m.unsafe) = f ∙ ap (λ (ms : List ℕ). length (numbers_from 0 (λ w. modes_fit w.modes ms) m.unsafe)) here in
    ap₂ (λ (i j : ℕ). i + j) (ap₂ (λ (i j : ℕ). i * j) s r) (ap₂ (λ (i j : ℕ). i + j) r t) ∙ sym (location-length m (regions_of model index second regions) location)

pub locations-few : {model index second regions : List ℕ} → GoodPaper model index second regions → (locations : ℕ) → locations ≡ location_count (components_from model index) → length (join_all (location_obligations (model_from model index) (regions_of model index second regions)) (count_up 0 locations)) ≤ 3072
locations-few {model} {index} {second} {regions} g locations h =
    omega (arith, joined-few (location_obligations (model_from model index) (regions_of model index second regions)) 48 (location-few g) (count_up 0 locations), count-length 0 locations, g.few)

-- all obligations
pub obligations-length : (model index second regions : List ℕ) (locations : ℕ) → locations ≡ location_count (components_from model index) → length (obligations (model_from model index) (regions_from second (entry index 11) (entry index 0) regions locations)) ≡ length (join_all (location_obligations (model_from model index) (regions_of model index second regions)) (count_up 0 locations)) + length (target_rows (regions_of model index second regions) (joints (components_from model index)))
unfolding obligations obligations_over model_from regions_of
obligations-length model index second regions locations h =
    let m = model_from model index in
    let count = location_count (components_from model index) in
    let region_at = region_of (regions_from second (entry index 11) (entry index 0) regions count) in
    ap (λ (n : ℕ). length (obligations m (regions_from second (entry index 11) (entry index 0) regions n))) h
    ∙ length-append (join_all (location_obligations m region_at) (count_up 0 count)) (jumps_obligations m region_at 0 (joints (components_from model index)))
    ∙ ap₂ (λ (i k : ℕ). i + k) (ap (λ (n : ℕ). length (join_all (location_obligations m region_at) (count_up 0 n))) (sym h)) (jumps-length m region_at 0 (joints (components_from model index)))

-- the same by locations alone: of each location its own, and those of the joint switches that lead into it
abbrev pub goals_for : List ℕ → List ℕ → List ℕ → List ℕ → ℕ → ℕ
goals_for model index second regions = goals_at (model_from model index) (regions_of model index second regions)

pub goals-sum : (model index second regions : List ℕ) (location here into : ℕ) → here ≡ length (location_obligations (model_from model index) (regions_of model index second regions) location) → into ≡ rows_into model index second regions location → here + into ≡ goals_for model index second regions location
unfolding goals_at model_from
goals-sum model index second regions location here into p q = ap₂ (λ (i j : ℕ). i + j) p q

pub goals-all : {model index : List ℕ} (second regions : List ℕ) → GoodIndex model index → (locations : ℕ) → locations ≡ location_count (components_from model index) → sum_over (goals_for model index second regions) (count_up 0 locations) ≡ length (obligations (model_from model index) (regions_from second (entry index 11) (entry index 0) regions locations))
unfolding regions_of model_from
goals-all {model} {index} second regions g locations h =
    let count = location_count (components_from model index) in
    ap (λ (n : ℕ). sum_over (goals_for model index second regions) (count_up 0 n)) h
    ∙ sym (obligations-total (model_from model index) (regions_from second (entry index 11) (entry index 0) regions count) (index-well-formed g))
    ∙ ap (λ (n : ℕ). length (obligations (model_from model index) (regions_from second (entry index 11) (entry index 0) regions n))) (sym h)

-- the rows of targets
pub rows_few : (region_at : ℕ → Condition) → ((l : ℕ) → length (region_at l) ≤ 16) → (switches : List JointSwitch) → length (target_rows region_at switches) ≤ 16 * length switches
unfolding target_rows
rows_few region_at h switches = joined-few (λ j. region_at j.target) 16 (λ j. h j.target) switches

pub jumps-few : {model index second regions : List ℕ} → GoodPaper model index second regions → length (joints (components_from model index)) ≤ 4096 → length (target_rows (regions_of model index second regions) (joints (components_from model index))) ≤ 65536
jumps-few {model} {index} {second} {regions} g h =
    omega (arith, rows_few (regions_of model index second regions) (region-few model index second regions g) (joints (components_from model index)))

-- all of them are few, and so are those of the locations so far
pub goals-few : {model index second regions : List ℕ} → GoodPaper model index second regions → (locations : ℕ) → locations ≡ location_count (components_from model index) → length (joints (components_from model index)) ≤ 4096 → (n : ℕ) → n ≤ locations → sum_over (goals_for model index second regions) (count_up 0 n) ≤ 68608
goals-few {model} {index} {second} {regions} g locations h few n l =
    omega (arith, sum_first (goals_for model index second regions) n locations l, goals-all second regions g.good locations h, obligations-length model index second regions locations h, locations-few g locations h, jumps-few g few)
