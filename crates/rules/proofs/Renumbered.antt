-- A paper number decides nothing but whether two sheets belong together (02, order 7): a model with another number is the same model in
-- everything that is read, tested and proved with it. Assumes nothing.
use mathlib.Core.Path.{◌≡◌, refl, ap, ap₂, ◌∙◌}
use mathlib.Core.Bool.{true, false}
use mathlib.Core.List.{List, [], ◌∷◌, ◌++◌}
use Prim.Native.Nat.{ℕ, zero, suc}
use Rattle.formats.specs.Reading.{Got, got, refused, Reader, and_then, ◌>>=◌, ◌>>◌, give, here, finished, within, u8}
use Rattle.formats.specs.Rows.{Condition}
use Rattle.formats.specs.Model.{Model, Unsafe, read_model_body}
use Rattle.formats.specs.Joint.{JointSwitch, join_all, count_up, joints}
use Rattle.formats.specs.Locations.{location_count, modes_at}
use Rattle.formats.specs.declared.Limits.{Limits}
use Rattle.formats.specs.ModelSheet.{limits_test}
use Rattle.formats.specs.Certificate.{read_regions}
use Rattle.formats.specs.RunSheet.{Step, flow, jump, read_opening, read_flow, read_jump, read_step_of, read_step}
use Rattle.rules.specs.Runs.{State, modes_in, admissible, start_allowed, rates_hold, owner_of, variables_that, blank_in_flow, still_variables, blanks_kept, flow_rule, owner_stays, owners_jump, blank_in_jump, staying_variables, staying_kept, jump_rows, jump_rule, after, rule_met, step_allowed, modes_fit, is_unsafe}
use Rattle.farkas.specs.Rows.{zero_row}
use Rattle.rules.specs.Roles.{joint_roles, kind_roles, roles_of}
use Rattle.rules.specs.Obligations.{Kind, Obligation, at_start, after_flow, clear_of_unsafe, after_jump, unsafe_hypotheses, start_obligations, flow_obligations, unsafe_obligations, location_obligations, jump_obligations, jumps_obligations, obligations_over, region_of, obligations}

-- the same model with this paper number
unfoldable pub renumbered : ℕ → Model → Model
renumbered paper m =
    record {
      version = m.version;
      paper = paper;
      variables = m.variables;
      owners = m.owners;
      components = m.components;
      unsafe = m.unsafe;
    }

-- a reading whose value is changed afterwards
unfoldable pub mapped : {A : Type 0} → (A → A) → Got A → Got A
mapped f (got a next) = got (f a) next
mapped f (refused number place) = refused number place

module _ {B : Type 0} (h : B → B) (s : List ℕ) where
  bind-mapped : {A : Type 0} (r : Reader A) (f g : A → Reader B) (p : ℕ) → ((a : A) (next : ℕ) → g a s next ≡ mapped h (f a s next)) → (r >>= g) s p ≡ mapped h ((r >>= f) s p)
  unfolding ◌>>=◌ and_then mapped
  bind-mapped {A} r f g p k = go (r s p)
    where
      go : (x : Got A) → and_then x g s ≡ mapped h (and_then x f s)
      go (got a next) = k a next
      go (refused number place) = refl

  then-mapped : {A : Type 0} (r : Reader A) (t u : Reader B) (p : ℕ) → ((next : ℕ) → u s next ≡ mapped h (t s next)) → (r >> u) s p ≡ mapped h ((r >> t) s p)
  unfolding ◌>>◌ and_then mapped
  then-mapped {A} r t u p k = go (r s p)
    where
      go : (x : Got A) → and_then x (λ a. u) s ≡ mapped h (and_then x (λ a. t) s)
      go (got a next) = k next
      go (refused number place) = refl

  after-mapped : (x : Got B) (f : B → Reader B) → ((b : B) (next : ℕ) → f (h b) s next ≡ mapped h (f b s next)) → and_then (mapped h x) f s ≡ mapped h (and_then x f s)
  unfolding and_then mapped
  after-mapped (got b next) f k = k b next
  after-mapped (refused number place) f k = refl

-- a body read with another number
body-renumbered : (version a b : ℕ) (s : List ℕ) (p : ℕ) → read_model_body version b s p ≡ mapped (renumbered b) (read_model_body version a s p)
unfolding read_model_body give mapped renumbered
body-renumbered version a b s p =
    bind-mapped (renumbered b) s _ _ _ p
    (λ n i.
    bind-mapped (renumbered b) s _ _ _ i
    (λ c j.
    bind-mapped (renumbered b) s _ _ _ j
    (λ conditions k.
    bind-mapped (renumbered b) s _ _ _ k
    (λ owners l. bind-mapped (renumbered b) s _ _ _ l (λ components o. bind-mapped (renumbered b) s _ _ _ o (λ unsafe q. refl))))))

-- and what follows a model's paper number
abbrev pub behind_paper : Limits → ℕ → ℕ → Reader Model
behind_paper limits version paper =
    here >>= λ place. read_model_body version paper >>= λ m. finished >> (limits_test limits m.components place >> give m)

pub rest-renumbered : (limits : Limits) (version a b : ℕ) (s : List ℕ) (p : ℕ) → behind_paper limits version b s p ≡ mapped (renumbered b) (behind_paper limits version a s p)
unfolding ◌>>=◌ give mapped renumbered
rest-renumbered limits version a b s p =
    bind-mapped (renumbered b) s here _ _ p
    (λ place next.
    ap (λ (x : Got Model). and_then x (λ m. finished >> (limits_test limits m.components place >> give m)) s) (body-renumbered version a b s next)
    ∙ after-mapped (renumbered b) s (read_model_body version a s next) (λ m. finished >> (limits_test limits m.components place >> give m))
    (λ m i.
    then-mapped (renumbered b) s finished (limits_test limits m.components place >> give m) (limits_test limits m.components place >> give (renumbered b m)) i
    (λ j. then-mapped (renumbered b) s (limits_test limits m.components place) (give m) (give (renumbered b m)) j (λ k. refl))))

-- What does not hang on the number
module _ (paper : ℕ) (m : Model) where
  pub start-so : (q : ℕ) (s : State) → start_allowed (renumbered paper m) q s ≡ start_allowed m q s
  unfolding renumbered start_allowed admissible modes_in
  start-so q s = refl

  pub unsafe-so : (q : ℕ) (s : State) → is_unsafe (renumbered paper m) q s ≡ is_unsafe m q s
  unfolding renumbered is_unsafe
  unsafe-so q s = refl

  pub after-so : (s : State) (t : Step) → after (renumbered paper m) s t ≡ after m s t
  unfolding renumbered after
  after-so s (flow δ next) = refl
  after-so s (jump event switches next) = refl

  pub step_so : (q : ℕ) (s : State) (t : Step) → step_allowed (renumbered paper m) q s t ≡ step_allowed m q s t
  unfolding renumbered step_allowed admissible modes_in after rule_met flow_rule rates_hold blanks_kept still_variables blank_in_flow variables_that owner_of jump_rule jump_rows staying_kept staying_variables owner_stays owners_jump blank_in_jump
  step_so q s (flow δ next) = refl
  step_so q s (jump event switches next) = refl

  -- fields of second sheets
  pub regions-so : read_regions (renumbered paper m) ≡ read_regions m
  unfolding renumbered read_regions
  regions-so = refl

  pub opening-so : read_opening (renumbered paper m) ≡ read_opening m
  unfolding renumbered read_opening
  opening-so = refl

  step-of-so : (kind : ℕ) (s : List ℕ) (p : ℕ) → read_step_of (renumbered paper m) kind s p ≡ read_step_of m kind s p
  unfolding renumbered read_step_of read_flow read_jump
  step-of-so zero s p = refl
  step-of-so (suc kind) s p = refl

  pub steps-so : (s : List ℕ) (p : ℕ) → read_step (renumbered paper m) s p ≡ read_step m s p
  unfolding read_step ◌>>=◌ and_then
  steps-so s p = go (within 0 1 u8 s p)
    where
      go : (g : Got ℕ) → and_then g (read_step_of (renumbered paper m)) s ≡ and_then g (read_step_of m) s
      go (got kind next) = step-of-so kind s next
      go (refused number place) = refl

  -- obligations
  unsafe-so-far : (region_at : ℕ → Condition) (location line : ℕ) (conditions : List Unsafe) → unsafe_obligations (renumbered paper m) region_at location line conditions ≡ unsafe_obligations m region_at location line conditions
  unfolding renumbered unsafe_obligations modes_in
  unsafe-so-far region_at location line [] = refl
  unsafe-so-far region_at location line (u ∷ rest) =
      let o : Obligation =
      record {
        kind = clear_of_unsafe;
        subject = location;
        line = line;
        hypotheses = unsafe_hypotheses (region_at location) (modes_in m location) u.rows;
        goal = zero_row;
      } in
      ap
      (λ (l : List Obligation).
      elim (modes_fit u.modes (modes_at m.components location)) as (λ x. List Obligation) [ true ↦ o ∷ l | false ↦ l ])
      (unsafe-so-far region_at location (suc line) rest)

  location-so : (region_at : ℕ → Condition) (location : ℕ) → location_obligations (renumbered paper m) region_at location ≡ location_obligations m region_at location
  unfolding renumbered location_obligations start_obligations flow_obligations modes_in still_variables blank_in_flow variables_that owner_of
  location-so region_at location =
      ap (λ (l : List Obligation). start_obligations m region_at location ++ (flow_obligations m region_at location ++ l)) (unsafe-so-far region_at location 0 m.unsafe)

  locations-so : (region_at : ℕ → Condition) (locations : List ℕ) → join_all (location_obligations (renumbered paper m) region_at) locations ≡ join_all (location_obligations m region_at) locations
  unfolding join_all
  locations-so region_at [] = refl
  locations-so region_at (l ∷ locations) = ap₂ (λ (x y : List Obligation). x ++ y) (location-so region_at l) (locations-so region_at locations)

  jumps-so : (region_at : ℕ → Condition) (number : ℕ) (list : List JointSwitch) → jumps_obligations (renumbered paper m) region_at number list ≡ jumps_obligations m region_at number list
  unfolding renumbered jumps_obligations jump_obligations modes_in variables_that owner_of staying_variables owner_stays owners_jump blank_in_jump
  jumps-so region_at number [] = refl
  jumps-so region_at number (j ∷ rest) = ap (λ (l : List Obligation). jump_obligations m region_at number j ++ l) (jumps-so region_at (suc number) rest)

  pub obligations-so : (regions : List Condition) → obligations (renumbered paper m) regions ≡ obligations m regions
  unfolding renumbered obligations obligations_over
  obligations-so regions =
      ap₂ (λ (x y : List Obligation). x ++ y)
      (locations-so (region_of regions) (count_up 0 (location_count m.components)))
      (jumps-so (region_of regions) 0 (joints m.components))

  -- and the roles of their hypotheses
  kind-so : (region_at : ℕ → Condition) (kind : Kind) (subject line : ℕ) → kind_roles (renumbered paper m) region_at kind subject line ≡ kind_roles m region_at kind subject line
  unfolding renumbered kind_roles joint_roles modes_in still_variables blank_in_flow variables_that owner_of staying_variables owner_stays owners_jump blank_in_jump
  kind-so region_at at_start subject line = refl
  kind-so region_at after_flow subject line = refl
  kind-so region_at clear_of_unsafe subject line = refl
  kind-so region_at after_jump subject line = refl

  pub roles-so : (region_at : ℕ → Condition) (o : Obligation) → roles_of (renumbered paper m) region_at o ≡ roles_of m region_at o
  unfolding roles_of
  roles-so region_at o = kind-so region_at o.kind o.subject o.line
