-- The fair copy of a model that a sheet gives. It reads well under the same limits, as the fair model but for where its rows stand; it allows
-- the same runs, which visit the same states, and has the same unsafe states; its rows are strictly ascending; copying it again gives the
-- same bytes; and it is no longer than the sheet. Assumes nothing.
use mathlib.Core.Path.{◌≡◌, refl, sym, ap, ◌∙◌, subst}
use mathlib.Core.Logic.{◌↔◌}
use mathlib.Core.List.{List, Memᴰ}
use Prim.Native.Nat.{ℕ, ◌≤◌, ◌<◌}
use native.Mathlib.Nat.{le_trans}
use lib.Dec.{T}
use lib.ListN.{length}
use Rattle.farkas.specs.Lists.{All}
use Rattle.formats.specs.Reading.{got}
use Rattle.formats.specs.Rows.{Condition}
use Rattle.formats.specs.Model.{Model}
use Rattle.formats.specs.declared.Limits.{Limits}
use Rattle.formats.specs.ModelSheet.{read_model}
use Rattle.formats.specs.RunSheet.{Step}
use Rattle.formats.proofs.ModelSheet.{read_whole_lem}
use Rattle.formats.proofs.WellFormed.{GoodComponent, well-formed}
use Rattle.writing.specs.Writing.{write_model}
use Rattle.writing.specs.Changed.{changed, bare_rows, bare}
use Rattle.writing.proofs.ChangedLaws.{changed-twice, changed-same}
use Rattle.writing.proofs.ChangedJoints.{changed-few}
use Rattle.writing.proofs.ChangedWritable.{changed-writable, changed-length}
use Rattle.writing.proofs.FromSheets.{writable}
use Rattle.writing.proofs.RoundTrip.{reads-back}
use Rattle.writing.proofs.Lengths.{sheet-of, written-length}
use Rattle.rules.specs.Runs.{State, still_variables, staying_variables, Run, start_allowed, steps_allowed, visited, is_unsafe}
use Rattle.rules.specs.ReadAs.{SameRun, Safe}
use Rattle.fair_rows.proofs.OrderLaws.{Ascending}
use Rattle.fair_rows.proofs.FairLaws.{fair-ascending}
use Rattle.fair_models.specs.FairCopy.{fair_condition, fair_model, fair_copy}
use Rattle.fair_models.proofs.SameRuns.{same_start, same-still, same-staying, same-steps, same-visited, same-unsafe}
use Rattle.fair_models.proofs.FairConditions.{rows_in, placed-none, bare-by-rows, fair-faithful, bare-faithful, fair-bare, bare-fair, fair-twice}
use Rattle.fair_models.proofs.FairWritable.{fair-shortens}
use Rattle.fair_models.proofs.EveryCondition.{ModelConditions, every-changed, every-unchanged}

-- "it is no longer than the original"
pub copy-short :
    (limits : Limits) (s : List ℕ) (m : Model) (next : ℕ) → All (λ b. b < 256) s → read_model limits s ≡ got m next
    → length (fair_copy m) ≤ length s
unfolding fair_copy fair_model
copy-short limits s m next bytes e =
    subst (λ (n : ℕ). length (write_model (changed fair_condition m)) ≤ n) (written-length limits s m next e)
    (changed-length fair_condition fair-shortens m (writable limits s m next bytes e))

-- The copy, read under the same limits
pub record Copied (limits : Limits) (m : Model) : Type 0 where
  pub model : Model
  pub end : ℕ
  pub reads : read_model limits (fair_copy m) ≡ got model end
  pub same : bare model ≡ fair_model m

-- the fair model's rows have no places
fair-placed : (m : Model) → bare (fair_model m) ≡ fair_model m
unfolding bare fair_model
fair-placed m = changed-twice bare_rows fair_condition m ∙ changed-same (λ rows. bare_rows (fair_condition rows)) fair_condition bare-fair m

pub copied :
    (limits : Limits) (s : List ℕ) (m : Model) (next : ℕ) → All (λ b. b < 256) s → read_model limits s ≡ got m next
    → Copied limits m
unfolding fair_copy fair_model
copied limits s m next bytes e =
    let w = changed-writable fair_condition fair-shortens m (writable limits s m next bytes e) in
    let short = le_trans (copy-short limits s m next bytes e) (sheet-of limits s m next e).most in
    let few = changed-few fair_condition limits m (read_whole_lem limits s m next e).few in
    let b = reads-back limits (changed fair_condition m) w short few in
    record { model = b.again; end = b.end; reads = b.reads; same = b.same ∙ fair-placed m }

-- "copying it again gives the same bytes"
fair-again-model : (x m : Model) → bare x ≡ fair_model m → fair_model x ≡ fair_model m
unfolding bare fair_model
fair-again-model x m same =
    sym (changed-twice fair_condition bare_rows x ∙ changed-same (λ rows. fair_condition (bare_rows rows)) fair_condition fair-bare x)
    ∙ ap (changed fair_condition) same
    ∙ changed-twice fair_condition fair_condition m
    ∙ changed-same (λ rows. fair_condition (fair_condition rows)) fair_condition fair-twice m

pub copy-again : (limits : Limits) (m : Model) (c : Copied limits m) → fair_copy c.model ≡ fair_copy m
unfolding fair_copy
copy-again limits m c = ap write_model (fair-again-model c.model m c.same)

-- Rows strictly ascending: those of the fair model, and those of the copy as it is read
abbrev pub Sorted : Condition → Type 0
Sorted rows = Ascending (rows_in rows)

pub copy-ascending : (m : Model) → ModelConditions Sorted (fair_model m)
unfolding fair_model fair_condition
copy-ascending m =
    every-changed Sorted fair_condition
    (λ rows. subst Ascending (sym (placed-none _)) (fair-ascending (rows_in rows)))
    m

pub copy-read-ascending : (limits : Limits) (m : Model) (c : Copied limits m) → ModelConditions Sorted c.model
unfolding bare
copy-read-ascending limits m c =
    every-unchanged Sorted bare_rows
    (λ rows h. subst Ascending (bare-by-rows rows) h)
    c.model
    (subst (ModelConditions Sorted) (sym c.same) (copy-ascending m))

-- What is allowed, visited and unsafe, of the copy as of the model
module _ (limits : Limits) (s : List ℕ) (m : Model) (next : ℕ) (e : read_model limits s ≡ got m next) (c : Copied limits m) where
  original : All (GoodComponent m.variables) m.components
  original = (well-formed limits s m next e).components

  copy : All (GoodComponent c.model.variables) c.model.components
  copy = (well-formed limits (fair_copy m) c.model c.end c.reads).components

  alike : {A : Type 0} (t : Model → A) → t (bare c.model) ≡ t c.model → t (fair_model m) ≡ t m → t c.model ≡ t m
  alike t p q = sym p ∙ ap t c.same ∙ q

  pub copy_start : (q : ℕ) → 1 ≤ q → (x : State) → start_allowed c.model q x ≡ start_allowed m q x
  unfolding bare fair_model
  copy_start q l x =
      alike (λ y. start_allowed y q x)
      (same_start bare_rows bare-faithful c.model copy q l x)
      (same_start fair_condition fair-faithful m original q l x)

  pub copy-steps : (q : ℕ) → 1 ≤ q → (x : State) (steps : List Step) → steps_allowed c.model q x steps ≡ steps_allowed m q x steps
  unfolding bare fair_model
  copy-steps q l x steps =
      alike (λ y. steps_allowed y q x steps)
      (same-steps bare_rows bare-faithful c.model copy q l x steps)
      (same-steps fair_condition fair-faithful m original q l x steps)

  pub copy-visited : (x : State) (steps : List Step) → visited c.model x steps ≡ visited m x steps
  unfolding bare fair_model
  copy-visited x steps =
      alike (λ y. visited y x steps)
      (same-visited bare_rows bare-faithful c.model copy x steps)
      (same-visited fair_condition fair-faithful m original x steps)

  pub copy-unsafe : (q : ℕ) → 1 ≤ q → (x : State) → is_unsafe c.model q x ≡ is_unsafe m q x
  unfolding bare fair_model
  copy-unsafe q l x =
      alike (λ y. is_unsafe y q x)
      (same-unsafe bare_rows bare-faithful c.model copy q l x)
      (same-unsafe fair_condition fair-faithful m original q l x)

  -- it has the model's version and paper number, and keeps the same variables: those that are still in a flow, and those that stay in a jump
  pub copy-version : c.model.version ≡ m.version
  unfolding bare fair_model changed
  copy-version = alike (λ y. y.version) refl refl

  pub copy-number : c.model.paper ≡ m.paper
  unfolding bare fair_model changed
  copy-number = alike (λ y. y.paper) refl refl

  pub copy-still : (location : ℕ) → still_variables c.model location ≡ still_variables m location
  unfolding bare fair_model
  copy-still location =
      alike (λ y. still_variables y location)
      (same-still bare_rows bare-faithful c.model copy location)
      (same-still fair_condition fair-faithful m original location)

  pub copy-staying : (switches : List ℕ) → staying_variables c.model switches ≡ staying_variables m switches
  unfolding bare fair_model
  copy-staying switches =
      alike (λ y. staying_variables y switches)
      (same-staying bare_rows bare-faithful c.model copy switches)
      (same-staying fair_condition fair-faithful m original switches)

  -- "The copy allows the same runs": each run of the one is a run of the other
  pub to-copy : (a : Run m) → (b : Run c.model) × SameRun b a
  to-copy a = (
    record {
      q = a.q;
      first = a.first;
      steps = a.steps;
      whole = a.whole;
      starts = subst T (sym (copy_start a.q a.whole a.first)) a.starts;
      allowed = subst T (sym (copy-steps a.q a.whole a.first a.steps)) a.allowed;
    },
    record { q = refl; first = refl; steps = refl },
  )

  pub from-copy : (b : Run c.model) → (a : Run m) × SameRun a b
  from-copy b = (
    record {
      q = b.q;
      first = b.first;
      steps = b.steps;
      whole = b.whole;
      starts = subst T (copy_start b.q b.whole b.first) b.starts;
      allowed = subst T (copy-steps b.q b.whole b.first b.steps) b.allowed;
    },
    record { q = refl; first = refl; steps = refl },
  )

  -- so the copy is safe exactly where the model is
  pub safe-alike : Safe c.model ↔ Safe m
  unfolding to-copy from-copy
  safe-alike = (
    λ safe run x d u.
        safe (to-copy run).0 x
        (subst (Memᴰ x) (sym (copy-visited run.first run.steps)) d)
        (subst T (sym (copy-unsafe run.q run.whole x)) u),
    λ safe run x d u.
        safe (from-copy run).0 x
        (subst (Memᴰ x) (copy-visited run.first run.steps) d)
        (subst T (copy-unsafe run.q run.whole x) u),
  )
