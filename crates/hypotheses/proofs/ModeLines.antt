-- Lines of modes and of switches, component by component: a turn of the loop that pushes them, and its end. Assumes nothing.
use mathlib.Core.Path.{◌≡◌, refl, sym, ap, ◌∙◌}
use mathlib.Core.Bool.{Bool, true, false, ◌&&◌}
use mathlib.Core.List.{List, [], ◌∷◌, ◌++◌}
use Prim.Native.Nat.{ℕ, ◌+◌, ◌≤◌, ◌<◌}
use native.Mathlib.Numerals.{add-one}
use native.Mathlib.Omega.{arith}
use lib.Dec.{eqb}
use lib.ListN.{length, get_or, drop_of_length-le}
use Rattle.formats.specs.Joint.{stays, count_up, join_all}
use Rattle.formats.specs.Versions.{keeps_blanks}
use Rattle.models.specs.Index.{entry, component_place, mode_place, switch_place, span_rows, GoodIndex}
use Rattle.models.specs.Counts.{per_component, KnownSwitches}
use Rattle.papers.specs.Standing.{GoodModes}
use Rattle.papers.specs.Blanks.{owner_in, still_at, stays_at, rests_at, keeps_at}
use Rattle.papers.proofs.BlankLaws.{plain-rests}
use Rattle.rules.proofs.ListFacts.{joined-alike}
pub use Rattle.papers.proofs.StandingLaws.{mode-within, switch-within}
use Rattle.rules.specs.Runs.{unmentioned}
use Rattle.joint_switches.proofs.JointLoops.{numbers_on, per-component-length, per-component-drop}
use Rattle.hypotheses.specs.Tables.{TableLine, segment}
use Rattle.hypotheses.specs.Listing.{kept_lines, mode_lines, switch_line, switch_lines, variable_line, variable_at, variable_lines, staying_lines, still_lines, FewRows, FewJumps}

numbers-end : (index numbers : List ℕ) (long : entry index 1 ≤ length numbers) (k : ℕ) → entry index 1 ≤ k → numbers_on index numbers k ≡ []
numbers-end index numbers long k h = drop_of_length-le (per_component index numbers) {i = k} (omega (arith, per-component-length index numbers long))

-- the lines of the modes from component k on
abbrev pub modes_on : ℕ → ℕ → List ℕ → List ℕ → ℕ → List TableLine
modes_on form offset index modes k = mode_lines form offset index k (numbers_on index modes k)

module _ (form offset : ℕ) (index modes : List ℕ) (long : entry index 1 ≤ length modes) where
  pub modes-next : (k : ℕ) → k < entry index 1 → modes_on form offset index modes k ≡ kept_lines form k index (mode_place (component_place k) (get_or modes k 0) + offset) ++ modes_on form offset index modes (k + 1)
  unfolding mode_lines
  modes-next k h =
      let kept = kept_lines form k index (mode_place (component_place k) (get_or modes k 0) + offset) in
      ap (mode_lines form offset index k) (per-component-drop index modes long k h)
      ∙ ap (λ (i : ℕ). kept ++ mode_lines form offset index i (numbers_on index modes (k + 1))) (sym (add-one k))

  pub modes-end : (k : ℕ) → entry index 1 ≤ k → modes_on form offset index modes k ≡ []
  unfolding mode_lines
  modes-end k h = ap (mode_lines form offset index k) (numbers-end index modes long k h)

-- the lines of the switches from component k on
abbrev pub switches_on : List ℕ → List ℕ → ℕ → List TableLine
switches_on index switches k = switch_lines index k (numbers_on index switches k)

module _ (index switches : List ℕ) (long : entry index 1 ≤ length switches) where
  pub switches-next : (k : ℕ) → k < entry index 1 → switches_on index switches k ≡ switch_line index k (get_or switches k 0) ++ switches_on index switches (k + 1)
  unfolding switch_lines
  switches-next k h =
      ap (switch_lines index k) (per-component-drop index switches long k h)
      ∙ ap (λ (i : ℕ). switch_line index k (get_or switches k 0) ++ switch_lines index i (numbers_on index switches (k + 1))) (sym (add-one k))

  pub switches-end : (k : ℕ) → entry index 1 ≤ k → switches_on index switches k ≡ []
  unfolding switch_lines
  switches-end k h = ap (switch_lines index k) (numbers-end index switches long k h)

pub switch-stays : (index : List ℕ) (k i : ℕ) → eqb i stays ≡ true → switch_line index k i ≡ []
unfolding switch_line
switch-stays index k i e = rw (switch_line, e) refl

pub switch-moves : (index : List ℕ) (k i : ℕ) → eqb i stays ≡ false → switch_line index k i ≡ kept_lines 7 k index (switch_place (component_place k) i + 3)
unfolding switch_line
switch-moves index k i e = rw (switch_line, e) refl

-- of variables that keep their value
pub variable-free : (kept : Bool) (v : ℕ) → kept ≡ false → variable_line kept v ≡ []
unfolding variable_line
variable-free kept v e = ap (λ (b : Bool). variable_line b v) e

pub variable-kept : (kept : Bool) (v : ℕ) → kept ≡ true → variable_line kept v ≡ segment 8 v v 2
unfolding variable_line
variable-kept kept v e = ap (λ (b : Bool). variable_line b v) e

none-joined : {B : Type 0} (f : ℕ → List B) (xs : List ℕ) → ((v : ℕ) → f v ≡ []) → join_all f xs ≡ []
unfolding join_all
none-joined f [] h = refl
none-joined f (x ∷ xs) h = ap (λ zs. zs ++ join_all f xs) (h x) ∙ none-joined f xs h

-- where no blank is kept, a flow keeps none
pub nothing-still : (model index modes : List ℕ) → keeps_blanks (entry index 11) ≡ false → still_lines model index modes ≡ []
unfolding variable_lines still_at
nothing-still model index modes e =
    none-joined (variable_at (still_at model index modes)) (count_up 0 (entry index 0))
    (λ v. variable-free (still_at model index modes v) v
    (ap (λ (b : Bool). b && unmentioned v (span_rows model (entry index 11) (entry index 0) index (mode_place (component_place (owner_in index v)) (get_or modes (owner_in index v) 0) + 5))) e))

-- and a jump only those whose owners stay
pub plain-staying : (model index switches : List ℕ) → keeps_blanks (entry index 11) ≡ false → variable_lines (stays_at index switches) (entry index 0) ≡ staying_lines model index switches
unfolding variable_lines
plain-staying model index switches e =
    joined-alike (variable_at (stays_at index switches)) (variable_at (rests_at model index switches)) (count_up 0 (entry index 0))
    (λ v. ap (λ (b : Bool). variable_line b v) (plain-rests model index switches v e))

-- the lists of a flow and of a jump are one list, by what is known of the variables
pub kept-flow : (model index modes : List ℕ) → variable_lines (keeps_at model index true modes) (entry index 0) ≡ still_lines model index modes
unfolding keeps_at
kept-flow model index modes = refl

pub kept-jump : (model index switches : List ℕ) → variable_lines (keeps_at model index false switches) (entry index 0) ≡ staying_lines model index switches
unfolding keeps_at
kept-jump model index switches = refl

-- in a good index, conditions have few rows
pub few-rows : (s index modes : List ℕ) (offset : ℕ) → GoodIndex s index → offset ≤ 5 → GoodModes s index modes offset → FewRows index modes offset
few-rows s index modes offset g h good = record { components = g.few; small = good.small; few = λ k l. (good.spans k l).few; within = h }

-- and of known switches the jump conditions
pub few-jumps : (s index switches : List ℕ) → GoodIndex s index → KnownSwitches index switches → FewJumps index switches
few-jumps s index switches g known =
    record {
      each = λ k h.
          record {
            small = λ e. omega (arith, known.known k h e, (g.blocks k h).few);
            few = λ e. ((g.blocks k h).switches (get_or switches k 0) (known.known k h e)).jump.few;
          };
    }
