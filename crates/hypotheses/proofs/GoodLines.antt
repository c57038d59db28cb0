-- Hypotheses whose rows lie within their sheets and among the unknowns, table by table. Assumes nothing.
use mathlib.Core.Path.{◌≡◌, refl, sym, subst}
use mathlib.Core.Bool.{Bool, true, false}
use mathlib.Core.List.{List, map}
use Prim.Native.Nat.{ℕ, zero, suc, ◌+◌, ◌*◌, ◌≤◌, ◌<◌}
use native.Mathlib.Nat.{zero-add}
use native.Mathlib.Omega.{arith}
use lib.Dec.{eqb}
use lib.ListN.{length, get_or}
use Rattle.farkas.specs.Lists.{All, none, more}
use Rattle.farkas.proofs.All.{all_append}
use Rattle.formats.specs.Locations.{location_count}
use Rattle.formats.specs.Joint.{stays, count_up, join_all}
use Rattle.models.specs.Index.{entry, component_place, mode_place, switch_place, unsafe_place, components_from, GoodSpan, GoodIndex}
use Rattle.models.specs.Counts.{per_component, KnownSwitches}
use Rattle.second_sheets.specs.CertificateAnswers.{GoodRegions}
use Rattle.hypotheses.specs.Tables.{TableLine, line, segment, row_place, GoodLine}
use Rattle.hypotheses.specs.Listing.{kept_lines, mode_lines, switch_line, variable_line, variable_at, variable_lines, here_lines, start_lines, flow_lines, unsafe_lines, landing_lines, jump_lines}
use Rattle.papers.specs.Standing.{GoodModes, KnownModes}
use Rattle.papers.specs.Papers.{GoodPaper}
use Rattle.papers.specs.Blanks.{still_at, rests_at}
use Rattle.hypotheses.proofs.ModeLines.{modes_on, modes-next, modes-end, switches_on, switches-next, switches-end, switch-stays, switch-moves}
use Rattle.papers.proofs.StandingLaws.{initial-good, invariant-good, flow-good}
use Rattle.formats.specs.Versions.{row_bytes}

-- a property of every hypothesis of a segment
module _ (P : TableLine → Type 0) (form place owner : ℕ) where
  all_from : (first count : ℕ) → ((j : ℕ) → j < first + count → P (line form place owner j)) → All P (map (line form place owner) (count_up first count))
  unfolding count_up
  all_from first zero h = none
  all_from first (suc count) h = more (h first (omega arith)) (all_from (suc first) count (λ j l. h j (omega arith)))

  pub segment-all : (count : ℕ) → ((j : ℕ) → j < count → P (line form place owner j)) → All P (segment form place owner count)
  unfolding segment
  segment-all count h = all_from 0 count (λ j l. h j (omega arith))

-- a hypothesis of a form: what it asks of the unknowns
pub record Fits (n width form : ℕ) : Type 0 where
  pub before : n ≤ width
  pub after : 4 ≤ form → n + n ≤ width
  pub timed : 5 ≤ form → form ≤ 6 → n + n + 1 ≤ width

module _ (model second : List ℕ) (version n width : ℕ) where
  -- rows of the model
  model-line : (form place owner row : ℕ) → Fits n width form → form < 6 → (form ≡ 1 → ⊥) → row_place version n place row + row_bytes version n ≤ length model → GoodLine model second version n width (line form place owner row)
  unfolding line
  model-line form place owner row w h f l =
      record {
        in_model = λ a b. l;
        in_second = λ e. absurd (f e);
        jump = λ e. absurd (omega (arith, e, h));
        staying = λ m. absurd (omega (arith, m, h));
        before = w.before;
        after = w.after;
        timed = w.timed;
      }

  second-line : (place owner row : ℕ) → Fits n width 1 → row_place version n place row + row_bytes version n ≤ length second → GoodLine model second version n width (line 1 place owner row)
  unfolding line
  second-line place owner row w l =
      record {
        in_model = λ a b. absurd (b refl);
        in_second = λ e. l;
        jump = λ e. absurd (omega (arith, e));
        staying = λ m. absurd (omega (arith, m));
        before = w.before;
        after = w.after;
        timed = w.timed;
      }

  time-line : (row : ℕ) → Fits n width 6 → GoodLine model second version n width (line 6 0 0 row)
  unfolding line
  time-line row w =
      record {
        in_model = λ a b. absurd (omega (arith, a));
        in_second = λ e. absurd (omega (arith, e));
        jump = λ e. absurd (omega (arith, e));
        staying = λ m. absurd (omega (arith, m));
        before = w.before;
        after = w.after;
        timed = w.timed;
      }

  jump-line : (place owner row : ℕ) → Fits n width 7 → row_place version (2 * n) place row + row_bytes version (2 * n) ≤ length model → GoodLine model second version n width (line 7 place owner row)
  unfolding line
  jump-line place owner row w l =
      record {
        in_model = λ a b. absurd (omega (arith, a));
        in_second = λ e. absurd (omega (arith, e));
        jump = λ e. l;
        staying = λ m. absurd (omega (arith, m));
        before = w.before;
        after = w.after;
        timed = w.timed;
      }

  staying-line : (v row : ℕ) → Fits n width 8 → v < n → GoodLine model second version n width (line 8 v v row)
  unfolding line
  staying-line v row w l =
      record {
        in_model = λ a b. absurd (omega (arith, a));
        in_second = λ e. absurd (omega (arith, e));
        jump = λ e. absurd (omega (arith, e));
        staying = λ m. l;
        before = w.before;
        after = w.after;
        timed = w.timed;
      }

  model-span : (form owner : ℕ) (index : List ℕ) (i : ℕ) → Fits n width form → form < 6 → (form ≡ 1 → ⊥) → GoodSpan model version n index i → All (GoodLine model second version n width) (kept_lines form owner index i)
  unfolding kept_lines row_place
  model-span form owner index i w h f g =
      segment-all (GoodLine model second version n width) form (entry index i) owner (entry index (i + 1)) (λ j l. model-line form (entry index i) owner j w h f (omega (arith, g.within j l)))

  jump-span : (owner : ℕ) (index : List ℕ) (i : ℕ) → Fits n width 7 → GoodSpan model version (2 * n) index i → All (GoodLine model second version n width) (kept_lines 7 owner index i)
  unfolding kept_lines row_place
  jump-span owner index i w g =
      segment-all (GoodLine model second version n width) 7 (entry index i) owner (entry index (i + 1)) (λ j l. jump-line (entry index i) owner j w (omega (arith, g.within j l)))

  region-span : (regions : List ℕ) (count location : ℕ) → Fits n width 1 → location < count → GoodRegions second version n count regions → All (GoodLine model second version n width) (kept_lines 1 0 regions (2 * location))
  unfolding kept_lines row_place
  region-span regions count location w h g =
      segment-all (GoodLine model second version n width) 1 (entry regions (2 * location)) 0 (entry regions (2 * location + 1))
      (λ j l. second-line (entry regions (2 * location)) 0 j w (omega (arith, g.within location h j l)))

-- lines of modes
module _ (model second index modes : List ℕ) (width : ℕ) (long : entry index 1 ≤ length modes) (form offset : ℕ) (w : Fits (entry index 0) width form) (h : form < 6) (f : form ≡ 1 → ⊥) (good : GoodModes model index modes offset) where
  modes-good-from : (d k : ℕ) → k + d ≡ entry index 1 → All (GoodLine model second (entry index 11) (entry index 0) width) (modes_on form offset index modes k)
  modes-good-from zero k e = subst (All (GoodLine model second (entry index 11) (entry index 0) width)) (sym (modes-end form offset index modes long k (omega (arith, e)))) none
  modes-good-from (suc d) k e =
      let l : k < entry index 1 = omega (arith, e) in
      subst (All (GoodLine model second (entry index 11) (entry index 0) width)) (sym (modes-next form offset index modes long k l))
      (all_append (model-span model second (entry index 11) (entry index 0) width form k index (mode_place (component_place k) (get_or modes k 0) + offset) w h f (good.spans k l)) (modes-good-from d (k + 1) (omega (arith, e))))

  pub modes-good : All (GoodLine model second (entry index 11) (entry index 0) width) (modes_on form offset index modes 0)
  modes-good = modes-good-from (entry index 1) 0 (zero-add (entry index 1))

-- lines of switches
module _ (model second index switches : List ℕ) (width : ℕ) (w : Fits (entry index 0) width 7) (long : entry index 1 ≤ length switches) (g : GoodIndex model index) (known : KnownSwitches index switches) where
  switch-good : (k : ℕ) → k < entry index 1 → All (GoodLine model second (entry index 11) (entry index 0) width) (switch_line index k (get_or switches k 0))
  switch-good k h = go (eqb (get_or switches k 0) stays) refl
    where
      go : (b : Bool) → eqb (get_or switches k 0) stays ≡ b → All (GoodLine model second (entry index 11) (entry index 0) width) (switch_line index k (get_or switches k 0))
      go true e = subst (All (GoodLine model second (entry index 11) (entry index 0) width)) (sym (switch-stays index k (get_or switches k 0) e)) none
      go false e =
          subst (All (GoodLine model second (entry index 11) (entry index 0) width)) (sym (switch-moves index k (get_or switches k 0) e))
          (jump-span model second (entry index 11) (entry index 0) width k index (switch_place (component_place k) (get_or switches k 0) + 3) w ((g.blocks k h).switches (get_or switches k 0) (known.known k h e)).jump)

  switches-good-from : (d k : ℕ) → k + d ≡ entry index 1 → All (GoodLine model second (entry index 11) (entry index 0) width) (switches_on index switches k)
  switches-good-from zero k e = subst (All (GoodLine model second (entry index 11) (entry index 0) width)) (sym (switches-end index switches long k (omega (arith, e)))) none
  switches-good-from (suc d) k e =
      let l : k < entry index 1 = omega (arith, e) in
      subst (All (GoodLine model second (entry index 11) (entry index 0) width)) (sym (switches-next index switches long k l)) (all_append (switch-good k l) (switches-good-from d (k + 1) (omega (arith, e))))

  pub switches-good : All (GoodLine model second (entry index 11) (entry index 0) width) (switches_on index switches 0)
  switches-good = switches-good-from (entry index 1) 0 (zero-add (entry index 1))

-- lines of variables that keep their value
module _ (model second : List ℕ) (version n width : ℕ) (w : Fits n width 8) (test : ℕ → Bool) where
  variable-good : (v : ℕ) → v < n → (b : Bool) → All (GoodLine model second version n width) (variable_line b v)
  unfolding variable_line
  variable-good v h true = segment-all (GoodLine model second version n width) 8 v v 2 (λ j l. staying-line model second version n width v j w h)
  variable-good v h false = none

  variables-good-from : (v d : ℕ) → v + d ≤ n → All (GoodLine model second version n width) (join_all (variable_at test) (count_up v d))
  unfolding join_all count_up
  variables-good-from v zero h = none
  variables-good-from v (suc d) h = all_append (variable-good v (omega arith) (test v)) (variables-good-from (suc v) d (omega arith))

  pub variables-good : All (GoodLine model second version n width) (variable_lines test n)
  unfolding variable_lines
  variables-good = variables-good-from 0 n (omega (arith, zero-add n))

-- The tables: on x, on x and x', and on x, x' and d
on-x : (n width form : ℕ) → n ≤ width → form < 4 → Fits n width form
on-x n width form l h = record { before = l; after = λ m. absurd (omega arith); timed = λ m k. absurd (omega arith) }

on_both : (n width form : ℕ) → n + n ≤ width → (5 ≤ form → form ≤ 6 → ⊥) → Fits n width form
on_both n width form l f = record { before = omega arith; after = λ m. l; timed = λ m k. absurd (f m k) }

on-all : (n width form : ℕ) → n + n + 1 ≤ width → Fits n width form
on-all n width form l = record { before = omega arith; after = λ m. omega arith; timed = λ m k. l }

module _ (model index second regions modes : List ℕ) (location : ℕ) (long : entry index 1 ≤ length modes) (known : KnownModes index modes) (paper : GoodPaper model index second regions) where
  abbrev Table : ℕ → List TableLine → Type 0
  Table width lines = All (GoodLine model second (entry index 11) (entry index 0) width) lines

  invariants : (width form : ℕ) → Fits (entry index 0) width form → form < 6 → (form ≡ 1 → ⊥) → Table width (mode_lines form 3 index 0 (per_component index modes))
  invariants width form w h f = modes-good model second index modes width long form 3 w h f (invariant-good model index modes paper.good known)

  pub start_fine : Table (entry index 0) (start_lines index (per_component index modes))
  unfolding start_lines
  start_fine =
      all_append
      (modes-good model second index modes (entry index 0) long 0 1 (on-x (entry index 0) (entry index 0) 0 (omega arith) (omega arith)) (omega arith) (λ e. omega (arith, e)) (initial-good model index modes paper.good known))
      (invariants (entry index 0) 2 (on-x (entry index 0) (entry index 0) 2 (omega arith) (omega arith)) (omega arith) (λ e. omega (arith, e)))

  module _ (h : location < location_count (components_from model index)) where
    pub here-fine : (width : ℕ) → entry index 0 ≤ width → Table width (here_lines index regions location (per_component index modes))
    unfolding here_lines
    here-fine width l =
        all_append
        (region-span model second (entry index 11) (entry index 0) width regions (location_count (components_from model index)) location (on-x (entry index 0) width 1 l (omega arith)) h paper.placed)
        (invariants width 2 (on-x (entry index 0) width 2 l (omega arith)) (omega arith) (λ e. omega (arith, e)))

    pub flow-fine : Table (entry index 0 + entry index 0 + 1) (flow_lines model index regions location modes)
    unfolding flow_lines
    flow-fine =
        let n = entry index 0 in let version = entry index 11 in
        let width = n + n + 1 in
        all_append (here-fine width (omega arith))
        (all_append (invariants width 4 (on-all n width 4 (omega arith)) (omega arith) (λ e. omega (arith, e)))
        (all_append (modes-good model second index modes width long 5 5 (on-all n width 5 (omega arith)) (omega arith) (λ e. omega (arith, e)) (flow-good model index modes paper.good known))
        (all_append (segment-all (GoodLine model second version n width) 6 0 0 1 (λ j l. time-line model second version n width j (on-all n width 6 (omega arith))))
        (variables-good model second version n width (on-all n width 8 (omega arith)) (still_at model index modes)))))

    pub unsafe-fine : (u : ℕ) → u < entry index 2 → Table (entry index 0) (unsafe_lines index regions location (per_component index modes) u)
    unfolding unsafe_lines
    unsafe-fine u l =
        all_append (here-fine (entry index 0) (omega arith))
        (model-span model second (entry index 11) (entry index 0) (entry index 0) 3 0 index (unsafe_place u + 4) (on-x (entry index 0) (entry index 0) 3 (omega arith) (omega arith)) (omega arith) (λ e. omega (arith, e)) (paper.good.unsafe u l))

    pub jump-fine : (targets switches : List ℕ) → entry index 1 ≤ length targets → KnownModes index targets → entry index 1 ≤ length switches → KnownSwitches index switches → Table (entry index 0 + entry index 0) (jump_lines model index regions location (per_component index modes) (per_component index targets) switches)
    unfolding jump_lines landing_lines per_component
    jump-fine targets switches l k w s =
        let n = entry index 0 in
        let width = n + n in
        all_append (here-fine width (omega arith))
        (all_append (modes-good model second index targets width l 4 3 (on_both n width 4 (omega arith) (λ a b. omega arith)) (omega arith) (λ e. omega (arith, e)) (invariant-good model index targets paper.good k))
        (all_append (switches-good model second index switches width (on_both n width 7 (omega arith) (λ a b. omega arith)) w paper.good s)
        (variables-good model second (entry index 11) n width (on_both n width 8 (omega arith) (λ a b. omega arith)) (rests_at model index switches))))
