-- The roles of a table's lines: those of the definitions, group by group. Assumes nothing.
use mathlib.Core.Path.{◌≡◌, refl, sym, ap, ap₂, ◌∙◌}
use mathlib.Core.Bool.{Bool, true, false}
use mathlib.Core.List.{List, [], ◌∷◌, ◌++◌, map, append_assoc, map-append}
use Prim.Native.Nat.{ℕ, zero, suc, ◌+◌, ◌*◌, ◌≤◌, ◌<◌}
use native.Mathlib.Nat.{zero-add}
use native.Mathlib.Numerals.{add-one}
use native.Mathlib.Omega.{arith}
use lib.Dec.{eqb}
use lib.ListN.{length, get_or, drop}
use Rattle.formats.specs.Versions.{row_bytes}
use Rattle.formats.specs.Rows.{Condition}
use Rattle.fields.specs.Places.{rows_from}
use Rattle.formats.specs.Model.{Mode, Component, Switch}
use Rattle.formats.specs.Joint.{stays, switch_of, count_up}
use Rattle.models.specs.Index.{entry, component_place, mode_place, switch_place, unsafe_place, span_rows, mode_from, switch_from, components_from, model_from, GoodIndex}
use Rattle.models.specs.Counts.{component_at, per_component, KnownSwitches}
use Rattle.models.proofs.GoodIndexLaws.{components-drop, components-end, switch-at}
use Rattle.joint_switches.proofs.JointLoops.{components_on, numbers_on, per-component-drop}
use Rattle.rules.specs.Runs.{present, still_variables, staying_variables}
use Rattle.rules.specs.Roles.{Role, owned, row_roles, mode_roles, mover_roles, staying_role, start_roles, flow_roles, unsafe_roles, jump_roles}
use Rattle.hypotheses.specs.Tables.{TableLine, line, segment, role_of}
use Rattle.hypotheses.specs.Listing.{kept_lines, mode_lines, switch_line, switch_lines, staying_lines, still_lines, here_lines, start_lines, flow_lines, unsafe_lines, landing_lines, jump_lines}
use Rattle.papers.specs.Standing.{KnownModes, Stands}
use Rattle.papers.proofs.StandingLaws.{present_on, present-end, present-next}
use Rattle.hypotheses.proofs.ModeLines.{modes_on, modes-next, modes-end, switches_on, switches-next, switches-end, switch-stays, switch-moves}
use Rattle.hypotheses.proofs.HypothesisLines.{still-each, staying-each}

abbrev pub roles : List TableLine → List Role
roles lines = map role_of lines

-- rows that stand one after the other
roles-from : (s : List ℕ) (version m form place owner first count from : ℕ) → roles (map (line form place owner) (count_up first count)) ≡ row_roles form owner (rows_from s version m from count)
unfolding line role_of rows_from count_up row_roles
roles-from s version m form place owner first zero from = refl
roles-from s version m form place owner first (suc count) from =
    ap (λ (rest : List Role). owned form owner ∷ rest) (roles-from s version m form place owner (suc first) count (from + row_bytes version m))

roles-kept : (s : List ℕ) (version m form owner : ℕ) (index : List ℕ) (i : ℕ) → roles (kept_lines form owner index i) ≡ row_roles form owner (span_rows s version m index i)
unfolding kept_lines span_rows segment
roles-kept s version m form owner index i = roles-from s version m form (entry index i) owner 0 (entry index (i + 1)) (entry index i)

both : (xs ys : List TableLine) {rs qs : List Role} → roles xs ≡ rs → roles ys ≡ qs → roles (xs ++ ys) ≡ rs ++ qs
both xs ys p q = map-append role_of xs ys ∙ ap₂ (λ (us vs : List Role). us ++ vs) p q

-- conditions of the present modes
module _ (model index modes : List ℕ) (long : entry index 1 ≤ length modes) (known : KnownModes index modes) where
  module _ (form offset : ℕ) (of : Mode → Condition) (o : (i : ℕ) → of (mode_from model (entry index 11) (entry index 0) index i) ≡ span_rows model (entry index 11) (entry index 0) index (i + offset)) where
    from : (d k : ℕ) → k + d ≡ entry index 1 → roles (modes_on form offset index modes k) ≡ mode_roles form of k (present_on model index modes long k)
    unfolding mode_roles
    from zero k h =
        ap roles (modes-end form offset index modes long k (omega (arith, h)))
        ∙ sym (ap (mode_roles form of k) (present-end model index modes long k (omega (arith, h))))
    from (suc d) k h =
        let l : k < entry index 1 = omega (arith, h) in
        let place = mode_place (component_place k) (get_or modes k 0) in
        let rest = present_on model index modes long (k + 1) in
        ap roles (modes-next form offset index modes long k l)
        ∙ both (kept_lines form k index (place + offset)) (modes_on form offset index modes (k + 1))
        (roles-kept model (entry index 11) (entry index 0) form k index (place + offset) ∙ ap (row_roles form k) (sym (o place)))
        (from d (k + 1) (omega (arith, h)) ∙ ap (λ (i : ℕ). mode_roles form of i rest) (add-one k))
        ∙ sym (ap (mode_roles form of k) (present-next model index modes long known k l))

    pub modes-roles : roles (modes_on form offset index modes 0) ≡ mode_roles form of 0 (present_on model index modes long 0)
    modes-roles = from (entry index 1) 0 (zero-add (entry index 1))

-- rows of the switches by which components move
module _ (model index switches : List ℕ) (long : entry index 1 ≤ length switches) (known : KnownSwitches index switches) where
  abbrev movers_on : ℕ → List Role
  movers_on k = mover_roles k (components_on model index k) (numbers_on index switches k)

  abbrev chosen : ℕ → Bool → List Role
  chosen k b = elim b [ true ↦ movers_on (k + 1) | false ↦ row_roles 7 k (switch_of (component_at model index k) (get_or switches k 0)).jump ++ movers_on (k + 1) ]

  movers-first : (k : ℕ) → k < entry index 1 → movers_on k ≡ chosen k (eqb (get_or switches k 0) stays)
  unfolding mover_roles
  movers-first k h =
      ap₂ (mover_roles k) (components-drop model index k h) (per-component-drop index switches long k h)
      ∙ ap (λ (i : ℕ). elim (eqb (get_or switches k 0) stays) [ true ↦ mover_roles i (components_on model index (k + 1)) (numbers_on index switches (k + 1)) | false ↦ row_roles 7 k (switch_of (component_at model index k) (get_or switches k 0)).jump ++ mover_roles i (components_on model index (k + 1)) (numbers_on index switches (k + 1)) ]) (sym (add-one k))

  jump-roles : (k i : ℕ) → i < entry index (component_place k + 2) → roles (kept_lines 7 k index (switch_place (component_place k) i + 3)) ≡ row_roles 7 k (switch_of (component_at model index k) i).jump
  unfolding switch_from
  jump-roles k i h =
      roles-kept model (entry index 11) (2 * entry index 0) 7 k index (switch_place (component_place k) i + 3)
      ∙ sym (ap (λ (w : Switch). row_roles 7 k w.jump) (switch-at model index k i h))

  switch-turn : (k : ℕ) → k < entry index 1 → (b : Bool) → eqb (get_or switches k 0) stays ≡ b → roles (switch_line index k (get_or switches k 0)) ++ movers_on (k + 1) ≡ chosen k b
  switch-turn k h true e = ap (λ (ls : List TableLine). roles ls ++ movers_on (k + 1)) (switch-stays index k (get_or switches k 0) e)
  switch-turn k h false e =
      ap (λ (ls : List TableLine). roles ls ++ movers_on (k + 1)) (switch-moves index k (get_or switches k 0) e)
      ∙ ap (λ (rs : List Role). rs ++ movers_on (k + 1)) (jump-roles k (get_or switches k 0) (known.known k h e))

  movers-end : (k : ℕ) → k ≡ entry index 1 → movers_on k ≡ []
  unfolding mover_roles
  movers-end k h = ap (λ (components : List Component). mover_roles k components (numbers_on index switches k)) (ap (λ (i : ℕ). drop i (components_from model index)) h ∙ components-end model index)

  from-switch : (d k : ℕ) → k + d ≡ entry index 1 → roles (switches_on index switches k) ≡ movers_on k
  from-switch zero k h = ap roles (switches-end index switches long k (omega (arith, h))) ∙ sym (movers-end k (omega (arith, h)))
  from-switch (suc d) k h =
      let l : k < entry index 1 = omega (arith, h) in
      let here = switch_line index k (get_or switches k 0) in
      ap roles (switches-next index switches long k l)
      ∙ both here (switches_on index switches (k + 1)) refl (from-switch d (k + 1) (omega (arith, h)))
      ∙ switch-turn k l (eqb (get_or switches k 0) stays) refl
      ∙ sym (movers-first k l)

  pub switches-roles : roles (switches_on index switches 0) ≡ mover_roles 0 (components_from model index) (per_component index switches)
  switches-roles = from-switch (entry index 1) 0 (zero-add (entry index 1))

-- rows of variables that keep their value
two-roles : (v : ℕ) → roles (segment 8 v v 2) ≡ staying_role v
unfolding role_of line segment count_up staying_role
two-roles v = refl

-- The four tables. A location's modes, one per component, are those of the array
module _ (model second index regions modes : List ℕ) (location : ℕ) (long : entry index 1 ≤ length modes) (known : KnownModes index modes) where
  abbrev here : List Mode
  here = present (components_from model index) (per_component index modes)

  abbrev region : Condition
  region = span_rows second (entry index 11) (entry index 0) regions (2 * location)

  invariant-roles : (form : ℕ) → roles (mode_lines form 3 index 0 (per_component index modes)) ≡ mode_roles form (λ mode. mode.invariant) 0 here
  unfolding mode_from
  invariant-roles form = modes-roles model index modes long known form 3 (λ mode. mode.invariant) (λ i. refl)

  pub start-roles : roles (start_lines index (per_component index modes)) ≡ start_roles here
  unfolding start_lines start_roles mode_from
  start-roles =
      both (mode_lines 0 1 index 0 (per_component index modes)) (mode_lines 2 3 index 0 (per_component index modes))
      (modes-roles model index modes long known 0 1 (λ mode. mode.initial) (λ i. refl)) (invariant-roles 2)

  -- "region and invariants on x", then the rest
  here-roles : (rest : List TableLine) {rs : List Role} → roles rest ≡ rs → roles (here_lines index regions location (per_component index modes) ++ rest) ≡ row_roles 1 0 region ++ (mode_roles 2 (λ mode. mode.invariant) 0 here ++ rs)
  unfolding here_lines
  here-roles rest {rs} e =
      both (here_lines index regions location (per_component index modes)) rest
      (both (kept_lines 1 0 regions (2 * location)) (mode_lines 2 3 index 0 (per_component index modes)) (roles-kept second (entry index 11) (entry index 0) 1 0 regions (2 * location)) (invariant-roles 2)) e
      ∙ append_assoc (row_roles 1 0 region) (mode_roles 2 (λ mode. mode.invariant) 0 here) rs

  time-role : roles (segment 6 0 0 1) ≡ owned 6 0 ∷ []
  unfolding role_of line segment count_up
  time-role = refl

  pub flow-roles : GoodIndex model index → Stands model index location modes → roles (flow_lines model index regions location modes) ≡ flow_roles region here (still_variables (model_from model index) location)
  unfolding flow_lines flow_roles mode_from
  flow-roles good stands =
      here-roles (mode_lines 4 3 index 0 (per_component index modes) ++ (mode_lines 5 5 index 0 (per_component index modes) ++ (segment 6 0 0 1 ++ still_lines model index modes)))
      (both (mode_lines 4 3 index 0 (per_component index modes)) _ (invariant-roles 4)
      (both (mode_lines 5 5 index 0 (per_component index modes)) _ (modes-roles model index modes long known 5 5 (λ mode. mode.flow) (λ i. refl))
      (both (segment 6 0 0 1) (still_lines model index modes) time-role (still-each role_of staying_role two-roles good location modes stands long))))

  pub unsafe-roles : (u : ℕ) → roles (unsafe_lines index regions location (per_component index modes) u) ≡ unsafe_roles region here (span_rows model (entry index 11) (entry index 0) index (unsafe_place u + 4))
  unfolding unsafe_lines unsafe_roles
  unsafe-roles u = here-roles (kept_lines 3 0 index (unsafe_place u + 4)) (roles-kept model (entry index 11) (entry index 0) 3 0 index (unsafe_place u + 4))

  pub jump-lines-roles :
      (targets switches : List ℕ) → entry index 1 ≤ length targets → KnownModes index targets → entry index 1 ≤ length switches → KnownSwitches index switches → GoodIndex model index
      → roles (jump_lines model index regions location (per_component index modes) (per_component index targets) switches) ≡ jump_roles region here (present (components_from model index) (per_component index targets)) (components_from model index) (per_component index switches) (staying_variables (model_from model index) (per_component index switches))
  unfolding jump_lines landing_lines jump_roles mode_from per_component
  jump-lines-roles targets switches l k w s g =
      let after = mode_lines 4 3 index 0 (per_component index targets) in
      let moving = switch_lines index 0 (per_component index switches) in
      here-roles (after ++ (moving ++ staying_lines model index switches))
      (both after (moving ++ staying_lines model index switches) (modes-roles model index targets l k 4 3 (λ mode. mode.invariant) (λ i. refl))
      (both moving (staying_lines model index switches) (switches-roles model index switches w s) (staying-each role_of staying_role two-roles g switches s w)))
