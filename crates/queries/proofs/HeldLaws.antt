-- The tables hold the hypotheses of their groups, in their roles; and where the row of a line stands, by its form. Assumes nothing.
use mathlib.Core.Path.{◌≡◌, refl, sym, ap, ap₂, ◌∙◌, subst}
use mathlib.Core.Bool.{Bool, true, false}
use mathlib.Core.List.{List, map}
use Prim.Native.Nat.{ℕ, zero, suc, ◌+◌, ◌*◌, ◌≤◌, ◌<◌}
use native.Mathlib.Omega.{arith}
use borrow.Author.Tests.{lt-ltb, le-ltb}
use lib.Arith.{le-zero}
use lib.ListN.{length, get_or, length-map}
use Rattle.farkas.specs.Rows.{zero_row}
use Rattle.formats.specs.Rows.{Condition}
use Rattle.formats.specs.Model.{Mode, Unsafe, Model}
use Rattle.fields.specs.Places.{row_at}
use Rattle.formats.specs.Locations.{location_count}
use Rattle.formats.specs.Joint.{JointSwitch}
use Rattle.models.specs.Index.{entry, span_rows, unsafe_place, unsafe_from, components_from, model_from, GoodIndex}
use Rattle.models.specs.Counts.{per_component, KnownSwitches}
use Rattle.queries.specs.declared.RowFound.{RowFound}
use Rattle.queries.specs.declared.RowFound.TheVariants as row
use Rattle.rules.specs.Runs.{present, modes_in, movers, staying_variables, still_variables}
use Rattle.rules.specs.Obligations.{Hypothesis, nowhere, standing, start_hypotheses, flow_hypotheses, unsafe_hypotheses, jump_hypotheses}
use Rattle.rules.specs.Roles.{Role, owned, no_role, start_roles, flow_roles, unsafe_roles, jump_roles, joint_roles, kind_roles}
use Rattle.formats.proofs.JointCounts.{mapped_at}
use Rattle.hypotheses.specs.Tables.{TableLine, line, end_of, form_of, owner_of, lines_in, Stacked, row_place, hypothesis_in, hypothesis_of, hypotheses_from, role_of, roles_from}
use Rattle.hypotheses.proofs.TableLaws.{lines-length}
use Rattle.sums.specs.declared.Line.{Line}
use Rattle.sums.specs.Summing.{InSegment, line_in}
use Rattle.sums.proofs.LineLaws.{line-there}
use Rattle.papers.specs.Standing.{Stands}
use Rattle.papers.specs.Paper.{regions_of}
use Rattle.hypotheses.specs.Listing.{start_lines, flow_lines, unsafe_lines, jump_lines}
use Rattle.std.specs.Prelude.{Option, Some, None}
use Rattle.queries.specs.declared.Located.{Located}
use Rattle.queries.specs.Finding.{stands_in, row_of, in_role, located_at, group_kind, group_line, group_hypotheses, group_roles, joint_hypotheses, Held}
use Rattle.hypotheses.proofs.HypothesisLines.{told, start-told, flow-told, unsafe-told, jump-lines-told}
use Rattle.hypotheses.proofs.RoleLines.{roles, start-roles, flow-roles, unsafe-roles, jump-lines-roles}
use Rattle.papers.proofs.RegionLaws.{region-at}
use Rattle.queries.proofs.FindLaws.{condition-at}
use Rattle.formats.specs.Versions.{row_bytes}

-- The lines of a table, by its segments
module _ (model second : List ℕ) (version n : ℕ) (table : List ℕ) (segments : ℕ) (s : Stacked table segments) where
  hypotheses-length : length (hypotheses_from model second version n table segments) ≡ end_of table segments
  unfolding hypotheses_from
  hypotheses-length = length-map (lines_in table segments) (hypothesis_of model second version n) ∙ lines-length table segments s

  hypothesis-at : (g h : ℕ) → InSegment table segments g h → h < end_of table segments → get_or (hypotheses_from model second version n table segments) h (nowhere zero_row) ≡ hypothesis_in model second version n (line_in table g h).form (line_in table g h).place (line_in table g h).row
  unfolding hypotheses_from hypothesis_of line_in line
  hypothesis-at g h i l =
      mapped_at (hypothesis_of model second version n) (lines_in table segments) h (line 0 0 0 0) (nowhere zero_row) (omega (arith, l, lines-length table segments s))
      ∙ ap (hypothesis_of model second version n) (line-there table segments g h s i (line 0 0 0 0))

  role-at : (g h : ℕ) → InSegment table segments g h → h < end_of table segments → get_or (roles_from table segments) h no_role ≡ owned (form_of table g) (owner_of table g)
  unfolding roles_from role_of line
  role-at g h i l =
      mapped_at role_of (lines_in table segments) h (line 0 0 0 0) no_role (omega (arith, l, lines-length table segments s))
      ∙ ap role_of (line-there table segments g h s i (line 0 0 0 0))

  pub row-there : (g h : ℕ) {l : Line} {r : RowFound} → InSegment table segments g h → h < end_of table segments → l ≡ line_in table g h → r ≡ row_of (hypothesis_in model second version n l.form l.place l.row) → Some (in_role r (owned l.form (owner_of table g))) ≡ located_at (hypotheses_from model second version n table segments) (roles_from table segments) h
  unfolding located_at line_in
  row-there g h {l} {r} i u q e =
      let all = hypotheses_from model second version n table segments in
      let same : r ≡ row_of (get_or all h (nowhere zero_row)) =
      e
      ∙ ap (λ (k : Line). row_of (hypothesis_in model second version n k.form k.place k.row)) q
      ∙ ap row_of (sym (hypothesis-at g h i u)) in
      let role : owned l.form (owner_of table g) ≡ get_or (roles_from table segments) h no_role =
      ap (λ (k : Line). owned k.form (owner_of table g)) q ∙ sym (role-at g h i u) in
      ap₂ (λ (x : RowFound) (k : Role). Some (in_role x k)) same role
      ∙ ap (λ (b : Bool). elim b as (λ _. Option Located) [ true ↦ Some (in_role (row_of (get_or all h (nowhere zero_row))) (get_or (roles_from table segments) h no_role)) | false ↦ None ]) (sym (lt-ltb h (length all) (omega (arith, u, hypotheses-length))))

  pub row-beyond : (h : ℕ) → end_of table segments ≤ h → None ≡ located_at (hypotheses_from model second version n table segments) (roles_from table segments) h
  unfolding located_at
  row-beyond h l =
      let all = hypotheses_from model second version n table segments in
      ap (λ (b : Bool). elim b as (λ _. Option Located) [ true ↦ Some (in_role (row_of (get_or all h (nowhere zero_row))) (get_or (roles_from table segments) h no_role)) | false ↦ None ]) (sym (le-ltb h (length all) (omega (arith, l, hypotheses-length))))

-- a table that has nothing yet
pub empty-stacked : (table : List ℕ) → entry table 0 ≡ 0 → Stacked table 0
empty-stacked table h = record {
  first = h;
  ascending = λ g a b. absurd (omega arith);
  small = λ g l. omega (arith, h, ap (λ (k : ℕ). entry table (4 * k)) (le-zero l));
}

-- the sheet, place and size of a line's row, by its form
module _ (model second : List ℕ) (version n place i : ℕ) where
  abbrev at : ℕ → RowFound
  at form = row_of (hypothesis_in model second version n form place i)

  pub form-second : (form : ℕ) → form ≡ 1 → row.InSecond (row_place version n place i) (row_bytes version n) ≡ at form
  unfolding hypothesis_in standing row_at row_of stands_in
  form-second form e = ap at (sym e)

  pub form-jump : (form : ℕ) → form ≡ 7 → row.InModel (row_place version (2 * n) place i) (row_bytes version (2 * n)) ≡ at form
  unfolding hypothesis_in standing row_at row_of stands_in
  form-jump form e = ap at (sym e)

  pub form-model : (form : ℕ) → form ≤ 5 → (form ≡ 1 → ⊥) → row.InModel (row_place version n place i) (row_bytes version n) ≡ at form
  unfolding hypothesis_in standing row_at row_of stands_in
  form-model zero h f = refl
  form-model (suc zero) h f = absurd (f refl)
  form-model (suc (suc zero)) h f = refl
  form-model (suc (suc (suc zero))) h f = refl
  form-model (suc (suc (suc (suc zero)))) h f = refl
  form-model (suc (suc (suc (suc (suc zero))))) h f = refl
  form-model (suc (suc (suc (suc (suc (suc form)))))) h f = absurd (omega (arith, h))

  pub form-nowhere : (form : ℕ) → 5 < form → (form ≡ 7 → ⊥) → row.Nowhere ≡ at form
  unfolding hypothesis_in nowhere row_of stands_in
  form-nowhere zero h f = absurd (omega (arith, h))
  form-nowhere (suc zero) h f = absurd (omega (arith, h))
  form-nowhere (suc (suc zero)) h f = absurd (omega (arith, h))
  form-nowhere (suc (suc (suc zero))) h f = absurd (omega (arith, h))
  form-nowhere (suc (suc (suc (suc zero)))) h f = absurd (omega (arith, h))
  form-nowhere (suc (suc (suc (suc (suc zero))))) h f = absurd (omega (arith, h))
  form-nowhere (suc (suc (suc (suc (suc (suc zero)))))) h f = refl
  form-nowhere (suc (suc (suc (suc (suc (suc (suc zero))))))) h f = absurd (f refl)
  form-nowhere (suc (suc (suc (suc (suc (suc (suc (suc form)))))))) h f = refl

-- The tables hold the hypotheses of their groups
module _ (model index second regions : List ℕ) where
  abbrev m : Model
  m = model_from model index

  abbrev region_at : ℕ → Condition
  region_at = regions_of model index second regions

  region-here : (location : ℕ) → location < location_count (components_from model index) → span_rows second (entry index 11) (entry index 0) regions (2 * location) ≡ region_at location
  unfolding regions_of
  region-here location h = sym (region-at model index second regions location h)

  present-there : (location : ℕ) (modes : List ℕ) → Stands model index location modes → present (components_from model index) (per_component index modes) ≡ modes_in m location
  unfolding modes_in model_from
  present-there location modes stands = ap (present (components_from model index)) stands.here

  from-lines :
      (table : List ℕ) (count : ℕ) (lines : List TableLine) {hs : List Hypothesis} {rs : List Role}
      → lines_in table count ≡ lines → told model second (entry index 11) (entry index 0) lines ≡ hs → roles lines ≡ rs → Held model second (entry index 11) (entry index 0) table count hs rs
  unfolding hypotheses_from roles_from
  from-lines table count lines e t r =
      record { hypotheses = ap (map (hypothesis_of model second (entry index 11) (entry index 0))) e ∙ t; roles = ap (map role_of) e ∙ r }

  -- where a part is told of the rows that an index keeps, and of the modes that stand there, it is told of the region and the location
  there-told : {B : Type 0} (f : Condition → List Mode → B) (location : ℕ) (modes : List ℕ) → Stands model index location modes → f (span_rows second (entry index 11) (entry index 0) regions (2 * location)) (present (components_from model index) (per_component index modes)) ≡ f (region_at location) (modes_in m location)
  there-told f location modes stands = ap₂ f (region-here location stands.below) (present-there location modes stands)

  module _ (modes : List ℕ) (location : ℕ) (long : entry index 1 ≤ length modes) (stands : Stands model index location modes) where
    pub start-held : (table : List ℕ) (count : ℕ) → lines_in table count ≡ start_lines index (per_component index modes) → Held model second (entry index 11) (entry index 0) table count (group_hypotheses m region_at location 0) (group_roles m region_at location 0)
    unfolding group_hypotheses group_roles group_kind group_line kind_roles
    start-held table count e =
        from-lines table count _ e
        (start-told model second index regions modes location long stands.known ∙ ap start_hypotheses (present-there location modes stands))
        (start-roles model second index regions modes location long stands.known ∙ ap start_roles (present-there location modes stands))

    pub flow-held : (table : List ℕ) (count : ℕ) → GoodIndex model index → lines_in table count ≡ flow_lines model index regions location modes → Held model second (entry index 11) (entry index 0) table count (group_hypotheses m region_at location 1) (group_roles m region_at location 1)
    unfolding group_hypotheses group_roles group_kind group_line kind_roles model_from
    flow-held table count g e =
        let still = still_variables m location in
        from-lines table count _ e
        (flow-told model second index regions modes location long stands.known g stands ∙ there-told (λ (r : Condition) (ms : List Mode). flow_hypotheses (entry index 0) r ms still) location modes stands)
        (flow-roles model second index regions modes location long stands.known g stands ∙ there-told (λ (r : Condition) (ms : List Mode). flow_roles r ms still) location modes stands)

    pub unsafe-held : (table : List ℕ) (count u : ℕ) → u < entry index 2 → lines_in table count ≡ unsafe_lines index regions location (per_component index modes) u → Held model second (entry index 11) (entry index 0) table count (group_hypotheses m region_at location (suc (suc u))) (group_roles m region_at location (suc (suc u)))
    unfolding group_hypotheses group_roles group_kind group_line kind_roles unsafe_from
    unsafe-held table count u h e =
        let rows = span_rows model (entry index 11) (entry index 0) index (unsafe_place u + 4) in
        let there = sym (condition-at model index region_at location u h) in
        from-lines table count _ e
        (unsafe-told model second index regions modes location long stands.known u
        ∙ there-told (λ (r : Condition) (ms : List Mode). unsafe_hypotheses r ms rows) location modes stands
        ∙ ap (λ (x : Unsafe). unsafe_hypotheses (region_at location) (modes_in m location) x.rows) there)
        (unsafe-roles model second index regions modes location long stands.known u
        ∙ there-told (λ (r : Condition) (ms : List Mode). unsafe_roles r ms rows) location modes stands
        ∙ ap (λ (x : Unsafe). unsafe_roles (region_at location) (modes_in m location) x.rows) there)

    pub jump-held :
        (table : List ℕ) (count target event : ℕ) (targets switches : List ℕ) → entry index 1 ≤ length targets → Stands model index target targets → entry index 1 ≤ length switches → KnownSwitches index switches → GoodIndex model index
        → lines_in table count ≡ jump_lines model index regions location (per_component index modes) (per_component index targets) switches
        → (j : JointSwitch) → record { source = location; event = event; switches = per_component index switches; target = target } ≡ j
        → Held model second (entry index 11) (entry index 0) table count (joint_hypotheses m region_at j) (joint_roles m region_at j)
    unfolding model_from joint_hypotheses joint_roles
    jump-held table count target event targets switches l there w known g e j same =
        let after = present (components_from model index) (per_component index targets) in
        let chosen = per_component index switches in
        let moving = movers (components_from model index) chosen in
        let staying = staying_variables m chosen in
        subst (λ (x : JointSwitch). Held model second (entry index 11) (entry index 0) table count (joint_hypotheses m region_at x) (joint_roles m region_at x)) same
        (from-lines table count _ e
        (jump-lines-told model second index regions modes location long stands.known targets switches l there.known w known g
        ∙ there-told (λ (r : Condition) (ms : List Mode). jump_hypotheses (entry index 0) r ms after moving staying) location modes stands
        ∙ ap (λ (ms : List Mode). jump_hypotheses (entry index 0) (region_at location) (modes_in m location) ms moving staying) (present-there target targets there))
        (jump-lines-roles model second index regions modes location long stands.known targets switches l there.known w known g
        ∙ there-told (λ (r : Condition) (ms : List Mode). jump_roles r ms after (components_from model index) chosen staying) location modes stands
        ∙ ap (λ (ms : List Mode). jump_roles (region_at location) (modes_in m location) ms (components_from model index) chosen staying) (present-there target targets there)))

    -- the same by a number that is equal
    pub held_at : (table : List ℕ) (count : ℕ) {g k : ℕ} → k ≡ g → Held model second (entry index 11) (entry index 0) table count (group_hypotheses m region_at location k) (group_roles m region_at location k) → Held model second (entry index 11) (entry index 0) table count (group_hypotheses m region_at location g) (group_roles m region_at location g)
    held_at table count e h = subst (λ (x : ℕ). Held model second (entry index 11) (entry index 0) table count (group_hypotheses m region_at location x) (group_roles m region_at location x)) e h

-- a table that holds them gives what is told of them
pub held-row : {model second : List ℕ} {version n : ℕ} {table : List ℕ} {segments : ℕ} {hs : List Hypothesis} {rs : List Role} → Held model second version n table segments hs rs → (h : ℕ) → located_at (hypotheses_from model second version n table segments) (roles_from table segments) h ≡ located_at hs rs h
held-row w h = ap₂ (λ (xs : List Hypothesis) (ys : List Role). located_at xs ys h) w.hypotheses w.roles

-- The roles of what was found are those of its group, or of its joint switch
pub group-roles : (m : Model) (region_at : ℕ → Condition) (location g line : ℕ) → kind_roles m region_at (group_kind g) location (group_line g line) ≡ group_roles m region_at location g
unfolding group_roles group_kind group_line kind_roles
group-roles m region_at location zero line = refl
group-roles m region_at location (suc zero) line = refl
group-roles m region_at location (suc (suc u)) line = refl
