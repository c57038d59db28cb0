-- Which obligation has a number, and what is told of a hypothesis: by the one obligation that a search finds, and by the sheets as they
-- are read. Assumes nothing.
use mathlib.Core.Path.{◌≡◌, refl, sym, ap, ap₂, ◌∙◌, subst}
use mathlib.Core.Bool.{Bool, true, false, ◌&&◌}
use mathlib.Core.List.{List, [], ◌∷◌}
use Prim.Native.Nat.{ℕ, zero, suc, ◌+◌, ◌-◌, ◌≤◌, ◌<◌}
use native.Mathlib.Omega.{arith}
use borrow.Author.Tests.{ltb-true, ltb-false}
use lib.Dec.{ltb}
use lib.ListN.{length, get_or, take, drop, length-drop}
use lib.Seq.{length-take-le}
use Rattle.farkas.specs.Rows.{zero_row}
use Rattle.formats.specs.Reading.{Got, got, refused, ◌>>◌}
use Rattle.formats.specs.Rows.{Condition}
use Rattle.formats.specs.Model.{Model}
use Rattle.formats.specs.Locations.{location_count}
use Rattle.models.specs.Index.{entry, components_from, model_from}
use Rattle.formats.specs.declared.Limits.{Limits}
use Rattle.rules.specs.Opening.{ModelOpened, opens, shut, open_model, open_second}
use Rattle.formats.specs.Certificate.{read_regions}
use Rattle.second_sheets.specs.CertificateAnswers.{regions_from}
use Rattle.queries.specs.declared.Which.{Which}
use Rattle.queries.specs.declared.Shown.{Shown}
use Rattle.queries.specs.declared.Located.{Located}
use Rattle.std.specs.Prelude.{Option, Some, None, Result, Ok, Err, IfOk, ok_or}
use Rattle.queries.specs.declared.RowFound.{RowFound}
use Rattle.queries.specs.declared.RowFound.TheVariants as row
use Rattle.rules.specs.Obligations.{Hypothesis, nowhere, Obligation, obligations, region_of}
use Rattle.rules.specs.Marking.{answer}
use Rattle.rules.specs.declared.Answer.{Answer}
use Rattle.rules.specs.Roles.{Role, owned, no_role, roles_of, role_in, role_after, hypothesis_role, found_size, hypothesis_size}
use Rattle.hypotheses.specs.Tables.{line}
use Rattle.papers.specs.Paper.{regions_of}
use Rattle.rules.specs.Beside.{Found, found, unfound, no_obligation, find_in, find_after, find_hypothesis, found_answer, show_answer, sheet_of, part_of, show_part}
use Rattle.queries.specs.Finding.{Told, OpenFor, OpensTo, which_tells, which_refused, which_in, which_after, which_obligation, shown_as, hypothesis_answer, stands_in, row_found, RowInside, PartIs, row_of, stood_answer, in_role, located, located_at, located_of, hypothesis_located, which_of, told_refused, told_in, told_after, told_for, one_at, kind_number, group_kind, group_line, group_which, roles_for, paper_obligations, row_answer, row_length}
use Rattle.hypotheses.proofs.RoleLines.{roles}
use Rattle.rules.proofs.MarkedRanges.{found_within}
use Rattle.queries.proofs.FindLaws.{one-gone}
use Rattle.papers.specs.Opening.{opened, Open}
use Rattle.rules.proofs.Calls.{found_by, role_by}
use Rattle.papers.proofs.OpenLaws.{opened-answer, open-refused, open-goes-on}

-- The answers by a number in the list are those by the one obligation that has it
one-there : (all : List Obligation) (o : ℕ) → o < length all → one_at all o ≡ get_or all o no_obligation ∷ []
unfolding one_at
one-there [] o h = absurd (omega (arith, h))
one-there (x ∷ all) zero h = refl
one-there (x ∷ all) (suc o) h = one-there all o (omega (arith, h))

which-one : (size : ℕ) (all : List Obligation) (o : ℕ) → which_in size all o ≡ which_of size (one_at all o)
unfolding which_in which_of
which-one size all o = go (ltb o (length all)) refl
  where
    go : (b : Bool) → ltb o (length all) ≡ b → (elim b as (λ _. Which) [ true ↦ which_tells size (get_or all o no_obligation) | false ↦ which_refused 5 2 0 ]) ≡ which_of size (one_at all o)
    go true e = sym (ap (which_of size) (one-there all o (ltb-true o (length all) e)))
    go false e = sym (ap (which_of size) (one-gone all o (ltb-false o (length all) e)))

-- what is answered where there are not so many
unfoldable pub not_there : Answer
not_there = answer 5 2 0 0 0

row-one-of : (hs : List Hypothesis) (rs : List Role) (h : ℕ) → located (row_found (elim (ltb h (length hs)) [ true ↦ found (get_or hs h (nowhere zero_row)) | false ↦ unfound 5 2 0 ])) (elim (ltb h (length hs)) [ true ↦ get_or rs h no_role | false ↦ no_role ]) ≡ ok_or (located_at hs rs h) not_there
unfolding located_at located row_found not_there
row-one-of hs rs h = go (ltb h (length hs))
  where
    go : (b : Bool) → located (row_found (elim b as (λ _. Found) [ true ↦ found (get_or hs h (nowhere zero_row)) | false ↦ unfound 5 2 0 ])) (elim b as (λ _. Role) [ true ↦ get_or rs h no_role | false ↦ no_role ]) ≡ ok_or (elim b as (λ _. Option Located) [ true ↦ Some (in_role (row_of (get_or hs h (nowhere zero_row))) (get_or rs h no_role)) | false ↦ None ]) not_there
    go true = refl
    go false = refl

row_one : (roles : Obligation → List Role) (all : List Obligation) (o h : ℕ) → located (row_found (find_in all o h)) (role_in roles all o h) ≡ ok_or (located_of roles (one_at all o) h) not_there
unfolding find_in role_in located_of row_found located not_there
row_one roles all o h = go (ltb o (length all)) refl
  where
    x : Obligation
    x = get_or all o no_obligation

    tells : List Obligation → Result Located Answer
    tells xs = ok_or (located_of roles xs h) not_there

    go : (b : Bool) → ltb o (length all) ≡ b → located (row_found (elim (b && ltb h (length x.hypotheses)) [ true ↦ found (get_or x.hypotheses h (nowhere zero_row)) | false ↦ unfound 5 2 0 ])) (elim (b && ltb h (length x.hypotheses)) [ true ↦ get_or (roles x) h no_role | false ↦ no_role ]) ≡ tells (one_at all o)
    go true e = row-one-of x.hypotheses (roles x) h ∙ sym (ap tells (one-there all o (ltb-true o (length all) e)))
    go false e = sym (ap tells (one-gone all o (ltb-false o (length all) e)))

-- so what is told of the one that a search finds is told of its number, once both sheets are read; and a refusal is told at once
module _ (limits : Limits) (model index second regions : List ℕ) (o h : ℕ) where
  pub which-found : (one : List Obligation) {v : Which} → OpenFor limits model index second regions → one ≡ one_at (paper_obligations model index second regions) o → v ≡ which_of (length second) one → v ≡ which_obligation limits model second o
  unfolding told_in told_for
  which-found one w e p =
      p
      ∙ ap (which_of (length second)) e
      ∙ sym (which-one (length second) (paper_obligations model index second regions) o)
      ∙ ap (λ (t : Told). t.which) (w.told o h)

  pub row-found : (one : List Obligation) {r : Option Located} → OpenFor limits model index second regions → one ≡ one_at (paper_obligations model index second regions) o → r ≡ located_of (roles_for model index second regions) one h → ok_or r not_there ≡ hypothesis_located limits model second o h
  unfolding told_in told_for
  row-found one w e p =
      ap (λ (r : Option Located). ok_or r not_there) p
      ∙ ap (λ (xs : List Obligation). ok_or (located_of (roles_for model index second regions) xs h) not_there) e
      ∙ sym (row_one (roles_for model index second regions) (paper_obligations model index second regions) o h)
      ∙ ap (λ (t : Told). t.row) (w.told o h)

  pub is_open : {r : Result (Unit {0}) Answer} → r ≡ Ok tt → OpensTo limits model index second regions r → OpenFor limits model index second regions
  unfolding OpensTo
  is_open e w = subst (OpensTo limits model index second regions) e w

  pub which-stopped : {r : Result (Unit {0}) Answer} {a : Answer} → r ≡ Err a → OpensTo limits model index second regions r → which_refused a.number a.sheet a.place ≡ which_obligation limits model second o
  unfolding OpensTo told_refused told_for
  which-stopped e w = ap (λ (t : Told). t.which) (subst (OpensTo limits model index second regions) e w o h)

  pub row-stopped : {r : Result (Unit {0}) Answer} {a : Answer} → r ≡ Err a → OpensTo limits model index second regions r → Err a ≡ hypothesis_located limits model second o h
  unfolding OpensTo told_refused told_for
  row-stopped e w = ap (λ (t : Told). t.row) (subst (OpensTo limits model index second regions) e w o h)

pub paper-whole : (model index second regions : List ℕ) (locations o h : ℕ) → locations ≡ location_count (components_from model index) → told_in (length second) (roles_for model index second regions) (paper_obligations model index second regions) o h ≡ told_in (length second) (roles_of (model_from model index) (region_of (regions_from second (entry index 11) (entry index 0) regions locations))) (obligations (model_from model index) (regions_from second (entry index 11) (entry index 0) regions locations)) o h
unfolding paper_obligations obligations regions_of model_from
paper-whole model index second regions locations o h e =
    ap (λ (n : ℕ). told_in (length second) (roles_of (model_from model index) (region_of (regions_from second (entry index 11) (entry index 0) regions n))) (obligations (model_from model index) (regions_from second (entry index 11) (entry index 0) regions n)) o h) (sym e)

-- which obligation a group has at a line
pub group-unsafe : (size location g line : ℕ) → 1 < g → record { number = 0; sheet = 1; place = size; kind = 2; subject = location; line = g - 2 } ≡ group_which size location g line
unfolding group_which group_kind group_line kind_number
group-unsafe size location zero line h = absurd (omega (arith, h))
group-unsafe size location (suc zero) line h = absurd (omega (arith, h))
group-unsafe size location (suc (suc u)) line h =
    ap (λ (k : ℕ). record { number = 0; sheet = 1; place = size; kind = 2; subject = location; line = k }) (less u)
  where
    less : (u : ℕ) → suc (suc u) - 2 ≡ u
    less u = omega arith

pub group-rows : (size location g line : ℕ) → g ≤ 1 → record { number = 0; sheet = 1; place = size; kind = g; subject = location; line = line } ≡ group_which size location g line
unfolding group_which group_kind group_line kind_number
group-rows size location zero line h = refl
group-rows size location (suc zero) line h = refl
group-rows size location (suc (suc u)) line h = absurd (omega (arith, h))

-- The sheets as they are read
pub told-stops : (m : Model) (second : List ℕ) (o h : ℕ) (g : Got (List Condition)) (number at : ℕ) → g ≡ refused number at → told_refused (answer number 1 at 0 0) ≡ told_after m second o h g
unfolding told_refused told_after which_after find_after role_after row_found located answer
told-stops m second o h g number at e = sym (ap (told_after m second o h) e)

pub told-rest : (m : Model) (second : List ℕ) (o h : ℕ) (g : Got (List Condition)) (regions : List Condition) (next : ℕ) → g ≡ got regions next → told_in (length second) (roles_of m (region_of regions)) (obligations m regions) o h ≡ told_after m second o h g
unfolding told_in told_after which_after find_after role_after
told-rest m second o h g regions next e = sym (ap (told_after m second o h) e)

-- what is told, by how the model opens
abbrev pub which_by : List ℕ → ℕ → ModelOpened → Which
which_by second o g =
    elim g as (λ x. Which) [
      | opens m ↦ which_after m second o ((open_second 2 m >> read_regions m) second 0)
      | shut number sheet at ↦ which_refused number sheet at
    ]

abbrev told_by : List ℕ → ℕ → ℕ → ModelOpened → Told
told_by second o h g = record { which = which_by second o g; row = located (row_found (found_by second o h g)) (role_by second o h g) }

-- a paper that does not open is refused so; one that is open is told from its body on
module _ (limits : Limits) (model second : List ℕ) (o h : ℕ) where
  pub told-refused-first : ((opened limits 2 model second).number ≡ 0 → ⊥) → told_refused (opened limits 2 model second) ≡ told_for limits model second o h
  unfolding told_refused told_after told_for which_obligation find_hypothesis hypothesis_located hypothesis_role row_found located answer
  told-refused-first f =
      ap told_refused (opened-answer limits 2 model second)
      ∙ open-refused limits 2 model second (λ number sheet at. told_refused (answer number sheet at 0 0)) read_regions (λ m. told_after m second o h) (told_by second o h)
      (λ m number at. told-stops m second o h (refused number at) number at refl) (λ number sheet at. refl) (λ m. refl) f

  pub told-open : {index : List ℕ} {body : ℕ} → Open limits 2 model index second body → told_after (model_from model index) second o h (read_regions (model_from model index) second body) ≡ told_for limits model second o h
  unfolding told_refused told_after told_for which_obligation find_hypothesis hypothesis_located hypothesis_role row_found located answer
  told-open w =
      open-goes-on limits 2 model second (λ number sheet at. told_refused (answer number sheet at 0 0)) read_regions (λ m. told_after m second o h) (told_by second o h)
      (λ m number at. told-stops m second o h (refused number at) number at refl) (λ number sheet at. refl) (λ m. refl) w

-- A refusal has no role
abbrev RoleOf : Found → Role → Type 0
RoleOf (found x) k = Unit {0}
RoleOf (unfound number sheet place) k = k ≡ no_role

role-in : (roles : Obligation → List Role) (all : List Obligation) (o h : ℕ) → RoleOf (find_in all o h) (role_in roles all o h)
unfolding find_in role_in
role-in roles all o h = go (ltb o (length all) && ltb h (length x.hypotheses))
  where
    x : Obligation
    x = get_or all o no_obligation

    go : (b : Bool) → RoleOf (elim b as (λ _. Found) [ true ↦ found (get_or x.hypotheses h (nowhere zero_row)) | false ↦ unfound 5 2 0 ]) (elim b as (λ _. Role) [ true ↦ get_or (roles x) h no_role | false ↦ no_role ])
    go true = tt
    go false = refl

role-after : (m : Model) (o h : ℕ) (g : Got (List Condition)) → RoleOf (find_after m o h g) (role_after m o h g)
unfolding find_after role_after
role-after m o h (refused number at) = refl
role-after m o h (got regions next) = role-in (roles_of m (region_of regions)) (obligations m regions) o h

role-by : (second : List ℕ) (o h : ℕ) (g : ModelOpened) → RoleOf (found_by second o h g) (role_by second o h g)
role-by second o h (opens m) = role-after m o h ((open_second 2 m >> read_regions m) second 0)
role-by second o h (shut number sheet at) = refl

role-found : (limits : Limits) (model second : List ℕ) (o h : ℕ) → RoleOf (find_hypothesis limits model second o h) (hypothesis_role limits model second o h)
unfolding find_hypothesis hypothesis_role
role-found limits model second o h = role-by second o h (open_model limits model)

-- What is found lies inside its sheet
stands-inside : (model second : List ℕ) (sheet place size : ℕ) → place + size ≤ length (sheet_of model second sheet) → RowInside model second (stands_in sheet place size)
unfolding sheet_of stands_in RowInside
stands-inside model second zero place size h = h
stands-inside model second (suc zero) place size h = h
stands-inside model second (suc (suc sheet)) place size h = tt

found_inside : (limits : Limits) (model second : List ℕ) (o h : ℕ) (f : Found) (k : Role) → find_hypothesis limits model second o h ≡ f → IfOk (located (row_found f) k) (λ x. RowInside model second x.row)
unfolding row_found row_of located in_role
found_inside limits model second o h (found x) k e = stands-inside model second x.sheet x.place x.size (found_within limits model second o h x e).ends
found_inside limits model second o h (unfound number sheet place) k e = tt

stands-answer : (model second : List ℕ) (sheet place size : ℕ) → sheet ≤ 2 → place + size ≤ length (sheet_of model second sheet) → stood_answer (stands_in sheet place size) ≡ answer 0 sheet place 0 0
unfolding sheet_of stands_in stood_answer
stands-answer model second zero place size l h = refl
stands-answer model second (suc zero) place size l h = refl
stands-answer model second (suc (suc zero)) place size l h = ap (λ (p : ℕ). answer 0 2 p 0 0) (none place size h)
  where
    none : (place size : ℕ) → place + size ≤ 0 → 0 ≡ place
    none place size h = omega arith
stands-answer model second (suc (suc (suc sheet))) place size l h = absurd (omega (arith, l))

found-answer : (limits : Limits) (model second : List ℕ) (o h : ℕ) (f : Found) (k : Role) → find_hypothesis limits model second o h ≡ f → row_answer (located (row_found f) k) ≡ found_answer f
unfolding row_found row_of located in_role found_answer row_answer
found-answer limits model second o h (found x) k e =
    let w = found_within limits model second o h x e in
    stands-answer model second x.sheet x.place x.size w.sheet w.ends
found-answer limits model second o h (unfound number sheet place) k e = refl

-- how many bytes its row has
stands-size : (model second : List ℕ) (sheet place size : ℕ) → place + size ≤ length (sheet_of model second sheet) → row_length (stands_in sheet place size) ≡ size
unfolding sheet_of stands_in row_length
stands-size model second zero place size h = refl
stands-size model second (suc zero) place size h = refl
stands-size model second (suc (suc sheet)) place size h = none place size h
  where
    none : (place size : ℕ) → place + size ≤ 0 → 0 ≡ size
    none place size h = omega arith

-- all that is told of it, of a hypothesis or of a refusal
unfoldable pub shown_of : Result Located Answer → Shown
shown_of (Ok l) = shown_as (stood_answer l.row) (row_length l.row) (owned l.role l.owner)
shown_of (Err a) = shown_as a 0 no_role

found-shown : (limits : Limits) (model second : List ℕ) (o h : ℕ) (f : Found) (k : Role) → find_hypothesis limits model second o h ≡ f → RoleOf f k → shown_of (located (row_found f) k) ≡ shown_as (found_answer f) (found_size f) k
unfolding row_found row_of located in_role found_answer found_size owned shown_of
found-shown limits model second o h (found x) k e r =
    let w = found_within limits model second o h x e in
    ap₂ (λ (a : Answer) (n : ℕ). shown_as a n k) (stands-answer model second x.sheet x.place x.size w.sheet w.ends) (stands-size model second x.sheet x.place x.size w.ends)
found-shown limits model second o h (unfound number sheet place) k e r = ap (shown_as (answer number sheet place 0 0) 0) (sym r)

-- the row without its role
unfoldable pub row_only : Result Located Answer → Result RowFound Answer
row_only (Ok l) = Ok l.row
row_only (Err a) = Err a

only-row : (r : Result RowFound Answer) (k : Role) → row_only (located r k) ≡ r
unfolding row_only located in_role
only-row (Ok r) k = refl
only-row (Err a) k = refl

-- what is told of a hypothesis that was located
module _ (limits : Limits) (model second : List ℕ) (o h : ℕ) where
  module _ {l : Result Located Answer} (e : l ≡ hypothesis_located limits model second o h) where
    pub row_inside : IfOk l (λ x. RowInside model second x.row)
    unfolding hypothesis_located
    row_inside =
        subst (λ (r : Result Located Answer). IfOk r (λ x. RowInside model second x.row)) (sym e)
        (found_inside limits model second o h (find_hypothesis limits model second o h) (hypothesis_role limits model second o h) refl)

    pub row-tells : row_answer l ≡ show_answer limits model second o h
    unfolding hypothesis_located show_answer
    row-tells = ap row_answer e ∙ found-answer limits model second o h (find_hypothesis limits model second o h) (hypothesis_role limits model second o h) refl

    pub shown-whole : shown_of l ≡ hypothesis_answer limits model second o h
    unfolding hypothesis_located hypothesis_answer show_answer hypothesis_size
    shown-whole =
        ap shown_of e
        ∙ found-shown limits model second o h (find_hypothesis limits model second o h) (hypothesis_role limits model second o h) refl (role-found limits model second o h)

    pub row-located : row_only l ≡ row_found (find_hypothesis limits model second o h)
    unfolding hypothesis_located
    row-located = ap row_only e ∙ only-row (row_found (find_hypothesis limits model second o h)) (hypothesis_role limits model second o h)

  answer-again : (f : Found) → answer (found_answer f).number (found_answer f).sheet (found_answer f).place 0 0 ≡ found_answer f
  unfolding found_answer answer
  answer-again (found x) = refl
  answer-again (unfound number sheet place) = refl

  -- its number, sheet and place are the sister call's
  pub answer-shown : (s : Shown) → s ≡ hypothesis_answer limits model second o h → answer s.number s.sheet s.place 0 0 ≡ show_answer limits model second o h
  unfolding hypothesis_answer shown_as show_answer
  answer-shown s e = ap (λ (x : Shown). answer x.number x.sheet x.place 0 0) e ∙ answer-again (find_hypothesis limits model second o h)

-- the part that is shown
unfoldable part_shown : List ℕ → List ℕ → Result RowFound Answer → List ℕ
part_shown model second (Ok (row.InModel place size)) = take size (drop place model)
part_shown model second (Ok (row.InSecond place size)) = take size (drop place second)
part_shown model second (Ok row.Nowhere) = []
part_shown model second (Err a) = []

take_none : (n : ℕ) → take {A = ℕ} n [] ≡ []
take_none zero = refl
take_none (suc n) = refl

drop-none : (n : ℕ) → drop {A = ℕ} n [] ≡ []
drop-none zero = refl
drop-none (suc n) = refl

stands-part : (model second : List ℕ) (sheet place size : ℕ) → part_shown model second (Ok (stands_in sheet place size)) ≡ take size (drop place (sheet_of model second sheet))
unfolding sheet_of stands_in part_shown
stands-part model second zero place size = refl
stands-part model second (suc zero) place size = refl
stands-part model second (suc (suc sheet)) place size = sym (ap (take size) (drop-none place) ∙ take_none size)

found_part : (model second : List ℕ) (f : Found) → part_shown model second (row_found f) ≡ part_of model second f
unfolding row_found row_of part_of part_shown
found_part model second (found x) = stands-part model second x.sheet x.place x.size
found_part model second (unfound number sheet place) = refl

part_length : (s : List ℕ) (place size : ℕ) → place + size ≤ length s → length (take size (drop place s)) ≡ size
part_length s place size h = length-take-le size (drop place s) (omega (arith, h, length-drop place s))

module _ (limits : Limits) (model second : List ℕ) (o h : ℕ) where
  abbrev pub Shows : List ℕ → Type 0
  Shows part =
      (part ≡ show_part limits model second o h) × PartIs model second (row_found (find_hypothesis limits model second o h)) part

  shows : {r : Result RowFound Answer} (part : List ℕ) → r ≡ row_found (find_hypothesis limits model second o h) → part ≡ part_shown model second r → PartIs model second r part → Shows part
  unfolding show_part
  shows part e p q =
      (p ∙ ap (part_shown model second) e ∙ found_part model second (find_hypothesis limits model second o h), subst (λ (f : Result RowFound Answer). PartIs model second f part) e q)

  pub shown-refused : {a : Answer} → Err a ≡ hypothesis_located limits model second o h → Shows []
  unfolding part_shown PartIs row_only
  shown-refused e = shows [] (row-located limits model second o h e) refl refl

  -- of a row that was located, by where it stands
  module _ {l : Located} (e : Ok l ≡ hypothesis_located limits model second o h) where
    located-so : {r : RowFound} → l.row ≡ r → Ok r ≡ row_found (find_hypothesis limits model second o h)
    unfolding row_only
    located-so k = ap Ok (sym k) ∙ row-located limits model second o h e

    pub shown-nowhere : l.row ≡ row.Nowhere → Shows []
    unfolding part_shown PartIs
    shown-nowhere k = shows [] (located-so k) refl refl

    pub shown-in-model : (part : List ℕ) (place size : ℕ) → RowInside model second l.row → l.row ≡ row.InModel place size → part ≡ take size (drop place model) → Shows part
    unfolding part_shown PartIs RowInside
    shown-in-model part place size within k p =
        let i : place + size ≤ length model = subst (RowInside model second) k within in
        shows part (located-so k) p (i, (p, ap (λ (xs : List ℕ). length xs) p ∙ part_length model place size i))

    pub shown-in-second : (part : List ℕ) (place size : ℕ) → RowInside model second l.row → l.row ≡ row.InSecond place size → part ≡ take size (drop place second) → Shows part
    unfolding part_shown PartIs RowInside
    shown-in-second part place size within k p =
        let i : place + size ≤ length second = subst (RowInside model second) k within in
        shows part (located-so k) p (i, (p, ap (λ (xs : List ℕ). length xs) p ∙ part_length second place size i))

-- the ends of the part
pub inside-model : (model second : List ℕ) {r : RowFound} (place size : ℕ) → RowInside model second r → r ≡ row.InModel place size → place + size ≤ length model
unfolding RowInside
inside-model model second place size within k = subst (RowInside model second) k within

pub inside-second : (model second : List ℕ) {r : RowFound} (place size : ℕ) → RowInside model second r → r ≡ row.InSecond place size → place + size ≤ length second
unfolding RowInside
inside-second model second place size within k = subst (RowInside model second) k within
