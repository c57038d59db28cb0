-- What holds of every model and every region that a sheet gives: rows of the right width, numbers in their ranges. Assumes nothing.
use mathlib.Core.Path.{◌≡◌, refl, sym, ap, ◌∙◌, subst}
use mathlib.Core.Bool.{Bool, true, false, cond}
use mathlib.Core.List.{List, [], ◌∷◌}
use Prim.Native.Nat.{ℕ, zero, suc, ◌*◌, ◌-◌, ◌^◌, ◌≤◌, ◌<◌}
use lib.Dec.{T, eqb, eqb→eq}
use lib.ListN.{length}
use Rattle.formats.specs.Versions.{version_fits, kind_fits, has_paper, strict_at}
use Rattle.formats.specs.Reading.{got, sized, header, paper_if, read_paper, finished, u8, u16, u32, must}
use Rattle.formats.specs.Rows.{SheetRow, Condition, read_strict, read_row, read_condition}
use Rattle.formats.specs.Model.{Mode, Switch, Component, Model, read_mode, read_switch, read_component, read_unsafe, read_model_body}
use Rattle.formats.specs.Locations.{location_count}
use Rattle.formats.specs.declared.Limits.{Limits}
use Rattle.formats.specs.ModelSheet.{read_model}
use Rattle.formats.proofs.ModelSheet.{in-a-chain}
use Rattle.formats.specs.Certificate.{read_regions, read_entry, read_entries, read_proof}
use Rattle.farkas.specs.Farkas.{Entry, Proof}
use Rattle.farkas.specs.Lists.{All, none, more}
use Rattle.formats.proofs.Gives.{Gives, got-value, gives-bind, gives_then, gives-give, gives-any, gives-must, gives-weaken, gives-within, gives-below, gives-many}

-- rows with so many coefficients
abbrev pub Wide : ℕ → Condition → Type 0
Wide n rows = All (λ r. length r.row.coefficients ≡ n) rows

-- rows that are not strict
abbrev pub PlainRow : SheetRow → Type 0
PlainRow r = r.row.strict ≡ false

abbrev pub Plain : Condition → Type 0
Plain rows = All PlainRow rows

-- a mode's rows; "Flow rows must have 0" for their mark (02, order 8)
pub record GoodMode (n : ℕ) (mode : Mode) : Type 0 where
  pub initial : Wide n mode.initial
  pub invariant : Wide n mode.invariant
  pub flow : Wide n mode.flow
  pub rates : Plain mode.flow

pub record GoodSwitch (n modes : ℕ) (w : Switch) : Type 0 where
  pub source : w.source < modes
  pub target : w.target < modes
  pub label : w.label ≤ 15
  pub jump : Wide (2 * n) w.jump

pub record GoodComponent (n : ℕ) (c : Component) : Type 0 where
  pub least : 1 ≤ length c.modes
  pub most : length c.modes ≤ 8
  pub few : length c.switches ≤ 32
  pub modes : All (GoodMode n) c.modes
  pub switches : All (GoodSwitch n (length c.modes)) c.switches

pub record WellFormed (m : Model) : Type 0 where
  pub version : T (version_fits 1 m.version)
  pub least : 1 ≤ m.variables
  pub most : m.variables ≤ 8
  pub owned : length m.owners ≡ m.variables
  pub owners : All (λ o. o < length m.components) m.owners
  pub some : 1 ≤ length m.components
  pub few : length m.components ≤ 4
  pub components : All (GoodComponent m.variables) m.components
  pub unsafe : All (λ u. Wide m.variables u.rows) m.unsafe
  pub conditions : length m.unsafe ≤ 16

-- a row that is read is as wide as it must be, and not strict
abbrev pub RowRead : ℕ → SheetRow → Type 0
RowRead n r = (length r.row.coefficients ≡ n) × PlainRow r

strict-gives : (version : ℕ) → Gives (λ strict. strict ≡ false) (read_strict version)
unfolding read_strict strict_at
strict-gives version = record { holds = λ s p strict next e. sym (got-value e) }

pub row_gives : (version n : ℕ) → Gives (RowRead n) (read_row version n)
unfolding read_row
row_gives version n =
    gives-bind gives-any
    (λ place u.
    gives-bind (strict-gives version)
    (λ strict t. gives-bind (gives-many n gives-any) (λ coefficients w. gives-bind gives-any (λ bound v. gives-give _ (w.0, t)))))

rows-wide : {n : ℕ} {rows : Condition} → All (RowRead n) rows → Wide n rows
rows-wide none = none
rows-wide (more r rows) = more r.0 (rows-wide rows)

rows-plain : {n : ℕ} {rows : Condition} → All (RowRead n) rows → Plain rows
rows-plain none = none
rows-plain (more r rows) = more r.1 (rows-plain rows)

rows-give : (most version n : ℕ) → Gives (λ rows. (length rows ≤ most) × All (RowRead n) rows) (read_condition version most n)
unfolding read_condition
rows-give most version n =
    gives-bind (gives-within 0 most u8)
    (λ count w. gives-weaken (λ rows v. (subst (λ (k : ℕ). k ≤ most) (sym v.0) w.1, v.1)) (gives-many count (row_gives version n)))

pub condition-gives : (most version n : ℕ) → Gives (λ rows. (length rows ≤ most) × Wide n rows) (read_condition version most n)
condition-gives most version n = gives-weaken (λ rows v. (v.0, rows-wide v.1)) (rows-give most version n)

mode-gives : (version n : ℕ) → Gives (GoodMode n) (read_mode version n)
unfolding read_mode
mode-gives version n =
    gives-bind (gives-within 0 1 u8)
    (λ start u.
    gives-bind (condition-gives (cond (eqb start 0) 0 8) version n)
    (λ initial i.
    gives-bind (condition-gives 8 version n)
    (λ invariant j.
    gives-bind (rows-give 8 version n)
    (λ flow k. gives-give _ (record { initial = i.1; invariant = j.1; flow = rows-wide k.1; rates = rows-plain k.1 })))))

switch-gives : (version n alphabet modes : ℕ) → Gives (GoodSwitch n modes) (read_switch version n alphabet modes)
unfolding read_switch
switch-gives version n alphabet modes =
    gives-bind (gives-below modes u8)
    (λ source i.
    gives-bind (gives-below modes u8)
    (λ target j.
    gives-bind (gives-must _ 6 (gives-within 0 15 u8))
    (λ label k.
    gives-bind (condition-gives 8 version (2 * n))
    (λ jump w. gives-give _ (record { source = i; target = j; label = k.1.1; jump = w.1 })))))

pub component-gives : (version n : ℕ) → Gives (GoodComponent n) (read_component version n)
unfolding read_component
component-gives version n =
    gives-bind gives-any
    (λ alphabet u.
    gives-bind (gives-within 1 8 u8)
    (λ mode_count i.
    gives-bind (gives-within 0 32 u8)
    (λ switch_count j.
    gives-bind (gives-many mode_count (mode-gives version n))
    (λ modes k.
    gives-bind (gives-many switch_count (switch-gives version n alphabet mode_count))
    (λ switches w.
    gives-give _
    (record {
      least = subst (λ (x : ℕ). 1 ≤ x) (sym k.0) i.0;
      most = subst (λ (x : ℕ). x ≤ 8) (sym k.0) i.1;
      few = subst (λ (x : ℕ). x ≤ 32) (sym w.0) j.1;
      modes = k.1;
      switches = subst (λ (x : ℕ). All (GoodSwitch n x) switches) (sym k.0) w.1;
    }))))))

unsafe-gives : (version n : ℕ) (components : List Component) → Gives (λ u. Wide n u.rows) (read_unsafe version n components)
unfolding read_unsafe
unsafe-gives version n components =
    gives-bind gives-any (λ modes u. gives-bind (condition-gives 8 version n) (λ rows w. gives-give _ w.1))

pub body-gives : (version paper : ℕ) → T (version_fits 1 version) → Gives WellFormed (read_model_body version paper)
unfolding read_model_body
body-gives version paper fits =
    gives-bind (gives-within 1 8 u8)
    (λ n i.
    gives-bind (gives-within 1 4 u8)
    (λ c j.
    gives-bind (gives-within 0 16 u8)
    (λ conditions k.
    gives-bind (gives-many n (gives-below c u8))
    (λ owners o.
    gives-bind (gives-many c (component-gives version n))
    (λ components w.
    gives-bind (gives-many conditions (unsafe-gives version n components))
    (λ unsafe u.
    gives-give _
    (record {
      version = fits;
      least = i.0;
      most = i.1;
      owned = o.0;
      owners = subst (λ (x : ℕ). All (λ v. v < x) owners) (sym w.0) o.1;
      some = subst (λ (x : ℕ). 1 ≤ x) (sym w.0) j.0;
      few = subst (λ (x : ℕ). x ≤ 4) (sym w.0) j.1;
      components = w.1;
      unsafe = u.1;
      conditions = subst (λ (x : ℕ). x ≤ 16) (sym u.0) k.1;
    })))))))

-- the version and the paper number are those that were read before it
pub body-headed : (version paper : ℕ) → Gives (λ m. (m.version ≡ version) × (m.paper ≡ paper)) (read_model_body version paper)
unfolding read_model_body
body-headed version paper =
    gives-bind gives-any
    (λ n u.
    gives-bind gives-any
    (λ c u.
    gives-bind gives-any
    (λ conditions u.
    gives-bind gives-any
    (λ owners u. gives-bind gives-any (λ components u. gives-bind gives-any (λ unsafe u. gives-give _ (refl, refl)))))))

-- a header gives a version that sheets of its kind may have
pub header-gives : (kind : ℕ) → Gives (λ version. T (version_fits kind version)) (header kind)
unfolding header
header-gives kind =
    gives_then sized
    (gives_then u16
    (gives-bind (gives-must (version_fits kind) 2 (gives-any {r = u8}))
    (λ version u. gives_then (must (kind_fits kind) 3 u8) (gives-give version u.0))))

-- where a version has no paper number, it counts as 0
pub paper-gives : (version : ℕ) → Gives (λ paper. has_paper version ≡ false → paper ≡ 0) (read_paper version)
unfolding read_paper paper_if
paper-gives version = go (has_paper version)
  where
    go : (b : Bool) → Gives (λ paper. b ≡ false → paper ≡ 0) (paper_if b)
    go true = gives-weaken (λ paper u e. absurd (subst T e tt)) gives-any
    go false = gives-give 0 (λ e. refl)

-- a model that a sheet gives is well formed
pub well-formed : (limits : Limits) (s : List ℕ) (m : Model) (next : ℕ) → read_model limits s ≡ got m next → WellFormed m
well-formed limits s m next e =
    (gives-bind (header-gives 1)
    (λ version u.
    gives-bind gives-any
    (λ paper n. gives-bind gives-any (λ place v. gives-bind (body-gives version paper u) (λ m w. gives_then finished (gives_then _ (gives-give m w))))))
    ).holds s 0 m next (sym (in-a-chain limits s) ∙ e)

-- the regions of a certificate: one per location, rows as wide as the model has variables
pub regions-give : (m : Model) → Gives (λ regions. (length regions ≡ location_count m.components) × All (λ r. (length r ≤ 16) × Wide m.variables r) regions) (read_regions m)
unfolding read_regions
regions-give m =
    gives-bind (gives-must (λ v. eqb v (location_count m.components)) 5 gives-any)
    (λ count w.
    gives-weaken (λ regions v. (v.0 ∙ eqb→eq count (location_count m.components) w.0, v.1))
    (gives-many count (condition-gives 16 m.version m.variables)))

-- a proof that a sheet gives
pub record GoodEntry (hypotheses : ℕ) (e : Entry) : Type 0 where
  pub hypothesis : e.hypothesis < hypotheses
  pub least : 1 ≤ e.multiplier
  pub most : e.multiplier ≤ 2 ^ 24 - 1

pub record GoodProof (hypotheses : ℕ) (unsafe : Bool) (p : Proof) : Type 0 where
  pub k : p.k ≤ cond unsafe 0 (2 ^ 24 - 1)
  pub few : length p.entries ≤ 128
  pub entries : All (GoodEntry hypotheses) p.entries

pub entry_gives : (hypotheses least : ℕ) → Gives (GoodEntry hypotheses) (read_entry hypotheses least)
unfolding read_entry
entry_gives hypotheses least =
    gives-bind (gives-must _ 9 (gives-below hypotheses u8))
    (λ hypothesis h.
    gives-bind (gives-within 1 (2 ^ 24 - 1) u32)
    (λ multiplier w. gives-give _ (record { hypothesis = h.1; least = w.0; most = w.1 })))

entries-give : (hypotheses least count : ℕ) → Gives (λ es. (length es ≡ count) × All (GoodEntry hypotheses) es) (read_entries hypotheses least count)
unfolding read_entries
entries-give hypotheses least zero = gives-give [] (refl, none)
entries-give hypotheses least (suc n) =
    gives-bind (entry_gives hypotheses least)
    (λ e g. gives-bind (entries-give hypotheses (suc e.hypothesis) n) (λ rest v. gives-give (e ∷ rest) (ap suc v.0, more g v.1)))

pub proof-gives : (hypotheses : ℕ) (unsafe : Bool) → Gives (GoodProof hypotheses unsafe) (read_proof hypotheses unsafe)
unfolding read_proof
proof-gives hypotheses unsafe =
    gives-bind (gives-within 0 (cond unsafe 0 (2 ^ 24 - 1)) u32)
    (λ k h.
    gives-bind (gives-within 0 128 u8)
    (λ count w.
    gives-bind (entries-give hypotheses 0 count)
    (λ entries v. gives-give _ (record { k = h.1; few = subst (λ (n : ℕ). n ≤ 128) (sym v.0) w.1; entries = v.1 }))))
