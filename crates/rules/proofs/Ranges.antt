-- The ranges that 01 gives for the fields of a sheet, as propositions on what the sheet holds, and that reading gives nothing outside
-- them: models, proofs and run sheets. WellFormed (crate formats) has what the code's own proofs need of this, and is proved of an index
-- too; here is every range. Assumes nothing.
use mathlib.Core.Path.{◌≡◌, refl, sym, ap, subst, ◌∙◌}
use mathlib.Core.Logic.{◌⊎◌, inl, inr, ⊎_elim}
use mathlib.Core.Bool.{Bool, true, false, cond, ◌&&◌, ◌||◌}
use mathlib.Core.List.{List, [], ◌∷◌}
use Prim.Native.Nat.{ℕ, zero, suc, ◌*◌, ◌-◌, ◌^◌, ◌%◌, ◌≤◌, ◌<◌}
use native.Mathlib.Omega.{arith}
use lib.Dec.{T, leb, ltb, eqb, leb→le, ltb→lt, eqb→eq}
use borrow.Author.Tests.{ne_eqb}
use lib.IntN.{ℤ, pos, negsuc}
use lib.ListN.{length}
use lib.Signed.{le_z, ◌≤ℤ◌}
use mir.Facts.{and_yes}
use Rattle.farkas.specs.Farkas.{Entry, Proof}
use Rattle.farkas.specs.Lists.{All}
use Rattle.formats.specs.Versions.{version_fits, kind_fits}
use Rattle.formats.specs.Reading.{got, Reader, u8, u16, u32, s32, must, within_signed, each, header, read_paper, here, finished, sized}
use Rattle.formats.specs.Rows.{Condition, read_condition}
use Rattle.formats.specs.Model.{Mode, Switch, Component, Unsafe, Model, has_event, read_mode, read_switch, read_component, read_unsafe, read_model_body}
use Rattle.formats.specs.Locations.{location_count}
use Rattle.formats.specs.Joint.{stays, joints}
use Rattle.formats.specs.declared.Limits.{Limits}
use Rattle.formats.specs.ModelSheet.{read_model}
use Rattle.formats.proofs.ModelSheet.{chain, in-a-chain, read_whole_lem}
use Rattle.formats.specs.Certificate.{read_entry, read_entries, read_proof}
use Rattle.formats.specs.RunSheet.{Step, flow, jump, Opening, read_values, read_opening, read_flow, read_jump, read_step_of, read_step}
use Rattle.formats.proofs.Versions.{version-range}
use Rattle.formats.proofs.Gives.{Gives, gives-bind, gives_then, gives-give, gives-any, gives-must, gives-weaken, gives-within, gives-below, gives-many}
use Rattle.formats.proofs.WellFormed.{condition-gives}
use Rattle.rules.specs.Runs.{modes_fit}

-- two lists, element by element
pub data Both {A B : Type 0} (P : A → B → Type 0) : List A → List B → Type 0 where
  none : Both P [] []
  more : {a : A} {b : B} {xs : List A} {ys : List B} → P a b → Both P xs ys → Both P (a ∷ xs) (b ∷ ys)

-- a condition of so many rows at most, each with n coefficients
pub record Rows (most n : ℕ) (rows : Condition) : Type 0 where
  pub count : length rows ≤ most
  pub width : All (λ r. length r.row.coefficients ≡ n) rows

-- "u8 start, 0 or 1; initial, invariant and flow condition, each 0..8 rows (the initial count is 0 where start is 0)"
pub record ModeRanges (n : ℕ) (mode : Mode) : Type 0 where
  pub start : mode.start ≤ 1
  pub initial : Rows 8 n mode.initial
  pub none : mode.start ≡ 0 → mode.initial ≡ []
  pub invariant : Rows 8 n mode.invariant
  pub flow : Rows 8 n mode.flow

-- "u8 source and target mode; u8 label, 0..15; a jump condition of 0..8 rows with 2n coefficients"; a "label from 1" is in its alphabet
pub record SwitchRanges (n alphabet modes : ℕ) (w : Switch) : Type 0 where
  pub source : w.source < modes
  pub target : w.target < modes
  pub label : w.label ≤ 15
  pub known : (w.label ≡ 0) ⊎ T (has_event alphabet w.label)
  pub jump : Rows 8 (2 * n) w.jump

-- "u16 alphabet (bit e for event e, bit 0 clear); u8 modes, 1..8; u8 switches, 0..32"
pub record ComponentRanges (n : ℕ) (c : Component) : Type 0 where
  pub clear : c.alphabet % 2 ≡ 0
  pub least : 1 ≤ length c.modes
  pub most : length c.modes ≤ 8
  pub few : length c.switches ≤ 32
  pub modes : All (ModeRanges n) c.modes
  pub switches : All (SwitchRanges n c.alphabet (length c.modes)) c.switches

-- "c bytes, a mode or 255 for any; 0..8 rows"
pub record UnsafeRanges (n : ℕ) (components : List Component) (u : Unsafe) : Type 0 where
  pub modes : Both (λ c v. (v < length c.modes) ⊎ (v ≡ 255)) components u.modes
  pub rows : Rows 8 n u.rows

-- a version of 1 to 3; "u8 variables n, 1..8; u8 components c, 1..4; u8 unsafe conditions, 0..16. n bytes: each variable's owner, 0..c−1";
-- the limits of locations and joint switches
pub record ModelRanges (limits : Limits) (m : Model) : Type 0 where
  pub oldest : 1 ≤ m.version
  pub newest : m.version ≤ 3
  pub least : 1 ≤ m.variables
  pub most : m.variables ≤ 8
  pub owned : length m.owners ≡ m.variables
  pub owners : All (λ o. o < length m.components) m.owners
  pub some : 1 ≤ length m.components
  pub few : length m.components ≤ 4
  pub components : All (ComponentRanges m.variables) m.components
  pub conditions : length m.unsafe ≤ 16
  pub unsafe : All (UnsafeRanges m.variables m.components) m.unsafe
  pub locations : location_count m.components ≤ limits.locations
  pub joined : length (joints m.components) ≤ limits.joints

-- "hypotheses strictly ascending", each from some number on and below the count; multipliers 1..2^24−1
pub data Ascending (hypotheses : ℕ) : ℕ → List Entry → Type 0 where
  none : {least : ℕ} → Ascending hypotheses least []
  more : {least : ℕ} {e : Entry} {rest : List Entry} → least ≤ e.hypothesis → e.hypothesis < hypotheses → 1 ≤ e.multiplier → e.multiplier ≤ 2 ^ 24 - 1 → Ascending hypotheses (suc e.hypothesis) rest → Ascending hypotheses least (e ∷ rest)

-- "u32 k, 0..2^24−1; u8 entries, 0..128"; "An unsafe goal has k = 0 only"
pub record ProofRanges (hypotheses : ℕ) (unsafe : Bool) (p : Proof) : Type 0 where
  pub k : p.k ≤ cond unsafe 0 (2 ^ 24 - 1)
  pub few : length p.entries ≤ 128
  pub ascend : Ascending hypotheses 0 p.entries

-- "n s32 p, −2^27..2^27"
pub record ValueRanges (n : ℕ) (values : List ℤ) : Type 0 where
  pub count : length values ≡ n
  pub within : All (λ v. (negsuc (2 ^ 27 - 1) ≤ℤ v) × (v ≤ℤ pos (2 ^ 27))) values

-- "u32 q, 1..2^24−1; u16 steps, 0..4,095; u8 location; n s32 p"
pub record OpeningRanges (m : Model) (o : Opening) : Type 0 where
  pub least : 1 ≤ o.q
  pub most : o.q ≤ 2 ^ 24 - 1
  pub steps : o.steps ≤ 4095
  pub location : o.location < location_count m.components
  pub values : ValueRanges m.variables o.values

-- "u8 0, u32 δ, 0..2^24−1, new p; or u8 1, u8 event 0..15, c bytes (one of the component's switches, or 255 where it stays), new p"
pub data StepRanges (m : Model) : Step → Type 0 where
  flows : {δ : ℕ} {next : List ℤ} → δ ≤ 2 ^ 24 - 1 → ValueRanges m.variables next → StepRanges m (flow δ next)
  jumps : {event : ℕ} {switches : List ℕ} {next : List ℤ} → event ≤ 15 → Both (λ c i. (i < length c.switches) ⊎ (i ≡ 255)) m.components switches → ValueRanges m.variables next → StepRanges m (jump event switches next)

-- a reading for each element of a list
gives-each : {A B : Type 0} {P : A → B → Type 0} {f : A → Reader B} → ((a : A) → Gives (P a) (f a)) → (xs : List A) → Gives (Both P xs) (each f xs)
unfolding each
gives-each g [] = gives-give [] Both.none
gives-each g (x ∷ xs) = gives-bind (g x) (λ b h. gives-bind (gives-each g xs) (λ rest k. gives-give (b ∷ rest) (Both.more h k)))

either : (a b : Bool) → T (a || b) → T a ⊎ T b
either true b t = inl tt
either false b t = inr t

rows-give : (most version n : ℕ) → Gives (Rows most n) (read_condition version most n)
rows-give most version n = gives-weaken (λ rows w. record { count = w.0; width = w.1 }) (condition-gives most version n)

no_rows : (rows : Condition) → length rows ≤ 0 → rows ≡ []
no_rows [] h = refl
no_rows (r ∷ rows) h = absurd (omega arith)

initial-most : (start : ℕ) (n : ℕ) (rows : Condition) → Rows (cond (eqb start 0) 0 8) n rows → Rows 8 n rows × (start ≡ 0 → rows ≡ [])
initial-most zero n rows w = (record { count = omega (arith, w.count); width = w.width }, λ e. no_rows rows w.count)
initial-most (suc start) n rows w =
    (subst (λ (b : Bool). Rows (cond b 0 8) n rows) (ne_eqb (suc start) 0 (λ e. absurd (omega arith))) w, λ e. absurd (omega arith))

mode-ranges : (version n : ℕ) → Gives (ModeRanges n) (read_mode version n)
unfolding read_mode
mode-ranges version n =
    gives-bind (gives-within 0 1 u8)
    (λ start u.
    gives-bind (rows-give (cond (eqb start 0) 0 8) version n)
    (λ initial i.
    gives-bind (rows-give 8 version n)
    (λ invariant j.
    gives-bind (rows-give 8 version n)
    (λ flow k.
    gives-give _
    (record {
      start = u.1;
      initial = (initial-most start n initial i).0;
      none = (initial-most start n initial i).1;
      invariant = j;
      flow = k;
    })))))

label-known : (alphabet v : ℕ) → T (eqb v 0 || has_event alphabet v) → (v ≡ 0) ⊎ T (has_event alphabet v)
label-known alphabet v t = ⊎_elim (λ h. inl (eqb→eq v 0 h)) (λ h. inr h) (either (eqb v 0) (has_event alphabet v) t)

switch-ranges : (version n alphabet modes : ℕ) → Gives (SwitchRanges n alphabet modes) (read_switch version n alphabet modes)
unfolding read_switch
switch-ranges version n alphabet modes =
    gives-bind (gives-below modes u8)
    (λ source i.
    gives-bind (gives-below modes u8)
    (λ target j.
    gives-bind (gives-must (λ v. eqb v 0 || has_event alphabet v) 6 (gives-within 0 15 u8))
    (λ label k.
    gives-bind (rows-give 8 version (2 * n))
    (λ jump w. gives-give _ (record { source = i; target = j; label = k.1.1; known = label-known alphabet label k.0; jump = w })))))

component-ranges : (version n : ℕ) → Gives (ComponentRanges n) (read_component version n)
unfolding read_component
component-ranges version n =
    gives-bind (gives-must (λ v. eqb (v % 2) 0) 5 gives-any)
    (λ alphabet u.
    gives-bind (gives-within 1 8 u8)
    (λ mode_count i.
    gives-bind (gives-within 0 32 u8)
    (λ switch_count j.
    gives-bind (gives-many mode_count (mode-ranges version n))
    (λ modes k.
    gives-bind (gives-many switch_count (switch-ranges version n alphabet mode_count))
    (λ switches w.
    gives-give _
    (record {
      clear = eqb→eq (alphabet % 2) 0 u.0;
      least = subst (λ (x : ℕ). 1 ≤ x) (sym k.0) i.0;
      most = subst (λ (x : ℕ). x ≤ 8) (sym k.0) i.1;
      few = subst (λ (x : ℕ). x ≤ 32) (sym w.0) j.1;
      modes = k.1;
      switches = subst (λ (x : ℕ). All (SwitchRanges n alphabet x) switches) (sym k.0) w.1;
    }))))))

below-or-any : (count v : ℕ) → T (ltb v count || eqb v 255) → (v < count) ⊎ (v ≡ 255)
below-or-any count v t = ⊎_elim (λ h. inl (ltb→lt v count h)) (λ h. inr (eqb→eq v 255 h)) (either (ltb v count) (eqb v 255) t)

unsafe-ranges : (version n : ℕ) (components : List Component) → Gives (UnsafeRanges n components) (read_unsafe version n components)
unfolding read_unsafe
unsafe-ranges version n components =
    gives-bind
    (gives-each {P = λ c v. (v < length c.modes) ⊎ (v ≡ 255)}
    (λ c. gives-weaken (λ v w. below-or-any (length c.modes) v w.0) (gives-must (λ v. ltb v (length c.modes) || eqb v 255) 5 (gives-any {r = u8}))) components)
    (λ modes u. gives-bind (rows-give 8 version n) (λ rows w. gives-give _ (record { modes = u; rows = w })))

-- what the body gives; the version and the two limits are tested around it
body-ranges : (version paper : ℕ) → Gives (λ m. (m.version ≡ version) × ((limits : Limits) → (1 ≤ version) × (version ≤ 3) → location_count m.components ≤ limits.locations → length (joints m.components) ≤ limits.joints → ModelRanges limits m)) (read_model_body version paper)
unfolding read_model_body
body-ranges version paper =
    gives-bind (gives-within 1 8 u8)
    (λ n i.
    gives-bind (gives-within 1 4 u8)
    (λ c j.
    gives-bind (gives-within 0 16 u8)
    (λ conditions k.
    gives-bind (gives-many n (gives-below c u8))
    (λ owners o.
    gives-bind (gives-many c (component-ranges version n))
    (λ components w.
    gives-bind (gives-many conditions (unsafe-ranges version n components))
    (λ unsafe u.
    gives-give _ (
      refl,
      λ limits v l x.
          record {
            oldest = v.0;
            newest = v.1;
            least = i.0;
            most = i.1;
            owned = o.0;
            owners = subst (λ (x : ℕ). All (λ v. v < x) owners) (sym w.0) o.1;
            some = subst (λ (x : ℕ). 1 ≤ x) (sym w.0) j.0;
            few = subst (λ (x : ℕ). x ≤ 4) (sym w.0) j.1;
            components = w.1;
            conditions = subst (λ (x : ℕ). x ≤ 16) (sym u.0) k.1;
            unsafe = u.1;
            locations = l;
            joined = x;
          },
    )))))))

header-gives : (kind : ℕ) → Gives (λ version. (1 ≤ version) × (version ≤ 3)) (header kind)
unfolding header
header-gives kind =
    gives_then sized (gives_then u16
    (gives-bind (gives-must (version_fits kind) 2 (gives-any {r = u8}))
    (λ version u. gives_then (must (kind_fits kind) 3 u8) (gives-give version (version-range kind version u.0)))))

-- a model that a sheet gives lies in all ranges
pub model-ranges : (limits : Limits) (s : List ℕ) (m : Model) (next : ℕ) → read_model limits s ≡ got m next → ModelRanges limits m
model-ranges limits s m next e =
    let few = (read_whole_lem limits s m next e).few in
    let ranges : Gives (λ m. location_count m.components ≤ limits.locations → length (joints m.components) ≤ limits.joints → ModelRanges limits m) (chain limits) =
    gives-bind (header-gives 1)
    (λ version v.
    gives-bind {r = read_paper version} gives-any
    (λ paper u.
    gives-bind {r = here} gives-any
    (λ place u. gives-bind (body-ranges version paper) (λ m w. gives_then finished (gives_then _ (gives-give m (w.1 limits v))))))) in
    ranges.holds s 0 m next (sym (in-a-chain limits s) ∙ e) few.locations few.joined

-- proofs
pub entries-range : (hypotheses least count : ℕ) → Gives (λ es. (length es ≡ count) × Ascending hypotheses least es) (read_entries hypotheses least count)
unfolding read_entries read_entry
entries-range hypotheses least zero = gives-give [] (refl, Ascending.none)
entries-range hypotheses least (suc n) =
    gives-bind {P = λ e. (least ≤ e.hypothesis) × ((e.hypothesis < hypotheses) × ((1 ≤ e.multiplier) × (e.multiplier ≤ 2 ^ 24 - 1)))}
    (gives-bind (gives-must (λ v. leb least v) 9 (gives-below hypotheses u8))
    (λ hypothesis h. gives-bind (gives-within 1 (2 ^ 24 - 1) u32) (λ multiplier w. gives-give _ (leb→le least hypothesis h.0, (h.1, (w.0, w.1))))))
    (λ e g.
    gives-bind (entries-range hypotheses (suc e.hypothesis) n)
    (λ rest v. gives-give (e ∷ rest) (ap suc v.0, Ascending.more g.0 g.1.0 g.1.1.0 g.1.1.1 v.1)))

pub proof-ranges : (hypotheses : ℕ) (unsafe : Bool) → Gives (ProofRanges hypotheses unsafe) (read_proof hypotheses unsafe)
unfolding read_proof
proof-ranges hypotheses unsafe =
    gives-bind (gives-within 0 (cond unsafe 0 (2 ^ 24 - 1)) u32)
    (λ k h.
    gives-bind (gives-within 0 128 u8)
    (λ count w.
    gives-bind (entries-range hypotheses 0 count)
    (λ entries v. gives-give _ (record { k = h.1; few = subst (λ (n : ℕ). n ≤ 128) (sym v.0) w.1; ascend = v.1 }))))

-- run sheets
values-range : (n : ℕ) → Gives (ValueRanges n) (read_values n)
unfolding read_values within_signed
values-range n =
    gives-weaken (λ values w. record { count = w.0; within = w.1 })
    (gives-many n
    (gives-weaken
    (λ v w. let h = and_yes (le_z (negsuc (2 ^ 27 - 1)) v) (le_z v (pos (2 ^ 27))) w.0 in (record { le = h.0 }, record { le = h.1 }))
    (gives-must (λ v. le_z (negsuc (2 ^ 27 - 1)) v && le_z v (pos (2 ^ 27))) 5 (gives-any {r = s32}))))

pub opening-ranges : (m : Model) → Gives (OpeningRanges m) (read_opening m)
unfolding read_opening
opening-ranges m =
    gives-bind (gives-within 1 (2 ^ 24 - 1) u32)
    (λ q i.
    gives-bind (gives-within 0 4095 u16)
    (λ steps j.
    gives-bind {r = here} gives-any
    (λ place u.
    gives-bind (gives-below (location_count m.components) u8)
    (λ location l.
    gives-bind (values-range m.variables)
    (λ values w. gives-give _ (record { least = i.0; most = i.1; steps = j.1; location = l; values = w }))))))

flow-ranges : (m : Model) → Gives (StepRanges m) (read_flow m)
unfolding read_flow
flow-ranges m = gives-bind (gives-within 0 (2 ^ 24 - 1) u32) (λ δ i. gives-bind (values-range m.variables) (λ values w. gives-give (flow δ values) (StepRanges.flows i.1 w)))

jump-ranges : (m : Model) → Gives (StepRanges m) (read_jump m)
unfolding read_jump stays
jump-ranges m =
    gives-bind (gives-within 0 15 u8)
    (λ event i.
    gives-bind
    (gives-each {P = λ c v. (v < length c.switches) ⊎ (v ≡ 255)}
    (λ c. gives-weaken (λ v w. below-or-any (length c.switches) v w.0) (gives-must (λ v. ltb v (length c.switches) || eqb v 255) 5 (gives-any {r = u8}))) m.components)
    (λ switches j. gives-bind (values-range m.variables) (λ values w. gives-give (jump event switches values) (StepRanges.jumps i.1 j w))))

step_of : (m : Model) (kind : ℕ) → Gives (StepRanges m) (read_step_of m kind)
unfolding read_step_of
step_of m zero = flow-ranges m
step_of m (suc kind) = jump-ranges m

pub step-ranges : (m : Model) → Gives (StepRanges m) (read_step m)
unfolding read_step
step-ranges m = gives-bind (gives-within 0 1 u8) (λ kind i. step_of m kind)

-- modes that fit are as many as were asked for
pub fit_length : (asked modes : List ℕ) → T (modes_fit asked modes) → length asked ≡ length modes
unfolding modes_fit
fit_length [] [] t = refl
fit_length [] (mode ∷ modes) t = absurd t
fit_length (u ∷ asked) [] t = absurd t
fit_length (u ∷ asked) (mode ∷ modes) t = ap suc (fit_length asked modes (and_yes (eqb u 255 || eqb u mode) _ t).1)
