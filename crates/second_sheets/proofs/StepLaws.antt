-- How the parts of a step and of an opening make the whole, and that the switches that the code holds are those that were read.
-- Assumes nothing.
use mathlib.Core.Path.{◌≡◌, refl, sym, ap, ◌∙◌, subst}
use mathlib.Core.Bool.{◌||◌}
use mathlib.Core.List.{List, [], ◌∷◌, map}
use Prim.Native.Nat.{ℕ, zero, suc, ◌+◌, ◌-◌, ◌^◌, ◌≤◌}
use native.Mathlib.Omega.{arith}
use lib.Dec.{ltb, eqb}
use lib.IntN.{ℤ}
use lib.ListN.{length, get_or, take, length-map}
use Rattle.std.specs.Prelude.{Ok, Err}
use Rattle.fields.specs.declared.Refusal.{Refusal}
use Rattle.fields.specs.Causes.{number_of}
use Rattle.second_sheets.specs.declared.Switches.{Switches}
use Rattle.second_sheets.specs.declared.Step as coded
use Rattle.second_sheets.specs.declared.Step.TheVariants as step
use Rattle.second_sheets.specs.declared.Opening as opening
use Rattle.formats.specs.Reading.{Got, got, refused, Reader, and_then, ◌>>=◌, give, here, u8, u16, u32, field, must, within, below, each}
use Rattle.formats.specs.Model.{Component, Model}
use Rattle.formats.specs.Locations.{location_count}
use Rattle.formats.specs.Joint.{stays, count_up}
use Rattle.models.specs.Index.{entry, component_place, switch_from, switch_place, component_from, components_from, model_from}
use Rattle.formats.specs.RunSheet.{flow, jump, read_values, Opening, read_opening, read_flow, read_jump, read_step_of, read_step}
use Rattle.second_sheets.specs.RunAnswers.{switches_in, held_switches, switch_byte, switch_bytes, held_bytes, step_of, read_with, step_as, held_with, held_step, opening_as, read_opening_fields, read_opening_of}
use Rattle.formats.proofs.Gives.{Gives, gives-bind, gives-give, gives-any, bind-got}
use Rattle.fields.proofs.Skipping.{bind-refused}
use Rattle.formats.proofs.FieldLaws.{field-read, range-read}
use Rattle.fields.specs.Answers.{got_field, got_as}
use Rattle.fields.proofs.AnswerLaws.{Read, Next, field-value, field-refused, next-at, next-refused}
use Rattle.fields.proofs.ChainLaws.{regroup, last-got}

-- The four switches are the switches that were read
pub four-take : (ws : List ℕ) (c : ℕ) → length ws ≡ c → c ≤ 4 → take c (switches_in (held_switches ws)) ≡ ws
unfolding switches_in held_switches
four-take ws c e h = ap (λ (k : ℕ). take k (switches_in (held_switches ws))) (sym e) ∙ go ws (subst (λ (k : ℕ). k ≤ 4) (sym e) h)
  where
    go : (ws : List ℕ) → length ws ≤ 4 → take (length ws) (get_or ws 0 stays ∷ get_or ws 1 stays ∷ get_or ws 2 stays ∷ get_or ws 3 stays ∷ []) ≡ ws
    go [] h = refl
    go (a ∷ []) h = refl
    go (a ∷ b ∷ []) h = refl
    go (a ∷ b ∷ c ∷ []) h = refl
    go (a ∷ b ∷ c ∷ d ∷ []) h = refl
    go (a ∷ b ∷ c ∷ d ∷ e ∷ ws) h = absurd (omega arith)

-- A step with its values, from what the reading of the values answered
module _ (st : coded.Step) (n : ℕ) (s : List ℕ) (at : ℕ) (xs : List ℤ) (x : Next) (told : got_as xs x ≡ read_values n s at) where
  pub with_at : (after : ℕ) → x ≡ Ok after → (c : ℕ) → step_as c xs (Ok (st, after)) ≡ read_with n c st s at
  unfolding step_as read_with
  with_at after h c = sym (next-at (step_of c st xs) h) ∙ last-got (read_values n) (step_of c st) s at xs x told

  pub with-held : (after : ℕ) → x ≡ Ok after → got st after ≡ held_with st (read_values n s at)
  unfolding held_with
  with-held after h = ap (held_with st) (sym (next-at xs h) ∙ told)

  pub with-refused : (w : Refusal) → x ≡ Err w → (c : ℕ) → step_as c xs (Err w) ≡ read_with n c st s at
  unfolding step_as read_with
  with-refused w h c = sym (next-refused (step_of c st xs) h) ∙ last-got (read_values n) (step_of c st) s at xs x told

  pub with_none : (w : Refusal) → x ≡ Err w → refused (number_of w.0) w.1 ≡ held_with st (read_values n s at)
  unfolding held_with
  with_none w h = ap (held_with st) (sym (next-refused xs h) ∙ told)

held-flow : (δ : ℕ) (g : Got (List ℤ)) (s : List ℕ) → held_step (and_then g (λ xs. give (flow δ xs)) s) ≡ held_with (step.Flow δ) g
unfolding and_then give held_step held_with
held-flow δ (got xs p) s = refl
held-flow δ (refused number place) s = refl

held-jump : (event : ℕ) (ws : List ℕ) (g : Got (List ℤ)) (s : List ℕ) → held_step (and_then g (λ xs. give (jump event ws xs)) s) ≡ held_with (step.Jump event (held_switches ws)) g
unfolding and_then give held_step held_with
held-jump event ws (got xs p) s = refl
held-jump event ws (refused number place) s = refl

-- Switch bytes by the components of an index, and by its numbers
each_map : {A B C : Type 0} (f : B → Reader C) (g : A → B) (xs : List A) → ◌≡◌ {A = Reader (List C)} (each f (map g xs)) (each (λ x. f (g x)) xs)
unfolding each
each_map f g [] = refl
each_map f g (x ∷ xs) = ap (λ r. f (g x) >>= λ b. r >>= λ rest. give (b ∷ rest)) (each_map f g xs)

length-count : (k n : ℕ) → length (count_up k n) ≡ n
unfolding count_up
length-count k zero = refl
length-count k (suc n) = ap suc (length-count (suc k) n)

switch-count : (model : List ℕ) (version n : ℕ) (index : List ℕ) (block : ℕ) → length (component_from model version n index block).switches ≡ entry index (block + 2)
unfolding component_from
switch-count model version n index block =
    length-map (count_up 0 (entry index (block + 2))) (λ i. switch_from model version n index (switch_place block i)) ∙ length-count 0 (entry index (block + 2))

pub switches-same : (model index : List ℕ) → ◌≡◌ {A = Reader (List ℕ)} (each (λ c. must (λ v. ltb v (length c.switches) || eqb v stays) 5 u8) (components_from model index)) (switch_bytes index)
unfolding components_from switch_bytes switch_byte
switches-same model index =
    let n = entry index 0 in let version = entry index 11 in
    let part : ℕ → Component = λ k. component_from model version n index (component_place k) in
    let test : ℕ → Reader ℕ = λ count. must (λ v. ltb v count || eqb v stays) 5 u8 in
    each_map (λ c. test (length c.switches)) part (count_up 0 (entry index 1))
    ∙ λ i. each (λ k. test (switch-count model version n index (component_place k) i)) (count_up 0 (entry index 1))

-- as many switch bytes are read as there are components
gives-each : {A B : Type 0} (f : A → Reader B) (xs : List A) → Gives (λ ys. length ys ≡ length xs) (each f xs)
unfolding each
gives-each f [] = gives-give [] refl
gives-each f (x ∷ xs) = gives-bind gives-any (λ b u. gives-bind (gives-each f xs) (λ rest e. gives-give (b ∷ rest) (ap suc e)))

bytes-length : (index s : List ℕ) (at : ℕ) (ws : List ℕ) (after : ℕ) → switch_bytes index s at ≡ got ws after → length ws ≡ entry index 1
unfolding switch_bytes
bytes-length index s at ws after e =
    (gives-each (λ k. switch_byte (entry index (component_place k + 2))) (count_up 0 (entry index 1))).holds s at ws after e ∙ length-count 0 (entry index 1)

pub record SwitchesTold (g : Got (List ℕ)) (by : Switches) (after : ℕ) : Type 0 where
  pub list : List ℕ
  pub read : g ≡ got list after
  pub same : by ≡ held_switches list

pub switches-told : (g : Got (List ℕ)) (r : Read Switches) (by : Switches) (after : ℕ) → got_field r ≡ held_bytes g → r ≡ Ok (by, after) → SwitchesTold g by after
unfolding held_bytes
switches-told (got ws p) r by after e h =
    let n : got (held_switches ws) p ≡ got by after = sym e ∙ field-value h in
    let q : by ≡ held_switches ws = cc in
    let place : p ≡ after = cc in
    record { list = ws; read = ap (λ (x : ℕ). got ws x) place; same = q }
switches-told (refused number place) r by after e h =
    let n : refused number place ≡ got by after = sym e ∙ field-value h in
    let z : ◌≡◌ {A = ℕ} 0 1 = cc in
    absurd (omega arith)

pub switches-refused : (g : Got (List ℕ)) (r : Read Switches) (w : Refusal) → got_field r ≡ held_bytes g → r ≡ Err w → g ≡ refused (number_of w.0) w.1
unfolding held_bytes
switches-refused (got ws p) r w e h =
    let n : got (held_switches ws) p ≡ refused (number_of w.0) w.1 = sym e ∙ field-refused h in
    let z : ◌≡◌ {A = ℕ} 0 1 = cc in
    absurd (omega arith)
switches-refused (refused number place) r w e h =
    let n : ◌≡◌ {A = Got Switches} (refused number place) (refused (number_of w.0) w.1) = sym e ∙ field-refused h in
    let q : number ≡ number_of w.0 = cc in
    let t : place ≡ w.1 = cc in
    cc

-- A flow and a jump of the model that an index has
module _ (model index s : List ℕ) (at : ℕ) where
  pub flow-refused : (number place : ℕ) → within 0 (2 ^ 24 - 1) u32 s at ≡ refused number place → read_flow (model_from model index) s at ≡ refused number place
  unfolding read_flow
  flow-refused number place e = bind-refused (within 0 (2 ^ 24 - 1) u32) _ s at e

  module _ (δ after : ℕ) (first : within 0 (2 ^ 24 - 1) u32 s at ≡ got δ after) where
    pub flow-told : read_with (entry index 0) (entry index 1) (step.Flow δ) s after ≡ read_flow (model_from model index) s at
    unfolding read_flow model_from read_with step_of
    flow-told = sym (bind-got (within 0 (2 ^ 24 - 1) u32) _ s at first refl)

    pub flow-held : held_with (step.Flow δ) (read_values (entry index 0) s after) ≡ held_step (read_flow (model_from model index) s at)
    unfolding read_flow model_from ◌>>=◌
    flow-held = sym (ap held_step (bind-got (within 0 (2 ^ 24 - 1) u32) _ s at first refl) ∙ held-flow δ (read_values (entry index 0) s after) s)

  pub jump-refused : (number place : ℕ) → within 0 15 u8 s at ≡ refused number place → read_jump (model_from model index) s at ≡ refused number place
  unfolding read_jump
  jump-refused number place e = bind-refused (within 0 15 u8) _ s at e

  module _ (event second : ℕ) (first : within 0 15 u8 s at ≡ got event second) where
    pub jump-cut : (number place : ℕ) → switch_bytes index s second ≡ refused number place → read_jump (model_from model index) s at ≡ refused number place
    unfolding read_jump model_from
    jump-cut number place e =
        bind-got (within 0 15 u8) _ s at first (bind-refused (each _ (components_from model index)) _ s second (ap (λ r. r s second) (switches-same model index) ∙ e))

    module _ (by : Switches) (after : ℕ) (bytes : SwitchesTold (switch_bytes index s second) by after) where
      abbrev switch-reader : Reader (List ℕ)
      switch-reader = each (λ c. must (λ v. ltb v (length c.switches) || eqb v stays) 5 u8) (components_from model index)

      switches-read : switch-reader s second ≡ got bytes.list after
      switches-read = ap (λ r. r s second) (switches-same model index) ∙ bytes.read

      pub jump-told : entry index 1 ≤ 4 → read_with (entry index 0) (entry index 1) (step.Jump event by) s after ≡ read_jump (model_from model index) s at
      unfolding read_jump model_from read_with step_of
      jump-told few =
          let same : take (entry index 1) (switches_in by) ≡ bytes.list = ap (λ w. take (entry index 1) (switches_in w)) bytes.same ∙ four-take bytes.list (entry index 1) (bytes-length index s second bytes.list after bytes.read) few in
          ap (λ ws. (read_values (entry index 0) >>= λ xs. give (jump event ws xs)) s after) same
          ∙ sym (bind-got (within 0 15 u8) _ s at first (bind-got switch-reader _ s second switches-read refl))

      pub jump-held : held_with (step.Jump event by) (read_values (entry index 0) s after) ≡ held_step (read_jump (model_from model index) s at)
      unfolding read_jump model_from ◌>>=◌
      jump-held =
          let values = read_values (entry index 0) s after in
          ap (λ w. held_with (step.Jump event w) values) bytes.same
          ∙ sym
          (ap held_step (bind-got (within 0 15 u8) _ s at first (bind-got switch-reader _ s second switches-read refl))
          ∙ held-jump event bytes.list values s)

-- A step by its kind
module _ (m : Model) (s : List ℕ) (at : ℕ) where
  pub step-refused : (number place : ℕ) → within 0 1 u8 s at ≡ refused number place → read_step m s at ≡ refused number place
  unfolding read_step
  step-refused number place e = bind-refused (within 0 1 u8) (read_step_of m) s at e

  module _ (kind after : ℕ) (first : within 0 1 u8 s at ≡ got kind after) where
    pub step-flow : kind ≡ 0 → read_step m s at ≡ read_flow m s after
    unfolding read_step read_step_of
    step-flow e = bind-got (within 0 1 u8) (read_step_of m) s at first (ap (λ (k : ℕ). read_step_of m k s after) e)

    pub step-jump : (kind ≡ 0 → ⊥) → read_step m s at ≡ read_jump m s after
    unfolding read_step read_step_of
    step-jump f = bind-got (within 0 1 u8) (read_step_of m) s at first (ap (λ (k : ℕ). read_step_of m k s after) (some kind f))
      where
        some : (kind : ℕ) → (kind ≡ 0 → ⊥) → kind ≡ suc (kind - 1)
        some kind f = omega arith

-- How a run begins: its fields, then its values
opening-split : (m : Model) → ◌≡◌ {A = Reader Opening} (read_opening m) (read_opening_of (location_count m.components) m.variables)
unfolding read_opening read_opening_of read_opening_fields ◌>>=◌ give and_then
opening-split m =
    let rest : Opening → Reader Opening = λ o. read_values m.variables >>= λ xs. give (record { q = o.q; steps = o.steps; place = o.place; location = o.location; values = xs }) in
    let count = location_count m.components in
    let made : ℕ → ℕ → ℕ → ℕ → Reader Opening = λ q steps place location. give (record { q = q; steps = steps; place = place; location = location; values = [] }) in
    sym
    (regroup (within 1 (2 ^ 24 - 1) u32) (λ q. within 0 4095 u16 >>= λ steps. here >>= λ place. below count u8 >>= made q steps place) rest
    ∙ λ i. within 1 (2 ^ 24 - 1) u32 >>= λ q.
    (regroup (within 0 4095 u16) (λ steps. here >>= λ place. below count u8 >>= made q steps place) rest
    ∙ λ j. within 0 4095 u16 >>= λ steps.
    (regroup here (λ place. below count u8 >>= made q steps place) rest
    ∙ λ k. here >>= λ place. regroup (below count u8) (made q steps place) rest k) j) i)

-- so begins a run of a model that has an index and so many locations
pub opening_of : (model index s : List ℕ) (at locations : ℕ) → locations ≡ location_count (components_from model index) → read_opening_of locations (entry index 0) s at ≡ read_opening (model_from model index) s at
unfolding model_from
opening_of model index s at locations all =
    ap (λ (n : ℕ). read_opening_of n (entry index 0) s at) all ∙ sym (ap (λ r. r s at) (opening-split (model_from model index)))

module _ (s : List ℕ) (at locations : ℕ) where
  pub fields-first : (number place : ℕ) → within 1 (2 ^ 24 - 1) u32 s at ≡ refused number place → read_opening_fields locations s at ≡ refused number place
  unfolding read_opening_fields
  fields-first number place e = bind-refused (within 1 (2 ^ 24 - 1) u32) _ s at e

  module _ (q second : ℕ) (one : within 1 (2 ^ 24 - 1) u32 s at ≡ got q second) where
    pub fields-second : (number place : ℕ) → within 0 4095 u16 s second ≡ refused number place → read_opening_fields locations s at ≡ refused number place
    unfolding read_opening_fields
    fields-second number place e = bind-got (within 1 (2 ^ 24 - 1) u32) _ s at one (bind-refused (within 0 4095 u16) _ s second e)

    module _ (steps third : ℕ) (two : within 0 4095 u16 s second ≡ got steps third) where
      location-place : third ≡ at + 6
      unfolding u32 u16
      location-place =
          let a = field-read 4 s at q second (range-read (field 4) 1 (2 ^ 24 - 1) s at q second one).read in
          let b = field-read 2 s second steps third (range-read (field 2) 0 4095 s second steps third two).read in
          omega (arith, a.after, b.after)

      pub fields-third : (number place : ℕ) → below locations u8 s third ≡ refused number place → read_opening_fields locations s at ≡ refused number place
      unfolding read_opening_fields here ◌>>=◌ and_then
      fields-third number place e =
          bind-got (within 1 (2 ^ 24 - 1) u32) _ s at one
          (bind-got (within 0 4095 u16) _ s second two (bind-refused (below locations u8) _ s third e))

      pub fields_read : (location after : ℕ) → below locations u8 s third ≡ got location after → read_opening_fields locations s at ≡ got (record { q = q; steps = steps; place = at + 6; location = location; values = [] }) after
      unfolding read_opening_fields here ◌>>=◌ and_then give
      fields_read location after e =
          bind-got (within 1 (2 ^ 24 - 1) u32) _ s at one
          (bind-got (within 0 4095 u16) _ s second two
          (bind-got (below locations u8) _ s third e
          (ap (λ (p : ℕ). got (record { q = q; steps = steps; place = p; location = location; values = [] }) after) location-place)))

-- what the answer means once its case is known
pub fields_value : (xs : List ℤ) (at : ℕ) {r : Read opening.Opening} {o : opening.Opening} {after : ℕ} → r ≡ Ok (o, after) → opening_as xs at r ≡ got (record { q = o.q; steps = o.steps; place = at + 6; location = o.location; values = xs }) after
unfolding opening_as
fields_value xs at e = ap (opening_as xs at) e

pub fields-refused : (xs : List ℤ) (at : ℕ) {r : Read opening.Opening} {w : Refusal} → r ≡ Err w → opening_as xs at r ≡ refused (number_of w.0) w.1
unfolding opening_as
fields-refused xs at e = ap (opening_as xs at) e

module _ (s : List ℕ) (at locations n : ℕ) where
  pub opening-refused : (number place : ℕ) → read_opening_fields locations s at ≡ refused number place → read_opening_of locations n s at ≡ refused number place
  unfolding read_opening_of
  opening-refused number place e = bind-refused (read_opening_fields locations) _ s at e

  module _ (q steps location first : ℕ) (fields : read_opening_fields locations s at ≡ got (record { q = q; steps = steps; place = at + 6; location = location; values = [] }) first) where
    pub opening-cut : (number place : ℕ) → read_values n s first ≡ refused number place → read_opening_of locations n s at ≡ refused number place
    unfolding read_opening_of
    opening-cut number place e = bind-got (read_opening_fields locations) _ s at fields (bind-refused (read_values n) _ s first e)

    pub opening-read : (xs : List ℤ) (after : ℕ) → read_values n s first ≡ got xs after → read_opening_of locations n s at ≡ got (record { q = q; steps = steps; place = at + 6; location = location; values = xs }) after
    unfolding read_opening_of give
    opening-read xs after e = bind-got (read_opening_fields locations) _ s at fields (bind-got (read_values n) _ s first e refl)
