-- The model's parts, read one after the other into an index: how the answers of the parts make the answer of the whole. Assumes nothing.
use mathlib.Core.Path.{◌≡◌, refl, sym, ap, ◌∙◌}
use mathlib.Core.Bool.{Bool, true, false, cond, ◌||◌}
use mathlib.Core.List.{List}
use Prim.Native.Nat.{ℕ, ◌+◌, ◌*◌, ◌≤◌}
use native.Mathlib.Omega.{arith}
use lib.Dec.{eqb}
use Rattle.fields.proofs.AnswerLaws.{Next}
use Rattle.formats.specs.Reading.{got, refused, ◌>>=◌, give, u8, passing, must, within, below}
use Rattle.formats.specs.Rows.{Condition, read_condition}
use Rattle.formats.specs.Model.{has_event, read_mode, read_switch}
use Rattle.models.specs.Index.{Three, read_three, Labelled, read_label, read_labelled}
use Rattle.fields.specs.Answers.{got_as}
use Rattle.formats.proofs.Gives.{bind-got, tested}
use Rattle.formats.proofs.FieldLaws.{range-read}
use borrow.Author.Tests.{eq-eqb, ne_eqb}
use Rattle.fields.proofs.Skipping.{bind-refused}
use Rattle.fields.proofs.ChainLaws.{last-got, bind_assoc, bind-same, give-bind}

-- three conditions
module _ (s : List ℕ) (most version n at : ℕ) where
  pub three-first : (number place : ℕ) → read_condition version most n s at ≡ refused number place → read_three version most n s at ≡ refused number place
  unfolding read_three
  three-first number place e = bind-refused (read_condition version most n) _ s at e

  module _ (initial : Condition) (second : ℕ) (one : read_condition version most n s at ≡ got initial second) where
    pub three-second : (number place : ℕ) → read_condition version 8 n s second ≡ refused number place → read_three version most n s at ≡ refused number place
    unfolding read_three
    three-second number place e = bind-got (read_condition version most n) _ s at one (bind-refused (read_condition version 8 n) _ s second e)

    pub three_third : (invariant : Condition) (third : ℕ) → read_condition version 8 n s second ≡ got invariant third → (flow : Condition) (x : Next) → got_as flow x ≡ read_condition version 8 n s third → got_as (record { initial = initial; invariant = invariant; flow = flow }) x ≡ read_three version most n s at
    unfolding read_three
    three_third invariant third two flow x e =
        last-got (read_condition version 8 n) (λ v. record { initial = initial; invariant = invariant; flow = v }) s third flow x e
        ∙ sym (bind-got (read_condition version most n) _ s at one (bind-got (read_condition version 8 n) _ s second two refl))

-- the three conditions of a mode, then the mode
three-then : {B : Type 0} (most version n : ℕ) (f : Three → B) (s : List ℕ) (p : ℕ) → (read_three version most n >>= λ t. give (f t)) s p ≡ (read_condition version most n >>= λ i. read_condition version 8 n >>= λ v. read_condition version 8 n >>= λ w. give (f (record { initial = i; invariant = v; flow = w }))) s p
unfolding read_three
three-then most version n f s p =
    bind_assoc (read_condition version most n) _ (λ t. give (f t)) s p
    ∙ bind-same (read_condition version most n) _ _ s p
    (λ i q.
    bind_assoc (read_condition version 8 n) _ (λ t. give (f t)) s q
    ∙ bind-same (read_condition version 8 n) _ _ s q (λ v k. bind_assoc (read_condition version 8 n) _ (λ t. give (f t)) s k ∙ bind-same (read_condition version 8 n) _ _ s k (λ w l. give-bind (record { initial = i; invariant = v; flow = w }) (λ t. give (f t)) s l)))

pub mode-refused : (version n : ℕ) (s : List ℕ) (at number place : ℕ) → within 0 1 u8 s at ≡ refused number place → read_mode version n s at ≡ refused number place
unfolding read_mode
mode-refused version n s at number place e = bind-refused (within 0 1 u8) _ s at e

pub mode-read : (version n : ℕ) (s : List ℕ) (at start next : ℕ) → within 0 1 u8 s at ≡ got start next → (t : Three) (x : Next) → got_as t x ≡ read_three version (cond (eqb start 0) 0 8) n s next → got_as (record { start = start; initial = t.initial; invariant = t.invariant; flow = t.flow }) x ≡ read_mode version n s at
unfolding read_mode
mode-read version n s at start next one t x e =
    last-got (read_three version (cond (eqb start 0) 0 8) n) (λ v. record { start = start; initial = v.initial; invariant = v.invariant; flow = v.flow }) s next t x e
    ∙ three-then (cond (eqb start 0) 0 8) version n (λ v. record { start = start; initial = v.initial; invariant = v.invariant; flow = v.flow }) s next
    ∙ sym (bind-got (within 0 1 u8) _ s at one refl)

pub initial-small : (b : Bool) (r : ℕ) → r ≡ cond b 0 8 → r ≤ 255
initial-small true r e = omega arith
initial-small false r e = omega arith

pub three-on : (i : ℕ) → i + 3 ≡ i + 1 + 2
three-on i = omega arith

pub five-on : (i : ℕ) → i + 5 ≡ i + 1 + 4
five-on i = omega arith

-- a label
pub label-refused : (alphabet : ℕ) (s : List ℕ) (at number place : ℕ) → within 0 15 u8 s at ≡ refused number place → read_label alphabet s at ≡ refused number place
unfolding read_label must passing
label-refused alphabet s at number place e = ap (λ g. passing (λ v. eqb v 0 || has_event alphabet v) 6 at g) e

label-step : (alphabet : ℕ) (s : List ℕ) (at v next : ℕ) (b : Bool) → within 0 15 u8 s at ≡ got v next → (eqb v 0 || has_event alphabet v) ≡ b → read_label alphabet s at ≡ cond b (got v next) (refused 6 at)
unfolding read_label must passing
label-step alphabet s at v next b e h = ap (λ g. passing (λ v. eqb v 0 || has_event alphabet v) 6 at g) e ∙ ap (λ x. cond x (got v next) (refused 6 at)) h

pub label-zero : (alphabet : ℕ) (s : List ℕ) (at v next : ℕ) → within 0 15 u8 s at ≡ got v next → v ≡ 0 → read_label alphabet s at ≡ got v next
label-zero alphabet s at v next e h = label-step alphabet s at v next true e (rw (eq-eqb v 0 h) refl)

pub label-event : (alphabet : ℕ) (s : List ℕ) (at v next : ℕ) → within 0 15 u8 s at ≡ got v next → (v ≡ 0 → ⊥) → has_event alphabet v ≡ true → read_label alphabet s at ≡ got v next
label-event alphabet s at v next e h k = label-step alphabet s at v next true e (rw (ne_eqb v 0 h, k) refl)

pub label-outside : (alphabet : ℕ) (s : List ℕ) (at v next : ℕ) → within 0 15 u8 s at ≡ got v next → (v ≡ 0 → ⊥) → has_event alphabet v ≡ false → read_label alphabet s at ≡ refused 6 at
label-outside alphabet s at v next e h k = label-step alphabet s at v next false e (rw (ne_eqb v 0 h, k) refl)

-- what a label tells
pub label_small : (alphabet : ℕ) (s : List ℕ) (at v next : ℕ) → read_label alphabet s at ≡ got v next → v ≤ 15
unfolding read_label must
label_small alphabet s at v next e =
    (range-read u8 0 15 s at v next (tested (λ v. eqb v 0 || has_event alphabet v) 6 at (within 0 15 u8 s at) v next e).read).high

pub labelled-refused : (version n alphabet : ℕ) (s : List ℕ) (at number place : ℕ) → read_label alphabet s at ≡ refused number place → read_labelled version n alphabet s at ≡ refused number place
unfolding read_labelled
labelled-refused version n alphabet s at number place e = bind-refused (read_label alphabet) _ s at e

pub labelled-read : (version n alphabet : ℕ) (s : List ℕ) (at label next : ℕ) → read_label alphabet s at ≡ got label next → (jump : Condition) (x : Next) → got_as jump x ≡ read_condition version 8 (2 * n) s next → got_as (record { label = label; jump = jump }) x ≡ read_labelled version n alphabet s at
unfolding read_labelled
labelled-read version n alphabet s at label next one jump x e =
    last-got (read_condition version 8 (2 * n)) (λ v. record { label = label; jump = v }) s next jump x e ∙ sym (bind-got (read_label alphabet) _ s at one refl)

-- a switch
module _ (version n alphabet modes : ℕ) (s : List ℕ) (at : ℕ) where
  pub switch-first : (number place : ℕ) → below modes u8 s at ≡ refused number place → read_switch version n alphabet modes s at ≡ refused number place
  unfolding read_switch
  switch-first number place e = bind-refused (below modes u8) _ s at e

  module _ (source second : ℕ) (one : below modes u8 s at ≡ got source second) where
    pub switch-second : (number place : ℕ) → below modes u8 s second ≡ refused number place → read_switch version n alphabet modes s at ≡ refused number place
    unfolding read_switch
    switch-second number place e = bind-got (below modes u8) _ s at one (bind-refused (below modes u8) _ s second e)

    pub switch-read : (target third : ℕ) → below modes u8 s second ≡ got target third → (t : Labelled) (x : Next) → got_as t x ≡ read_labelled version n alphabet s third → got_as (record { source = source; target = target; label = t.label; jump = t.jump }) x ≡ read_switch version n alphabet modes s at
    unfolding read_switch read_labelled read_label
    switch-read target third two t x e =
        last-got (read_labelled version n alphabet) (λ v. record { source = source; target = target; label = v.label; jump = v.jump }) s third t x e
        ∙ (bind_assoc (read_label alphabet) _ (λ v. give (record { source = source; target = target; label = v.label; jump = v.jump })) s third
        ∙ bind-same (read_label alphabet) _ _ s third
        (λ l q.
        bind_assoc (read_condition version 8 (2 * n)) _ (λ v. give (record { source = source; target = target; label = v.label; jump = v.jump })) s q
        ∙ bind-same (read_condition version 8 (2 * n)) _ _ s q (λ j k. give-bind (record { label = l; jump = j }) (λ v. give (record { source = source; target = target; label = v.label; jump = v.jump })) s k)))
        ∙ sym (bind-got (below modes u8) _ s at one (bind-got (below modes u8) _ s second two refl))

pub three-more : (i : ℕ) → i + 3 ≡ i + 2 + 1
three-more i = omega arith
