-- What holds of every row that is read from a sheet holds of every row of the model, and of the regions, that the sheet gives. A law for
-- each way of putting readings of one sheet together, then each reading that has rows. Assumes nothing.
use mathlib.Core.Path.{◌≡◌, sym, ◌∙◌, subst}
use mathlib.Core.List.{List, [], ◌∷◌}
use Prim.Native.Nat.{ℕ, zero, suc, ◌*◌}
use Rattle.farkas.specs.Lists.{All, none, more}
use Rattle.formats.specs.Reading.{got, Reader, ◌>>=◌, ◌>>◌, give, many, finished}
use Rattle.formats.specs.Rows.{SheetRow, Condition, read_row, read_condition}
use Rattle.formats.specs.Model.{Mode, Component, Model, read_mode, read_switch, read_component, read_unsafe, read_model_body}
use Rattle.formats.specs.declared.Limits.{Limits}
use Rattle.formats.specs.ModelSheet.{read_model}
use Rattle.formats.proofs.ModelSheet.{in-a-chain}
use Rattle.formats.specs.Certificate.{read_regions}
use Rattle.formats.proofs.Gives.{got-value, passes}

-- whatever a reading gives, at any place of this sheet, has the property
pub record GivesFrom {A : Type 0} (s : List ℕ) (P : A → Type 0) (r : Reader A) : Type 0 where
  pub holds : (p : ℕ) (a : A) (next : ℕ) → r s p ≡ got a next → P a

from-bind : {A B : Type 0} {s : List ℕ} {P : A → Type 0} {Q : B → Type 0} {r : Reader A} {f : A → Reader B} → GivesFrom s P r → ((a : A) → P a → GivesFrom s Q (f a)) → GivesFrom s Q (r >>= f)
unfolding ◌>>=◌
from-bind {s = s} {r = r} {f = f} g h = record {
  holds = λ p b next e.
      let w = passes (r s p) f s b next e in
      (h w.value (g.holds p w.value w.place w.first)).holds w.place b next w.second;
}

from_then : {A B : Type 0} {s : List ℕ} {Q : B → Type 0} (r : Reader A) {t : Reader B} → GivesFrom s Q t → GivesFrom s Q (r >> t)
unfolding ◌>>◌
from_then {s = s} r {t = t} g = record {
  holds = λ p b next e.
      let w = passes (r s p) (λ a. t) s b next e in
      g.holds w.place b next w.second;
}

from-give : {A : Type 0} {s : List ℕ} {P : A → Type 0} (a : A) → P a → GivesFrom s P (give a)
unfolding give
from-give {P = P} a x = record { holds = λ p b next e. subst P (got-value e) x }

-- nothing is known
from-any : {A : Type 0} {s : List ℕ} {r : Reader A} → GivesFrom s (λ a. Unit {0}) r
from-any = record { holds = λ p a next e. tt }

from-many : {A : Type 0} {s : List ℕ} {P : A → Type 0} {r : Reader A} (n : ℕ) → GivesFrom s P r → GivesFrom s (λ xs. All P xs) (many n r)
unfolding many
from-many zero g = from-give [] none
from-many (suc n) g = from-bind g (λ a x. from-bind (from-many n g) (λ xs w. from-give (a ∷ xs) (more x w)))

-- every row of a mode, of a component, of a model
pub record ModeRows (P : SheetRow → Type 0) (mode : Mode) : Type 0 where
  pub initial : All P mode.initial
  pub invariant : All P mode.invariant
  pub flow : All P mode.flow

pub record ComponentRows (P : SheetRow → Type 0) (c : Component) : Type 0 where
  pub modes : All (ModeRows P) c.modes
  pub switches : All (λ w. All P w.jump) c.switches

pub record ModelRows (P : SheetRow → Type 0) (m : Model) : Type 0 where
  pub components : All (ComponentRows P) m.components
  pub unsafe : All (λ u. All P u.rows) m.unsafe

-- of a sheet each of whose rows has the property
module _ (s : List ℕ) (P : SheetRow → Type 0) (row : (version n : ℕ) → GivesFrom s P (read_row version n)) where
  condition-rows : (most version n : ℕ) → GivesFrom s (λ rows. All P rows) (read_condition version most n)
  unfolding read_condition
  condition-rows most version n = from-bind from-any (λ count u. from-many count (row version n))

  mode-rows : (version n : ℕ) → GivesFrom s (ModeRows P) (read_mode version n)
  unfolding read_mode
  mode-rows version n =
      from-bind from-any
      (λ start u.
      from-bind (condition-rows _ version n)
      (λ initial i.
      from-bind (condition-rows 8 version n)
      (λ invariant j.
      from-bind (condition-rows 8 version n) (λ flow k. from-give _ (record { initial = i; invariant = j; flow = k })))))

  switch-rows : (version n alphabet modes : ℕ) → GivesFrom s (λ w. All P w.jump) (read_switch version n alphabet modes)
  unfolding read_switch
  switch-rows version n alphabet modes =
      from-bind from-any
      (λ source u.
      from-bind from-any
      (λ target u. from-bind from-any (λ label u. from-bind (condition-rows 8 version (2 * n)) (λ jump w. from-give _ w))))

  component-rows : (version n : ℕ) → GivesFrom s (ComponentRows P) (read_component version n)
  unfolding read_component
  component-rows version n =
      from-bind from-any
      (λ alphabet u.
      from-bind from-any
      (λ mode_count u.
      from-bind from-any
      (λ switch_count u.
      from-bind (from-many mode_count (mode-rows version n))
      (λ modes i.
      from-bind (from-many switch_count (switch-rows version n alphabet mode_count))
      (λ switches j. from-give _ (record { modes = i; switches = j }))))))

  unsafe-rows : (version n : ℕ) (components : List Component) → GivesFrom s (λ u. All P u.rows) (read_unsafe version n components)
  unfolding read_unsafe
  unsafe-rows version n components = from-bind from-any (λ modes u. from-bind (condition-rows 8 version n) (λ rows w. from-give _ w))

  pub body-rows : (version paper : ℕ) → GivesFrom s (ModelRows P) (read_model_body version paper)
  unfolding read_model_body
  body-rows version paper =
      from-bind from-any
      (λ n u.
      from-bind from-any
      (λ c u.
      from-bind from-any
      (λ conditions u.
      from-bind from-any
      (λ owners u.
      from-bind (from-many c (component-rows version n))
      (λ components i.
      from-bind (from-many conditions (unsafe-rows version n components))
      (λ unsafe j. from-give _ (record { components = i; unsafe = j })))))))

  pub model-rows : (limits : Limits) (m : Model) (next : ℕ) → read_model limits s ≡ got m next → ModelRows P m
  model-rows limits m next e =
      (from-bind from-any
      (λ version u.
      from-bind from-any
      (λ paper u.
      from-bind from-any
      (λ place u. from-bind (body-rows version paper) (λ m w. from_then finished (from_then _ (from-give m w))))))
      ).holds 0 m next (sym (in-a-chain limits s) ∙ e)

  -- the regions of a certificate
  pub regions-rows : (m : Model) (p : ℕ) (regions : List Condition) (next : ℕ) → read_regions m s p ≡ got regions next → All (λ rows. All P rows) regions
  unfolding read_regions
  regions-rows m p regions next e =
      (from-bind from-any (λ count u. from-many count (condition-rows 16 m.version m.variables))).holds p regions next e
