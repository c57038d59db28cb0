-- What holds of every condition of a model: after a change that gives it to each condition, and before one that it can be had back from.
-- Assumes nothing.
use mathlib.Core.List.{List, [], ◌∷◌, map}
use Rattle.farkas.specs.Lists.{All, none, more}
use Rattle.farkas.proofs.All.{all_map}
use Rattle.formats.specs.Rows.{Condition}
use Rattle.formats.specs.Model.{Mode, Component, Model}
use Rattle.formats.proofs.Members.{all-members}
use Rattle.rules.proofs.Hypotheses.{all_so}
use Rattle.writing.specs.Changed.{changed_mode, changed_switch, changed_component, changed_unsafe, changed}

-- of a mode, of a component, of a model
pub record ModeConditions (P : Condition → Type 0) (mode : Mode) : Type 0 where
  pub initial : P mode.initial
  pub invariant : P mode.invariant
  pub flow : P mode.flow

pub record ComponentConditions (P : Condition → Type 0) (c : Component) : Type 0 where
  pub modes : All (ModeConditions P) c.modes
  pub switches : All (λ w. P w.jump) c.switches

pub record ModelConditions (P : Condition → Type 0) (m : Model) : Type 0 where
  pub components : All (ComponentConditions P) m.components
  pub unsafe : All (λ u. P u.rows) m.unsafe

-- given to each condition by a change
module _ (P : Condition → Type 0) (f : Condition → Condition) (given : (rows : Condition) → P (f rows)) where
  component-changed : (c : Component) → ComponentConditions P (changed_component f c)
  unfolding changed_component changed_mode changed_switch
  component-changed c =
      record {
        modes = all_map (changed_mode f) (all-members c.modes (λ mode d. record { initial = given _; invariant = given _; flow = given _ }));
        switches = all_map (changed_switch f) (all-members c.switches (λ w d. given w.jump));
      }

  pub every-changed : (m : Model) → ModelConditions P (changed f m)
  unfolding changed changed_unsafe
  every-changed m =
      record {
        components = all_map (changed_component f) (all-members m.components (λ c d. component-changed c));
        unsafe = all_map (changed_unsafe f) (all-members m.unsafe (λ u d. given u.rows));
      }

-- had back from what a change gives
unmapped : {A B : Type 0} {P : B → Type 0} (f : A → B) (xs : List A) → All P (map f xs) → All (λ a. P (f a)) xs
unmapped f [] h = none
unmapped f (x ∷ xs) (more p h) = more p (unmapped f xs h)

module _ (P : Condition → Type 0) (f : Condition → Condition) (had : (rows : Condition) → P (f rows) → P rows) where
  component-unchanged : (c : Component) → ComponentConditions P (changed_component f c) → ComponentConditions P c
  unfolding changed_component changed_mode changed_switch
  component-unchanged c h =
      record {
        modes =
            all_so (λ mode w. record { initial = had _ w.initial; invariant = had _ w.invariant; flow = had _ w.flow })
            (unmapped (changed_mode f) c.modes h.modes);
        switches = all_so (λ w. had w.jump) (unmapped (changed_switch f) c.switches h.switches);
      }

  pub every-unchanged : (m : Model) → ModelConditions P (changed f m) → ModelConditions P m
  unfolding changed changed_unsafe
  every-unchanged m h =
      record {
        components = all_so component-unchanged (unmapped (changed_component f) m.components h.components);
        unsafe = all_so (λ u. had u.rows) (unmapped (changed_unsafe f) m.unsafe h.unsafe);
      }
