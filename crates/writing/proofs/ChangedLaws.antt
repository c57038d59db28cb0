-- A model with its conditions changed: one change after another is one change. Assumes nothing.
use mathlib.Core.Path.{◌≡◌, refl, ap, ap₂, ◌∙◌, fun_ext}
use mathlib.Core.List.{List, map, map-map}
use Rattle.formats.specs.Rows.{Condition}
use Rattle.formats.specs.Model.{Mode, Switch, Component, Unsafe, Model}
use Rattle.writing.specs.Changed.{changed_mode, changed_switch, changed_component, changed_unsafe, changed}

-- what two functions do to each element they do to the list
map_same : {A B : Type 0} (f g : A → B) → ((a : A) → f a ≡ g a) → (xs : List A) → map f xs ≡ map g xs
map_same f g same xs = ap (λ h. map h xs) (fun_ext same)

-- changes one after the other are one
module _ (f g : Condition → Condition) where
  mode-twice : (m : Mode) → changed_mode f (changed_mode g m) ≡ changed_mode (λ rows. f (g rows)) m
  unfolding changed_mode
  mode-twice m = refl

  switch-twice : (w : Switch) → changed_switch f (changed_switch g w) ≡ changed_switch (λ rows. f (g rows)) w
  unfolding changed_switch
  switch-twice w = refl

  unsafe-twice : (u : Unsafe) → changed_unsafe f (changed_unsafe g u) ≡ changed_unsafe (λ rows. f (g rows)) u
  unfolding changed_unsafe
  unsafe-twice u = refl

  component-twice : (c : Component) → changed_component f (changed_component g c) ≡ changed_component (λ rows. f (g rows)) c
  unfolding changed_component
  component-twice c =
      ap₂ {C = Component}
      (λ (modes : List Mode) (switches : List Switch). record { alphabet = c.alphabet; modes = modes; switches = switches })
      (map-map (changed_mode f) (changed_mode g) c.modes ∙ map_same _ _ mode-twice c.modes)
      (map-map (changed_switch f) (changed_switch g) c.switches ∙ map_same _ _ switch-twice c.switches)

  pub changed-twice : (m : Model) → changed f (changed g m) ≡ changed (λ rows. f (g rows)) m
  unfolding changed
  changed-twice m =
      ap₂ {C = Model}
      (λ (components : List Component) (unsafe : List Unsafe). record { version = m.version; paper = m.paper; variables = m.variables; owners = m.owners; components = components; unsafe = unsafe })
      (map-map (changed_component f) (changed_component g) m.components ∙ map_same _ _ component-twice m.components)
      (map-map (changed_unsafe f) (changed_unsafe g) m.unsafe ∙ map_same _ _ unsafe-twice m.unsafe)

  -- two changes that do the same to each condition do the same to the model
  pub changed-same : ((rows : Condition) → f rows ≡ g rows) → (m : Model) → changed f m ≡ changed g m
  changed-same same m = ap (λ (h : Condition → Condition). changed h m) (fun_ext same)
