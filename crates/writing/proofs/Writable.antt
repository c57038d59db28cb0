-- What can be written: models of which every number is in the range that a sheet has for it, and every row fits. Assumes nothing.
use mathlib.Core.Path.{◌≡◌}
use mathlib.Core.Bool.{Bool, false, cond, ◌||◌}
use mathlib.Core.List.{List}
use Prim.Native.Nat.{ℕ, ◌*◌, ◌%◌, ◌^◌, ◌≤◌, ◌<◌}
use lib.Dec.{T, ltb, eqb}
use lib.IntN.{ℤ}
use lib.ListN.{length}
use Rattle.farkas.specs.Lists.{All}
use Rattle.formats.specs.Versions.{version_fits, has_paper}
use Rattle.formats.specs.Reading.{signed}
use Rattle.formats.specs.Rows.{SheetRow, Condition}
use Rattle.formats.specs.Model.{Mode, Switch, Component, Unsafe, Model, has_event}
use Rattle.writing.specs.Writing.{twos}
use Rattle.writing.proofs.ReadsLaws.{Paired}

-- a number that fits 32 bits
pub record Fits (z : ℤ) : Type 0 where
  pub small : twos z < 2 ^ 32
  pub back : signed (twos z) ≡ z

-- a mark that the version has: no version has strict rows
abbrev pub MarkFits : ℕ → Bool → Type 0
MarkFits version strict = strict ≡ false

-- a row with so many coefficients, all of which fit
pub record FitsRow (version n : ℕ) (r : SheetRow) : Type 0 where
  pub wide : length r.row.coefficients ≡ n
  pub coefficients : All Fits r.row.coefficients
  pub bound : Fits r.row.bound
  pub mark : MarkFits version r.row.strict

-- a condition of at most so many rows
pub record WritableCondition (version most n : ℕ) (rows : Condition) : Type 0 where
  pub few : length rows ≤ most
  pub fit : All (FitsRow version n) rows

-- "the initial count is 0 where start is 0"
abbrev pub initial_most : ℕ → ℕ
initial_most start = cond (eqb start 0) 0 8

-- a mode
pub record WritableMode (version n : ℕ) (m : Mode) : Type 0 where
  pub start : m.start ≤ 1
  pub initial : WritableCondition version (initial_most m.start) n m.initial
  pub invariant : WritableCondition version 8 n m.invariant
  pub flow : WritableCondition version 8 n m.flow

-- "label from 1 not in its alphabet"
abbrev pub label_fits : ℕ → ℕ → Bool
label_fits alphabet label = eqb label 0 || has_event alphabet label

-- a switch of a component with this alphabet and so many modes
pub record WritableSwitch (version n alphabet modes : ℕ) (w : Switch) : Type 0 where
  pub source : w.source < modes
  pub target : w.target < modes
  pub most : w.label ≤ 15
  pub label : T (label_fits alphabet w.label)
  pub jump : WritableCondition version 8 (2 * n) w.jump

-- a component
pub record WritableComponent (version n : ℕ) (c : Component) : Type 0 where
  pub small : c.alphabet < 65536
  pub even : T (eqb (c.alphabet % 2) 0)
  pub least : 1 ≤ length c.modes
  pub most : length c.modes ≤ 8
  pub few : length c.switches ≤ 32
  pub modes : All (WritableMode version n) c.modes
  pub switches : All (WritableSwitch version n c.alphabet (length c.modes)) c.switches

-- "a mode or 255 for any"
abbrev pub mode_fits : Component → ℕ → Bool
mode_fits c v = ltb v (length c.modes) || eqb v 255

-- an unsafe condition: one such mode for each component, and rows
pub record WritableUnsafe (version n : ℕ) (components : List Component) (u : Unsafe) : Type 0 where
  pub modes : Paired (λ c v. T (mode_fits c v)) components u.modes
  pub rows : WritableCondition version 8 n u.rows

-- a paper number of 32 bits, 0 where the version has none
pub record PaperFits (version paper : ℕ) : Type 0 where
  pub small : paper < 2 ^ 32
  pub none : has_paper version ≡ false → paper ≡ 0

-- a whole model
pub record Writable (m : Model) : Type 0 where
  pub version : T (version_fits 1 m.version)
  pub paper : PaperFits m.version m.paper
  pub least : 1 ≤ m.variables
  pub most : m.variables ≤ 8
  pub owned : length m.owners ≡ m.variables
  pub owners : All (λ o. o < length m.components) m.owners
  pub some : 1 ≤ length m.components
  pub few : length m.components ≤ 4
  pub conditions : length m.unsafe ≤ 16
  pub components : All (WritableComponent m.version m.variables) m.components
  pub unsafe : All (WritableUnsafe m.version m.variables m.components) m.unsafe
