-- A model with each of its conditions changed in the same way, all else as it was; and a model without the places at which its rows stand.
-- Assumes nothing.
use Rattle.std.specs.Prelude.{map}
use Rattle.farkas.specs.Rows.{Row}
use Rattle.formats.specs.Rows.{SheetRow, Condition}
use Rattle.formats.specs.Model.{Mode, Switch, Component, Unsafe, Model}

unfoldable pub changed_mode : (Condition → Condition) → Mode → Mode
changed_mode f m =
    record { start = m.start; initial = f m.initial; invariant = f m.invariant; flow = f m.flow }

unfoldable pub changed_switch : (Condition → Condition) → Switch → Switch
changed_switch f w = record { source = w.source; target = w.target; label = w.label; jump = f w.jump }

unfoldable pub changed_component : (Condition → Condition) → Component → Component
changed_component f c =
    record { alphabet = c.alphabet; modes = map (changed_mode f) c.modes; switches = map (changed_switch f) c.switches }

unfoldable pub changed_unsafe : (Condition → Condition) → Unsafe → Unsafe
changed_unsafe f u = record { modes = u.modes; rows = f u.rows }

unfoldable pub changed : (Condition → Condition) → Model → Model
changed f m =
    record {
      version = m.version;
      paper = m.paper;
      variables = m.variables;
      owners = m.owners;
      components = map (changed_component f) m.components;
      unsafe = map (changed_unsafe f) m.unsafe;
    }

-- a row that stands in no sheet
unfoldable pub unplaced : Row → SheetRow
unplaced r = record { place = 0; size = 0; row = r }

-- a condition's rows, and a model's, without their places
unfoldable pub bare_rows : Condition → Condition
bare_rows rows = map (λ r. unplaced r.row) rows

unfoldable pub bare : Model → Model
bare m = changed bare_rows m
