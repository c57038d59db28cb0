-- No row that a sheet gives is strict: none of a model's, none of a certificate's regions. Assumes nothing.
use mathlib.Core.Path.{◌≡◌}
use mathlib.Core.List.{List}
use Prim.Native.Nat.{ℕ}
use Rattle.farkas.specs.Lists.{All}
use Rattle.formats.specs.Reading.{got}
use Rattle.formats.specs.Rows.{Condition, read_row}
use Rattle.formats.specs.Model.{Model}
use Rattle.formats.specs.declared.Limits.{Limits}
use Rattle.formats.specs.ModelSheet.{read_model}
use Rattle.formats.specs.Certificate.{read_regions}
use Rattle.formats.proofs.WellFormed.{PlainRow, Plain, row_gives}
use Rattle.formats.proofs.EveryRow.{GivesFrom, ModelRows, model-rows, regions-rows}

row_plain : (s : List ℕ) (version n : ℕ) → GivesFrom s PlainRow (read_row version n)
row_plain s version n = record { holds = λ p r next e. ((row_gives version n).holds s p r next e).1 }

pub model-plain : (limits : Limits) (s : List ℕ) (m : Model) (next : ℕ) → read_model limits s ≡ got m next → ModelRows PlainRow m
model-plain limits s = model-rows s PlainRow (row_plain s) limits

pub regions-plain : (m : Model) (s : List ℕ) (p : ℕ) (regions : List Condition) (next : ℕ) → read_regions m s p ≡ got regions next → All Plain regions
regions-plain m s = regions-rows s PlainRow (row_plain s) m
