-- What the results of reading mean, by cases: values, or the number and place of a refusal (01, the table). Assumes nothing.
use Rattle.std.specs.Prelude.{List, ℕ, ◌+◌, Result, Ok, Err}
use Rattle.fields.specs.declared.Refusal.{Refusal}
use Rattle.fields.specs.Causes.{number_of}
use Rattle.formats.specs.Reading.{Got, got, refused}
use Rattle.formats.specs.Rows.{Condition}
use Rattle.fields.specs.Places.{rows_from}

unfoldable pub got_field : {A : Type 0} → Result (A × ℕ) Refusal → Got A
got_field (Ok read) = got read.0 read.1
got_field (Err r) = refused (number_of r.0) r.1

-- where the value is told by another
unfoldable pub got_as : {A : Type 0} → A → Result ℕ Refusal → Got A
got_as a (Ok p) = got a p
got_as a (Err r) = refused (number_of r.0) r.1

-- a condition by its count: its rows begin one byte after its place
unfoldable pub got_rows : List ℕ → ℕ → ℕ → ℕ → Result (ℕ × ℕ) Refusal → Got Condition
got_rows s version n at (Ok read) = got (rows_from s version n (at + 1) read.0) read.1
got_rows s version n at (Err r) = refused (number_of r.0) r.1
