-- What a result means once its case is known. Assumes nothing.
use mathlib.Core.Path.{◌≡◌, sym, ap, ◌∙◌}
use mathlib.Core.List.{List}
use Prim.Native.Nat.{ℕ, ◌+◌}
use Rattle.std.specs.Prelude.{Result, Ok, Err}
use Rattle.fields.specs.declared.Refusal.{Refusal}
use Rattle.fields.specs.Causes.{number_of}
use Rattle.formats.specs.Reading.{Got, got, refused}
use Rattle.fields.specs.Answers.{got_field, got_as, got_rows}
use Rattle.fields.specs.Places.{rows_from}

-- the results of src/lib.rt, as laws name them
abbrev pub Read : Type 0 → Type 0
Read A = Result (A × ℕ) Refusal

abbrev pub Next : Type 0
Next = Result ℕ Refusal

pub field-value : {A : Type 0} {f : Read A} {r : A × ℕ} → f ≡ Ok r → got_field f ≡ got r.0 r.1
unfolding got_field
field-value e = ap got_field e

pub field-refused : {A : Type 0} {f : Read A} {r : Refusal} → f ≡ Err r → got_field f ≡ refused (number_of r.0) r.1
unfolding got_field
field-refused e = ap got_field e

pub next-at : {A : Type 0} (a : A) {x : Next} {p : ℕ} → x ≡ Ok p → got_as a x ≡ got a p
unfolding got_as
next-at a e = ap (got_as a) e

pub next-refused : {A : Type 0} (a : A) {x : Next} {r : Refusal} → x ≡ Err r → got_as a x ≡ refused (number_of r.0) r.1
unfolding got_as
next-refused a e = ap (got_as a) e

pub rows-value : (s : List ℕ) (version n at : ℕ) {f : Read ℕ} {r : ℕ × ℕ} → f ≡ Ok r → got_rows s version n at f ≡ got (rows_from s version n (at + 1) r.0) r.1
unfolding got_rows
rows-value s version n at e = ap (got_rows s version n at) e

pub rows-refused : (s : List ℕ) (version n at : ℕ) {f : Read ℕ} {r : Refusal} → f ≡ Err r → got_rows s version n at f ≡ refused (number_of r.0) r.1
unfolding got_rows
rows-refused s version n at e = ap (got_rows s version n at) e

-- a result that is known, as the reading
pub read-value : {A : Type 0} (g : Got A) {f : Read A} {r : A × ℕ} → got_field f ≡ g → f ≡ Ok r → g ≡ got r.0 r.1
read-value g e h = sym e ∙ field-value h

pub read-refused : {A : Type 0} (g : Got A) {f : Read A} {r : Refusal} → got_field f ≡ g → f ≡ Err r → g ≡ refused (number_of r.0) r.1
read-refused g e h = sym e ∙ field-refused h
