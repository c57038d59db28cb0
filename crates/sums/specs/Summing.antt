-- What the contracts of testing proofs name: hypotheses by their segments, the sums of the entries so far, and what the number of a test
-- answers. Assumes nothing.
use Rattle.std.specs.Prelude.{Result, Ok, Err, true, false, cond, List, [], ◌∷◌, ◌≡◌, ℕ, zero, suc, ◌-◌, ◌≤◌, ◌<◌, ltb, ℤ, pos, replicate}
use Rattle.farkas.specs.Rows.{Row, row_of, strictly, zero_row}
use Rattle.farkas.specs.Farkas.{Entry, SumsOf}
use Rattle.fields.specs.declared.Refusal.{Refusal}
use Rattle.fields.specs.Causes.{number_of}
use Rattle.fields.specs.Places.{row_at}
use Rattle.formats.specs.Reading.{Got, got, refused}
use Rattle.formats.specs.Certificate.{read_entries}
use Rattle.hypotheses.specs.declared.Group.{Group}
use Rattle.hypotheses.specs.Tables.{TableLine, end_of, form_of, place_of, line, hypotheses_from, hypothesis_rows}
use Rattle.rules.specs.Obligations.{on_next}
use Rattle.sums.specs.declared.Line.{Line}
use Rattle.sums.specs.declared.Reached.{Reached}

-- the first segment from one on that ends after a hypothesis; so many others are left
unfoldable pub segment_for : List ℕ → ℕ → ℕ → ℕ → ℕ
segment_for table h g zero = g
segment_for table h g (suc left) = cond (ltb h (end_of table g)) g (segment_for table h (suc g) left)

-- the segment that a hypothesis lies in
pub record InSegment (table : List ℕ) (segments g h : ℕ) : Type 0 where
  pub least : 1 ≤ g
  pub most : g ≤ segments
  pub from : end_of table (g - 1) ≤ h
  pub below : h < end_of table g

-- a hypothesis by its segment, as the code has it; and the line of the table that it is, but for the owner, which no sum asks
unfoldable pub line_in : List ℕ → ℕ → ℕ → Line
line_in table g h = record { form = form_of table g; place = place_of table g; row = h - end_of table (g - 1) }

abbrev pub table_line : Line → TableLine
table_line l = line l.form l.place 0 l.row

-- all sums are 0, at as many unknowns as a group has
pub record NoSums (g : Group) (sums : List ℤ) : Type 0 where
  pub zeros : sums ≡ replicate g.width (pos 0)

-- the goal at a place, or that of an unsafe condition
unfoldable pub goal_at : List ℕ → ℕ → Group → ℕ → Row
goal_at second n g at =
    elim g.zero [
      | true ↦ zero_row
      | false ↦ on_next g.shift (row_at second g.version n at).row
    ]

-- the hypotheses of a group's table, as rows
abbrev pub rows_in : List ℕ → List ℕ → ℕ → List ℕ → Group → List Row
rows_in model second n table g = hypothesis_rows (hypotheses_from model second g.version n table g.segments)

-- the least hypothesis that the next entry may name: one more than the last entry's or, after none, the one given
unfoldable pub least_after : ℕ → List Entry → ℕ
least_after least [] = least
least_after least (e ∷ es) = least_after (suc e.hypothesis) es

-- "after each entry the sums at all unknowns and the summed bound are those of the entries so far" (02, order 3). Of a proof whose entries
-- begin at a place, the first i were read, and the next stands where they end and names a hypothesis after theirs; the sums held are theirs,
-- at every unknown, and so are the summed bound and whether a strict row is among the summed
pub record SoFar (model second : List ℕ) (n : ℕ) (table : List ℕ) (g : Group) (at i : ℕ) (reached : Reached) (sums : List ℤ) : Type 0 where
  pub entries : List Entry
  pub read : read_entries g.hypotheses 0 i second at ≡ got entries reached.place
  pub least : reached.least ≡ least_after 0 entries
  pub held : SumsOf (rows_in model second n table g) entries (strictly reached.strict (row_of sums reached.bound))

-- the next hypothesis is sought from a segment that does not come after it
pub record SoughtFrom (table : List ℕ) (g : Group) (reached : Reached) : Type 0 where
  pub first : 1 ≤ reached.segment
  pub most : 1 ≤ g.segments → reached.segment ≤ g.segments
  pub before : end_of table (reached.segment - 1) ≤ reached.least

-- what holds once i entries were read and summed, or reading them was refused
unfoldable pub SummedAfter : List ℕ → List ℕ → ℕ → List ℕ → Group → ℕ → ℕ → List ℤ → Result Reached Refusal → Type 0
SummedAfter model second n table g at i sums (Ok reached) = SoFar model second n table g at i reached sums × SoughtFrom table g reached
SummedAfter model second n table g at i sums (Err r) = read_entries g.hypotheses 0 i second at ≡ refused (number_of r.0) r.1

-- a proof that begins at a place and ends at another, by the number of its test
unfoldable pub tested : ℕ → ℕ → ℕ → Got (Unit {0})
tested zero at end = got tt end
tested (suc number) at end = refused (suc number) at
