-- A row typed as text (02, order 1), and what is handed back. `Typed` says it by what a text is: by Signs, Text, Forms and Values, which
-- come before this file. `typed_row` computes it, by Scan and Working, and the call's contract names it. proofs/TypedLaws.antt shows that
-- `typed_row` is an answer in the sense of `Typed`, and that a text has no other. Assumes nothing.
use Rattle.std.specs.Prelude.{◌≡◌, ◌⊎◌, cond, ◌&&◌, List, ℕ, ℤ, ◌≤◌, ◌<◌, leb, pos, length, replicate, Result, Ok, Err}
use Rattle.typed.specs.declared.TypedRow.{TypedRow}
use Rattle.typed.specs.declared.Unread.{Unread}
use Rattle.typed.specs.declared.Unread.TheVariants.{Variables, Rules, Value}
use Rattle.typed.specs.declared.forms.Form.{Form}
use Rattle.typed.specs.Text.{Comparison, Spells, Breaks}
use Rattle.typed.specs.Forms.{Reading, reaches, refused}
use Rattle.typed.specs.Values.{work_row}
use Rattle.typed.specs.Scan.{Scanned, scanned}
use Rattle.typed.specs.Working.{row_at}

-- a row, or why there is none
abbrev pub Answered : Type 0
Answered = Result TypedRow Unread

-- "The row is returned"
abbrev pub row_of : Form → Answered
row_of x = Ok (record { coefficients = x.coefficients; bound = x.number })

-- the four refusals
abbrev pub count_refused : Answered
count_refused = Err Variables

abbrev pub length_refused : Answered
length_refused = Err (Rules 255)

abbrev pub text_refused : ℕ → Answered
text_refused p = Err (Rules p)

abbrev pub value_refused : ℕ → Answered
value_refused p = Err (Value p)

-- their numbers and places
abbrev pub refusal_number : Unread → ℕ
refusal_number Variables = 5
refusal_number (Rules p) = 16
refusal_number (Value p) = 17

abbrev pub refusal_place : Unread → ℕ
refusal_place Variables = 0
refusal_place (Rules p) = p
refusal_place (Value p) = p

-- what is handed back: number 0 at place 0 with the row; "a refused text returns all zeros"
abbrev pub number_of : Answered → ℕ
number_of (Ok r) = 0
number_of (Err e) = refusal_number e

abbrev pub place_of : Answered → ℕ
place_of (Ok r) = 0
place_of (Err e) = refusal_place e

abbrev pub coefficients_of : Answered → List ℤ
coefficients_of (Ok r) = r.coefficients
coefficients_of (Err e) = replicate 8 (pos 0)

abbrev pub bound_of : Answered → ℤ
bound_of (Ok r) = r.bound
bound_of (Err e) = pos 0

-- the answer to a text, with n variables
pub data Typed (n : ℕ) (text : List ℕ) : Answered → Type 0 where
  -- "n outside 1..8 is 5, sheet 2, before all else"
  count-refused : (n < 1) ⊎ (8 < n) → Typed n text count_refused
  -- "any text over 255 gives 255, tested first"
  length-refused : 1 ≤ n → n ≤ 8 → 255 < length text → Typed n text length_refused
  -- "16, text that breaks these rules, at the first byte no ending of any length could mend (its length if cut short)"
  text-refused : 1 ≤ n → n ≤ 8 → length text ≤ 255 → (p : ℕ) → Breaks text p → Typed n text (text_refused p)
  -- "All of 16 is tested before 17; of several causes of 17 the first in working order is given"
  value-refused : 1 ≤ n → n ≤ 8 → length text ≤ 255 → (c : Comparison) → Spells text c → (p : ℕ) → work_row n c ≡ refused p → Typed n text (value_refused p)
  -- the row that the text spells, worked out
  accepted : 1 ≤ n → n ≤ 8 → length text ≤ 255 → (c : Comparison) → Spells text c → (q : ℕ) (x : Form) → work_row n c ≡ reaches q x → Typed n text (row_of x)

-- the same, computed: the tests in their order, the scan for 16, the working-out for 17
unfoldable pub worked_row : Reading → Answered
worked_row (Ok w) = row_of w.form
worked_row (Err e) = value_refused e.place

unfoldable pub scanned_row : ℕ → List ℕ → Scanned → Answered
scanned_row n text (Ok u) = worked_row (row_at n text)
scanned_row n text (Err e) = text_refused e.place

unfoldable pub short_row : ℕ → List ℕ → Answered
short_row n text = scanned_row n text (scanned text)

unfoldable pub counted_row : ℕ → List ℕ → Answered
counted_row n text = cond (leb (length text) 255) (short_row n text) length_refused

unfoldable pub typed_row : ℕ → List ℕ → Answered
typed_row n text = cond (leb 1 n && leb n 8) (counted_row n text) count_refused
