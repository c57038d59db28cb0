-- The program `mark` (01, What is handed back): the line that it prints for any input. Assumes nothing.
use Rattle.std.specs.Prelude.{Bool, true, false, ◌&&◌, List, [], ◌∷◌, ◌++◌, ℕ, zero, suc, ◌+◌, ◌/◌, ◌%◌, ltb, leb, eqb, length, get_or, take, drop}
use Rattle.rules.specs.declared.Answer.{Answer}
use Rattle.formats.specs.Reading.{big_endian}
use Rattle.formats.specs.ModelSheet.{exam_limits}
use Rattle.rules.specs.Marking.{mark_certificate, mark_run}

-- "Lines: `SAFE done`, `UNSAFE done`, `REFUSED number sheet place done score`"
pub data Line : Type 0 where
  safe : ℕ → Line
  unsafe : ℕ → Line
  turned_down : ℕ → ℕ → ℕ → ℕ → ℕ → Line

-- a line as bytes: words, decimal numbers and single spaces, ended by a newline. 48 is the digit 0, 32 a space, 10 a newline
unfoldable pub digits : ℕ → ℕ → List ℕ → List ℕ
digits zero n rest = rest
digits (suc more) n rest =
    elim (ltb n 10) [ true ↦ (48 + n) ∷ rest | false ↦ digits more (n / 10) ((48 + n % 10) ∷ rest) ]

unfoldable pub decimal : ℕ → List ℕ
decimal n = digits (suc n) n []

unfoldable pub numbered : List ℕ → List ℕ
numbered [] = 10 ∷ []
numbered (n ∷ rest) = (32 ∷ decimal n) ++ numbered rest

-- the words SAFE, UNSAFE and REFUSED
unfoldable pub text_of : Line → List ℕ
text_of (safe done) = (83 ∷ 65 ∷ 70 ∷ 69 ∷ []) ++ numbered (done ∷ [])
text_of (unsafe done) = (85 ∷ 78 ∷ 83 ∷ 65 ∷ 70 ∷ 69 ∷ []) ++ numbered (done ∷ [])
text_of (turned_down number sheet place done score) =
    (82 ∷ 69 ∷ 70 ∷ 85 ∷ 83 ∷ 69 ∷ 68 ∷ []) ++ numbered (number ∷ sheet ∷ place ∷ done ∷ score ∷ [])

-- "The first sheet is L+2 bytes, or all if fewer, the rest is the second"
unfoldable pub first_length : List ℕ → ℕ
first_length input = elim (ltb (length input) 2) [ true ↦ length input | false ↦ big_endian (take 2 input) + 2 ]

unfoldable pub first_sheet : List ℕ → List ℕ
first_sheet input = take (first_length input) input

unfoldable pub second_sheet : List ℕ → List ℕ
second_sheet input = drop (first_length input) input

unfoldable pub refused_line : Answer → Line
refused_line a = turned_down a.number a.sheet a.place a.done a.score

unfoldable pub line_for : (ℕ → Line) → Answer → Line
line_for accepted a = elim (eqb a.number 0) [ true ↦ accepted a.done | false ↦ refused_line a ]

-- "if its byte 3 is 3 it is marked as a run, else as a certificate"
unfoldable pub is_run : List ℕ → Bool
is_run second = ltb 3 (length second) && eqb (get_or second 3 0) 3

-- "Over 65,536 bytes it prints `REFUSED 1 0 0 0 0`"
unfoldable pub mark_line : List ℕ → Line
mark_line input =
    elim (leb (length input) 65536) [
      | true ↦
          elim (is_run (second_sheet input)) [
            | true ↦ line_for unsafe (mark_run exam_limits (first_sheet input) (second_sheet input))
            | false ↦ line_for safe (mark_certificate exam_limits (first_sheet input) (second_sheet input))
          ]
      | false ↦ turned_down 1 0 0 0 0
    ]

-- what the program prints
unfoldable pub printed : List ℕ → List ℕ
printed input = text_of (mark_line input)
