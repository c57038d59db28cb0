-- What the program's contracts name besides the definitions of 01: a line as the code has it, where the first sheet ends, and the line for
-- two sheets. Assumes nothing.
use Rattle.std.specs.Prelude.{◌≡◌, true, false, List, ℕ, min, length}
use Rattle.formats.specs.ModelSheet.{exam_limits}
use Rattle.marking.specs.declared.Line as coded
use Rattle.marking.specs.declared.Line.TheVariants as line
use Rattle.rules.specs.Marking.{mark_certificate, mark_run}
use Rattle.rules.specs.Program.{Line, safe, unsafe, refused_line, first_length, line_for, is_run}
use Rattle.buffers.specs.Over.{over}

-- a line as the code has it
unfoldable pub line_of : coded.Line → Line
line_of (line.Safe done) = safe done
line_of (line.Unsafe done) = unsafe done
line_of (line.Refused a) = refused_line a

-- where the input is cut: "The first sheet is L+2 bytes, or all if fewer"
unfoldable pub cut_at : List ℕ → ℕ
cut_at input = min (first_length input) (length input)

-- the line for two sheets
unfoldable pub sheets_line : List ℕ → List ℕ → Line
sheets_line first second =
    elim (is_run second) [
      | true ↦ line_for unsafe (mark_run exam_limits first second)
      | false ↦ line_for safe (mark_certificate exam_limits first second)
    ]

-- a text was written over the start of a buffer, and this is its length; bytes past it stay
pub record Written (before after text : List ℕ) (size : ℕ) : Type 0 where
  pub sized : size ≡ length text
  pub bytes : after ≡ over before 0 text
