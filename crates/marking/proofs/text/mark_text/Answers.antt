-- The line's text. Assumes nothing.
use mathlib.Core.Path.{ap}
use Rattle.rules.specs.Program.{text_of, printed}
use Rattle.marking.proofs.BufferLaws.{written-so}
use Rattle.marking.proofs.text.mark_text.Goals as goal

pub returns : goal.returns
unfolding printed
returns c =
    let line = c.put_line in
    let mark = c.mark_input in
    let w = written-so (ap text_of mark.ensures.line) line.ensures.written in record { value = (w.sized, w.bytes); upper_bound = line.ensures.upper_bound }
