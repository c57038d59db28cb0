-- Each kind of line by its own word. Assumes nothing.
use mathlib.Core.Path.{sym, ap}
use native.Mathlib.Omega.{arith}
use Rattle.marking.specs.declared.Line.{Line}
use Rattle.rules.specs.Program.{text_of, refused_line}
use Rattle.marking.specs.Lines.{line_of}
use Rattle.marking.proofs.BufferLaws.{written-so}
use Rattle.marking.proofs.text.put_line.Goals as goal

pub returns-in-Safe : goal.returns-in-Safe
unfolding text_of line_of
returns-in-Safe c = let put = c.put_done in record { written = written-so (sym (ap (λ (l : Line). text_of (line_of l)) c.in-Safe.is)) put.ensures.written; upper_bound = omega (arith, put.ensures.upper_bound) }

pub returns-in-Unsafe : goal.returns-in-Unsafe
unfolding text_of line_of
returns-in-Unsafe c = let put = c.put_done-in-Unsafe in record { written = written-so (sym (ap (λ (l : Line). text_of (line_of l)) c.in-Unsafe.is)) put.ensures.written; upper_bound = omega (arith, put.ensures.upper_bound) }

pub returns-in-Refused : goal.returns-in-Refused
unfolding text_of line_of refused_line
returns-in-Refused c = let put = c.put_refused in record { written = written-so (sym (ap (λ (l : Line). text_of (line_of l)) c.in-Refused.is)) put.ensures.written; upper_bound = omega (arith, put.ensures.upper_bound) }
