-- Each kind of line by its own word, and its numbers as the standard library writes them. Assumes nothing.
use Rattle.std.proofs.Common.{arith}
use Rattle.rules.specs.Program.{numbered, text_of}
use Rattle.marking.specs.Lines.{line_of}
use Rattle.marking.proofs.TextLaws.{decimal-written}
use Rattle.marking.proofs.LineDisplay.fmt.Goals as goal

pub returns-in-Safe-clause-writes : goal.returns-in-Safe-clause-writes
unfolding numbered text_of line_of
returns-in-Safe-clause-writes g c = rw (c.in-Safe.is, ← decimal-written c.in-Safe.done (omega arith)) c.writeln.ensures.writes

pub returns-in-Unsafe-clause-writes : goal.returns-in-Unsafe-clause-writes
unfolding numbered text_of line_of
returns-in-Unsafe-clause-writes g c = rw (c.in-Unsafe.is, ← decimal-written c.in-Unsafe.done (omega arith)) c.writeln-in-Unsafe.ensures.writes

pub returns-in-Refused-clause-writes : goal.returns-in-Refused-clause-writes
unfolding line_of
returns-in-Refused-clause-writes g c = rw (c.in-Refused.is) c.write_refusal.ensures
