-- The numbers as the standard library writes them. Assumes nothing.
use Rattle.std.proofs.Common.{arith}
use Rattle.rules.specs.Program.{numbered, text_of, refused_line}
use Rattle.marking.proofs.TextLaws.{decimal-written}
use Rattle.marking.proofs.write_refusal.Goals as goal

pub returns : goal.returns
unfolding numbered text_of refused_line
returns g c =
    let a = c.args.answer in
    rw (← decimal-written a.number (omega arith), ← decimal-written a.sheet (omega arith), ← decimal-written a.place (omega arith), ← decimal-written a.done (omega arith), ← decimal-written a.score (omega arith)) c.writeln.ensures.writes
