-- The first two bytes tell the length, or the input is shorter. Assumes nothing.
use Rattle.std.proofs.Common.{arith, ◌∙◌}
use Rattle.marking.proofs.ProgramLaws.{cut-none, cut-told}
use Rattle.marking.proofs.program.first_length.Goals as goal

pub returns-in_default : goal.returns-in_default
returns-in_default c = cut-none c.args.input.now c.in_default.len_below

pub returns : goal.returns
returns c = c.min.ensures ∙ cut-told c.args.input.now c.from-first.result c.in-len2-up.len_at_least (omega (arith, c.from-first.ensures, c.from_be_bytes.ensures))
