-- Byte 3, where there is one, tells. Assumes nothing.
use Rattle.std.proofs.Common.{◌∙◌, arith}
use Rattle.rules.specs.Program.{is_run}
use Rattle.marking.proofs.ProgramLaws.{element-is}
use Rattle.marking.proofs.program.is_run.Goals as goal

pub returns : goal.returns
unfolding is_run
returns c =
    let found = c.get.ensures.lookup in
    c.eq.ensures ∙ element-is c.args.second.now 3 _ c.get.result found.0 (found.4 (omega arith) 0)
