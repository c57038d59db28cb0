-- Each finding of the test has its number. Assumes nothing.
use Rattle.std.proofs.Common.{rules}
use Rattle.fields.specs.Answers.{got_as}
use Rattle.farkas.specs.Farkas.{number_of}
use Rattle.sums.specs.Summing.{tested}
use Rattle.sums.proofs.proofs.judged.Goals as goal

pub returns-in-Ok : goal.returns-in-Ok
unfolding tested number_of got_as
returns-in-Ok c = search rules

pub returns-in-Err : goal.returns-in-Err
unfolding tested number_of got_as
returns-in-Err c = search rules
