-- By cases on where the row stands. Assumes nothing.
use Rattle.rules.specs.Marking.{answer}
use Rattle.rules.specs.Roles.{owned}
use Rattle.queries.specs.declared.RowFound.{RowFound}
use Rattle.queries.specs.declared.Shown.{Shown}
use mathlib.Core.Path.{sym, ap}
use Rattle.queries.specs.Finding.{shown_as, stood_answer, row_length}
use Rattle.queries.proofs.show.shown.Goals.{Start}
use Rattle.queries.proofs.show.shown.Goals as goal

-- what is told of a row, in the role that it was found in
abbrev tells : Start → RowFound → Shown
tells s r = shown_as (stood_answer r) (row_length r) (owned s.args.located.role s.args.located.owner)

pub returns-in-InModel : goal.returns-in-InModel
unfolding answer owned shown_as stood_answer row_length
returns-in-InModel c = sym (ap (tells (goal.at.returns-in-InModel c).Start) c.in-InModel.is)

pub returns-in-InSecond : goal.returns-in-InSecond
unfolding answer owned shown_as stood_answer row_length
returns-in-InSecond c = sym (ap (tells (goal.at.returns-in-InSecond c).Start) c.in-InSecond.is)

pub returns-in-Nowhere : goal.returns-in-Nowhere
unfolding answer owned shown_as stood_answer row_length
returns-in-Nowhere c = sym (ap (tells (goal.at.returns-in-Nowhere c).Start) c.in-Nowhere.is)
