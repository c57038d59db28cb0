-- What is told of the row that was found, or of the refusal. Assumes nothing.
use mathlib.Core.Path.{◌∙◌}
use Rattle.rules.specs.Roles.{no_role, owned}
use Rattle.queries.specs.Finding.{shown_as}
use Rattle.queries.proofs.ShowLaws.{shown_of, shown-whole}
use Rattle.queries.proofs.show.show_hypothesis.Goals as goal

pub returns-in-Ok : goal.returns-in-Ok
unfolding shown_of
returns-in-Ok c = c.shown.ensures ∙ shown-whole _ _ _ _ _ c.in-Ok.ensures.value

pub returns-in-Err : goal.returns-in-Err
unfolding shown_of shown_as no_role owned
returns-in-Err c = shown-whole _ _ _ _ _ c.in-Err.ensures.value
