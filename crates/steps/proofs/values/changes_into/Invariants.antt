use mathlib.Core.Path.{◌≡◌}
use Rattle.steps.proofs.SliceLaws.{Changed}
use Rattle.steps.proofs.values.changes_into.Given as goal

abbrev pub invariant-loop-i : goal.invariant-loop-i
invariant-loop-i l = l.state ≡ Changed l.n l.initial.state l.i
