use mathlib.Core.Path.{◌≡◌}
use Rattle.formats.specs.Joint.{one_moves}
use Rattle.models.specs.Index.{components_from}
use Rattle.models.specs.Counts.{per_component}
use Rattle.steps.proofs.JumpLaws.{one_on}
use Rattle.steps.proofs.jumps.one_moves.Given as goal

abbrev pub invariant-loop-k : goal.invariant-loop-k
invariant-loop-k l =
    one_on l.model l.index l.modes l.switches l.k ≡ one_moves (components_from l.model l.index) (per_component l.index l.modes) (per_component l.index l.switches)
