-- The alphabet that an index keeps. Assumes nothing.
use mathlib.Core.Path.{ap, ◌∙◌}
use Prim.Native.Nat.{ℕ}
use Rattle.formats.specs.Model.{has_event}
use Rattle.models.specs.Index.{entry, component_place, component_from}
use Rattle.models.specs.Counts.{component_at}
use Rattle.joint_switches.proofs.joints.in_scope.Goals as goal

pub returns : goal.returns
unfolding component_at component_from entry component_place
returns c =
    let a = c.args in
    c.has_event.ensures ∙ ap (λ (n : ℕ). has_event n a.e) c.from.ensures
