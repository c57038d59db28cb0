-- By cases: event 0, an empty scope, more or fewer movers than the scope has members, and any other. Assumes nothing.
use mathlib.Core.Path.{◌≡◌, sym, ap, ◌∙◌}
use mathlib.Core.Bool.{not, true≢false}
use lib.Count.{ones}
use borrow.Author.Tests.{eq-eqb}
use Rattle.models.specs.Index.{components_from}
use Rattle.models.specs.Counts.{per_component}
use Rattle.steps.proofs.JumpLaws.{joint-one, joint-none, joint-many, joint-members}
use Rattle.steps.proofs.jumps.is_joint.Goals.{Then-mover_count-members, then-members-ne0, else-members-ne0}
use Rattle.steps.proofs.jumps.is_joint.Goals as goal

pub returns-then-e-eq0 : goal.returns-then-e-eq0
returns-then-e-eq0 c =
    let a = c.args in
    let components = components_from a.model.now a.index.now in
    c.one_moves.ensures
    ∙ sym (joint-one components (per_component a.index.now a.modes) (per_component a.index.now a.switches) a.e c.if-e-eq0.true)

some-members : (c : Then-mover_count-members) → ones c.scope_mask-members.result ≡ 0 → ⊥
some-members c none =
    elim c.if-members-ne0.branch [
      | then-members-ne0 w ↦ w.if-members-ne0.true none
      | else-members-ne0 w ↦ true≢false (sym c.if-mover_count-members.true ∙ w.value-is ∙ ap not (eq-eqb _ _ w.if-members-ne0.false))
    ]

pub returns-then-mover_count-members : goal.returns-then-mover_count-members
returns-then-mover_count-members c =
    let a = c.args in
    let components = components_from a.model.now a.index.now in
    let mask = c.scope_mask-members in
    c.members_move.ensures
    ∙ sym (joint-members components (per_component a.index.now a.modes) (per_component a.index.now a.switches) a.e mask.result c.if-e-eq0.false mask.ensures (some-members (goal.at.returns-then-mover_count-members c).Then-mover_count-members))

pub returns-else-mover_count-members : goal.returns-else-mover_count-members
returns-else-mover_count-members c =
    let a = c.args in
    let components = components_from a.model.now a.index.now in
    let modes = per_component a.index.now a.modes in
    let switches = per_component a.index.now a.switches in
    let mask = c.scope_mask-members in
    let lost = c.if-mover_count-members.false in
    lost
    ∙ elim c.if-members-ne0.branch [
      | then-members-ne0 w ↦ joint-many c.requires.good_index modes switches a.e mask.result c.if-e-eq0.false mask.ensures (λ same. true≢false (sym (eq-eqb _ _ (w.mover_count.ensures ∙ same)) ∙ sym w.value-is ∙ lost))
      | else-members-ne0 w ↦ sym (joint-none components modes switches a.e mask.result c.if-e-eq0.false mask.ensures w.if-members-ne0.false)
    ]
