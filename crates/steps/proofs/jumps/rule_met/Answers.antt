-- By the kind of the step. Assumes nothing.
use mathlib.Core.Path.{sym, ap, ◌∙◌, subst}
use mathlib.Core.List.{List}
use Prim.Native.Nat.{◌*◌}
use lib.IntN.{ℤ}
use Rattle.models.specs.Index.{entry, model_from}
use Rattle.models.specs.Counts.{per_component}
use Rattle.second_sheets.specs.RunAnswers.{KeptValues, switches_in, step_of}
use Rattle.second_sheets.proofs.RunLaws.{kept_same}
use Rattle.rules.specs.Runs.{rule_met}
use Rattle.steps.specs.Held.{state_in, step_with}
use Rattle.steps.proofs.SliceLaws.{changes-kept}
use Rattle.steps.proofs.jumps.rule_met.Goals as goal

pub jump_rule-requires : goal.jump_rule-requires
unfolding switches_in
jump_rule-requires c =
    let p = c.requires in
    let e = c.in-Jump.e in
    let w = c.in-Jump.w in record { located = p.located.0; known_switches = (p.located.1.switches e w c.in-Jump.is, p.located.1.event e w c.in-Jump.is); small_values = (p.small_state.0.values, p.small_state.1) }

pub returns-in-Flow : goal.returns-in-Flow
unfolding step_of rule_met
returns-in-Flow c =
    let a = c.args in
    let model = a.model.now in
    let index = a.index.now in
    let state = a.state.now in
    let n = entry index 0 in
    let flow = c.flow_rule in
    let kept : KeptValues (2 * n) (3 * n) state flow.new.state = subst (λ (xs : List ℤ). KeptValues (2 * n) (3 * n) state xs) (sym flow.ensures.state_after) (changes-kept n state c.requires.small_state.0.room) in record { value = flow.ensures.value ∙ ap (λ w. rule_met (model_from model index) a.q (state_in model index a.modes state) (step_with index w state)) (sym c.in-Flow.is); kept_values = kept }

pub returns-in-Jump : goal.returns-in-Jump
unfolding step_of switches_in per_component rule_met
returns-in-Jump c =
    let a = c.args in
    let model = a.model.now in
    let index = a.index.now in
    let state = a.state.now in
    let n = entry index 0 in record { value = c.jump_rule.ensures ∙ ap (λ w. rule_met (model_from model index) a.q (state_in model index a.modes state) (step_with index w state)) (sym c.in-Jump.is); kept_values = kept_same (2 * n) (3 * n) state }
