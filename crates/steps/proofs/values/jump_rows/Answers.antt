-- Every component's test. Assumes nothing.
use mathlib.Core.Path.{◌≡◌, ◌∙◌}
use Prim.Native.Nat.{ℕ, ◌≤◌}
use native.Mathlib.Omega.{arith}
use borrow.Author.Rules.{rules}
use borrow.Author.Tests.{tests}
use lib.ListN.{length}
use Rattle.farkas.specs.Lists.{every}
use Rattle.formats.specs.Joint.{count_up}
use Rattle.models.specs.Index.{model_from, entry}
use Rattle.models.specs.Counts.{per_component}
use Rattle.rules.specs.Runs as runs
use Rattle.steps.specs.Held.{state_of, values_after, move_at}
use Rattle.steps.proofs.ValueLoops.{all-range}
use Rattle.steps.proofs.ValueStates.{jump-told}
use Rattle.steps.proofs.values.jump_rows.Goals.{Start}
use Rattle.steps.proofs.values.jump_rows.Goals as goal

switches-length : (c : Start) → length c.args.switches ≡ 4
switches-length c = search rules

-- all components, as the definition has them
whole_is : (c : Start) (location : ℕ) → every (move_at c.args.model.now c.args.index.now c.args.switches c.args.q c.args.state.now) (count_up 0 (entry c.args.index.now 1)) ≡ runs.jump_rows (model_from c.args.model.now c.args.index.now) c.args.q (state_of c.args.index.now location c.args.state.now) (per_component c.args.index.now c.args.switches) (values_after c.args.index.now c.args.state.now)
whole_is c location =
    let g = c.requires.good_index.0 in
    let long : entry c.args.index.now 1 ≤ length c.args.switches = omega (arith, switches-length c, g.few) in
    jump-told g c.requires.known_switches long location c.args.q c.args.state.now

pub returns : goal.returns
unfolding move_at
returns c =
    let a = c.args in
    let components = c.number_at-components in
    λ location.
    all-range (move_at a.model.now a.index.now a.switches a.q a.state.now) components.result (entry a.index.now 1) components.ensures c.all.ensures.ran (λ x b q k. search (rules, tests)) ∙ whole_is (goal.at.returns c).Start location
