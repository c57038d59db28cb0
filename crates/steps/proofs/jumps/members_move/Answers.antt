-- Every component's test. Assumes nothing.
use Rattle.std.proofs.Common.{rules, tests, ◌≡◌, ◌∙◌, ◌≤◌, length, arith, slice_index_or}
use Rattle.formats.specs.Joint.{part_in}
use Rattle.models.specs.Index.{entry}
use Rattle.models.specs.Counts.{component_at}
use Rattle.steps.proofs.JumpLaws.{members-each}
use Rattle.steps.proofs.ValueLoops.{all-range}
use Rattle.steps.proofs.jumps.members_move.Goals.{Start}
use Rattle.steps.proofs.jumps.members_move.Goals as goal

modes-length : (c : Start) → length c.args.modes ≡ 4
modes-length c = search rules

switches-length : (c : Start) → length c.args.switches ≡ 4
switches-length c = search rules

pub returns : goal.returns
returns c =
    let a = c.args in
    let s = a.model.now in
    let index = a.index.now in
    let components = c.number_at-components in
    let few = c.requires.good_index.few in
    let start = (goal.at.returns c).Start in
    let long : entry index 1 ≤ length a.modes = omega (arith, few, modes-length start) in
    let wide : entry index 1 ≤ length a.switches = omega (arith, few, switches-length start) in
    all-range (λ k. part_in (component_at s index k) (slice_index_or a.modes k 0) a.e (slice_index_or a.switches k 0)) components.result (entry index 1) components.ensures c.all.ensures.ran (λ x b q k. search (rules, tests))
    ∙ members-each s index a.switches wide a.modes long a.e
