-- Every later component's test. Assumes nothing.
use Rattle.std.proofs.Common.{rules, tests, ◌≡◌, ◌∙◌, ◌-◌, ◌≤◌, length, arith, slice_index_or}
use lib.Dec.{eqb}
use Rattle.formats.specs.Joint.{stays}
use Rattle.models.specs.Index.{entry}
use Rattle.steps.proofs.JumpLaws.{stay-each}
use Rattle.steps.proofs.ValueLoops.{all-from}
use Rattle.steps.proofs.jumps.all_stay.Goals.{Start}
use Rattle.steps.proofs.jumps.all_stay.Goals as goal

switches-length : (c : Start) → length c.args.switches ≡ 4
switches-length c = search rules

pub returns : goal.returns
unfolding stays
returns c =
    let a = c.args in
    let index = a.index.now in
    let n = entry index 1 in
    let components = c.number_at-components in
    let wide : n ≤ length a.switches = omega (arith, c.requires.good_index.few, switches-length (goal.at.returns c).Start) in
    all-from (λ k. eqb (slice_index_or a.switches k 0) 255) a.from components.result (n - a.from) (omega (arith, components.ensures)) c.all.ensures.ran (λ x b q k. search (rules, tests))
    ∙ stay-each a.model.now index a.switches wide a.from (n - a.from) (omega (arith, c.requires.from_bound))
