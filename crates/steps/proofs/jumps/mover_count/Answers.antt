-- Those among the components whose number is not the one of staying. Assumes nothing.
use Rattle.std.proofs.Common.{rules, ◌≡◌, ◌∙◌, ◌≤◌, ℕ, not, take, length, ap, arith}
use Rattle.std.specs.List.{filter}
use Rattle.std.proofs.lemmas.List.Sums.{length-filter}
use lib.Dec.{eqb}
use Rattle.formats.specs.Joint.{stays}
use Rattle.models.specs.Index.{entry}
use Rattle.models.specs.Counts.{per_component}
use Rattle.steps.proofs.JumpLaws.{movers-told}
use Rattle.steps.proofs.jumps.mover_count.Goals.{Start}
use Rattle.steps.proofs.jumps.mover_count.Goals as goal

switches-length : (c : Start) → length c.args.switches ≡ 4
switches-length c = search rules

pub returns : goal.returns
unfolding stays per_component
returns c =
    let a = c.args in
    let n = entry a.index.now 1 in
    let all : c.loop-k.k ≡ n = omega (arith, c.number_at-components.ensures) in
    let wide : n ≤ length a.switches = omega (arith, c.requires.few, switches-length (goal.at.returns c).Start) in
    c.loop-k.invariant
    ∙ ap (λ (k : ℕ). length (filter (λ i. not (eqb i 255)) (take k a.switches))) all
    ∙ length-filter (λ i. not (eqb i 255)) (take n a.switches)
    ∙ movers-told a.model.now a.index.now a.switches wide
