-- The number is below the count that an index keeps, and the switch leaves. Assumes nothing.
use mathlib.Core.Path.{sym, ap, ◌∙◌}
use Prim.Native.Nat.{ℕ, ◌≤◌, ◌<◌}
use native.Mathlib.Omega.{arith}
use borrow.Author.Tests.{le-ltb}
use lib.ListN.{length}
use Rattle.formats.specs.Joint.{leaves, switch_of}
use Rattle.models.specs.Index.{component_place}
use Rattle.models.specs.Counts.{component_at}
use Rattle.models.proofs.GoodIndexLaws.{switch-length}
use Rattle.steps.proofs.JumpLaws.{moves-past, moves-within}
use Rattle.steps.proofs.jumps.moves_by.Goals.{Then-switch-count}
use Rattle.steps.proofs.jumps.moves_by.Goals as goal

inside : (c : Then-switch-count) → c.args.i < length (component_at c.args.model.now c.args.index.now c.args.k).switches
unfolding component_place
inside c = omega (arith, c.if-switch-count.true, c.from-switch.ensures, c.number_at-count.ensures, switch-length c.args.model.now c.args.index.now c.args.k)

pub leaves_by-requires-clause-i_in_bounds : goal.leaves_by-requires-clause-i_in_bounds
leaves_by-requires-clause-i_in_bounds c = omega (arith, inside c, c.from-switch.ensures)

pub returns-then-switch-count : goal.returns-then-switch-count
returns-then-switch-count c =
    let a = c.args in
    c.leaves_by.ensures ∙ ap (λ (i : ℕ). leaves a.mode a.e (switch_of (component_at a.model.now a.index.now a.k) i)) c.from-switch.ensures ∙ sym (moves-within (component_at a.model.now a.index.now a.k) a.mode a.e a.i (inside (goal.at.returns-then-switch-count c).Then-switch-count))

pub returns-else-switch-count : goal.returns-else-switch-count
unfolding component_place
returns-else-switch-count c =
    let a = c.args in
    let past : c.number_at-count.result ≤ c.from-switch.result = omega (arith, c.if-switch-count.false) in
    le-ltb c.from-switch.result c.number_at-count.result past
    ∙ sym (moves-past (component_at a.model.now a.index.now a.k) a.mode a.e a.i (omega (arith, past, c.from-switch.ensures, c.number_at-count.ensures, switch-length a.model.now a.index.now a.k)))
