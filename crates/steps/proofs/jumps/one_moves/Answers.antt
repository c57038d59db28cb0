-- What the components from here on give is what all give. Assumes nothing.
use mathlib.Core.Path.{◌≡◌, sym, ◌∙◌}
use Prim.Native.Nat.{◌≤◌, ◌<◌}
use native.Mathlib.Omega.{arith}
use borrow.Author.Rules.{rules}
use lib.ListN.{length}
use Rattle.formats.specs.Joint.{stays}
use Rattle.models.specs.Index.{entry}
use Rattle.steps.proofs.JumpLaws.{one-goes-on, one-stops, one_then, one-ends}
use Rattle.steps.proofs.jumps.one_moves.Goals.{In-loop-k, Start}
use Rattle.steps.proofs.jumps.one_moves.Goals as goal

-- how long the arrays are, and that a component's number is small
modes-length : (c : Start) → length c.args.modes ≡ 4
modes-length c = search rules

switches-length : (c : Start) → length c.args.switches ≡ 4
switches-length c = search rules

long : (c : Start) → entry c.args.index.now 1 ≤ length c.args.modes
long c = omega (arith, modes-length c, c.requires.few)

wide : (c : Start) → entry c.args.index.now 1 ≤ length c.args.switches
wide c = omega (arith, switches-length c, c.requires.few)

below : (c : In-loop-k) → c.loop-k.k < entry c.args.index.now 1
below c = omega (arith, c.loop-k-test.true, c.number_at-components.ensures)

pub returns-then-moves_by : goal.returns-then-moves_by
unfolding stays
returns-then-moves_by c =
    let a = c.args in
    let start = (goal.at.returns-then-moves_by c).Start in
    c.all_stay.ensures
    ∙ one_then a.model.now a.index.now a.switches (wide start) a.modes (long start) _ c.loop-k.k (below (goal.at.returns-then-moves_by c).In-loop-k) c.if-switches-k.true (sym c.if-moves_by.true ∙ c.moves_by.ensures) c.loop-k.invariant

pub returns-else-moves_by : goal.returns-else-moves_by
unfolding stays
returns-else-moves_by c =
    let a = c.args in
    let start = (goal.at.returns-else-moves_by c).Start in
    c.if-moves_by.false
    ∙ one-stops a.model.now a.index.now a.switches (wide start) a.modes (long start) _ c.loop-k.k (below (goal.at.returns-else-moves_by c).In-loop-k) c.if-switches-k.true (sym c.if-moves_by.false ∙ c.moves_by.ensures) c.loop-k.invariant

pub loop-k-preserved : goal.loop-k-preserved
unfolding stays
loop-k-preserved c =
    let a = c.args in
    let start = (goal.at.loop-k-preserved c).Start in
    one-goes-on a.model.now a.index.now a.switches (wide start) a.modes (long start) _ c.loop-k.k (below (goal.at.loop-k-preserved c).In-loop-k) c.if-switches-k.false c.loop-k.invariant

pub returns : goal.returns
returns c =
    let a = c.args in
    let start = (goal.at.returns c).Start in
    one-ends a.model.now a.index.now a.switches (wide start) a.modes (long start) _ c.loop-k.k (omega (arith, c.number_at-components.ensures, c.loop-k-test.false)) c.loop-k.invariant
