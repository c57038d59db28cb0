-- So many modes after the jump stand in the place of those before. Assumes nothing.
use mathlib.Core.Path.{◌≡◌, ap, ◌∙◌}
use mathlib.Core.List.{List}
use Prim.Native.Nat.{ℕ, ◌<◌, ◌≤◌}
use native.Mathlib.Omega.{arith}
use borrow.Author.Rules.{rules}
use lib.ListN.{length, set}
use Rattle.models.specs.Index.{entry}
use Rattle.models.proofs.GoodIndexLaws.{switch-length}
use Rattle.steps.proofs.JumpLaws.{landed-more, landed-all}
use Rattle.steps.proofs.jumps.modes_by.Goals.{In-loop-k, Start}
use Rattle.steps.proofs.jumps.modes_by.Goals as goal

-- how long the arrays are
modes-length : (c : Start) → length c.args.modes ≡ 4
modes-length c = search rules

switches-length : (c : Start) → length c.args.switches ≡ 4
switches-length c = search rules

long : (c : Start) → entry c.args.index.now 1 ≤ length c.args.modes
long c = omega (arith, modes-length c, c.requires.0.few)

wide : (c : Start) → entry c.args.index.now 1 ≤ length c.args.switches
wide c = omega (arith, switches-length c, c.requires.0.few)

-- a component's number is small
below : (c : In-loop-k) → c.loop-k.k < entry c.args.index.now 1
below c = omega (arith, c.loop-k-test.true, c.number_at-components.ensures)

few : (c : In-loop-k) → c.loop-k.k < 4
few c = omega (arith, below c, c.requires.0.few)

pub mode_after-requires : goal.mode_after-requires
mode_after-requires c =
    let k = c.loop-k.k in record { good_index = c.requires.0; k_bound = below c; i_in_bounds = λ q. omega (arith, c.requires.1.known k (below c) q, switch-length c.args.model.now c.args.index.now k) }

pub loop-k-preserved : goal.loop-k-preserved
loop-k-preserved c =
    let a = c.args in
    let l = c.loop-k in
    ap (λ (xs : List ℕ). set xs l.k c.mode_after.result) l.invariant ∙ landed-more a.model.now a.index.now a.modes a.switches (long (goal.at.loop-k-preserved c).Start) (wide (goal.at.loop-k-preserved c).Start) l.k c.mode_after.result (below (goal.at.loop-k-preserved c).In-loop-k) c.mode_after.ensures

pub returns : goal.returns
returns c =
    let a = c.args in
    let l = c.loop-k in
    let whole : l.k ≡ entry a.index.now 1 = omega (arith, c.number_at-components.ensures) in
    l.invariant ∙ landed-all a.model.now a.index.now a.modes a.switches (long (goal.at.returns c).Start) (wide (goal.at.returns c).Start) l.k whole
