-- Every unsafe condition's test. Assumes nothing.
use mathlib.Core.Path.{◌≡◌, ◌∙◌}
use Prim.Native.Nat.{◌≤◌}
use native.Mathlib.Omega.{arith}
use borrow.Author.Rules.{rules}
use borrow.Author.Tests.{tests}
use lib.ListN.{length}
use Rattle.farkas.specs.Lists.{some}
use Rattle.formats.specs.Joint.{count_up}
use Rattle.models.specs.Index.{model_from, entry}
use Rattle.rules.specs.Runs as runs
use Rattle.steps.specs.Held.{state_in, unsafe_at}
use Rattle.steps.proofs.ValueLoops.{any-range}
use Rattle.steps.proofs.StandLaws.{stands-in}
use Rattle.steps.proofs.ValueStates.{unsafe-told}
use Rattle.steps.proofs.values.is_unsafe.Goals.{Start}
use Rattle.steps.proofs.values.is_unsafe.Goals as goal

modes-length : (c : Start) → length c.args.modes ≡ 4
modes-length c = search rules

-- all unsafe conditions, as the definition has them
whole_is : (c : Start) → some (unsafe_at c.args.model.now c.args.index.now c.args.modes c.args.q c.args.state.now) (count_up 0 (entry c.args.index.now 2)) ≡ runs.is_unsafe (model_from c.args.model.now c.args.index.now) c.args.q (state_in c.args.model.now c.args.index.now c.args.modes c.args.state.now)
whole_is c =
    let w = c.requires.located in
    let long : entry c.args.index.now 1 ≤ length c.args.modes = omega (arith, modes-length c, w.good.few) in
    unsafe-told w.good _ c.args.modes (stands-in c.args.modes w.good w.known long) long c.args.q c.args.state.now c.requires.small_values.0.long

pub returns : goal.returns
returns c =
    let a = c.args in
    let conditions = c.number_at-conditions in
    any-range (unsafe_at a.model.now a.index.now a.modes a.q a.state.now) conditions.result (entry a.index.now 2) conditions.ensures c.any.ensures.ran (λ x b q k. search (rules, tests))
    ∙ whole_is (goal.at.returns c).Start
