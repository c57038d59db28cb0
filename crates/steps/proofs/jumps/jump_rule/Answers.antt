-- The joint test, the rows, the values that stay, by the first that fails. Assumes nothing.
use mathlib.Core.Bool.{true≢false}
use mathlib.Core.Path.{◌≡◌, sym, ◌∙◌}
use Prim.Native.Nat.{◌≤◌}
use native.Mathlib.Omega.{arith}
use borrow.Author.Rules.{rules}
use lib.ListN.{length}
use Rattle.formats.specs.Locations.{location_of}
use Rattle.models.specs.Index.{entry, components_from}
use Rattle.models.specs.Counts.{per_component}
use Rattle.papers.specs.Standing.{Stands}
use Rattle.steps.proofs.StandLaws.{stands-in}
use Rattle.steps.proofs.JumpLaws.{rule-joint, rule-rows, rule-kept}
use Rattle.steps.proofs.jumps.jump_rule.Goals.{Start, then-is_joint, else-is_joint}
use Rattle.steps.proofs.jumps.jump_rule.Goals as goal

modes-length : (c : Start) → length c.args.modes ≡ 4
modes-length c = search rules

stands : (c : Start) → Stands c.args.model.now c.args.index.now (location_of (components_from c.args.model.now c.args.index.now) (per_component c.args.index.now c.args.modes)) c.args.modes
stands c =
    let w = c.requires.located in
    let long : entry c.args.index.now 1 ≤ length c.args.modes = omega (arith, modes-length c, w.good.few) in
    stands-in c.args.modes w.good w.known long

pub returns-then-jump_rows : goal.returns-then-jump_rows
returns-then-jump_rows c =
    let a = c.args in
    elim c.if-is_joint.branch [
      | then-is_joint w ↦ rule-kept _ a.modes (stands (goal.at.returns-then-jump_rows c).Start) a.switches a.q a.e a.state.now (sym w.if-is_joint.true ∙ c.is_joint.ensures) c.staying_kept.result (sym c.if-jump_rows.true ∙ w.value-is ∙ w.jump_rows.ensures _) (c.staying_kept.ensures _)
      | else-is_joint w ↦ absurd (true≢false (sym c.if-jump_rows.true ∙ w.value-is ∙ w.if-is_joint.false))
    ]

pub returns-else-jump_rows : goal.returns-else-jump_rows
returns-else-jump_rows c =
    let a = c.args in
    let lost = c.if-jump_rows.false in
    lost
    ∙ elim c.if-is_joint.branch [
      | then-is_joint w ↦ rule-rows _ a.modes (stands (goal.at.returns-else-jump_rows c).Start) a.switches a.q a.e a.state.now (sym w.if-is_joint.true ∙ c.is_joint.ensures) (sym lost ∙ w.value-is ∙ w.jump_rows.ensures _)
      | else-is_joint w ↦ rule-joint _ a.modes (stands (goal.at.returns-else-jump_rows c).Start) a.switches a.q a.e a.state.now (sym w.if-is_joint.false ∙ c.is_joint.ensures)
    ]
