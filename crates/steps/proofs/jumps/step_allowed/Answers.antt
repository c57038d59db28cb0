-- The state after the step, then its rule. Assumes nothing.
use mathlib.Core.Path.{◌≡◌, sym, ap, ◌∙◌, subst}
use mathlib.Core.List.{List}
use Prim.Native.Nat.{ℕ, ◌-◌, ◌≤◌}
use native.Mathlib.Omega.{arith}
use borrow.Author.Rules.{rules}
use lib.IntN.{ℤ}
use lib.ListN.{length, take, drop}
use Rattle.farkas.specs.Lists.{every}
use Rattle.formats.specs.Joint.{count_up}
use Rattle.models.specs.Index.{entry, model_from}
use Rattle.rules.specs.Runs as runs
use Rattle.papers.specs.Standing.{KnownModes}
use Rattle.papers.proofs.StandingLaws.{invariant-good}
use Rattle.steps.specs.Held.{SmallPoint, state_in, step_with, mode_holds}
use Rattle.steps.proofs.SliceLaws.{part-rest, small-after, small-point}
use Rattle.steps.proofs.StandLaws.{stands-in}
use Rattle.steps.proofs.ValueStates.{admissible-told}
use Rattle.steps.proofs.JumpLaws.{next_known, step-leads, step-inadmissible, step-by-rule}
use Rattle.steps.proofs.jumps.step_allowed.Goals.{After-modes_hold, After-number_at-n, Start}
use Rattle.steps.proofs.jumps.step_allowed.Goals as goal

modes-length : (c : Start) → length c.args.modes ≡ 4
modes-length c = search rules

targets-length : (c : Start) → length c.args.targets ≡ 4
targets-length c = search rules

long : (c : Start) → entry c.args.index.now 1 ≤ length c.args.modes
long c = omega (arith, modes-length c, c.requires.located.0.good.few)

-- the modes that are handed over are known, and with the values after they are the state that the step leads to
known : (c : Start) → KnownModes c.args.index.now c.args.targets
known c =
    let a = c.args in
    let w = c.requires.located.0 in
    subst (KnownModes a.index.now) (sym c.requires.targets_value) (next_known w.good a.modes w.known (long c) a.by c.requires.located.1)

leads : (c : Start) → state_in c.args.model.now c.args.index.now c.args.targets (drop (entry c.args.index.now 0) c.args.state.now) ≡ runs.after (model_from c.args.model.now c.args.index.now) (state_in c.args.model.now c.args.index.now c.args.modes c.args.state.now) (step_with c.args.index.now c.args.by c.args.state.now)
leads c =
    let a = c.args in
    let w = c.requires.located.0 in
    let model = a.model.now in
    let index = a.index.now in
    ap (λ (ms : List ℕ). state_in model index ms (drop (entry index 0) a.state.now)) c.requires.targets_value
    ∙ step-leads w.good a.modes w.known (long c) a.by c.requires.located.1 a.state.now

-- the point that is tested is the part from the values after on
point-is : (c : After-number_at-n) → take (length c.args.state.now - c.number_at-n.result) (drop c.number_at-n.result c.args.state.now) ≡ drop (entry c.args.index.now 0) c.args.state.now
point-is c =
    let state = c.args.state.now in
    part-rest c.number_at-n.result state ∙ ap (λ (k : ℕ). drop k state) c.number_at-n.ensures

pub modes_hold-requires-clause-model_len_bound : goal.modes_hold-requires-clause-model_len_bound
modes_hold-requires-clause-model_len_bound c =
    let a = c.args in
    let w = c.requires.located.0 in
    (w.short, (w.good.few, (omega arith, invariant-good a.model.now a.index.now a.targets w.good (known (goal.at.modes_hold-requires-clause-model_len_bound c).Start))))

pub modes_hold-requires-clause-small_point : goal.modes_hold-requires-clause-small_point
modes_hold-requires-clause-small_point c =
    let n = entry c.args.index.now 0 in
    (subst (SmallPoint n) (sym (point-is (goal.at.modes_hold-requires-clause-small_point c).After-number_at-n)) (small-point (small-after c.requires.small_state.0.values) (omega (arith, c.requires.located.0.good.most))), c.requires.small_state.1)

-- the first test is that of an admissible state
admissible-is : (c : After-modes_hold) → c.modes_hold.result ≡ runs.admissible (model_from c.args.model.now c.args.index.now) c.args.q (state_in c.args.model.now c.args.index.now c.args.targets (drop (entry c.args.index.now 0) c.args.state.now))
admissible-is c =
    let a = c.args in
    let w = c.requires.located.0 in
    let model = a.model.now in
    let index = a.index.now in
    let broad : entry index 1 ≤ length a.targets = omega (arith, targets-length (goal.at.After-modes_hold c).Start, w.good.few) in
    c.modes_hold.ensures
    ∙ ap (λ (xs : List ℤ). every (mode_holds model index a.targets 3 a.q xs) (count_up 0 (entry index 1))) (point-is (goal.at.After-modes_hold c).After-number_at-n)
    ∙ admissible-told w.good _ a.targets (stands-in a.targets w.good (known (goal.at.After-modes_hold c).Start) broad) broad a.q (drop (entry index 0) a.state.now) (small-after c.requires.small_state.0.values).long

pub returns-then-modes_hold-clause-value : goal.returns-then-modes_hold-clause-value
returns-then-modes_hold-clause-value c =
    let a = c.args in
    let model = a.model.now in
    let index = a.index.now in
    let state = a.state.now in
    let rule = c.rule_met in
    step-by-rule (model_from model index) a.q (state_in model index a.modes state) (step_with index a.by state) (state_in model index a.targets (drop (entry index 0) state)) (leads (goal.at.returns-then-modes_hold-clause-value c).Start) rule.result (sym c.if-modes_hold.true ∙ admissible-is (goal.at.returns-then-modes_hold-clause-value c).After-modes_hold) rule.ensures.value

pub returns-else-modes_hold-clause-value : goal.returns-else-modes_hold-clause-value
returns-else-modes_hold-clause-value c =
    let a = c.args in
    let model = a.model.now in
    let index = a.index.now in
    let state = a.state.now in
    let lost = c.if-modes_hold.false in
    lost
    ∙ step-inadmissible (model_from model index) a.q (state_in model index a.modes state) (step_with index a.by state) (state_in model index a.targets (drop (entry index 0) state)) (leads (goal.at.returns-else-modes_hold-clause-value c).Start) (sym lost ∙ admissible-is (goal.at.returns-else-modes_hold-clause-value c).After-modes_hold)
