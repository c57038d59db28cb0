-- Invariants, start modes, initial rows, by the first that fails. Assumes nothing.
use mathlib.Core.Path.{◌≡◌, refl, sym, ◌∙◌}
use mathlib.Core.Bool.{Bool, ◌&&◌, true≢false}
use lib.Dec.{eqb}
use Rattle.farkas.specs.Lists.{every}
use Rattle.formats.specs.Joint.{count_up}
use Prim.Native.Nat.{◌≤◌}
use native.Mathlib.Omega.{arith}
use borrow.Author.Rules.{rules}
use lib.ListN.{length}
use Rattle.formats.specs.Locations.{location_of}
use Rattle.models.specs.Index.{entry, model_from, components_from}
use Rattle.models.specs.Counts.{per_component}
use Rattle.rules.specs.Runs as runs
use Rattle.rules.specs.Runs.{present}
use Rattle.papers.specs.Standing.{Stands}
use Rattle.steps.specs.Held.{state_in, mode_holds}
use Rattle.steps.proofs.ValueLaws.{third-fails, third-left}
use Rattle.steps.proofs.StandLaws.{stands-in}
use Rattle.steps.proofs.ValueStates.{admissible-told, start-told, start-refused}
use Rattle.steps.proofs.values.start_allowed.Goals.{After-modes_hold, Start, then-modes_hold, else-modes_hold}
use Rattle.steps.proofs.values.start_allowed.Goals as goal

modes-length : (c : Start) → length c.args.modes ≡ 4
modes-length c = search rules

long : (c : Start) → entry c.args.index.now 1 ≤ length c.args.modes
long c = omega (arith, modes-length c, c.requires.located.good.few)

stands : (c : Start) → Stands c.args.model.now c.args.index.now (location_of (components_from c.args.model.now c.args.index.now) (per_component c.args.index.now c.args.modes)) c.args.modes
stands c = stands-in c.args.modes c.requires.located.good c.requires.located.known (long c)

-- the first test is that of an admissible state
admissible-is : (c : After-modes_hold) → c.modes_hold.result ≡ runs.admissible (model_from c.args.model.now c.args.index.now) c.args.q (state_in c.args.model.now c.args.index.now c.args.modes c.args.state.now)
admissible-is c =
    let a = c.args in
    c.modes_hold.ensures ∙ admissible-told c.requires.located.good _ a.modes (stands (goal.at.After-modes_hold c).Start) (long (goal.at.After-modes_hold c).Start) a.q a.state.now c.requires.small_values.0.long

-- the tests by what they say, whether the second was asked or not
told : (c : After-modes_hold) (b d : Bool) → b ≡ every (λ mode. eqb mode.start 1) (present (components_from c.args.model.now c.args.index.now) (per_component c.args.index.now c.args.modes)) → d ≡ every (mode_holds c.args.model.now c.args.index.now c.args.modes 1 c.args.q c.args.state.now) (count_up 0 (entry c.args.index.now 1)) → (c.modes_hold.result && (b && d)) ≡ runs.start_allowed (model_from c.args.model.now c.args.index.now) c.args.q (state_in c.args.model.now c.args.index.now c.args.modes c.args.state.now)
told c b d p q =
    let a = c.args in
    start-told c.requires.located.good _ a.modes (stands (goal.at.After-modes_hold c).Start) (long (goal.at.After-modes_hold c).Start) a.q a.state.now c.requires.small_values.0.long c.modes_hold.result b d (admissible-is c) p q

pub returns-then-all_start : goal.returns-then-all_start
returns-then-all_start c =
    let last = c.modes_hold-then-all_start in
    elim c.if-modes_hold.branch [
      | then-modes_hold w ↦ third-left c.modes_hold.result w.all_start.result last.result w.if-modes_hold.true (sym w.value-is ∙ c.if-all_start.true) ∙ told (goal.at.returns-then-all_start c).After-modes_hold w.all_start.result last.result w.all_start.ensures last.ensures
      | else-modes_hold w ↦ absurd (true≢false (sym c.if-all_start.true ∙ w.value-is ∙ w.if-modes_hold.false))
    ]

pub returns-else-all_start : goal.returns-else-all_start
returns-else-all_start c =
    elim c.if-modes_hold.branch [
      | then-modes_hold w ↦ c.if-all_start.false ∙ third-fails c.modes_hold.result w.all_start.result _ w.if-modes_hold.true (sym w.value-is ∙ c.if-all_start.false) ∙ told (goal.at.returns-else-all_start c).After-modes_hold w.all_start.result _ w.all_start.ensures refl
      | else-modes_hold w ↦ c.if-all_start.false ∙ start-refused _ c.args.q _ c.modes_hold.result (admissible-is (goal.at.returns-else-all_start c).After-modes_hold) w.if-modes_hold.false
    ]
