-- By its number. Assumes nothing.
use Rattle.std.proofs.Common.{rules}
use mathlib.Core.Path.{◌≡◌, sym}
use Prim.Native.Nat.{ℕ, suc, ◌-◌, ◌≤◌}
use native.Mathlib.Omega.{arith}
use lib.ListN.{length}
use mathlib.Core.List.{List}
use Rattle.models.specs.Index.{entry}
use Rattle.queries.specs.Finding.{GroupHeld}
use Rattle.hypotheses.proofs.TableLaws.{pushed, lines_start}
use Rattle.queries.proofs.HeldLaws.{start-held, flow-held, unsafe-held, held_at}
use Rattle.queries.proofs.rows.table_at.Goals.{Start}
use Rattle.queries.proofs.rows.table_at.Goals as goal

-- there is a mode for each component
long : (s : Start) → entry s.args.paper.index.now 1 ≤ length s.args.modes
unfolding entry
long s =
    let four : ◌≡◌ {A = ℕ} (length s.args.modes) 4 = search rules in
    omega (arith, s.args.paper.good.good.few, four)

-- the table of a group, by another name of its number
held : (s : Start) {g count : ℕ} {table : List ℕ} → g ≡ s.args.g → GroupHeld s.args.paper.model.now s.args.paper.index.now s.args.paper.second.now s.args.paper.regions.now s.args.location g table count → GroupHeld s.args.paper.model.now s.args.paper.index.now s.args.paper.second.now s.args.paper.regions.now s.args.location s.args.g table count
held s e h = held_at _ _ _ _ _ _ (long s) s.requires.stands.0 _ _ e h

pub returns-in-0-clause-group_held : goal.returns-in-0-clause-group_held
unfolding entry
returns-in-0-clause-group_held c =
    let s = (goal.at.returns-in-0-clause-group_held c).Start in
    let made = c.start_table.ensures in
    held s (sym c.in-0.is) (start-held _ _ _ _ _ _ (long s) c.requires.stands.0 _ _ (lines_start (pushed (made.result_after, made.onto))))

pub returns-in-1-clause-group_held : goal.returns-in-1-clause-group_held
unfolding entry
returns-in-1-clause-group_held c =
    let s = (goal.at.returns-in-1-clause-group_held c).Start in
    let made = c.flow_table.ensures in
    held s (sym c.in-1.is) (flow-held _ _ _ _ _ _ (long s) c.requires.stands.0 _ _ c.args.paper.good.good (lines_start (pushed (made.result_after, made.onto))))

pub returns-in_default-clause-group_held : goal.returns-in_default-clause-group_held
unfolding entry
returns-in_default-clause-group_held c =
    let s = (goal.at.returns-in_default-clause-group_held c).Start in
    let made = c.unsafe_table.ensures in
    let high : 2 ≤ c.args.g = omega (arith, c.in_default) in
    let u : ℕ = c.args.g - 2 in
    let same : suc (suc u) ≡ c.args.g = omega (arith, high) in
    held s same (unsafe-held _ _ _ _ _ _ (long s) c.requires.stands.0 _ _ u (omega (arith, high, c.requires.stands.1.0)) (lines_start (pushed (made.result_after, made.onto))))
