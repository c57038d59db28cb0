-- By its number: the start, the flow, an unsafe condition. Assumes nothing.
use Rattle.formats.specs.Joint.{bit}
use mathlib.Core.Path.{◌≡◌, sym, ap, ◌∙◌}
use Prim.Native.Nat.{ℕ, suc, ◌-◌, ◌≤◌, ◌<◌}
use native.Mathlib.Omega.{arith}
use lib.ListN.{length}
use Rattle.formats.specs.Rows.{Condition}
use Rattle.models.specs.Index.{entry, model_from}
use Rattle.papers.specs.Paper.{regions_of}
use Rattle.queries.specs.Finding.{group_obligations}
use Rattle.queries.proofs.FindLaws.{unsafe-goals, flow-goals, fits-there}
use Rattle.queries.proofs.find.group_goals.Goals.{Start}
use Rattle.queries.proofs.find.group_goals.Goals as goal

abbrev region_at : Start → ℕ → Condition
region_at s = regions_of s.args.paper.model.now s.args.paper.index.now s.args.paper.second.now s.args.paper.regions.now

abbrev goals : Start → ℕ → ℕ
goals s g = length (group_obligations (model_from s.args.paper.model.now s.args.paper.index.now) (region_at s) s.args.location g)

-- the group that is asked for, by another name of its number
asked : (s : Start) (g : ℕ) {n : ℕ} → g ≡ s.args.g → n ≡ goals s g → n ≡ goals s s.args.g
asked s g e h = h ∙ ap (goals s) e

pub returns-in-1 : goal.returns-in-1
returns-in-1 c = asked (goal.at.returns-in-1 c).Start 1 (sym c.in-1.is) (flow-goals _ _ _ _ c.region_rows.ensures)

pub returns-in_default : goal.returns-in_default
unfolding bit
returns-in_default c =
    let s = (goal.at.returns-in_default c).Start in
    let u : ℕ = c.args.g - 2 in
    let high : 2 ≤ c.args.g = omega (arith, c.in_default) in
    let low : u < entry c.args.paper.index.now 2 = omega (arith, c.requires.stands.1, high) in
    asked s (suc (suc u)) (omega (arith, high)) (unsafe-goals _ _ _ u _ (c.modes_fit.ensures ∙ fits-there _ _ (region_at s) _ u _ low c.requires.stands.0) c.from.ensures)
