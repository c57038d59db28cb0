-- On the lines of the source the landing's, and the rows of the target's region to prove. Assumes nothing.
use mathlib.Core.Path.{◌≡◌, sym, ap, ◌∙◌, subst}
use mathlib.Core.List.{List, [], ◌++◌, append-nil}
use Prim.Native.Nat.{ℕ, ◌+◌, ◌≤◌}
use native.Mathlib.Omega.{arith}
use borrow.Author.Rules.{rules}
use lib.ListN.{length}
use Rattle.formats.specs.Locations.{modes_at}
use Rattle.models.specs.Index.{entry, components_from}
use Rattle.models.specs.Counts.{per_component}
use Rattle.papers.specs.Standing.{Stands}
use Rattle.papers.proofs.StandingLaws.{stands_at_lem}
use Rattle.joint_switches.proofs.JointLoops.{modes-length}
use Rattle.models.proofs.GoodIndexLaws.{components-length}
use Rattle.hypotheses.specs.declared.Group.{Group}
use Rattle.hypotheses.specs.Tables.{TableLine, lines_in}
use Rattle.hypotheses.specs.Listing.{tasks_of, GoodGroup, region_group, here_lines, landing_lines, jump_lines}
use Rattle.hypotheses.proofs.GoodLines.{jump-fine}
use Rattle.hypotheses.proofs.GroupLaws.{jump-tasks, region-good}
use Rattle.hypotheses.proofs.groups.jump_group.Goals.{Start}
use Rattle.hypotheses.proofs.groups.jump_group.Goals as goal

switches-length : (c : Start) → length c.args.landing.switches ≡ 4
switches-length c = search rules

pub returns : goal.returns
unfolding entry jump_lines
returns c =
    let model = c.args.paper.model.now in
    let index = c.args.paper.index.now in
    let second = c.args.paper.second.now in
    let regions = c.args.paper.regions.now in
    let location = c.args.location in
    let to = c.args.landing.target in
    let switches = c.args.landing.switches in
    let n = entry index 0 in
    let modes = modes_at (components_from model index) location in
    let here = c.requires.in_bounds.1 in
    let stands : Stands model index location modes = stands_at_lem model index location modes [] c.args.paper.good.good here.below (sym (append-nil modes)) in
    let long : entry index 1 ≤ length modes = omega (arith, modes-length (components_from model index) location, components-length model index) in
    let told = c.modes_at-targets in
    let there = stands_at_lem model index to told.result _ c.args.paper.good.good c.requires.target_bound.0 told.ensures in
    let wide : entry index 1 ≤ length told.result = omega (arith, c.args.paper.good.good.few, told.type_inv) in
    let broad : entry index 1 ≤ length switches = omega (arith, c.args.paper.good.good.few, switches-length (goal.at.returns c).Start) in
    let k = c.jump_table-segments in
    let table = k.new.table in
    let lines : lines_in table k.result ≡ jump_lines model index regions location (per_component index modes) (per_component index told.result) switches =
    k.ensures.result_after ∙ ap (λ (ls : List TableLine). ls ++ landing_lines model index (per_component index told.result) switches) (here.told ∙ ap (here_lines index regions location) (sym stands.here)) in
    let fine = jump-fine model index second regions modes location long stands.known c.args.paper.good here.below told.result switches wide there.known broad c.requires.target_bound.1 in
    let same : c.region_group.result ≡ region_group (entry index 11) regions to table k.result n (n + n) = c.region_group.ensures ∙ ap (λ (m : ℕ). region_group (entry index 11) regions to table k.result m (m + m)) c.from-n.ensures in record { result_after = ap (tasks_of model second n table) same ∙ jump-tasks model index second regions modes location long stands table k.result (n + n) to told.result switches wide there broad c.requires.target_bound.1 c.args.paper.good.good lines; good_group = subst (λ (g : Group). GoodGroup model second n table g) (sym same) (region-good model index second regions table to k.result n (n + n) _ c.args.paper.good c.requires.target_bound.0 k.ensures.onto.stacked (omega (arith, k.ensures.onto.few, here.few)) lines fine (omega arith) (omega (arith, c.args.paper.good.good.most))); kept = k.ensures.onto.kept }

pub jump_table-segments-requires : goal.jump_table-segments-requires
jump_table-segments-requires c =
    let told = c.modes_at-targets in
    let there = stands_at_lem c.args.paper.model.now c.args.paper.index.now c.args.landing.target told.result _ c.args.paper.good.good c.requires.target_bound.0 told.ensures in record { good_index = (c.args.paper.good.good, (c.args.paper.good.short, (there.known, c.requires.target_bound.1))); in_bounds = (c.requires.in_bounds.0, (c.requires.in_bounds.1.few, c.requires.in_bounds.1.stacked)) }
