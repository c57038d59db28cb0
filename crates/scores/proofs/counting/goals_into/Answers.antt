-- A region has few rows, and few joint switches lead into a location. Assumes nothing.
use Prim.Native.Nat.{◌≤◌}
use native.Mathlib.Nat.{mul-le-mul}
use native.Mathlib.Omega.{arith}
use Rattle.std.proofs.Common.{rules, ◌≡◌}
use lib.ListN.{length}
use Rattle.models.specs.Index.{entry}
use Rattle.joint_switches.proofs.IntoLaws.{into_few}
use Rattle.papers.proofs.RegionLaws.{region-few}
use Rattle.scores.proofs.counting.goals_into.Goals as goal

pub overflow_mul-result : goal.overflow_mul-result
overflow_mul-result c =
    let a = c.args in
    let g = c.args.paper.good in
    let four : length a.modes ≡ 4 = search rules in
    let long : entry a.paper.index.now 1 ≤ length a.modes = omega (arith, g.good.few, four) in
    let rows : c.region_rows-rows.result ≤ 16 = omega (arith, c.region_rows-rows.ensures, region-few a.paper.model.now a.paper.index.now a.paper.second.now a.paper.regions.now g a.location) in
    let into : c.joints_into.result ≤ 16777216 = omega (arith, c.joints_into.ensures, into_few g.good a.modes long) in
    omega (arith, mul-le-mul rows into)
