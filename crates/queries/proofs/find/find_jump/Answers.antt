-- What is left of all joint switches begins with those of the location that the search stands at. Assumes nothing.
use mathlib.Core.Path.{sym, subst}
use mathlib.Core.List.{List}
use native.Mathlib.Omega.{arith}
use Rattle.formats.specs.Joint.{JointSwitch, joints}
use Rattle.models.specs.Index.{components_from, model_from}
use Rattle.papers.specs.Paper.{regions_of}
use Rattle.queries.specs.Finding.{Passing}
use Rattle.queries.proofs.FindLaws.{passing-starts, few-here, in-joint, in_rest, in-none, joints-by-location}
use Rattle.queries.proofs.find.find_jump.Goals as goal

pub loop-location-init : goal.loop-location-init
loop-location-init c =
    let a = c.args in
    let components = components_from a.paper.model.now a.paper.index.now in
    let m = model_from a.paper.model.now a.paper.index.now in
    let region_at = regions_of a.paper.model.now a.paper.index.now a.paper.second.now a.paper.regions.now in
    (omega arith, subst (λ (xs : List JointSwitch). Passing m region_at (joints components) xs 0 a.o 0 a.o) (sym (joints-by-location components a.locations c.requires.locations_value.0)) (passing-starts m region_at (joints components) 0 a.o))

pub find_leaving-requires : goal.find_leaving-requires
find_leaving-requires c = record { location_bound = (let h = c.loop-location-test.true in (omega (arith, h, c.requires.locations_value.0), few-here _ _ _ c.args.locations _ h c.loop-location.invariant.1 (omega (arith, c.requires.locations_value.1)))) }

pub loop-location-preserved : goal.loop-location-preserved
loop-location-preserved c =
    let h = c.loop-location-test.true in
    (omega (arith, h), in_rest _ _ _ _ _ h c.loop-location.invariant.1 c.find_leaving.ensures c.in_ok-spot.was)

pub returns : goal.returns
returns c = in-none _ _ _ _ _ c.loop-location-test.false c.loop-location.invariant.1

pub returns-in_err-spot : goal.returns-in_err-spot
returns-in_err-spot c =
    in-joint _ _ _ _ _ c.loop-location-test.true c.loop-location.invariant.1 c.find_leaving.ensures c.in_err-spot.was c.from_residual.ensures
