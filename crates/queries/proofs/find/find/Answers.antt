-- Beyond the locations the joint switches, else the group of its location. Assumes nothing.
use Rattle.std.proofs.Common.{rules, ◌≡◌, Option, IfSome, sym, ap, subst, ◌∙◌}
use Rattle.std.specs.ControlFlow.{break_value}
use Rattle.std.specs.Option.{option_map}
use Rattle.queries.specs.declared.Sought.{Sought}
use Rattle.queries.specs.declared.Sought.TheVariants as sought
use mathlib.Core.List.{[]}
use Prim.Native.Nat.{◌<◌}
use native.Mathlib.Omega.{arith}
use Rattle.models.specs.Index.{entry}
use Rattle.queries.specs.Finding.{sought_one, sought_in, KnownSought}
use Rattle.queries.proofs.FindLaws.{sought-found, one-past, one-here, group-one}
use Rattle.queries.proofs.find.find.Goals.{Else-locations-place}
use Rattle.queries.proofs.find.find.Goals as goal

pub find_location-place-requires : goal.find_location-place-requires
unfolding entry
find_location-place-requires c = record { locations_value = (c.args.paper.good.counted.located) }

pub find_jump-found-requires : goal.find_jump-found-requires
unfolding entry
find_jump-found-requires c = record { locations_value = ((c.args.paper.good.counted.located, c.requires.index_len_bound)) }

pub returns-then-locations-place : goal.returns-then-locations-place
unfolding entry
returns-then-locations-place c =
    let place = c.find_location-place in
    let w = sought-found _ _ _ place.result.left _ c.find_jump-found.ensures in
    let same : c.map.result ≡ option_map sought.AtJoint (break_value c.find_jump-found.result) = search rules in
    record {
      result_value = ap (sought_in _ _ _) same ∙ w.value ∙ one-past _ _ _ _ _ c.if-locations-place.true place.ensures.leads;
      known_sought = subst (λ (r : Option Sought). IfSome r (KnownSought c.args.paper.model.now c.args.paper.index.now)) (sym same) w.known;
    }

-- the search ended at a location
below : (c : Else-locations-place) → c.find_location-place.result.at < entry c.args.paper.index.now 15
unfolding entry
below c = omega (arith, c.if-locations-place.false)

pub find_group-group-requires-clause-location_bound : goal.find_group-group-requires-clause-location_bound
unfolding entry
find_group-group-requires-clause-location_bound c =
    let p = c.requires in
    let h = below c in omega (arith, h, c.args.paper.good.counted.located)

pub returns : goal.returns
unfolding sought_in sought_one KnownSought entry
returns c =
    let p = c.requires in
    let place = c.find_location-place in
    let group = c.find_group-group in
    let h = below (goal.at.returns c).Else-locations-place in
    let k = group.ensures.at_bound in
    let there = one-here _ _ _ _ _ h (place.ensures.here h) place.ensures.leads in
    let here = one-here _ _ [] _ _ k (group.ensures.leads_to_group.here k) group.ensures.leads_to_group.leads in record { result_value = sym (group-one _ _ _ _ _ (group.ensures.leads_to_group.here k)) ∙ here ∙ there; known_sought = (omega (arith, h, c.args.paper.good.counted.located), k) }
