-- The obligation sought is so many on among those from this group on, and it is one of them. Assumes nothing.
use mathlib.Core.Path.{refl, sym, ap, ◌∙◌, subst}
use mathlib.Core.List.{List, [], append-nil}
use Prim.Native.Nat.{◌+◌, ◌<◌}
use native.Mathlib.Omega.{arith}
use lib.ListN.{length}
use Rattle.models.specs.Index.{entry}
use Rattle.rules.specs.Obligations.{Obligation}
use Rattle.papers.specs.Paper.{regions_of}
use Rattle.queries.specs.Finding.{one_at}
use Rattle.papers.proofs.StandingLaws.{stands_at_lem}
use Rattle.queries.proofs.FindLaws.{one_on_lem, inside_on, inside-end, location-groups}
use Rattle.queries.proofs.find.find_group.Goals as goal

pub loop-at-init : goal.loop-at-init
unfolding entry
loop-at-init c =
    let whole = location-groups c.args.paper.model.now c.args.paper.index.now (regions_of c.args.paper.model.now c.args.paper.index.now c.args.paper.second.now c.args.paper.regions.now) c.args.location (2 + entry c.args.paper.index.now 2) refl in
    (omega arith, (ap (λ (xs : List Obligation). one_at xs c.args.o) (append-nil _ ∙ sym whole), subst (λ (xs : List Obligation). c.args.o < length xs) whole c.requires.o_in_bounds))

pub group_goals-goals-requires : goal.group_goals-goals-requires
unfolding entry
group_goals-goals-requires c = record { stands = (let p = c.requires in (stands_at_lem _ _ _ _ _ c.args.paper.good.good p.location_bound c.modes_at-modes.ensures, c.loop-at-test.true)) }

pub returns-then-left-goals : goal.returns-then-left-goals
unfolding entry
returns-then-left-goals c =
    let l = c.loop-at in record {
      leads_to_group = record {
        within = l.invariant.0;
        leads = l.invariant.1.0;
        here = λ h. omega (arith, c.if-left-goals.true, c.group_goals-goals.ensures);
      };
      at_bound = c.loop-at-test.true;
    }

pub loop-at-preserved : goal.loop-at-preserved
unfolding entry
loop-at-preserved c =
    let l = c.loop-at in
    let h = c.loop-at-test.true in
    let e = c.group_goals-goals.ensures in
    (omega (arith, h), (one_on_lem _ _ [] l.at l.left h e c.if-left-goals.false l.invariant.1.0, inside_on _ _ [] l.at l.left h e c.if-left-goals.false l.invariant.1.1))

pub returns : goal.returns
unfolding entry
returns c = absurd (inside-end _ _ _ _ c.loop-at-test.false c.loop-at.invariant.1.1)
