-- By cases on what was found. Assumes nothing.
use mathlib.Core.Path.{◌≡◌, sym, ap, ◌∙◌, subst}
use mathlib.Core.List.{List}
use Prim.Native.Nat.{ℕ}
use Rattle.formats.specs.Rows.{Condition}
use Rattle.formats.specs.Model.{Model}
use Rattle.formats.specs.Joint.{JointSwitch}
use Rattle.models.specs.Index.{model_from}
use Rattle.queries.specs.declared.Sought.{Sought}
use Rattle.queries.specs.declared.Located.{Located}
use Rattle.std.specs.Prelude.{Option}
use Rattle.papers.specs.Paper.{regions_of}
use Rattle.rules.specs.Roles.{Role, joint_roles, kind_roles, roles_of}
use Rattle.queries.specs.Finding.{located_at, located_of, jump_one, sought_one, group_hypotheses, group_one, joint_here, joint_hypotheses, joint_one, KnownSought}
use Rattle.queries.proofs.HeldLaws.{group-roles}
use Rattle.queries.proofs.rows.sought_row.Goals.{Start}
use Rattle.queries.proofs.rows.sought_row.Goals as goal

-- what is told of what was found, and what is known of it
module _ (s : Start) where
  abbrev m : Model
  m = model_from s.args.paper.model.now s.args.paper.index.now

  abbrev region_at : ℕ → Condition
  region_at = regions_of s.args.paper.model.now s.args.paper.index.now s.args.paper.second.now s.args.paper.regions.now

  abbrev tells : Sought → Option Located
  tells x = located_of (roles_of m region_at) (sought_one s.args.paper.model.now s.args.paper.index.now region_at x) s.args.h

  known : {x : Sought} → s.args.sought ≡ x → KnownSought s.args.paper.model.now s.args.paper.index.now x
  known e = subst (KnownSought s.args.paper.model.now s.args.paper.index.now) e s.requires.known_sought

pub location_row-requires : goal.location_row-requires
unfolding KnownSought
location_row-requires c = record { location_bound = (known (goal.at.location_row-requires c).Start c.in-AtLocation.is) }

pub joint_row-requires : goal.joint_row-requires
unfolding KnownSought
joint_row-requires c = record { location_bound = ((known (goal.at.joint_row-requires c).Start c.in-AtJoint.is).0) }

pub returns-in-AtLocation : goal.returns-in-AtLocation
unfolding located_of sought_one group_one roles_of
returns-in-AtLocation c =
    let s = (goal.at.returns-in-AtLocation c).Start in
    c.location_row.ensures
    ∙ ap (λ (rs : List Role). located_at (group_hypotheses (m s) (region_at s) c.in-AtLocation.location c.in-AtLocation.g) rs c.args.h) (sym (group-roles (m s) (region_at s) c.in-AtLocation.location c.in-AtLocation.g c.in-AtLocation.field-2))
    ∙ sym (ap (tells s) c.in-AtLocation.is)

pub returns-in-AtJoint : goal.returns-in-AtJoint
unfolding located_of sought_one jump_one joint_one roles_of kind_roles model_from KnownSought
returns-in-AtJoint c =
    let s = (goal.at.returns-in-AtJoint c).Start in
    let here = joint_here c.args.paper.model.now c.args.paper.index.now c.in-AtJoint.jump.location c.in-AtJoint.jump.event c.in-AtJoint.jump.nth in
    c.joint_row.ensures
    ∙ ap (λ (j : JointSwitch). located_at (joint_hypotheses (m s) (region_at s) here) (joint_roles (m s) (region_at s) j) c.args.h) (sym (known s c.in-AtJoint.is).1)
    ∙ sym (ap (tells s) c.in-AtJoint.is)
