-- By cases on what was found. Assumes nothing.
use mathlib.Core.Path.{sym, ap, ◌∙◌}
use lib.ListN.{length}
use Rattle.queries.specs.declared.Sought.{Sought}
use Rattle.papers.specs.Paper.{regions_of}
use Rattle.queries.specs.Finding.{which_of, which_tells, kind_number, jump_one, sought_one, group_one, group_which, joint_one}
use Rattle.queries.proofs.show.sought_which.Goals as goal

pub returns-in-AtLocation : goal.returns-in-AtLocation
unfolding which_of which_tells sought_one group_one group_which
returns-in-AtLocation c =
    let a = c.args in
    let model = a.paper.model.now in
    let index = a.paper.index.now in
    let second = a.paper.second.now in
    let regions = a.paper.regions.now in
    let region_at = regions_of model index second regions in
    c.group_which.ensures ∙ sym (ap (λ (s : Sought). which_of (length second) (sought_one model index region_at s)) c.in-AtLocation.is)

pub returns-in-AtJoint : goal.returns-in-AtJoint
unfolding which_of which_tells sought_one jump_one joint_one kind_number
returns-in-AtJoint c =
    let a = c.args in
    let model = a.paper.model.now in
    let index = a.paper.index.now in
    let second = a.paper.second.now in
    let regions = a.paper.regions.now in
    let region_at = regions_of model index second regions in
    c.told.ensures ∙ sym (ap (λ (s : Sought). which_of (length second) (sought_one model index region_at s)) c.in-AtJoint.is)
