-- The regions, then the rest: once they are read the paper is good. Assumes nothing.
use mathlib.Core.Path.{◌≡◌, sym, ◌∙◌}
use mathlib.Core.List.{List}
use Prim.Native.Nat.{ℕ}
use native.Mathlib.Omega.{arith}
use Rattle.formats.specs.Rows.{Condition}
use Rattle.formats.specs.Reading.{got, refused}
use Rattle.models.specs.Index.{entry, model_from}
use Rattle.formats.specs.Certificate.{read_regions}
use Rattle.second_sheets.specs.CertificateAnswers.{regions_from, regions_for}
use Rattle.fields.specs.Causes.{number_of}
use Rattle.fields.proofs.AnswerLaws.{next-at, next-refused}
use Rattle.certificates.proofs.CloseLaws.{regions-stop, regions-rest}
use Rattle.formats.proofs.Versions.{version-small}
use Rattle.papers.proofs.PaperLaws.{good-paper, regions-for, regions-refused-at, regions-end-at}
use Rattle.certificates.proofs.certificate.mark_body.Goals.{In-Ok, In-Err}
use Rattle.certificates.proofs.certificate.mark_body.Goals as goal

pub overflow_cast-index : goal.overflow_cast-index
unfolding entry
overflow_cast-index c = omega (arith, version-small 1 _ c.requires.accepted.good.version)

pub overflow_cast-index-2 : goal.overflow_cast-index-2
unfolding entry
overflow_cast-index-2 c = omega (arith, c.requires.accepted.good.most)

pub read_regions-requires : goal.read_regions-requires
unfolding entry
read_regions-requires c =
    let p = c.requires in
    (p.body_in_bounds.1, (p.accepted.good.most, omega (arith, c.locations_of-locations.ensures, p.accepted.few)))

-- a refusal of the regions is that of the second sheet
refusal : (c : In-Err) → read_regions (model_from c.args.model.now c.args.index.now) c.args.second.now c.args.body ≡ refused (number_of c.in-Err.refusal.0) c.in-Err.refusal.1
unfolding entry
refusal c =
    let a = c.args in
    let count = c.locations_of-locations in
    let read = c.read_regions in
    sym (regions-for a.model.now a.index.now a.second.now count.result a.body count.ensures) ∙ sym read.ensures.result_after ∙ next-refused _ c.in-Err.is

-- regions that are read are those of the second sheet
module _ (c : In-Ok) where
  abbrev locations : ℕ
  locations = c.locations_of-locations.result

  abbrev regions : List Condition
  regions = regions_from c.args.second.now (entry c.args.index.now 11) (entry c.args.index.now 0) c.read_regions.new.regions locations

  told : regions_for locations (entry c.args.index.now 11) (entry c.args.index.now 0) c.args.second.now c.args.body ≡ got regions c.in-Ok.place
  unfolding entry
  told = sym c.read_regions.ensures.result_after ∙ next-at regions c.in-Ok.is

  reads : read_regions (model_from c.args.model.now c.args.index.now) c.args.second.now c.args.body ≡ got regions c.in-Ok.place
  reads = sym (regions-for c.args.model.now c.args.index.now c.args.second.now locations c.args.body c.locations_of-locations.ensures) ∙ told

pub second_refused-requires : goal.second_refused-requires
second_refused-requires c =
    let p = c.requires in
    omega (arith, regions-refused-at _ _ _ _ _ p.body_in_bounds.0 (refusal c), p.body_in_bounds.1)

pub invariant_of-paper : goal.invariant_of-paper
unfolding entry
invariant_of-paper c =
    let p = c.requires in
    let count = c.locations_of-locations in record { good = good-paper count.result _ _ p.accepted p.body_in_bounds.1 count.ensures (told (goal.at.invariant_of-paper c).In-Ok) }

pub mark_rest-requires : goal.mark_rest-requires
unfolding entry
mark_rest-requires c =
    let p = c.requires in
    let count = c.locations_of-locations in record { locations_value = (count.ensures, p.accepted.joined); at_in_bounds = regions-end-at _ _ _ _ _ p.body_in_bounds.0 (reads (goal.at.mark_rest-requires c).In-Ok) }

pub returns-in-Err : goal.returns-in-Err
returns-in-Err c = c.second_refused.ensures ∙ regions-stop _ _ _ _ _ (refusal (goal.at.returns-in-Err c).In-Err)

pub returns-in-Ok : goal.returns-in-Ok
unfolding entry
returns-in-Ok c = c.mark_rest.ensures ∙ regions-rest _ _ _ _ _ (reads (goal.at.returns-in-Ok c).In-Ok)
