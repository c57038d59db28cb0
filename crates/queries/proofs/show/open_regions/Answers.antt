-- A refusal of the limits or of either sheet is told at once; after both the paper is good. Assumes nothing.
use Rattle.std.proofs.Common.{rules, Err, ◌≡◌, sym, ap, ◌∙◌, subst}
use mathlib.Core.List.{List}
use Prim.Native.Nat.{ℕ, ◌≤◌}
use native.Mathlib.Omega.{arith}
use Rattle.formats.specs.Reading.{got, refused}
use Rattle.formats.specs.Certificate.{read_regions}
use Rattle.formats.specs.Model.{Model}
use Rattle.papers.specs.Opening.{Open}
use Rattle.fields.proofs.ChainLaws.{told_at, told-refused}
use Rattle.models.specs.Index.{entry, model_from}
use Rattle.second_sheets.specs.CertificateAnswers.{regions_from, regions_for}
use Rattle.fields.specs.Causes.{number_of}
use Rattle.rules.specs.Marking.{answer}
use Rattle.papers.specs.Opening.{paper_answer}
use Rattle.papers.proofs.OpenLaws.{numbered}
use Rattle.papers.proofs.PaperLaws.{good-paper, regions-for, regions-refused-at}
use Rattle.queries.specs.Finding.{OpensTo, told_refused}
use Rattle.queries.proofs.ShowLaws.{paper-whole, told-stops, told-rest, told-refused-first, told-open}
use Rattle.queries.proofs.show.open_regions.Goals.{In_ok-body, In-Err}
use Rattle.queries.proofs.show.open_regions.Goals as goal

-- the sheets once both are open, up to the regions
module _ (c : In_ok-body) where
  abbrev model : List ℕ
  model = c.args.model.now

  abbrev second : List ℕ
  second = c.args.second.now

  abbrev index : List ℕ
  index = c.open_paper.new.index

  abbrev m : Model
  m = model_from model index

  abbrev body : ℕ
  body = c.in_ok-body.body

  opens : Open c.args.limits 2 model index second body
  opens = c.in_ok-body.ensures.open

  few : entry index 15 ≤ 4096
  few = omega (arith, opens.first.accepted.counted.located, opens.first.accepted.few)

-- a refusal of the regions is that of the second sheet
refusal : (c : In-Err) → read_regions (m (goal.at.In-Err c).In_ok-body) (second (goal.at.In-Err c).In_ok-body) (body (goal.at.In-Err c).In_ok-body) ≡ refused (number_of c.in-Err.refusal.0) c.in-Err.refusal.1
unfolding entry
refusal c =
    let s = (goal.at.In-Err c).In_ok-body in
    let read = c.read_regions in
    told-refused (regions_from (second s) (entry (index s) 11) (entry (index s) 0) read.new.regions (entry (index s) 15)) (read_regions (m s) (second s) (body s)) (read.ensures.result_after ∙ regions-for (model s) (index s) (second s) (entry (index s) 15) (body s) (opens s).first.accepted.counted.located) c.in-Err.is

pub returns-in_err-body : goal.returns-in_err-body
unfolding OpensTo paper_answer
returns-in_err-body c =
    let same : c.from_residual.result ≡ Err c.in_err-body.field-0.0 = search rules in
    let told = c.in_err-body.ensures in
    subst (OpensTo _ _ _ _ _) (sym same)
    (λ k h.
    ap told_refused told.value
    ∙ told-refused-first _ _ _ k h (numbered told.value told.refused))

pub read_regions-requires : goal.read_regions-requires
unfolding entry
read_regions-requires c =
    let w = opens (goal.at.read_regions-requires c).In_ok-body in
    (w.brief, (w.first.accepted.good.most, omega (arith, few (goal.at.read_regions-requires c).In_ok-body)))

pub second_refused-requires : goal.second_refused-requires
second_refused-requires c =
    let w = opens (goal.at.second_refused-requires c).In_ok-body in
    omega (arith, regions-refused-at _ _ _ _ _ w.bodied (refusal c), w.brief)

pub returns-in-Err : goal.returns-in-Err
unfolding OpensTo answer
returns-in-Err c = λ k h. ap told_refused c.second_refused.ensures ∙ told-stops _ _ k h _ _ _ (refusal (goal.at.returns-in-Err c).In-Err) ∙ told-open _ _ _ k h (opens (goal.at.returns-in-Err c).In_ok-body)

pub returns-in-Ok : goal.returns-in-Ok
unfolding OpensTo entry
returns-in-Ok c =
    let s = (goal.at.returns-in-Ok c).In_ok-body in
    let w = opens s in
    let located = w.first.accepted.counted.located in
    let locations = entry (index s) 15 in
    let read = c.read_regions in
    let regions = read.new.regions in
    let all = regions_from (second s) (entry (index s) 11) (entry (index s) 0) regions locations in
    let e : regions_for locations (entry (index s) 11) (entry (index s) 0) (second s) (body s) ≡ got all c.in-Ok.field-0 = told_at all (regions_for locations (entry (index s) 11) (entry (index s) 0) (second s) (body s)) read.ensures.result_after c.in-Ok.is in
    let reads : read_regions (m s) (second s) (body s) ≡ got all c.in-Ok.field-0 = sym (regions-for (model s) (index s) (second s) locations (body s) located) ∙ e in
    record {
      good = good-paper locations (body s) c.in-Ok.field-0 w.first.accepted w.brief located e;
      joined = w.first.accepted.joined;
      told = λ k h.
          paper-whole (model s) (index s) (second s) regions locations k h located
          ∙ told-rest (m s) (second s) k h (read_regions (m s) (second s) (body s)) all c.in-Ok.field-0 reads
          ∙ told-open _ (model s) (second s) k h w;
    }
