-- By cases: all proofs passed, or one was refused. Assumes nothing.
use Rattle.std.proofs.Common.{◌≡◌, ◌∙◌, arith}
use mathlib.Core.List.{List}
use Rattle.rules.specs.Marking.{mark_proofs}
use Rattle.rules.specs.Obligations.{Obligation}
use Rattle.papers.specs.Paper.{obligations_for}
use Rattle.certificates.specs.Passed.{stands_at}
use Rattle.certificates.proofs.CloseLaws.{obligations-few, passed-within, rest-passes, stopped-within, rest-stops}
use Rattle.certificates.proofs.certificate.mark_rest.Goals.{After-mark_obligations}
use Rattle.certificates.proofs.certificate.mark_rest.Goals as goal

-- all obligations, and how their marking was told
module _ (c : After-mark_obligations) where
  abbrev all : List Obligation
  all = obligations_for c.args.paper.model.now c.args.paper.index.now c.args.paper.second.now c.args.paper.regions.now c.args.locations

  told : stands_at c.mark_obligations.result ≡ mark_proofs all c.args.paper.second.now c.args.at 0
  told = c.mark_obligations.ensures

pub stop_certificate-requires-clause-place_bound : goal.stop_certificate-requires-clause-place_bound
stop_certificate-requires-clause-place_bound c =
    let k = (goal.at.stop_certificate-requires-clause-place_bound c).After-mark_obligations in
    let p = c.requires in
    let within = stopped-within (all k) c.args.paper.second.now c.args.at p.at_in_bounds (told k) c.in-Err.is in
    (omega (arith, within.0, c.args.paper.good.brief), omega (arith, within.1, obligations-few c.args.paper.good c.args.locations p.locations_value.0 p.locations_value.1))

pub returns-in-Err : goal.returns-in-Err
returns-in-Err c =
    let k = (goal.at.returns-in-Err c).After-mark_obligations in
    c.stop_certificate.ensures ∙ rest-stops (all k) c.args.paper.second.now c.args.at c.requires.at_in_bounds (told k) c.in-Err.is

pub end_certificate-requires : goal.end_certificate-requires
end_certificate-requires c =
    let k = (goal.at.end_certificate-requires c).After-mark_obligations in
    (c.args.paper.good.brief, (passed-within (all k) c.args.paper.second.now c.args.at c.requires.at_in_bounds (told k) c.in-Ok.is).0)

pub returns-in-Ok : goal.returns-in-Ok
returns-in-Ok c =
    let k = (goal.at.returns-in-Ok c).After-mark_obligations in
    c.end_certificate.ensures ∙ rest-passes (all k) c.args.paper.second.now c.args.at c.requires.at_in_bounds (told k) c.in-Ok.is
