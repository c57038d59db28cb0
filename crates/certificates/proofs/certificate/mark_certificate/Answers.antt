-- The paper is opened, then the certificate's body is marked. Assumes nothing.
use Rattle.std.proofs.Common.{sym, ap, ◌∙◌}
use Rattle.papers.specs.Opening.{paper_answer}
use Rattle.certificates.proofs.CloseLaws.{certificate-refused, certificate-open}
use Rattle.certificates.proofs.certificate.mark_certificate.Goals as goal

pub mark_body-requires : goal.mark_body-requires
mark_body-requires c = let w = c.in-Ok.ensures.open in record { accepted = w.first.accepted; body_in_bounds = (w.bodied, w.brief) }

pub returns-in-Err : goal.returns-in-Err
unfolding paper_answer
returns-in-Err c =
    certificate-refused c.args.limits c.args.model.now c.args.second.now (sym (ap paper_answer c.in-Err.is) ∙ c.open_paper.ensures.value) c.in-Err.ensures.refused

pub returns-in-Ok : goal.returns-in-Ok
returns-in-Ok c =
    c.mark_body.ensures ∙ certificate-open c.args.limits c.args.model.now c.args.second.now c.in-Ok.ensures.open
