-- By cases: bytes left, or the whole sheet read. Assumes nothing.
use mathlib.Core.Path.{sym, ◌∙◌}
use native.Mathlib.Omega.{arith}
use Rattle.fields.proofs.AnswerLaws.{next-at, next-refused}
use Rattle.certificates.proofs.CloseLaws.{end_whole, end-left, end-placed}
use Rattle.certificates.proofs.certificate.end_certificate.Goals as goal

pub second_refused-requires : goal.second_refused-requires
second_refused-requires c =
    let a = c.args in
    let s = a.second.now in
    let end = sym c.finished.ensures ∙ next-refused tt c.in-Err.is in
    omega (arith, end-placed s a.marked.place a.marked.done _ _ c.requires.1 end, c.requires.0)

pub returns-in-Err : goal.returns-in-Err
returns-in-Err c =
    c.second_refused.ensures ∙ end-left c.args.second.now c.args.marked.place c.args.marked.done _ _ (sym c.finished.ensures ∙ next-refused tt c.in-Err.is)

pub returns-in-Ok : goal.returns-in-Ok
returns-in-Ok c =
    c.second_accepted.ensures ∙ end_whole c.args.second.now c.args.marked.place c.args.marked.done _ (sym c.finished.ensures ∙ next-at tt c.in-Ok.is)
