-- A run or a certificate under the exam's limits, and the line of its answer. Assumes nothing.
use Rattle.std.proofs.Common.{◌≡◌, ◌∙◌, List, ℕ, ap, sym, arith}
use Rattle.formats.specs.declared.Limits.{Limits}
use Rattle.formats.specs.ModelSheet.{exam_limits}
use Rattle.rules.specs.declared.Answer.{Answer}
use Rattle.rules.specs.Marking.{mark_certificate, mark_run}
use Rattle.rules.specs.Program.{safe, unsafe, line_for}
use Rattle.marking.specs.Lines.{line_of}
use Rattle.marking.proofs.ProgramLaws.{answered, sheets-run, sheets-certificate}
use Rattle.marking.proofs.TextLaws.{safe-short, unsafe-short, line-short}
use Rattle.marking.proofs.program.mark_sheets.Goals.{After-line_for, After-line_for-else-is_run}
use Rattle.marking.proofs.program.mark_sheets.Goals as goal

-- the limits are the exam's, in either marking
exam : (mark : Limits → List ℕ → List ℕ → Answer) (first second : List ℕ) (limits : Limits) → limits ≡ exam_limits → mark limits first second ≡ mark exam_limits first second
exam mark first second limits e = ap (λ (x : Limits). mark x first second) e

run : (c : After-line_for) → line_of c.line_for.result ≡ line_for unsafe c.mark_run.result
unfolding line_of
run c = answered unsafe c.mark_run.result (λ e. ap line_of (c.line_for.ensures.accepted e)) c.line_for.ensures.refused

certificate : (c : After-line_for-else-is_run) → line_of c.line_for-else-is_run.result ≡ line_for safe c.mark_certificate.result
unfolding line_of
certificate c = let line = c.line_for-else-is_run.ensures in answered safe c.mark_certificate.result (λ e. ap line_of (line.accepted e)) line.refused

pub returns-then-is_run-clause-line : goal.returns-then-is_run-clause-line
returns-then-is_run-clause-line c =
    run c
    ∙ ap (line_for unsafe) (c.mark_run.ensures ∙ exam mark_run _ _ _ c.exam_limits-exam.ensures.value)
    ∙ sheets-run _ _ (sym c.if-is_run.true ∙ c.is_run.ensures)

pub returns-then-is_run-clause-upper_bound : goal.returns-then-is_run-clause-upper_bound
returns-then-is_run-clause-upper_bound c = let a = c.mark_run.result in rw (run c) (line-short unsafe unsafe-short a (omega arith) (omega arith) (omega arith) (omega arith) (omega arith))

pub returns-else-is_run-clause-line : goal.returns-else-is_run-clause-line
returns-else-is_run-clause-line c =
    certificate c
    ∙ ap (line_for safe) (c.mark_certificate.ensures ∙ exam mark_certificate _ _ _ c.exam_limits-exam.ensures.value)
    ∙ sheets-certificate _ _ (sym c.if-is_run.false ∙ c.is_run.ensures)

pub returns-else-is_run-clause-upper_bound : goal.returns-else-is_run-clause-upper_bound
returns-else-is_run-clause-upper_bound c = let a = c.mark_certificate.result in rw (certificate c) (line-short safe safe-short a (omega arith) (omega arith) (omega arith) (omega arith) (omega arith))
