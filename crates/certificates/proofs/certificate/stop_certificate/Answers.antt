-- The obligations are counted, then the score follows. Assumes nothing.
use mathlib.Core.Path.{ap, ◌∙◌}
use Prim.Native.Nat.{ℕ}
use Rattle.fields.specs.Causes.{number_of}
use Rattle.rules.specs.Marking.{answer, refused_score}
use Rattle.certificates.proofs.certificate.stop_certificate.Goals as goal

pub returns : goal.returns
returns c =
    let failed = c.args.failed in
    c.second_refused.ensures
    ∙ ap (λ (n : ℕ). answer (number_of failed.refusal.0) 1 failed.refusal.1 failed.done n)
    (c.refused_score-score.ensures ∙ ap (λ (n : ℕ). refused_score failed.done n) c.obligation_count-total.ensures)
