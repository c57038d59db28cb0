-- Two rows, or none. Assumes nothing.
use mathlib.Core.Path.{sym}
use Rattle.hypotheses.proofs.TableLaws.{pushed, pushed_none, pushed-as, as-promised}
use Rattle.hypotheses.proofs.ModeLines.{variable-free, variable-kept}
use Rattle.hypotheses.proofs.tables.push_variable.Goals as goal

pub returns : goal.returns
returns c = let a = c.args in let both = as-promised (pushed-as (sym (variable-kept a.kept a.v (c.if-not-kept.false))) (pushed (c.push.ensures.result_after, c.push.ensures.onto))) in record { result_after = both.0; onto = both.1 }

pub returns-then-not-kept : goal.returns-then-not-kept
returns-then-not-kept c =
    let a = c.args in let both = as-promised (pushed-as (sym (variable-free a.kept a.v (c.if-not-kept.true))) (pushed_none a.table.now a.at 1 c.requires.in_bounds.1.1)) in record { result_after = both.0; onto = both.1 }
