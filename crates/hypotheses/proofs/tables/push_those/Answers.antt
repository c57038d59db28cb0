-- What was pushed, with the variables from this one on, is the whole, by each test that the closure computes. Assumes nothing.
use mathlib.Core.Path.{sym, ap, ◌∙◌}
use mathlib.Core.Bool.{Bool}
use mathlib.Core.List.{◌++◌}
use Prim.Native.Nat.{◌+◌}
use native.Mathlib.Omega.{arith}
use Rattle.hypotheses.specs.Listing.{variable_line, variable_at, variable_lines}
use Rattle.hypotheses.proofs.TableLaws.{pushed, pushed-as, pushing-on, pushing-end}
use Rattle.papers.proofs.JoinedLaws.{joined_on, joined-first, joined-none, joined-whole}
use Rattle.hypotheses.proofs.tables.push_those.Goals as goal

pub loop-v-preserved : goal.loop-v-preserved
loop-v-preserved g c =
    let l = c.loop-v in
    let k = c.push_variable-to in
    let h = c.loop-v-test.true in
    pushing-on l.invariant {xs = variable_line c.kept.result l.v}
    (λ i.
    joined-first (variable_at i.0) _ _ h
    ∙ ap (λ (b : Bool). variable_line b l.v ++ joined_on (variable_at i.0) c.args.n (l.v + 1)) (sym (i.1 l.v c.kept.result h c.kept.ensures)))
    (pushed (k.ensures.result_after, k.ensures.onto))

pub returns-clause-result_after : goal.returns-clause-result_after
unfolding variable_lines
returns-clause-result_after g c = λ test t.
    (pushed-as (joined-whole (variable_at test) c.args.n) (pushing-end c.loop-v.invariant {most = 8} (test, t) (joined-none (variable_at test) _ _ c.loop-v-test.false) (omega arith))).told
