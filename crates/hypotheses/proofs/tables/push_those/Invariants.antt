-- Each test that the closure computes tells what is pushed. Assumes nothing.
use mathlib.Core.Bool.{Bool}
use Prim.Native.Nat.{ℕ}
use Rattle.hypotheses.specs.Listing.{TestedBy, variable_at}
use Rattle.hypotheses.proofs.TableLaws.{Pushing}
use Rattle.papers.proofs.JoinedLaws.{joined_on}
use Rattle.hypotheses.proofs.tables.push_those.Given as goal

abbrev pub invariant-loop-v : goal.invariant-loop-v
invariant-loop-v g l =
    Pushing (λ (i : (test : ℕ → Bool) × TestedBy (goal.F-post g) l.kept l.n test). joined_on (variable_at i.0) l.n) l.initial.table l.at l.v l.table l.to
