-- Every variable's test. Assumes nothing.
use Rattle.std.proofs.Common.{rules, tests, refl}
use Rattle.steps.specs.Held.{same_at}
use Rattle.steps.proofs.ValueLoops.{all-range}
use Rattle.steps.proofs.values.same_values.Goals as goal

pub returns : goal.returns
returns c = all-range (same_at c.args.n c.args.state.now) c.args.n c.args.n refl c.all.ensures.ran (λ x b q k. search (rules, tests))
