-- Every component's test. Assumes nothing.
use Rattle.std.proofs.Common.{rules, tests, ◌<◌, arith}
use Rattle.std.proofs.lemmas.Iterator.{serves_from_Range}
use Rattle.models.specs.Index.{entry}
use Rattle.steps.specs.Held.{mode_holds}
use Rattle.steps.proofs.ValueLoops.{all-range}
use Rattle.steps.proofs.ValueLaws.{point-for, mode-place, mode-span, mode-told}
use Rattle.steps.proofs.rows.modes_hold.Goals as goal

pub all-requires-clause-callable : goal.all-requires-clause-callable
all-requires-clause-callable c =
    let good = c.requires.model_len_bound.1.1 in
    serves_from_Range (λ x q k. search (rules, tests))
    (λ x low high.
    let below : x < entry c.args.index.now 1 = omega (arith, high, c.number_at-components.ensures) in
    search (rules, mode-place, mode-span, point-for))

pub returns : goal.returns
returns c =
    let a = c.args in
    let p = c.requires in
    let n = c.number_at-n in
    let components = c.number_at-components in
    all-range (mode_holds a.model.now a.index.now a.modes a.offset a.q a.point.now) components.result (entry a.index.now 1) components.ensures c.all.ensures.ran (λ x b q k. search (rules, tests, mode-told))
