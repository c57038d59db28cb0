-- A table of zeros is blank, and each call gives an event's total. Assumes nothing.
use native.Mathlib.Omega.{arith}
use borrow.Author.Rules.{rules}
use Rattle.formats.specs.JointTotals.{event_total}
use Rattle.models.specs.Index.{components_from}
use Rattle.joint_switches.proofs.TableLaws.{zeros-blank}
use Rattle.joint_switches.proofs.TotalLaws.{made-whole}
use Rattle.joint_switches.proofs.totals.event_totals.Goals as goal

pub count_switches-requires-clause-width_in_bounds : goal.count_switches-requires-clause-width_in_bounds
count_switches-requires-clause-width_in_bounds c = (omega arith, zeros-blank 64)

pub returns : goal.returns
returns c =
    let total = event_total (components_from c.args.s.now c.args.index.now) in
    made-whole _ _ total (λ i y q called. search rules) c.from_fn.result 16 c.from_fn.ensures.items
