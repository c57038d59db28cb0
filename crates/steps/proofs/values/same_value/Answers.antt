-- One comparison of two whole numbers. Assumes nothing.
use Prim.Native.Nat.{◌+◌}
use lib.IntN.{pos}
use lib.ListN.{get_or}
use Rattle.farkas.specs.Rows.{item}
use Rattle.steps.specs.Held.{same_at}
use Rattle.steps.proofs.ValueLaws.{same_test}
use Rattle.steps.proofs.values.same_value.Goals as goal

pub returns : goal.returns
unfolding same_at item
returns c =
    let a = c.args in
    let state = a.state.now in
    same_test (get_or state (a.n + a.v) (pos 0)) (get_or state a.v (pos 0)) (record { sfits = c.result-1.given }) (record { sfits = c.result-2-1.given })
