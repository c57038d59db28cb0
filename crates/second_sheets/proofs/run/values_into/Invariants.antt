use mathlib.Core.Path.{◌≡◌}
use Prim.Native.Nat.{◌≤◌}
use lib.ListN.{length}
use Rattle.second_sheets.specs.RunAnswers.{KeptValues}
use Rattle.second_sheets.proofs.RunLaws.{ValuesRead}
use Rattle.second_sheets.proofs.run.values_into.Given as goal

abbrev pub invariant-loop-i : goal.invariant-loop-i
invariant-loop-i l =
    (l.i ≤ l.n) × ((length l.values ≡ length l.initial.values) × (KeptValues 0 l.n l.initial.values l.values × ValuesRead l.s l.n l.at l.values l.i l.place))
