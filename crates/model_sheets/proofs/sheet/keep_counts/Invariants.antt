use mathlib.Core.Path.{◌≡◌}
use Prim.Native.Nat.{◌≤◌}
use lib.ListN.{length}
use Rattle.model_sheets.proofs.LimitLaws.{Keeping}
use Rattle.model_sheets.proofs.sheet.keep_counts.Given as goal

abbrev pub invariant-loop-e : goal.invariant-loop-e
invariant-loop-e l = (l.e ≤ 16) × (length l.index ≡ length l.initial.index) × Keeping l.totals l.e l.initial.index l.index
