use mathlib.Core.Path.{◌≡◌}
use mathlib.Core.Bool.{not}
use lib.Dec.{eqb}
use lib.ListN.{length, take}
use Rattle.std.specs.List.{filter}
use Rattle.steps.proofs.jumps.mover_count.Given as goal

abbrev pub invariant-loop-k : goal.invariant-loop-k
invariant-loop-k l = l.count ≡ length (filter (λ i. not (eqb i 255)) (take l.k l.switches))
