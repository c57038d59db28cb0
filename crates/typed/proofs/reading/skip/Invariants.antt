use mathlib.Core.Path.{◌≡◌}
use Prim.Native.Nat.{◌≤◌, max}
use lib.ListN.{length}
use Rattle.typed.specs.Working.{skip}
use Rattle.typed.proofs.reading.skip.Given as goal

abbrev pub invariant-loop-place : goal.invariant-loop-place
invariant-loop-place l = record {
  rest : skip l.text l.at ≡ skip l.text l.place;
  end : l.place ≤ max l.at (length l.text);
}
