use mathlib.Core.Path.{◌≡◌}
use Prim.Native.Nat.{◌^◌, ◌≤◌, max}
use lib.ListN.{length}
use Rattle.typed.specs.Working.{digits_at}
use Rattle.typed.proofs.ReadLaws.{digits_on}
use Rattle.typed.proofs.reading.read_digits.Given as goal

abbrev pub invariant-loop-place : goal.invariant-loop-place
invariant-loop-place l = record {
  few : l.value ≤ 2 ^ 31;
  rest : digits_at l.text l.at ≡ digits_on l.text l.value l.place;
  end : l.place ≤ max l.at (length l.text);
}
