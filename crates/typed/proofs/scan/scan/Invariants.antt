use mathlib.Core.Path.{◌≡◌}
use Prim.Native.Nat.{◌≤◌}
use lib.ListN.{drop}
use Rattle.std.specs.Prelude.{Some}
use Rattle.typed.specs.Signs.{signs}
use Rattle.typed.specs.Scan.{scanned}
use Rattle.typed.proofs.ScanLaws.{scan_on}
use Rattle.typed.proofs.scan.scan.Given as goal

abbrev pub invariant-loop-place : goal.invariant-loop-place
invariant-loop-place l = record {
  few : l.live.depth ≤ l.place;
  rest : scanned l.text ≡ scan_on l.place (Some l.live) (signs (drop l.place l.text));
}
