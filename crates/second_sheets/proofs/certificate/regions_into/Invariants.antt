use mathlib.Core.Path.{◌≡◌}
use Prim.Native.Nat.{◌*◌, ◌≤◌}
use lib.ListN.{length}
use Rattle.models.specs.Index.{Kept}
use Rattle.second_sheets.proofs.CertificateLaws.{Regions}
use Rattle.second_sheets.proofs.certificate.regions_into.Given as goal

abbrev pub invariant-loop-l : goal.invariant-loop-l
invariant-loop-l l =
    (l.l ≤ l.count) × ((length l.regions ≡ length l.initial.regions) × (Kept 0 (2 * l.count) l.initial.regions l.regions × Regions l.s l.version l.n l.count l.at l.regions l.l l.place))
