-- The number that the table has. Assumes nothing.
use mathlib.Core.Path.{◌≡◌, ap, ◌∙◌}
use Prim.Native.Nat.{ℕ, ◌+◌, ◌*◌}
use lib.ListN.{get_or}
use Rattle.joint_switches.proofs.NumberedLaws.{entering-told}
use Rattle.joint_switches.proofs.into.entering_of.Goals as goal

pub returns : goal.returns
returns c =
    let a = c.args in
    let p = c.requires in
    let read : c.from-2.result ≡ get_or a.table.now (128 * a.k + (16 * a.mode + a.e)) 0 = c.from-2.ensures ∙ ap (λ (m : ℕ). get_or a.table.now (128 * a.k + (16 * m + a.e)) 0) c.from.ensures in
    read ∙ entering-told p.good_index.0 p.good_index.1 a.k a.mode a.e p.k_bound.0 p.k_bound.1.0 p.k_bound.1.1
