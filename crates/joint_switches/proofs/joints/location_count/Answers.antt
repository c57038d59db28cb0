-- Each factor is the number of a component's modes. Assumes nothing.
use mathlib.Core.Path.{◌≡◌, sym, refl}
use Prim.Native.Nat.{ℕ, ◌-◌}
use native.Mathlib.Omega.{arith}
use borrow.Author.Rules.{rules}
use lib.ListN.{length}
use Rattle.formats.specs.Locations.{location_count}
use Rattle.models.specs.Counts.{component_at}
use Rattle.models.proofs.GoodIndexLaws.{good-component}
use Rattle.joint_switches.proofs.JointLoops.{components_on, count-starts, count-goes-on}
use Rattle.joint_switches.proofs.joints.location_count.Goals as goal

pub product_over-requires-clause-small : goal.product_over-requires-clause-small
product_over-requires-clause-small c = λ k n h told.
    let is : n ≡ length (component_at c.args.s.now c.args.index.now k).modes = search rules in
    omega (arith, is, (good-component c.requires k h).most)

pub returns : goal.returns
returns c =
    let s = c.args.s.now in
    let index = c.args.index.now in
    c.product_over.ensures (λ (k : ℕ). location_count (components_on s index k)) (sym (count-starts c.requires))
    (λ k n h l told.
    let is : n ≡ length (component_at s index (k - 1)).modes = search rules in
    count-goes-on c.requires k n (location_count (components_on s index k)) h l is refl)
