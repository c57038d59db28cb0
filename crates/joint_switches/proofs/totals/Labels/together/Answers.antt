-- Each factor is a component's choices. Assumes nothing.
use mathlib.Core.Path.{◌≡◌, refl, sym}
use Prim.Native.Nat.{ℕ, ◌-◌}
use native.Mathlib.Omega.{arith}
use borrow.Author.Rules.{rules}
use Rattle.formats.specs.JointTotals.{choices, together_total}
use Rattle.models.specs.Counts.{component_at}
use Rattle.models.proofs.GoodIndexLaws.{good-component}
use Rattle.joint_switches.proofs.JointLoops.{components_on}
use Rattle.joint_switches.proofs.TotalLaws.{choices-few, together-starts, together-goes-on}
use Rattle.joint_switches.proofs.totals.Labels.together.Goals as goal

pub product_over-requires-clause-small : goal.product_over-requires-clause-small
product_over-requires-clause-small c = λ k n h told.
    let component = component_at c.args.self.now.s.now c.args.self.now.index.now k in
    let is : n ≡ choices component c.args.e = search rules in
    omega (arith, is, choices-few component c.args.e (good-component c.args.self.now.good k h))

pub returns : goal.returns
returns c =
    let a = c.args in
    let g = c.args.self.now.good in
    let total = λ (k : ℕ). together_total (components_on a.self.now.s.now a.self.now.index.now k) a.e in
    c.product_over.ensures total (sym (together-starts g a.e))
    (λ k n h l told.
    let is : n ≡ choices (component_at a.self.now.s.now a.self.now.index.now (k - 1)) a.e = search rules in
    together-goes-on g a.e k n (total k) h l is refl)
