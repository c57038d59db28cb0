-- Each factor is in how many ways a component arrives. Assumes nothing.
use mathlib.Core.Path.{◌≡◌, refl, sym}
use Prim.Native.Nat.{ℕ, ◌-◌, ◌≤◌}
use native.Mathlib.Omega.{arith}
use borrow.Author.Rules.{rules}
use lib.ListN.{length, get_or}
use Rattle.formats.specs.JointTotals.{arrivals, together_into}
use Rattle.models.specs.Index.{entry}
use Rattle.models.specs.Counts.{component_at}
use Rattle.models.proofs.GoodIndexLaws.{good-component}
use Rattle.joint_switches.proofs.JointLoops.{components_on, numbers_on}
use Rattle.joint_switches.proofs.IntoLaws.{arrivals-few, together-starts, together-goes-on}
use Rattle.joint_switches.proofs.into.together_into.Goals as goal

pub product_over-requires-clause-small : goal.product_over-requires-clause-small
product_over-requires-clause-small c = λ k n h told.
    let a = c.args in
    let component = component_at a.s.now a.index.now k in
    let is : n ≡ arrivals component (get_or a.modes k 0) a.e = search rules in
    omega (arith, is, arrivals-few component (get_or a.modes k 0) a.e (good-component c.requires.good_index.0 k h))

pub returns : goal.returns
returns c =
    let a = c.args in
    let g = c.requires.good_index.0 in
    let long : entry a.index.now 1 ≤ length a.modes = omega (arith, g.few, c.well_formed.1.1.1.0.1.0.1) in
    let ways = λ (k : ℕ). together_into (components_on a.s.now a.index.now k) (numbers_on a.index.now a.modes k) a.e in
    c.product_over.ensures ways (sym (together-starts g a.modes long a.e))
    (λ k n h l told.
    let is : n ≡ arrivals (component_at a.s.now a.index.now (k - 1)) (get_or a.modes (k - 1) 0) a.e = search rules in
    together-goes-on g a.modes long a.e k n (ways k) h l is refl)
