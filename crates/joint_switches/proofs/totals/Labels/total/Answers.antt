-- By cases: event 0, a scope mask that has no ones, or one that has some. Assumes nothing.
use mathlib.Core.Path.{sym, ap, ◌∙◌}
use Prim.Native.Nat.{ℕ}
use native.Mathlib.Omega.{arith}
use Rattle.formats.specs.JointTotals.{event_total}
use Rattle.models.specs.Index.{components_from}
use Rattle.joint_switches.proofs.TotalLaws.{none-in-scope, some-in-scope, silent-event}
use Rattle.joint_switches.proofs.totals.Labels.total.Goals as goal

pub returns-then-e-eq0 : goal.returns-then-e-eq0
returns-then-e-eq0 c =
    let components = components_from c.args.self.now.s.now c.args.self.now.index.now in
    c.silent.ensures ∙ silent-event components ∙ sym (ap (λ (e : ℕ). event_total components e) c.if-e-eq0.true)

pub returns-then-mask-eq0 : goal.returns-then-mask-eq0
returns-then-mask-eq0 c =
    let a = c.args in
    none-in-scope (components_from a.self.now.s.now a.self.now.index.now) a.e c.scope_mask-mask.result (omega (arith, c.if-e-eq0.false)) c.scope_mask-mask.ensures c.if-mask-eq0.true

pub returns : goal.returns
returns c =
    let a = c.args in
    c.together.ensures
    ∙ some-in-scope (components_from a.self.now.s.now a.self.now.index.now) a.e c.scope_mask-mask.result (omega (arith, c.if-e-eq0.false)) c.scope_mask-mask.ensures c.if-mask-eq0.false
