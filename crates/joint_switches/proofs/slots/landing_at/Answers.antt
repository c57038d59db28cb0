-- By cases: one line, or the digits. Assumes nothing.
use mathlib.Core.Path.{◌≡◌, sym, ap, ◌∙◌}
use Prim.Native.Nat.{ℕ}
use lib.ListN.{get_or, set, replicate}
use Rattle.formats.specs.Joint.{stays}
use Rattle.joint_switches.specs.declared.Landing.{Landing}
use Rattle.joint_switches.specs.Slots.{no_way, line_landing}
use Rattle.joint_switches.proofs.SlotLaws.{by-line, by_digits}
use Rattle.joint_switches.proofs.slots.landing_at.Goals as goal

pub returns-then-slot-eq0 : goal.returns-then-slot-eq0
returns-then-slot-eq0 c =
    let a = c.args in
    let ways = a.ways.now in
    let told : c.alone-switches.result ≡ set (replicate 4 stays) (get_or ways a.x no_way).mover (get_or ways a.x no_way).switch = c.alone-switches.ensures ∙ ap (λ (k : ℕ). set (replicate 4 stays) k (get_or ways a.x no_way).switch) c.from.ensures in
    let line : ◌≡◌ {A = Landing} (record { switches = c.alone-switches.result; target = c.from-then-slot-eq0.result }) (line_landing ways a.x) = λ i. record { switches = told i; target = c.from-then-slot-eq0.ensures i } in
    line ∙ sym (by-line a.index.now a.slot ways a.x c.if-slot-eq0.true)

pub returns : goal.returns
returns c =
    let a = c.args in
    c.together_at.ensures ∙ sym (by_digits a.index.now a.slot a.ways.now a.x c.if-slot-eq0.false)
