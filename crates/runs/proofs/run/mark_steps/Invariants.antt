use mathlib.Core.Path.{◌≡◌}
use Prim.Native.Nat.{◌+◌, ◌-◌, ◌≤◌}
use Rattle.runs.specs.RunHeld.{RunStands, steps_from}
use Rattle.runs.proofs.run.mark_steps.Given as goal

abbrev pub invariant-loop-i : goal.invariant-loop-i
invariant-loop-i l =
    RunStands l.index l.s l.run l.state × ((l.run.done + (l.steps - l._i) ≤ 4095) × (steps_from l.model l.index l.q l.run l.state (l.steps - l._i) l.s ≡ steps_from l.model l.index l.q l.initial.run l.initial.state l.steps l.s))
