use Prim.Native.Nat.{◌+◌}
use Rattle.models.specs.Index.{switch_from, switch_place}
use Rattle.formats.specs.Model.{read_switch}
use Rattle.models.proofs.FillLoop.{Filled}
use Rattle.models.proofs.model.switches_into.Given as goal

abbrev pub invariant-loop-j : goal.invariant-loop-j
invariant-loop-j l =
    Filled (read_switch l.version l.n l.may.alphabet l.may.modes) (λ x i. switch_from l.s l.version l.n x (switch_place l.block i)) l.count l.s l.at (l.block + 59) (l.block + 219) l.initial.index l.index l.j l.place
