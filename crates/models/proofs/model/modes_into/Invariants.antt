use Prim.Native.Nat.{◌+◌}
use Rattle.models.specs.Index.{mode_from, mode_place}
use Rattle.formats.specs.Model.{read_mode}
use Rattle.models.proofs.FillLoop.{Filled}
use Rattle.models.proofs.model.modes_into.Given as goal

abbrev pub invariant-loop-j : goal.invariant-loop-j
invariant-loop-j l =
    Filled (read_mode l.version l.n) (λ x i. mode_from l.s l.version l.n x (mode_place l.block i)) l.count l.s l.at (l.block + 3) (l.block + 59) l.initial.index l.index l.j l.place
