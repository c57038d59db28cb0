use Rattle.formats.specs.Model.{read_unsafe}
use Rattle.models.specs.Index.{unsafe_place, unsafe_from, components_from}
use Rattle.models.proofs.FillLoop.{Filled}
use Rattle.models.proofs.unsafes.unsafes_into.Given as goal

abbrev pub invariant-loop-u : goal.invariant-loop-u
invariant-loop-u l =
    Filled (read_unsafe l.version l.n (components_from l.s l.initial.index)) (λ x j. unsafe_from l.s l.version l.n l.c x (unsafe_place j)) l.count l.s l.at 892 988 l.initial.index l.index l.u l.place
